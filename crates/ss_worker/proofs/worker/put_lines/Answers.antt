use Rattle.ss_worker.proofs.Batches.{map_set}
use Rattle.ss_worker.proofs.worker.put_lines.Goals as goal

pub returns-then-place-len : goal.returns-then-place-len
returns-then-place-len c h = map_set (λ l. l.items) c.args.lists.now.items c.args.place c.args.lines
