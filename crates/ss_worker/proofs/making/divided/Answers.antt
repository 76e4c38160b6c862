use Rattle.std.proofs.Common.{map, ap, sym, ◌∙◌, ◌+◌}
use Rattle.std.specs.Prelude.{slice_index}
use Rattle.ss_worker.proofs.Dividing.{divided_more, length_back}
use Rattle.ss_worker.proofs.making.divided.Goals as goal

pub loop-element-preserved : goal.loop-element-preserved
loop-element-preserved g c = record {
  number = c.in_ok-number.ensures ∙ ap (λ n. n + 1) c.loop-element.invariant.number ∙ sym (length_back c.loop-element.yielded c.in-Some.element);
  bins = divided_more c.args.partition.now.list c.args.partition.now.parts c.loop-element.yielded c.in-Some.element c.loop-element.number c.owner-part.result (map (λ bin. bin.items) c.loop-element.bins.items) (map (λ bin. bin.items) c.put_in.new.bins.items) c.loop-element.invariant.number
      (c.owner-part.ensures ∙ ap (λ l. slice_index l c.loop-element.number) c.owners.ensures) c.in_ok-put_in.ensures c.loop-element.invariant.bins;
}
