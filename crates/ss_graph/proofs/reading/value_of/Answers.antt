use Rattle.std.proofs.Common.{◌≡◌, true, false, inr, refl}
use Rattle.ss_graph.proofs.Texts.{json_value, json_none}
use Rattle.ss_graph.proofs.reading.value_of.Goals as goal

pub returns-in-Ok-clause-ok : goal.returns-in-Ok-clause-ok
returns-in-Ok-clause-ok c = json_value c.args.text.now _ c.in-Ok.ensures.ok.0 c.in-Ok.ensures.ok.1

pub returns-else-is_memory-clause-err : goal.returns-else-is_memory-clause-err
returns-else-is_memory-clause-err c = inr (refl, json_none c.args.text.now (c.in-Err.ensures.err (λ m. let e : false ≡ true = c.if-is_memory.ensures.1 m in cc)))
