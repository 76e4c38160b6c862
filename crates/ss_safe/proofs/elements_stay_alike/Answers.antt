use Rattle.std.proofs.Common.{refl, sym, subst, ◌∙◌}
use Rattle.ss_safe.specs.Kept.Found.{some_same}
use Rattle.ss_safe.proofs.elements_stay_alike.Goals as goal

pub returns-clause-same : goal.returns-clause-same
returns-clause-same g c xs = record {
  long = refl;
  each = λ i first x h k. subst (g.E.Element.kind.Alike first) (some_same (sym h ∙ k)) (g.met.E.Local.saves.alike_same first);
}

pub returns-clause-restored : goal.returns-clause-restored
returns-clause-restored g c firsts xs r = record {
  long = r.long;
  each = λ i first x h k. g.met.E.Local.saves.read_alike first x (r.each i first x h k);
}
