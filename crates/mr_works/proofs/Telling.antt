-- Flows are told apart.
use Rattle.std.proofs.Common.{ℕ, eqb, refl, ap, ◌∙◌}
use Rattle.std.specs.Prelude.{◌&&◌}
use Rattle.std.proofs.lemmas.Bool.{eqb-true, eq-eqb}
use Rattle.mr_topo.specs.Routes.{Flow}
use Rattle.mr_moves.specs.Laws.{TellsApart}
use Rattle.mr_works.specs.Flows.{same_flow}
use Rattle.mr_nic.specs.Kept.Judging.{both, and_true}

abbrev flow_by : ℕ → ℕ → ℕ → Flow
flow_by s d v = record { src = s; dst = d; vn = v }

pub flows_apart : TellsApart same_flow
flows_apart = record {
  exact = λ f g h.
      let a = both (eqb f.src g.src) (eqb f.dst g.dst && eqb f.vn g.vn) h in
      let b = both (eqb f.dst g.dst) (eqb f.vn g.vn) a.1 in
      ap (λ s. flow_by s f.dst f.vn) (eqb-true f.src g.src a.0) ∙ ap (λ d. flow_by g.src d f.vn) (eqb-true f.dst g.dst b.0) ∙ ap (λ v. flow_by g.src g.dst v) (eqb-true f.vn g.vn b.1);
  own = λ f. and_true (eqb f.src f.src) (eqb f.dst f.dst && eqb f.vn f.vn) (eq-eqb f.src f.src refl) (and_true (eqb f.dst f.dst) (eqb f.vn f.vn) (eq-eqb f.dst f.dst refl) (eq-eqb f.vn f.vn refl));
}
