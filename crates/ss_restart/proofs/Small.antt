-- A model of one quiet element with a clock, and states that are read over it.
use Rattle.std.proofs.Common.{◌≡◌, ℕ, List, [], ◌∷◌, ◌++◌, length, Some, refl, sym, ap, ◌∙◌, subst, arith}
use Rattle.std.specs.Prelude.{slice_get}
use Rattle.ss_stats.specs.Set.{Entry}
use Rattle.ss_model.specs.declared.LinkLine.{LinkLine}
use Rattle.ss_model.specs.declared.InnerLine.TheVariants as inner
use Rattle.ss_model.specs.Wiring.{Wiring}
use Rattle.ss_model.specs.Step.{State}
use Rattle.ss_element.specs.Index.{entries, with_inner}
use Rattle.ss_safe.specs.Quiet.{quiet_kind, quiet_saving, all_allowed}
use Rattle.ss_safe.specs.Safe.{WiresHold, Stands}
use Rattle.ss_safe.specs.Growing.{hold_none, hold_clock}
use Rattle.ss_safe.specs.Kept.Found.{none_some}
use Rattle.ss_ckpt.specs.Spells.{Spells}
use Rattle.ss_restart.specs.Faults.{IsSpelled}

abbrev pub one_clock : Wiring
one_clock = with_inner (record { links = []; inner = [] }) (inner.Clock 0 0 1000)

pub one_item : {X : Type 0} (old new : List X) (x : X) → old ≡ [] → new ≡ old ++ x ∷ [] → length new ≡ 1
one_item old new x none more = ap length more ∙ ap (λ l. length (l ++ x ∷ [])) none

no_link : (w : Wiring) (n : ℕ) (l : LinkLine) → w ≡ one_clock → slice_get w.links n ≡ Some l → ⊥
no_link w n l e g = none_some (sym (ap (λ (v : Wiring). slice_get v.links n) e) ∙ g)

module _ {S : Type 0} (L : Type 0) (stats : S → List Entry) (w : Wiring) (xs : List S) where
  pub small_stands : w ≡ one_clock → length xs ≡ 1 → Stands (quiet_kind L stats) all_allowed w xs
  small_stands e one = record {
    wires = subst (λ v. WiresHold v (length xs)) (sym e) (subst (WiresHold one_clock) (sym one) (hold_clock (record { links = []; inner = [] }) 1 0 0 1000 (hold_none 1) (omega arith) refl (omega arith) (omega arith)));
    agrees = λ n l x y link gx gy load at may. absurd (no_link w n l e link);
    named = λ c x g. record { ports = λ p m. absurd m; lines = λ i m. absurd m; clocks = λ i m. absurd m };
    holds = λ c x g. tt;
    paired = λ l ch link y is gy in_range. absurd (no_link w l link e is);
  }

  pub small_spelled : (v : Wiring) (bytes graph : List ℕ) (at time : ℕ) (s : State S L) → Stands (quiet_kind L stats) all_allowed w xs → length xs ≡ 1 → entries w ≡ 1 → Spells quiet_saving w xs bytes graph at s → time ≡ at → v ≡ w → IsSpelled (quiet_kind L stats) all_allowed quiet_saving v time s
  small_spelled v bytes graph at time s stands one entry spelled t e =
      subst (λ u. IsSpelled (quiet_kind L stats) all_allowed quiet_saving u time s) (sym e)
      (subst (λ n. IsSpelled (quiet_kind L stats) all_allowed quiet_saving w n s) (sym t)
      (record { firsts = xs; bytes = bytes; graph = graph; spelled = spelled; made = stands; few = omega (arith, one); numbered = omega (arith, entry); narrow = λ c p x g. omega arith }))
