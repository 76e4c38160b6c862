-- What the laws of the core kinds have in common.
use Rattle.std.proofs.Common.{◌≡◌, ℕ, ◌+◌, ◌<◌, ◌^◌, ◌==◌, min, Bool, true, false, ◌&&◌, arith, refl}
use Rattle.std.specs.Prelude.{nat_lt}
use Rattle.std.proofs.lemmas.Bool.Decides.{nat_tests}
use Rattle.ss_model.specs.declared.Cause.{Cause}
use Rattle.ss_model.specs.Step.{Reaction}
use Rattle.ss_element.specs.Kind.{Kind, ActionsFit}
use Rattle.ss_safe.specs.Laws.{Allowed, SendsFit, NamesAll, ClockKeeps, turns, Keeps}
use Rattle.ss_safe.specs.Kept.Flow.{no_flow}
use Rattle.mr_flow.specs.declared.Load.{Load}
use Rattle.mr_flow.specs.declared.Load.TheVariants as load
use Rattle.mr_flow.specs.Saved.{core_load_form}
use Rattle.ss_kinds.specs.Number.{load_fits}

-- ---- tests

pub both_true : (a b : Bool) → a && b ≡ true → (a ≡ true) × (b ≡ true)
both_true true true h = (refl, refl)
both_true true false h = absurd cc
both_true false b h = absurd cc

pub less_true : (a b : ℕ) → a < b → nat_lt a b ≡ true
less_true a b h = grind (arith, nat_tests)

pub number_below : (n : ℕ) → nat_lt n (2 ^ 32) ≡ true → n < 2 ^ 32
number_below n h = grind (arith, nat_tests)

-- what is done stays so
pub done_again : (got count : ℕ) → got == count ≡ true → min (got + 1) count == count ≡ true
done_again got count d = grind (arith, nat_tests)

-- ---- numbers

pub number_saved : (y : Load) → load_fits y ≡ true → core_load_form.Fits y
number_saved (load.Core n) h = let below = number_below n h in (tt, omega arith)
number_saved (load.Net y) h = absurd cc

-- ---- what becomes of an element of a kind without channels that is told something

pub record Kept {S : Type 0} (kind : Kind S Load) (allowed : Allowed S Load) (x : S) (now : ℕ) (why : Cause Load) (r : Reaction S Load) : Type 0 where
  pub holds : allowed.holds r.state
  pub fit : kind.fits r.state (now + 1) ≡ true
  pub begun : kind.begun r.state ≡ true
  pub acts : ActionsFit r.actions
  pub sends : SendsFit kind allowed x now r.actions
  pub names : NamesAll kind allowed x r.actions
  pub clocks : (i : ℕ) → ClockKeeps why i (kind.ticks x i) (turns i r.actions) (kind.ticks r.state i)

pub keeps_of : {S : Type 0} (kind : Kind S Load) (allowed : Allowed S Load) → ((y : S) (port : ℕ) → kind.channels y port ≡ 0) → (x : S) (now : ℕ) (why : Cause Load) (r : Reaction S Load) → Kept kind allowed x now why r → kind.Alike x r.state → Keeps kind allowed x now why r
keeps_of kind allowed none x now why r k a = record {
  holds = k.holds;
  fit = k.fit;
  begun = k.begun;
  alike = a;
  acts = k.acts;
  sends = k.sends;
  names = k.names;
  flow = no_flow kind none x why r;
  clocks = k.clocks;
}
