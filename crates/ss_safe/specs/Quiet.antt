-- The least kind of element that keeps the laws: nothing comes to it with a load, it never asks for anything, and nothing of
-- it is saved.
use Rattle.std.specs.Prelude.{ℕ, true, false, List, [], None, Ok, Err, refl}
use Rattle.std.proofs.Common.{arith, ◌≡◌, ◌∙◌}
use Rattle.ss_stats.specs.Set.{Entry}
use Rattle.ss_wire.proofs.Forms.{nothing_form}
use Rattle.ss_element.specs.declared.fault.RestoreFault.TheVariants as fault
use Rattle.ss_element.specs.Kind.{Kind}
use Rattle.ss_element.specs.Saving.{Saving, CauseIsOf}
use Rattle.ss_safe.specs.Kept.Flow.{no_flow, no_room}
use Rattle.ss_safe.specs.Laws.{Allowed, MayHear, KindLaws, KindSaves}
use Rattle.ss_model.specs.declared.Cause.{Cause}
use Rattle.ss_model.specs.declared.Cause.TheVariants as cause

module _ {S L : Type 0} where
  abbrev pub quiet_saving : Saving S L
  quiet_saving = record {
    spell = λ x. [];
    read = λ x c. Ok (x, c);
    IsOf = λ x y. y ≡ x;
    spell_load = λ y. [];
    read_load = λ x c. Err (fault.Value c.at);
    IsLoadOf = λ x y. ⊥;
  }

  abbrev pub all_allowed : Allowed S L
  all_allowed = record {
    holds = λ x. Unit {0};
    first = λ x. Unit {0};
    gives = λ x p load at. ⊥;
    names_port = λ x p. ⊥;
    names_line = λ x i. ⊥;
    names_clock = λ x i. ⊥;
  }

module _ {S : Type 0} (L : Type 0) (stats : S → List Entry) where
  abbrev pub quiet_kind : Kind S L
  quiet_kind = record {
    handled = λ x now why. record { state = x; actions = [] };
    Meets = λ x now why. Unit {0};
    primary = λ x. false;
    done = λ x. true;
    ticks = λ x i. false;
    begun = λ x. true;
    fits = λ x at. true;
    fits_load = λ x why at. false;
    channels = λ x p. 0;
    flow = λ x p ch. record { credits = 0; queued = 0; capacity = 0 };
    limit = λ x p ch. 0;
    weight = λ y. None;
    stats = stats;
    Alike = λ x y. y ≡ x;
  }

  no_channels : (x : S) (p : ℕ) → quiet_kind.channels x p ≡ 0
  no_channels x p = refl

  pub quiet_laws : KindLaws quiet_kind all_allowed
  quiet_laws = record {
    fits_later = λ x at later up early fit. refl;
    loads_later = λ x why at later up early heard. heard;
    capacity_fits = λ x p ch fit in_range. absurd (omega (arith, in_range));
    same_room = λ x y a. no_room quiet_kind no_channels x y;
    hears_alike = λ x y why at a heard. heard;
    gives_alike = λ x y p load at a g. absurd g;
    names_alike = λ x y a. record { ports = λ p may. may; lines = λ i may. may; clocks = λ i may. may };
    meets = λ x now why may. tt;
    keeps = λ x now why may. record {
      holds = tt;
      fit = refl;
      begun = refl;
      alike = refl;
      acts = tt;
      sends = tt;
      names = tt;
      flow = no_flow quiet_kind no_channels x why (record { state = x; actions = [] });
      clocks = λ i. refl;
    };
    primary_stays = λ x now why. refl;
    done_stays = λ x now why h. h;
  }

  not_heard : (x : S) (why : Cause L) (at : ℕ) → Unit {0} → MayHear quiet_kind x at why → CauseIsOf quiet_saving x why
  not_heard x cause.Start at h m = tt
  not_heard x (cause.Link p y) at h m = absurd cc
  not_heard x (cause.Own i y) at h m = absurd cc
  not_heard x (cause.Tick i) at h m = tt

  pub quiet_saves : KindSaves quiet_kind all_allowed quiet_saving
  quiet_saves = record {
    states = λ first. nothing_form first;
    loads = λ x. record { takes = λ c y d h e. absurd cc; again = λ y at rest h. absurd h };
    begun = λ first x is. refl;
    read_alike = λ first x is. is;
    read_holds = λ first x is h. tt;
    alike_same = λ x. refl;
    alike_through = λ x y z a b. b ∙ a;
    handled_alike = λ x now why m. refl;
    alike_read = λ first x a is. a;
    states_saved = λ x at early h b f. refl;
    loads_saved = λ x why at early h m. not_heard x why at h m;
  }
