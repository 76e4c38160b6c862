-- What has to hold where a part handles an event.
use Rattle.std.specs.Prelude.{◌≡◌, ℕ, List, Some}
use Rattle.ss_model.specs.declared.Cause.{Cause}
use Rattle.ss_model.specs.declared.Event.{Event}
use Rattle.ss_model.specs.Wiring.{Wiring, told}
use Rattle.ss_element.specs.Kind.{Kind, ActionsFit}
use Rattle.ss_parts.specs.Parts.{state_of}

-- the element that is told of an event may be told so, and what it then asks for is within what a run can add
pub record MayReact {S L : Type 0} (kind : Kind S L) (w : Wiring) (components : List (ℕ × S)) (e : Event L) : Type 0 where
  pub meets : (c : ℕ) (why : Cause L) (x : S) → told w e ≡ Some (c, why) → state_of components c ≡ Some x → kind.Meets x e.key.time why
  pub acts : (c : ℕ) (why : Cause L) (x : S) → told w e ≡ Some (c, why) → state_of components c ≡ Some x → ActionsFit (kind.handled x e.key.time why).actions
