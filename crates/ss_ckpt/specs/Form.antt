-- The form of checkpoints, field by field. Numbers are written high byte first, and fields are judged in their order.
use Rattle.std.specs.Prelude.{◌≡◌, ℕ, zero, suc, ◌+◌, ◌^◌, ◌==◌, ◌&&◌, ◌||◌, not, nat_le, nat_lt, List, [], ◌∷◌, ◌++◌, length, slice_get, Bool, true, false, Option, Some, None, is_some, Result, Ok, Err, if◌then◌else◌}
use Rattle.ss_wire.specs.Form.{◌>>=◌, Form, plain, bytes, nothing, never, only, pair, told, some, choose, cons, each_as, counted, lifted}
use Rattle.ss_model.specs.declared.Key.{Key}
use Rattle.ss_model.specs.declared.Event.{Event}
use Rattle.ss_model.specs.Order.{key_before}
use Rattle.ss_model.specs.Wiring.{Wiring, target_of}
use Rattle.ss_element.specs.Saving.{Saving, state_form, load_form}
use Rattle.ss_ckpt.specs.declared.fault.CkptFault.{CkptFault}
use Rattle.ss_ckpt.specs.declared.fault.CkptFault.TheVariants as fault
use Rattle.ss_ckpt.specs.Faults.{fault_of}

-- a number of k bytes
abbrev pub field : ℕ → Form CkptFault ℕ
field k = plain fault.Short k

-- ---- the head

-- SSTCKPT
abbrev pub magic : List ℕ
magic = 83 ∷ 83 ∷ 84 ∷ 67 ∷ 75 ∷ 80 ∷ 84 ∷ []

-- what follows the letters and the number of the form, which is 1
abbrev pub marked : List ℕ → List ℕ → Result (List ℕ) CkptFault
marked [] [] = Err (fault.Short 0)
marked [] (v ∷ rest) = if v == 49 then Ok rest else Err fault.Form
marked (m ∷ ms) [] = Err (fault.Short 0)
marked (m ∷ ms) (b ∷ bs) = if b == m then marked ms bs else Err fault.Magic

abbrev pub mark : Form CkptFault ℕ
mark = record {
  spell = λ v. magic ++ 49 ∷ [];
  read = λ c. marked magic c.rest >>= λ rest. Ok (1, record { rest = rest; at = c.at + 8 });
  Fits = λ v. v ≡ 1;
}

abbrev pub is_time : ℕ → Bool
is_time t = nat_lt 0 t && nat_lt t (2 ^ 62)

abbrev pub time_field : Form CkptFault ℕ
time_field = only (field 8) is_time fault.Value

-- the last time is below the checkpoint's
abbrev pub last_field : ℕ → Form CkptFault ℕ
last_field t = only (field 8) (λ l. nat_lt l t) fault.Value

-- at most 67,108,864 bytes
abbrev pub is_size : ℕ → Bool
is_size n = nat_le n 67108864

abbrev pub text_form : Form CkptFault (List ℕ)
text_form = counted fault.Short fault.Value 4 is_size (bytes fault.Short)

-- the time of the checkpoint, that of the last handled event, and the graph text
pub record Fields : Type 0 where
  pub time : ℕ
  pub last : ℕ
  pub graph : List ℕ

abbrev pub head_fields : Form CkptFault (ℕ × (ℕ × (ℕ × List ℕ)))
head_fields = pair mark (λ v. pair time_field (λ t. pair (last_field t) (λ l. text_form)))

abbrev pub head_form : Form CkptFault Fields
head_form = told head_fields
    (λ p. record { time = p.1.0; last = p.1.1.0; graph = p.1.1.1 })
    (λ h. (1, (h.time, (h.last, h.graph))))
    (λ h. Unit {0})

-- ---- the body

-- a tick or an arrival
abbrev pub is_class : ℕ → Bool
is_class k = (k == 1) || (k == 2)

-- an event reaches one of so many components
abbrev pub is_reached : ℕ → Option (ℕ × ℕ) → Bool
is_reached count None = false
is_reached count (Some r) = nat_lt r.0 count

abbrev pub not_after : Option Key → Key → Bool
not_after None k = true
not_after (Some before) k = not (key_before k before)

abbrev pub receiver : {S : Type 0} → List S → Option (ℕ × ℕ) → Option S
receiver xs None = None
receiver xs (Some r) = slice_get xs r.0

abbrev pub class_field : Form CkptFault ℕ
class_field = only (field 1) is_class fault.Value

module _ (w : Wiring) (count : ℕ) where
  -- a line of the class, to one of so many components
  abbrev pub line_field : ℕ → Form CkptFault ℕ
  line_field k = only (field 4) (λ l. is_reached count (target_of w k l)) fault.Value

  abbrev pub key_fields : Form CkptFault (ℕ × (ℕ × ℕ))
  key_fields = pair (field 8) (λ t. pair class_field line_field)

  abbrev pub key_form : Form CkptFault Key
  key_form = told key_fields (λ p. record { time = p.0; class = p.1.0; line = p.1.1 }) (λ k. (k.time, (k.class, k.line))) (λ k. Unit {0})

  -- one that comes before none in front of it
  abbrev pub sorted_key : Option Key → Form CkptFault Key
  sorted_key before = only key_form (not_after before) fault.Order

module _ {S L : Type 0} (saving : Saving S L) where
  abbrev pub load_by : Option S → Form CkptFault (Option L)
  load_by None = never fault.Form
  load_by (Some x) = some (lifted fault_of (load_form saving x))

  module _ (w : Wiring) (xs : List S) where
    -- an arrival has a load, which is read as its receiver takes it
    abbrev pub load_at : Key → Form CkptFault (Option L)
    load_at k = choose (k.class == 2) (load_by (receiver xs (target_of w k.class k.line))) (nothing None)

    abbrev pub event_fields : Option Key → Form CkptFault (Key × Option L)
    event_fields before = pair (sorted_key w (length xs) before) load_at

    abbrev pub event_form : Option Key → Form CkptFault (Event L)
    event_form before = told (event_fields before) (λ p. record { key = p.0; load = p.1 }) (λ e. (e.key, e.load)) (λ e. Unit {0})

    -- n of them, in order
    abbrev pub events_form : ℕ → Option Key → Form CkptFault (List (Event L))
    events_form zero before = nothing []
    events_form (suc n) before = cons (event_form before) (λ e. events_form n (Some e.key))

    -- with their number
    abbrev pub pending_form : Form CkptFault (List (Event L))
    pending_form = counted fault.Short fault.Value 4 (λ n. true) (λ n. events_form n None)

  -- the components, each read in the place of a first one, and what is to come
  abbrev pub states_form : List S → Form CkptFault (List S)
  states_form firsts = each_as saving.spell (λ x. lifted fault_of (state_form saving x)) firsts

  abbrev pub body_form : Wiring → List S → Form CkptFault (List S × List (Event L))
  body_form w firsts = pair (states_form firsts) (pending_form w)

  -- ---- the whole, over what a graph text makes, which is given: the first states and the wires, if the text has no fault

  -- a text with a fault is refused where it begins
  abbrev pub judged_head : (List ℕ → Option (List S × Wiring)) → Form CkptFault Fields
  judged_head makes = only head_form (λ h. is_some (makes h.graph)) (λ at. fault.Value (at + 28))

  abbrev pub body_by : Option (List S × Wiring) → Form CkptFault (List S × List (Event L))
  body_by None = never fault.Form
  body_by (Some m) = body_form m.1 m.0

  abbrev pub checkpoint_form : (List ℕ → Option (List S × Wiring)) → Form CkptFault (Fields × (List S × List (Event L)))
  checkpoint_form makes = pair (judged_head makes) (λ h. body_by (makes h.graph))
