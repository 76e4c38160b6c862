-- Which fault bytes have, by the step that tells it.
use Rattle.std.proofs.Common.{◌≡◌, ℕ, List, Some, Ok, Err, sym, ap, ◌∙◌}
use Rattle.ss_ckpt.specs.declared.fault.CkptFault.{CkptFault}
use Rattle.ss_ckpt.specs.declared.fault.CkptFault.TheVariants as form
use Rattle.ss_ckpt.specs.Faults.{Fails}
use Rattle.ss_ckpt.specs.Form.{Fields, head_form, body_form}
use Rattle.ss_ckpt.specs.Spells.{IsHead, first_read, whole_read}
use Rattle.ss_restart.specs.declared.fault.RestartFault.{RestartFault}
use Rattle.ss_restart.specs.declared.fault.RestartFault.TheVariants as state
use Rattle.ss_restart.specs.Faults.{IsFirstFault}
use Rattle.ss_library.specs.Kinds.{any_kind}
use Rattle.ss_library.specs.Saved.{any_saving}
use Rattle.ss_library.specs.Make.{Made}
use Rattle.ss_recall.specs.declared.fault.RecallFault.{RecallFault}
use Rattle.ss_recall.specs.declared.fault.RecallFault.TheVariants as fault
use Rattle.ss_recall.specs.Begun.{RefusesText}
use Rattle.ss_recall.specs.Faults.{of_form, of_state}
use Rattle.ss_recall.specs.Recall.{Reading, makes, read_of, wires_in, time_in, state_in, IsRefusal}
use Rattle.ss_recall.proofs.Reading.{head_fails, text_fails, body_fails}

-- ---- refusals

-- by a fault that is told, of the bytes or of what they are read as
pub form_refused : (bytes : List ℕ) (e : CkptFault) → Fails e (read_of bytes) → IsRefusal bytes (of_form e)
form_refused bytes form.Magic h = h
form_refused bytes form.Form h = h
form_refused bytes (form.Short at) h = h
form_refused bytes (form.Value at) h = h
form_refused bytes (form.Order at) h = h
form_refused bytes (form.Trailing at) h = h
form_refused bytes form.NoMemory h = tt

pub state_refused : (bytes : List ℕ) (x : Reading) (f : RestartFault) → read_of bytes ≡ Ok x → IsFirstFault any_kind (wires_in x) (time_in x) (state_in x) f → IsRefusal bytes (of_state f)
state_refused bytes x (state.Element c) r h = record { reading = x; read = r; first = h }
state_refused bytes x (state.Payload i) r h = record { reading = x; read = r; first = h }
state_refused bytes x (state.Time i) r h = record { reading = x; read = r; first = h }
state_refused bytes x (state.Tick n) r h = record { reading = x; read = r; first = h }
state_refused bytes x (state.Unbalanced l ch) r h = record { reading = x; read = r; first = h }
state_refused bytes x state.NoMemory r h = tt

-- ---- by the step that tells it

-- a fault of the head is one of the bytes
pub head_refused : (bytes : List ℕ) (e : CkptFault) → Fails e (first_read head_form bytes 0) → IsRefusal bytes (of_form e)
unfolding read_of
head_refused bytes e h = form_refused bytes e (head_fails any_saving makes bytes e h)

-- so is one of the text
pub text_refused : (bytes : List ℕ) (h : Fields) (body : ℕ) (e : RecallFault) → IsHead bytes h body → RefusesText h.graph e → IsRefusal bytes e
unfolding read_of
text_refused bytes h body (fault.Form f) is r = text_fails any_saving makes bytes h body is r.1 ∙ ap (λ v. Err v) (sym r.0)
text_refused bytes h body (fault.State f) is r = absurd r
text_refused bytes h body fault.NoMemory is r = tt

-- and one of what stands behind the head
pub body_refused : (bytes : List ℕ) (h : Fields) (body : ℕ) (m : Made) (e : CkptFault) → IsHead bytes h body → makes h.graph ≡ Some (m.elements, m.wires) → Fails e (whole_read (body_form any_saving m.wires m.elements) bytes body) → IsRefusal bytes (of_form e)
unfolding read_of
body_refused bytes h body m e is some f = form_refused bytes e (body_fails any_saving makes bytes h body is m.elements m.wires e some f)
