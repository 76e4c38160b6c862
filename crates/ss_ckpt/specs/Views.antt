-- What the code has, as the form has it.
use Rattle.std.specs.Prelude.{List}
use Rattle.ss_model.specs.declared.Event.{Event}
use Rattle.ss_model.specs.Step.{State}
use Rattle.ss_ckpt.specs.declared.head.Head.{Head}
use Rattle.ss_ckpt.specs.declared.reading.Saved.{Saved}
use Rattle.ss_ckpt.specs.Form.{Fields}

abbrev pub fields_of : Head → Fields
fields_of h = record { time = h.time; last = h.last; graph = h.graph.items }

abbrev pub state_of : {S L : Type 0} → Saved S L → State S L
state_of s = record { components = s.model.elements.items; pending = s.events.items; last = s.last }

-- what stands behind the head
abbrev pub body_of : {S L : Type 0} → Saved S L → List S × List (Event L)
body_of s = (s.model.elements.items, s.events.items)
