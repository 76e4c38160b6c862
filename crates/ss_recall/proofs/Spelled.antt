-- What bytes are read back as, where they spell a sound state over an accepted text's graph.
use Rattle.std.proofs.Common.{◌≡◌, ℕ, ◌<◌, ◌≤◌, ◌^◌, ◌&&◌, Bool, true, false, ltb, List, length, None, Ok, refl, sym, ap, ◌∙◌, subst, arith}
use Rattle.std.proofs.lemmas.Bool.{ltb-true}
use Rattle.ss_wire.specs.Wire.{IsBytes}
use Rattle.ss_model.specs.Wiring.{Wiring}
use Rattle.ss_model.specs.Step.{State}
use Rattle.ss_safe.specs.Sound.{Sound, IsRead}
use Rattle.ss_ckpt.specs.declared.reading.Saved.{Saved}
use Rattle.ss_ckpt.specs.Spells.{Spells}
use Rattle.ss_ckpt.specs.Views.{state_of, body_of}
use Rattle.ss_ckpt.proofs.Spelling.{is_read, one_spelling}
use Rattle.ss_restart.specs.declared.fault.RestartFault.{RestartFault}
use Rattle.ss_restart.specs.Faults.{IsSpelled, IsFirstFault}
use Rattle.ss_graph.specs.declared.graph.Graph.{Graph}
use Rattle.ss_graph.specs.Checks.{first_fault}
use Rattle.ss_graph.specs.Judge.{text_checks, graph_of}
use Rattle.ss_graph.proofs.Fitting.{fit}
use Rattle.mr_flow.specs.declared.Load.{Load}
use Rattle.ss_library.specs.declared.kinds.Any.{Any}
use Rattle.ss_library.specs.Kinds.{any_kind, any_allowed}
use Rattle.ss_library.specs.Laws.{any_saves}
use Rattle.ss_library.specs.Saved.{any_saving}
use Rattle.ss_library.specs.Make.{Made, model_of}
use Rattle.ss_library.specs.Judging.{CanBeJudged, MayResume}
use Rattle.ss_library.proofs.Judged.{can_be_judged, may_resume}
use Rattle.ss_recall.specs.Begun.{IsBegun}
use Rattle.ss_recall.specs.Laws.{GoOn, spelled_as}
use Rattle.ss_recall.specs.Faults.{of_state}
use Rattle.ss_recall.specs.Recall.{IsAccepted, makes, read_of, Recalls, IsRefusal}
use Rattle.ss_recall.specs.Recalled.{IsRecalled}
use Rattle.ss_recall.proofs.Refusing.{state_refused}
use Rattle.ss_recall.proofs.Texts.{text_is, accepted_makes, accepted_is_made}

both_true : (a b : Bool) → (a && b) ≡ true → (a ≡ true) × (b ≡ true)
both_true true true h = (refl, refl)
both_true true false h = absurd cc
both_true false b h = absurd cc

module _ (text bytes : List ℕ) (at : ℕ) (s : State Any Load) (sp : Spells any_saving (model_of (graph_of text)).wires (model_of (graph_of text)).elements bytes text at s) where
  times : (1 ≤ at) × (at < 2 ^ 62)
  times =
      let tests = both_true (ltb 0 at) (ltb at (2 ^ 62)) sp.head.1.1.0.1 in
      let above = ltb-true 0 at tests.0 in
      (omega (arith, above), ltb-true at (2 ^ 62) tests.1)

  past : s.last < at
  past = ltb-true s.last at sp.head.1.1.1.0.1

  -- the bytes are read as what they spell
  pub spelled_is_read : IsAccepted text → IsBytes bytes → read_of bytes ≡ Ok (spelled_as text at s)
  unfolding read_of
  spelled_is_read a are =
      (one_spelling any_saving any_saves.states any_saves.loads makes bytes are).read text at (model_of (graph_of text)).elements (model_of (graph_of text)).wires s (accepted_makes text a) sp

  pub spelled_goes_on : IsAccepted text → IsBytes bytes → Sound any_kind (model_of (graph_of text)).wires at s → GoOn text bytes at s
  spelled_goes_on a are sound =
      let over : Spells any_saving (model_of (graph_of text)).wires (model_of (graph_of text)).elements bytes (graph_of text).text at s
      = subst (λ t. Spells any_saving (model_of (graph_of text)).wires (model_of (graph_of text)).elements bytes t at s) (sym (text_is text)) sp in
      let resumes : MayResume (graph_of text) bytes at s = may_resume (graph_of text) bytes at s (accepted_is_made text a) are over in
      record {
        recalls = record { read = spelled_is_read a are; sound = sound };
        accepted = resumes.accepted sound;
        opens = resumes.opens;
        some = times.0;
        early = times.1;
        past = past;
      }

-- a state that was read over the model of a graph can be judged
spelled_over : (text bytes : List ℕ) (at : ℕ) (s : State Any Load) → IsAccepted text → Spells any_saving (model_of (graph_of text)).wires (model_of (graph_of text)).elements bytes text at s → IsSpelled any_kind any_allowed any_saving (model_of (graph_of text)).wires at s
spelled_over text bytes at s a sp =
    let can : CanBeJudged (graph_of text) = can_be_judged (graph_of text) (accepted_is_made text a) in
    record {
      firsts = (model_of (graph_of text)).elements;
      bytes = bytes;
      graph = text;
      spelled = sp;
      made = can.made;
      few = can.few;
      numbered = can.numbered;
      narrow = can.narrow;
    }

-- over a model that was begun
module _ (text bytes : List ℕ) (g : Graph) (m : Made) (s : Saved Any Load) (at : ℕ) (begun : IsBegun text g m) (sp : Spells any_saving m.wires m.elements bytes text at (state_of s)) (time : s.time ≡ at) (wires : s.model.wires ≡ m.wires) where
  model_is : m ≡ model_of (graph_of text)
  model_is = begun.model ∙ ap model_of begun.graph

  wires_are : s.model.wires ≡ (model_of (graph_of text)).wires
  wires_are = wires ∙ ap (λ (k : Made). k.wires) model_is

  spelled_here : Spells any_saving (model_of (graph_of text)).wires (model_of (graph_of text)).elements bytes text s.time (state_of s)
  spelled_here =
      subst (λ t. Spells any_saving (model_of (graph_of text)).wires (model_of (graph_of text)).elements bytes text t (state_of s)) (sym time)
      (subst (λ (k : Made). Spells any_saving k.wires k.elements bytes text at (state_of s)) model_is sp)

  pub is_spelled : IsSpelled any_kind any_allowed any_saving s.model.wires s.time (state_of s)
  is_spelled = subst (λ (w : Wiring). IsSpelled any_kind any_allowed any_saving w s.time (state_of s)) (sym wires_are) (spelled_over text bytes s.time (state_of s) begun.accepted spelled_here)

  -- the state is what the bytes are read as, so its fault is one of them
  pub is_unsound : IsBytes bytes → (f : RestartFault) → IsFirstFault any_kind s.model.wires s.time (state_of s) f → IsRefusal bytes (of_state f)
  is_unsound are f first =
      state_refused bytes (spelled_as text s.time (state_of s)) f (spelled_is_read text bytes s.time (state_of s) spelled_here begun.accepted are)
      (subst (λ (w : Wiring). IsFirstFault any_kind w s.time (state_of s) f) wires_are first)

  whole : length s.model.elements.items ≡ length (graph_of text).components
  whole =
      let read : IsRead any_saving (model_of (graph_of text)).wires (model_of (graph_of text)).elements (state_of s) = is_read any_saving (model_of (graph_of text)).wires (model_of (graph_of text)).elements s.model.elements.items s.events.items spelled_here.body s.last in
      let made = accepted_is_made text begun.accepted in
      read.restored.long ∙ made.whole

  over_its_text : IsBytes bytes → Sound any_kind (model_of (graph_of text)).wires s.time (state_of s) → IsRecalled bytes (record { graph = graph_of text; saved = s })
  over_its_text are sound =
      let a = begun.accepted in
      let made = accepted_is_made text a in
      let most = made.fit.few_components in
      let goes = spelled_goes_on text bytes s.time (state_of s) spelled_here a are sound in
      record {
        recalls = subst (λ t. Recalls bytes (record { time = s.time; last = s.last; graph = t }, body_of s)) (sym (text_is text)) goes.recalls;
        graph = ap graph_of (sym (text_is text));
        read = subst (λ t. first_fault (text_checks t) ≡ None) (sym (text_is text)) a.read;
        unfaulted = a.made;
        fit = fit text a.read;
        made = made;
        accepted = goes.accepted;
        opens = goes.opens ∙ ap (λ (w : Wiring). record { wires = w; time = s.time; state = state_of s }) (sym wires_are);
        wires = wires_are;
        some = goes.some;
        early = goes.early;
        past = goes.past;
        whole = whole;
        few = (let same = whole in omega (arith, same, most));
        spelled = is_spelled;
      }

  pub is_recalled : IsBytes bytes → Sound any_kind s.model.wires s.time (state_of s) → IsRecalled bytes (record { graph = g; saved = s })
  is_recalled are sound =
      subst (λ (k : Graph). IsRecalled bytes (record { graph = k; saved = s })) (sym begun.graph)
      (over_its_text are (subst (λ (w : Wiring). Sound any_kind w s.time (state_of s)) wires_are sound))
