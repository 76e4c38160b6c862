-- Bytes stand for one thing, and what they spell is what they are read as.
use Rattle.std.proofs.Common.{◌≡◌, ℕ, true, List, Option, Some, None, is_some, Result, Ok, Err, refl, sym, ap, ◌∙◌, subst, arith, inl, inr}
use Rattle.std.proofs.lemmas.Bool.{cases_lt}
use Rattle.ss_wire.specs.Wire.{IsBytes}
use Rattle.ss_wire.specs.Form.{IsForm}
use Rattle.ss_wire.proofs.Forms.{ok_is, whole_takes}
use Rattle.ss_model.specs.Wiring.{Wiring}
use Rattle.ss_model.specs.Step.{State}
use Rattle.ss_element.specs.Kind.{Kind}
use Rattle.ss_safe.specs.Sound.{ElementSound, PayloadSound, TimeSound, TickSound, FlowSound}
use Rattle.ss_ckpt.specs.declared.fault.CkptFault.{CkptFault}
use Rattle.ss_ckpt.specs.declared.fault.CkptFault.TheVariants as form
use Rattle.ss_ckpt.specs.Form.{checkpoint_form}
use Rattle.ss_ckpt.proofs.Laws.{checkpoint_is_form}
use Rattle.ss_ckpt.proofs.Spelling.{one_spelling}
use Rattle.ss_restart.specs.declared.fault.RestartFault.{RestartFault}
use Rattle.ss_restart.specs.declared.fault.RestartFault.TheVariants as state
use Rattle.ss_restart.specs.Faults.{IsFirst, IsFirstFault}
use Rattle.ss_restart.proofs.Judged.{unsound}
use Rattle.ss_library.specs.Kinds.{any_kind}
use Rattle.ss_library.specs.Laws.{any_saves}
use Rattle.ss_library.specs.Saved.{any_saving}
use Rattle.ss_library.specs.Make.{model_of}
use Rattle.ss_recall.specs.declared.fault.RecallFault.{RecallFault}
use Rattle.ss_recall.specs.declared.fault.RecallFault.TheVariants as fault
use Rattle.ss_recall.specs.Laws.{StandForOneThing, AreSpelled}
use Rattle.ss_recall.specs.Recall.{Reading, IsAccepted, makes, read_of, graph_in, wires_in, time_in, state_in, Recalls, Refuses}
use Rattle.ss_recall.proofs.Texts.{accepted_makes, makes_accepted}

-- ---- first faults of a state

-- of two first places neither comes before the other
first_same : (P : ℕ → Type 0) (m n : ℕ) → IsFirst P m → IsFirst P n → m ≡ n
first_same P m n f h =
    elim (cases_lt m n) as (λ o. m ≡ n) [
      | inl l ↦ absurd (f.fails (h.before m l))
      | inr l ↦ elim (cases_lt n m) as (λ o. m ≡ n) [
        | inl k ↦ absurd (h.fails (f.before n k))
        | inr k ↦ omega (arith, l, k)
      ]
    ]

module _ {S L : Type 0} (kind : Kind S L) (w : Wiring) (at : ℕ) (s : State S L) where
  abbrev Here : RestartFault → Type 0
  Here = IsFirstFault kind w at s

  same_line : (l k ch d : ℕ) → Here (state.Unbalanced l ch) → Here (state.Unbalanced k d) → l ≡ k
  same_line l k ch d f h =
      elim (cases_lt l k) as (λ o. l ≡ k) [
        | inl a ↦ absurd (f.5.fails (h.4 l a ch))
        | inr a ↦ elim (cases_lt k l) as (λ o. l ≡ k) [
          | inl b ↦ absurd (h.5.fails (f.4 k b d))
          | inr b ↦ omega (arith, a, b)
        ]
      ]

  same_channel : (l k ch d : ℕ) → Here (state.Unbalanced l ch) → Here (state.Unbalanced k d) → l ≡ k → ch ≡ d
  same_channel l k ch d f h e = first_same (FlowSound kind w at s k) ch d (subst (λ n. IsFirst (FlowSound kind w at s n) ch) e f.5) h.5

  same_flow : (l k ch d : ℕ) → Here (state.Unbalanced l ch) → Here (state.Unbalanced k d) → ◌≡◌ {A = RestartFault} (state.Unbalanced l ch) (state.Unbalanced k d)
  same_flow l k ch d f h =
      let line = same_line l k ch d f h in
      ap (λ n. state.Unbalanced n ch) line ∙ ap (λ n. state.Unbalanced k n) (same_channel l k ch d f h line)

  -- a state has one first fault
  same_fault : (d e : RestartFault) → Here d → Here e → d ≡ e
  same_fault (state.Element c) (state.Element n) f h = ap (λ k. state.Element k) (first_same (ElementSound kind w at s) c n f h)
  same_fault (state.Element c) (state.Payload i) f h = absurd (f.fails (h.0 c))
  same_fault (state.Element c) (state.Time i) f h = absurd (f.fails (h.0 c))
  same_fault (state.Element c) (state.Tick n) f h = absurd (f.fails (h.0 c))
  same_fault (state.Element c) (state.Unbalanced l ch) f h = absurd (f.fails (h.0 c))
  same_fault (state.Element c) state.NoMemory f h = absurd h
  same_fault (state.Payload i) (state.Element c) f h = absurd (h.fails (f.0 c))
  same_fault (state.Payload i) (state.Payload n) f h = ap (λ k. state.Payload k) (first_same (PayloadSound kind w at s) i n f.1 h.1)
  same_fault (state.Payload i) (state.Time n) f h = absurd (f.1.fails (h.1 i))
  same_fault (state.Payload i) (state.Tick n) f h = absurd (f.1.fails (h.1 i))
  same_fault (state.Payload i) (state.Unbalanced l ch) f h = absurd (f.1.fails (h.1 i))
  same_fault (state.Payload i) state.NoMemory f h = absurd h
  same_fault (state.Time i) (state.Element c) f h = absurd (h.fails (f.0 c))
  same_fault (state.Time i) (state.Payload n) f h = absurd (h.1.fails (f.1 n))
  same_fault (state.Time i) (state.Time n) f h = ap (λ k. state.Time k) (first_same (TimeSound kind w at s) i n f.2 h.2)
  same_fault (state.Time i) (state.Tick n) f h = absurd (f.2.fails (h.2 i))
  same_fault (state.Time i) (state.Unbalanced l ch) f h = absurd (f.2.fails (h.2 i))
  same_fault (state.Time i) state.NoMemory f h = absurd h
  same_fault (state.Tick i) (state.Element c) f h = absurd (h.fails (f.0 c))
  same_fault (state.Tick i) (state.Payload n) f h = absurd (h.1.fails (f.1 n))
  same_fault (state.Tick i) (state.Time n) f h = absurd (h.2.fails (f.2 n))
  same_fault (state.Tick i) (state.Tick n) f h = ap (λ k. state.Tick k) (first_same (TickSound kind w at s) i n f.3 h.3)
  same_fault (state.Tick i) (state.Unbalanced l ch) f h = absurd (f.3.fails (h.3 i))
  same_fault (state.Tick i) state.NoMemory f h = absurd h
  same_fault (state.Unbalanced l ch) (state.Element c) f h = absurd (h.fails (f.0 c))
  same_fault (state.Unbalanced l ch) (state.Payload n) f h = absurd (h.1.fails (f.1 n))
  same_fault (state.Unbalanced l ch) (state.Time n) f h = absurd (h.2.fails (f.2 n))
  same_fault (state.Unbalanced l ch) (state.Tick n) f h = absurd (h.3.fails (f.3 n))
  same_fault (state.Unbalanced l ch) (state.Unbalanced k d) f h = same_flow l k ch d f h
  same_fault (state.Unbalanced l ch) state.NoMemory f h = absurd h
  same_fault state.NoMemory e f h = absurd f

-- ---- one thing

one_or_other : {A : Type 0} (r : Result A CkptFault) (x : A) (e : CkptFault) → r ≡ Ok x → r ≡ Err e → ⊥
one_or_other r x e h k = cc

one_error : {A : Type 0} (r : Result A CkptFault) (d e : CkptFault) → r ≡ Err d → r ≡ Err e → d ≡ e
one_error r d e h k = cc

module _ (bytes : List ℕ) where
  one_reading : (x y : Reading) → read_of bytes ≡ Ok x → read_of bytes ≡ Ok y → x ≡ y
  one_reading x y a b = ok_is {F = CkptFault} x y (sym a ∙ b)

  never_both : (x : Reading) (e : RecallFault) → Recalls bytes x → Refuses bytes e → ⊥
  never_both x (fault.Form f) r u = one_or_other (read_of bytes) x f r.read u
  never_both x (fault.State f) r u =
      let same = one_reading u.reading x u.read r.read in
      unsound any_kind (wires_in x) (time_in x) (state_in x) f (subst (λ (y : Reading). IsFirstFault any_kind (wires_in y) (time_in y) (state_in y) f) same u.first) r.sound
  never_both x fault.NoMemory r u = u

  one_fault : (d e : RecallFault) → Refuses bytes d → Refuses bytes e → d ≡ e
  one_fault (fault.Form f) (fault.Form h) a b = ap (λ k. fault.Form k) (one_error (read_of bytes) f h a b)
  one_fault (fault.Form f) (fault.State h) a b = absurd (one_or_other (read_of bytes) b.reading f b.read a)
  one_fault (fault.Form f) fault.NoMemory a b = absurd b
  one_fault (fault.State f) (fault.Form h) a b = absurd (one_or_other (read_of bytes) a.reading h a.read b)
  one_fault (fault.State f) (fault.State h) a b =
      let same = one_reading a.reading b.reading a.read b.read in
      let x = b.reading in
      ap (λ k. fault.State k) (same_fault any_kind (wires_in x) (time_in x) (state_in x) f h (subst (λ (y : Reading). IsFirstFault any_kind (wires_in y) (time_in y) (state_in y) f) same a.first) b.first)
  one_fault (fault.State f) fault.NoMemory a b = absurd b
  one_fault fault.NoMemory e a b = absurd a

  pub one_thing : StandForOneThing bytes
  one_thing = record { one = λ x y a b. one_reading x y a.read b.read; either = never_both; first = one_fault }

-- ---- what is read is spelled

there : {X : Type 0} (o : Option X) → is_some o ≡ true → (x : X) × (o ≡ Some x)
there None h = absurd cc
there (Some x) h = (x, refl)

pub recalled_is_spelled : (bytes : List ℕ) (x : Reading) → IsBytes bytes → Recalls bytes x → AreSpelled bytes x
unfolding read_of
recalled_is_spelled bytes x are r =
    let law : IsForm (checkpoint_form any_saving makes) = checkpoint_is_form any_saving any_saves.states any_saves.loads makes in
    let t = whole_takes (checkpoint_form any_saving makes) form.Trailing law (record { rest = bytes; at = 0 }) x are r.read in
    let made = there (makes x.0.graph) t.0.0.1 in
    let accepted : IsAccepted x.0.graph = makes_accepted x.0.graph made.0 made.1 in
    record {
      accepted = accepted;
      spelled = (one_spelling any_saving any_saves.states any_saves.loads makes bytes are).spelled x.0 (model_of (graph_in x)).elements x.1.0 (wires_in x) x.1.1 (accepted_makes x.0.graph accepted) r.read;
      sound = r.sound;
    }
