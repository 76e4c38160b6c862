-- What is so of runs as they are asked for.
use Rattle.std.specs.Prelude.{◌≡◌, ℕ, ◌<◌, ◌≤◌, ◌^◌, List, ◌∷◌, ◌++◌, length, map, flat_map}
use Rattle.ss_wire.specs.Wire.{IsBytes}
use Rattle.ss_model.specs.declared.Line.{Line}
use Rattle.ss_model.specs.Wiring.{Wiring}
use Rattle.ss_model.specs.Step.{State}
use Rattle.ss_element.specs.Kind.{Kind}
use Rattle.ss_element.specs.Saving.{Saving}
use Rattle.ss_element.specs.Index.{entries}
use Rattle.ss_graph.specs.declared.fault.LimitKind.{LimitKind}
use Rattle.ss_graph.specs.declared.graph.Graph.{Graph}
use Rattle.ss_run.specs.declared.Origin.TheVariants as origin
use Rattle.ss_run.specs.Meaning.{Meaning}
use Rattle.ss_run.specs.Run.{IsFitting}
use Rattle.ss_safe.specs.Sound.{Sound}
use Rattle.ss_ckpt.specs.Spells.{Spells}
use Rattle.ss_origin.specs.Openings.{SpellsSound}
use Rattle.ss_course.specs.Course.{Course, in_parts}
use Rattle.ss_course.specs.Kept.{Kept, RunsWhole, RunsOut}

-- what a run prints in all: its lines
abbrev pub all_lines : List Kept → List Line → List Line
all_lines ks rest = flat_map (λ k. k.lines) ks ++ rest

module _ {S L : Type 0} (kind : Kind S L) (saving : Saving S L) (m : Meaning S L) where
  -- a run ends in one way
  pub record EndsInOneWay (c : Course) : Type 0 where
    pub whole : (ks js : List Kept) (rest last : List Line) (t u : ℕ) (left other : List S) → RunsWhole kind saving m c ks rest t left → RunsWhole kind saving m c js last u other →
        (ks ≡ js) × (rest ≡ last) × (t ≡ u) × (left ≡ other)
    pub out : (ks js : List Kept) (rest last : List Line) (what why : LimitKind) (n p : ℕ) → RunsOut kind saving m c ks rest what n → RunsOut kind saving m c js last why p →
        (ks ≡ js) × (rest ≡ last) × (what ≡ why) × (n ≡ p)
    pub either : (ks js : List Kept) (rest last : List Line) (t : ℕ) (left : List S) (what : LimitKind) (n : ℕ) → RunsWhole kind saving m c ks rest t left → RunsOut kind saving m c js last what n → ⊥

-- a checkpoint's time and bytes
abbrev pub entry_of : Kept → ℕ × List ℕ
entry_of k = (k.time, k.bytes)

-- a later course goes on from a checkpoint of a first one, with the same stop time
pub record GoesOnFrom (c later : Course) (k : Kept) : Type 0 where
  pub graph : later.graph ≡ c.graph
  pub from : later.from ≡ origin.Saved k.bytes
  pub stop : later.cuts.stop ≡ c.cuts.stop
  pub origin : later.cuts.origin ≡ k.time

-- the same checkpoints are asked for in both
pub record AsksAlike (c later : Course) : Type 0 where
  pub save_at : later.cuts.save_at ≡ c.cuts.save_at
  pub save_every : later.cuts.save_every ≡ c.cuts.save_every

module _ {S L : Type 0} (kind : Kind S L) (saving : Saving S L) (m : Meaning S L) where
  -- the wires and the components with which a graph's run starts
  abbrev pub wires_at_start : Graph → Wiring
  wires_at_start g = (m.opening g origin.Start).wires

  abbrev pub firsts : Graph → List S
  firsts g = (m.opening g origin.Start).state.components

  -- what bytes spell over a graph is what a run begins with that goes on from them, and the run may where it is sound
  abbrev pub Reopens : Graph → Type 0
  Reopens g = (bytes : List ℕ) (at : ℕ) (s : State S L) → IsBytes bytes → Spells saving (wires_at_start g) (firsts g) bytes g.text at s →
      (m.opening g (origin.Saved bytes) ≡ record { wires = wires_at_start g; time = at; state = s }) × (Sound kind (wires_at_start g) at s → m.Accepts g (origin.Saved bytes))

  -- a graph whose runs can be saved: its text and the numbers of its lines fit the form of checkpoints, it starts in a state that
  -- is safe at time 0, and the bytes from which a run of it may go on spell a sound state
  pub record CanBeSaved (Safe : Wiring → ℕ → State S L → Type 0) (g : Graph) : Type 0 where
    pub text : length g.text ≤ 67108864
    pub numbered : entries (wires_at_start g) < 2 ^ 32
    pub safe : Safe (wires_at_start g) 0 (m.opening g origin.Start).state
    pub saved : (bytes : List ℕ) → m.Accepts g (origin.Saved bytes) → SpellsSound kind saving (wires_at_start g) (firsts g) g.text bytes

  -- a checkpoint's bytes spell a state that is sound at its time, so a run goes on from it
  pub record CanGoOn (c : Course) (k : Kept) : Type 0 where
    pub state : State S L
    pub are : IsBytes k.bytes
    pub spelled : Spells saving (wires_at_start c.graph) (firsts c.graph) k.bytes c.graph.text k.time state
    pub sound : Sound kind (wires_at_start c.graph) k.time state
    pub opens : m.opening c.graph (origin.Saved k.bytes) ≡ record { wires = wires_at_start c.graph; time = k.time; state = state }
    pub accepted : m.Accepts c.graph (origin.Saved k.bytes)

  -- it prints the lines behind that checkpoint and the same final line, and leaves the same components; where the same checkpoints
  -- are asked for, those behind it are put, and no limit is passed
  pub record PrintsTheRest (c later : Course) (back : List Kept) (rest : List Line) (told : ℕ) (finals : List S) : Type 0 where
    pub lines : (js : List Kept) (last : List Line) (u : ℕ) (other : List S) → RunsWhole kind saving m later js last u other → all_lines js last ≡ all_lines back rest
    pub time : (js : List Kept) (last : List Line) (u : ℕ) (other : List S) → RunsWhole kind saving m later js last u other → u ≡ told
    pub left : (js : List Kept) (last : List Line) (u : ℕ) (other : List S) → RunsWhole kind saving m later js last u other → other ≡ finals
    pub kept : AsksAlike c later → (js : List Kept) (last : List Line) (u : ℕ) (other : List S) → RunsWhole kind saving m later js last u other → map entry_of js ≡ map entry_of back
    pub unlimited : AsksAlike c later → (js : List Kept) (last : List Line) (what : LimitKind) (n : ℕ) → RunsOut kind saving m later js last what n → ⊥

  -- so for each checkpoint of a whole run, in whatever parts the run and the one that goes on from it are divided
  pub record RestFollows (c : Course) (front : List Kept) (k : Kept) (back : List Kept) (rest : List Line) (time : ℕ) (left : List S) : Type 0 where
    pub can : CanGoOn c k
    pub prints : (later : Course) (parts : ℕ) (list : List ℕ) → GoesOnFrom c later k → IsFitting kind m (in_parts later parts list) → PrintsTheRest c later back rest time left

  -- over a graph whose runs can be saved, of a checkpoint whose numbers are bytes, as those in a file are
  abbrev pub RestartsPrintTheRest : (Wiring → ℕ → State S L → Type 0) → Type 0
  RestartsPrintTheRest Safe = (c : Course) (parts : ℕ) (list : List ℕ) (front : List Kept) (k : Kept) (back : List Kept) (rest : List Line) (time : ℕ) (left : List S) →
      IsFitting kind m (in_parts c parts list) → CanBeSaved Safe c.graph → Reopens c.graph → RunsWhole kind saving m c (front ++ k ∷ back) rest time left → IsBytes k.bytes → RestFollows c front k back rest time left
