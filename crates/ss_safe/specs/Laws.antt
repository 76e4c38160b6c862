-- What a kind of element keeps by itself.
use Rattle.std.specs.Prelude.{◌≡◌, ℕ, ◌+◌, ◌<◌, ◌≤◌, ◌^◌, ◌==◌, Bool, true, false, List, [], ◌∷◌, ◌++◌, Option, Some, None, if◌then◌else◌}
use Rattle.ss_model.specs.declared.Cause.{Cause}
use Rattle.ss_model.specs.declared.Cause.TheVariants as cause
use Rattle.ss_model.specs.declared.Action.{Action}
use Rattle.ss_model.specs.declared.Action.TheVariants as action
use Rattle.ss_model.specs.Step.{Reaction}
use Rattle.ss_wire.specs.Form.{IsForm}
use Rattle.ss_element.specs.Kind.{Kind, ActionsFit}
use Rattle.ss_element.specs.Saving.{Saving, state_form, load_form, CauseIsOf}

-- what a network reads off elements, by port and channel, and off loads. What a load weighs is whether it is a
-- packet or a credit, its channel and its flits
pub record Meters (S L : Type 0) : Type 0 where
  pub channels : S → ℕ → ℕ
  -- the flits that it may still send, those in its input queue, and those that this queue can hold
  pub credits : S → ℕ → ℕ → ℕ
  pub queued : S → ℕ → ℕ → ℕ
  pub capacity : S → ℕ → ℕ → ℕ
  -- the most credits that it may have
  pub limit : S → ℕ → ℕ → ℕ
  pub weight : L → Option (Bool × ℕ × ℕ)

abbrev pub meters_of : {S L : Type 0} → Kind S L → Meters S L
meters_of kind = record {
  channels = kind.channels;
  credits = λ x p ch. (kind.flow x p ch).credits;
  queued = λ x p ch. (kind.flow x p ch).queued;
  capacity = λ x p ch. (kind.flow x p ch).capacity;
  limit = kind.limit;
  weight = kind.weight;
}

-- the number, if the test holds
abbrev pub gate : Bool → ℕ → ℕ
gate true n = n
gate false n = 0

abbrev pub packet_flits : ℕ → Option (Bool × ℕ × ℕ) → ℕ
packet_flits ch None = 0
packet_flits ch (Some (true, c, flits)) = gate (c == ch) flits
packet_flits ch (Some (false, c, flits)) = 0

abbrev pub credit_flits : ℕ → Option (Bool × ℕ × ℕ) → ℕ
credit_flits ch None = 0
credit_flits ch (Some (true, c, flits)) = 0
credit_flits ch (Some (false, c, flits)) = gate (c == ch) flits

module _ {L : Type 0} (m : L → ℕ) where
  -- how much actions send out of a port
  abbrev pub sends : ℕ → Action L → ℕ
  sends p (action.Send q extra x) = gate (q == p) (m x)
  sends p (action.SelfSend i delay x) = 0
  sends p (action.ClockOn i) = 0
  sends p (action.ClockOff i) = 0
  sends p (action.Print text) = 0

  abbrev pub sends_all : ℕ → List (Action L) → ℕ
  sends_all p [] = 0
  sends_all p (a ∷ acts) = sends p a + sends_all p acts

  -- how much comes in at a port
  abbrev pub takes : ℕ → Cause L → ℕ
  takes p cause.Start = 0
  takes p (cause.Link q x) = gate (q == p) (m x)
  takes p (cause.Own i x) = 0
  takes p (cause.Tick i) = 0

module _ {S L : Type 0} (meters : Meters S L) where
  -- how much of a channel's packets, and of its credits, a load is
  abbrev pub packet_on : ℕ → L → ℕ
  packet_on ch x = packet_flits ch (meters.weight x)

  abbrev pub credit_on : ℕ → L → ℕ
  credit_on ch x = credit_flits ch (meters.weight x)

  -- there is room for what comes in at a port: in the queue for a packet, and for a credit
  abbrev pub HasRoom : S → Cause L → Type 0
  HasRoom x cause.Start = Unit {0}
  HasRoom x (cause.Link p y) = (ch : ℕ) → ch < meters.channels x p → (meters.queued x p ch + packet_on ch y ≤ meters.capacity x p ch) × (meters.credits x p ch + credit_on ch y ≤ meters.limit x p ch)
  HasRoom x (cause.Own i y) = Unit {0}
  HasRoom x (cause.Tick i) = Unit {0}

  -- credits fall by the packets that are sent and rise by the credits that come, and a queue rises by the packets that come and falls by the credits that are sent
  pub record FlowKeeps (x : S) (why : Cause L) (r : Reaction S L) : Type 0 where
    pub credits : (p ch : ℕ) → ch < meters.channels x p → meters.credits r.state p ch + sends_all (packet_on ch) p r.actions ≡ meters.credits x p ch + takes (credit_on ch) p why
    pub queued : (p ch : ℕ) → ch < meters.channels x p → meters.queued r.state p ch + sends_all (credit_on ch) p r.actions ≡ meters.queued x p ch + takes (packet_on ch) p why

  -- ports have the same channels, queues hold the same, and as many credits may be had
  pub record SameRoom (x y : S) : Type 0 where
    pub channels : (p : ℕ) → meters.channels y p ≡ meters.channels x p
    pub capacity : (p ch : ℕ) → ch < meters.channels x p → meters.capacity y p ch ≡ meters.capacity x p ch
    pub limit : (p ch : ℕ) → ch < meters.channels x p → meters.limit y p ch ≡ meters.limit x p ch

-- what may be of a kind's elements, beside what their calls tell
pub record Allowed (S L : Type 0) : Type 1 where
  -- what is always so of an element that was made: handling and restoring keep it
  pub holds : S → Type 0
  -- an element whose start event is to come
  pub first : S → Type 0
  -- what an element may send out of a port before a time
  pub gives : S → ℕ → L → ℕ → Type 0
  -- out of which ports and on which self lines an element may send, and which clocks it may turn
  pub names_port : S → ℕ → Type 0
  pub names_line : S → ℕ → Type 0
  pub names_clock : S → ℕ → Type 0

-- what the actions turn a clock to, one after another
abbrev pub turned_by : {L : Type 0} → ℕ → Action L → List Bool
turned_by i (action.Send p extra x) = []
turned_by i (action.SelfSend j delay x) = []
turned_by i (action.ClockOn j) = if j == i then true ∷ [] else []
turned_by i (action.ClockOff j) = if j == i then false ∷ [] else []
turned_by i (action.Print text) = []

abbrev pub turns : {L : Type 0} → ℕ → List (Action L) → List Bool
turns i [] = []
turns i (a ∷ acts) = turned_by i a ++ turns i acts

-- a clock that is not turned stays as it was; it is turned once at most, on only where it was off, and off only at its own tick
abbrev pub ClockKeeps : {L : Type 0} → Cause L → ℕ → Bool → List Bool → Bool → Type 0
ClockKeeps why i before [] after = after ≡ before
ClockKeeps why i before (true ∷ []) after = (before ≡ false) × (after ≡ true)
ClockKeeps why i before (false ∷ []) after = (why ≡ cause.Tick i) × (after ≡ false)
ClockKeeps why i before (a ∷ b ∷ more) after = ⊥

module _ {S L : Type 0} (kind : Kind S L) where
  -- what comes with a load fits the time
  abbrev pub MayHear : S → ℕ → Cause L → Type 0
  MayHear x at cause.Start = Unit {0}
  MayHear x at (cause.Link p y) = kind.fits_load x (cause.Link p y) at ≡ true
  MayHear x at (cause.Own i y) = kind.fits_load x (cause.Own i y) at ≡ true
  MayHear x at (cause.Tick i) = Unit {0}

module _ {S L : Type 0} (kind : Kind S L) (allowed : Allowed S L) where
  -- the start comes first, at time 0, with all clocks off; and a tick comes where the clock is on
  abbrev pub IsDue : S → ℕ → Cause L → Type 0
  IsDue x now cause.Start = (now ≡ 0) × allowed.first x × ((i : ℕ) → kind.ticks x i ≡ false)
  IsDue x now (cause.Link p y) = kind.begun x ≡ true
  IsDue x now (cause.Own i y) = kind.begun x ≡ true
  IsDue x now (cause.Tick i) = (kind.begun x ≡ true) × (kind.ticks x i ≡ true)

  -- an element is told, at a time, what it may be told
  pub record MayTell (x : S) (now : ℕ) (why : Cause L) : Type 0 where
    pub holds : allowed.holds x
    pub fit : kind.fits x (now + 1) ≡ true
    pub early : now < 2 ^ 62
    pub heard : MayHear kind x (now + 1) why
    pub due : IsDue x now why
    pub room : HasRoom (meters_of kind) x why

  -- a load is sent that may be
  abbrev pub SendFits : S → ℕ → Action L → Type 0
  SendFits x now (action.Send p extra y) = allowed.gives x p y (now + 1)
  SendFits x now (action.SelfSend i delay y) = kind.fits_load x (cause.Own i y) (now + 1) ≡ true
  SendFits x now (action.ClockOn i) = Unit {0}
  SendFits x now (action.ClockOff i) = Unit {0}
  SendFits x now (action.Print text) = Unit {0}

  abbrev pub SendsFit : S → ℕ → List (Action L) → Type 0
  SendsFit x now [] = Unit {0}
  SendsFit x now (a ∷ acts) = SendFits x now a × SendsFit x now acts

  -- an action names what the element may name
  abbrev pub Names : S → Action L → Type 0
  Names x (action.Send p extra y) = allowed.names_port x p
  Names x (action.SelfSend i delay y) = allowed.names_line x i
  Names x (action.ClockOn i) = allowed.names_clock x i
  Names x (action.ClockOff i) = allowed.names_clock x i
  Names x (action.Print text) = Unit {0}

  abbrev pub NamesAll : S → List (Action L) → Type 0
  NamesAll x [] = Unit {0}
  NamesAll x (a ∷ acts) = Names x a × NamesAll x acts

  -- the first element may name all that the second may
  pub record NamesAsMuch (x y : S) : Type 0 where
    pub ports : (p : ℕ) → allowed.names_port y p → allowed.names_port x p
    pub lines : (i : ℕ) → allowed.names_line y i → allowed.names_line x i
    pub clocks : (i : ℕ) → allowed.names_clock y i → allowed.names_clock x i

  -- what became of an element that was told what it may be told
  pub record Keeps (x : S) (now : ℕ) (why : Cause L) (r : Reaction S L) : Type 0 where
    pub holds : allowed.holds r.state
    pub fit : kind.fits r.state (now + 1) ≡ true
    pub begun : kind.begun r.state ≡ true
    pub alike : kind.Alike x r.state
    -- its delays are within what a run can add, and its loads may be
    pub acts : ActionsFit r.actions
    pub sends : SendsFit x now r.actions
    pub names : NamesAll x r.actions
    pub flow : FlowKeeps (meters_of kind) x why r
    pub clocks : (i : ℕ) → ClockKeeps why i (kind.ticks x i) (turns i r.actions) (kind.ticks r.state i)

  pub record KindLaws : Type 0 where
    -- what fits a time fits every later one
    pub fits_later : (x : S) (at later : ℕ) → at ≤ later → later ≤ 2 ^ 62 → kind.fits x at ≡ true → kind.fits x later ≡ true
    pub loads_later : (x : S) (why : Cause L) (at later : ℕ) → at ≤ later → later ≤ 2 ^ 62 → kind.fits_load x why at ≡ true → kind.fits_load x why later ≡ true
    pub capacity_fits : (x : S) (p ch : ℕ) → allowed.holds x → ch < kind.channels x p → (kind.flow x p ch).capacity < 2 ^ 32
    -- to elements that are alike the same may come, and each sends and names what the other may send and name
    pub same_room : (x y : S) → kind.Alike x y → SameRoom (meters_of kind) x y
    pub hears_alike : (x y : S) (why : Cause L) (at : ℕ) → kind.Alike x y → kind.fits_load x why at ≡ true → kind.fits_load y why at ≡ true
    pub gives_alike : (x y : S) (p : ℕ) (load : L) (at : ℕ) → kind.Alike x y → allowed.gives y p load at → allowed.gives x p load at
    pub names_alike : (x y : S) → kind.Alike x y → NamesAsMuch x y
    -- an element may be told what it may, and keeps the laws
    pub meets : (x : S) (now : ℕ) (why : Cause L) → MayTell x now why → kind.Meets x now why
    pub keeps : (x : S) (now : ℕ) (why : Cause L) → MayTell x now why → Keeps x now why (kind.handled x now why)
    -- what is primary stays so, and what is done stays done
    pub primary_stays : (x : S) (now : ℕ) (why : Cause L) → kind.primary (kind.handled x now why).state ≡ kind.primary x
    pub done_stays : (x : S) (now : ℕ) (why : Cause L) → kind.done x ≡ true → kind.done (kind.handled x now why).state ≡ true

  -- what a kind keeps of the saving of its elements
  pub record KindSaves (saving : Saving S L) : Type 0 where
    -- what is spelled is read again, whatever follows, and what is read was spelled so
    pub states : (first : S) → IsForm (state_form saving first)
    pub loads : (x : S) → IsForm (load_form saving x)
    -- an element that was read is begun, has the settings of the one that read it, and is as all that were made
    pub begun : (first x : S) → saving.IsOf first x → kind.begun x ≡ true
    pub read_alike : (first x : S) → saving.IsOf first x → kind.Alike first x
    pub read_holds : (first x : S) → saving.IsOf first x → allowed.holds first → allowed.holds x
    pub alike_same : (x : S) → kind.Alike x x
    pub alike_through : (x y z : S) → kind.Alike x y → kind.Alike y z → kind.Alike x z
    pub handled_alike : (x : S) (now : ℕ) (why : Cause L) → kind.Meets x now why → kind.Alike x (kind.handled x now why).state
    -- an element that is begun and fits can be read, by any with its settings, and so can a load that fits
    pub alike_read : (first x : S) → kind.Alike first x → saving.IsOf x x → saving.IsOf first x
    pub states_saved : (x : S) (at : ℕ) → at ≤ 2 ^ 62 → allowed.holds x → kind.begun x ≡ true → kind.fits x at ≡ true → saving.IsOf x x
    pub loads_saved : (x : S) (why : Cause L) (at : ℕ) → at ≤ 2 ^ 62 → allowed.holds x → MayHear kind x at why → CauseIsOf saving x why
