-- What a kind keeps of a network's order, it keeps as one of several kinds.
use Rattle.std.proofs.Common.{◌≡◌, ℕ, ◌+◌, ◌<◌, ◌^◌, ◌-◌, true, List, length, Some, ap}
use Rattle.std.specs.List.{AllByRecursion}
use Rattle.ss_model.specs.declared.Cause.{Cause}
use Rattle.ss_model.specs.Step.{Reaction}
use Rattle.ss_element.specs.Kind.{Kind}
use Rattle.ss_safe.specs.Laws.{Allowed, MayTell}
use Rattle.ss_kinds.specs.Among.{lift, kind_in, allowed_in, told}
use Rattle.mr_moves.specs.Moves.{Counts}
use Rattle.mr_order.specs.Rows.{Rows, Leaves}
use Rattle.mr_order.specs.Ways.{Ways, Stays, Arrived, Pumped, Crossed, Made, Received, Acts, Done, Rest, Pump, Cross, Make, Receive, Begins, Comes, Quiet, Moves, KindWays}
use Rattle.mr_order.specs.Numbers.{Numbering, flow_only, KindNumbers}
use Rattle.mr_order.specs.Expected.{Expecting, AsExpected, Counted, KindExpects}

module _ {S U L P F : Type 0} (to : S → U) (all : Ways U L P F) where
  -- what is read off the elements of one kind
  abbrev pub rows_in : Rows S L P
  rows_in = record {
    inputs = λ x. all.rows.inputs (to x);
    outputs = λ x. all.rows.outputs (to x);
    carries = all.rows.carries;
    free = λ x. all.rows.free (to x);
  }

  abbrev pub ways_in : Ways S L P F
  ways_in = record {
    rows = rows_in;
    flow = all.flow;
    same = all.same;
    way = λ x. all.way (to x);
    begins = λ x. all.begins (to x);
    injects = λ x. all.injects (to x);
    delivers = λ x. all.delivers (to x);
  }

  -- a call, act by act
  stays_as : (r s : Reaction S L) → Stays rows_in r s → Stays all.rows (lift to r) (lift to s)
  stays_as r s h = record { inputs = h.inputs; outputs = h.outputs; sent = h.sent }

  pumped_as : (r s : Reaction S L) (p ch : ℕ) (packet : P) → Pumped rows_in r s p ch packet → Pumped all.rows (lift to r) (lift to s) p ch packet
  pumped_as r s p ch packet h = record { queue = h.queue; sent = h.sent; inputs = h.inputs; outputs = h.outputs; others = h.others }

  crossed_as : (r s : Reaction S L) (p ch q dh : ℕ) (packet : P) → Crossed rows_in r s p ch q dh packet → Crossed all.rows (lift to r) (lift to s) p ch q dh packet
  crossed_as r s p ch q dh packet h = record { from = h.from; to = h.to; inputs = h.inputs; outputs = h.outputs; sent = h.sent }

  made_as : (r s : Reaction S L) (p ch : ℕ) (packet : P) → Made rows_in r s p ch packet → Made all.rows (lift to r) (lift to s) p ch packet
  made_as r s p ch packet h = record { queue = h.queue; inputs = h.inputs; outputs = h.outputs; sent = h.sent }

  received_as : (r s : Reaction S L) (p ch : ℕ) (packet : P) → Received rows_in r s p ch packet → Received all.rows (lift to r) (lift to s) p ch packet
  received_as r s p ch packet h = record { queue = h.queue; inputs = h.inputs; outputs = h.outputs; sent = h.sent }

  acts_as : (x : S) {r t : Reaction S L} {i d : List P} → Acts ways_in x r t i d → Acts all (to x) (lift to r) (lift to t) i d
  acts_as x Done = Done
  acts_as x (Rest {r = r} {s = s} h more) = Rest (stays_as r s h) (acts_as x more)
  acts_as x (Pump {r = r} {s = s} p ch packet h more) = Pump p ch packet (pumped_as r s p ch packet h) (acts_as x more)
  acts_as x (Cross {r = r} {s = s} p ch q dh packet goes h more) = Cross p ch q dh packet goes (crossed_as r s p ch q dh packet h) (acts_as x more)
  acts_as x (Make {r = r} {s = s} p ch packet begins h more) = Make p ch packet begins (made_as r s p ch packet h) (acts_as x more)
  acts_as x (Receive {r = r} {s = s} p ch packet ends h more) = Receive p ch packet ends (received_as r s p ch packet h) (acts_as x more)

  arrived_as : (x : S) (why : Cause L) (r : Reaction S L) (p ch : ℕ) (packet : P) → Arrived rows_in x why r p ch packet → Arrived all.rows (to x) why (lift to r) p ch packet
  arrived_as x why r p ch packet h = record { came = h.came; no_more = h.no_more; queue = h.queue; inputs = h.inputs; outputs = h.outputs; sent = h.sent }

  begins_as : (x : S) (why : Cause L) (r : Reaction S L) → Begins ways_in x why r → Begins all (to x) why (lift to r)
  begins_as x why r (Comes p ch packet h) = Comes p ch packet (arrived_as x why r p ch packet h)
  begins_as x why r (Quiet none is) = Quiet none (ap (lift to) is)

  pub moves_as : (x : S) (why : Cause L) (r : Reaction S L) (i d : List P) → Moves ways_in x why r i d → Moves all (to x) why (lift to r) i d
  moves_as x why r i d m = record { first = lift to m.first; begins = begins_as x why m.first m.begins; acts = acts_as x m.acts }

-- a kind's own numbers
abbrev pub numbering_in : {S U P F : Type 0} → (S → U) → Numbering U P F → Numbering S P F
numbering_in to numbering = record { number = numbering.number; count = λ x. numbering.count (to x); sound = λ x. numbering.sound (to x) }

-- and what it expects
abbrev pub expecting_in : {S U P F : Type 0} → (S → U) → Expecting U P F → Expecting S P F
expecting_in to expecting = record {
  flits = expecting.flits;
  ends = λ x. expecting.ends (to x);
  expected = λ x. expecting.expected (to x);
  sound = λ x. expecting.sound (to x);
  out_of_order = λ x. expecting.out_of_order (to x);
  received = λ x. expecting.received (to x);
}

module _ {S U L P F : Type 0} (to : S → U) (handled : S → ℕ → Cause L → Reaction S L) (Alike : S → S → Type 0) (all : Kind U L) (may : Allowed U L) (ways : Ways U L P F) where
  module _ (keeps : KindWays (kind_in to handled Alike all) (allowed_in to may) (ways_in to ways)) where
    pub moves_among : (x : S) (now : ℕ) (why : Cause L) → MayTell all may (to x) now why → Moves ways (to x) why (lift to (handled x now why)) (ways.injects (to x) now why) (ways.delivers (to x) now why)
    moves_among x now why h = moves_as to ways x why (handled x now why) (ways.injects (to x) now why) (ways.delivers (to x) now why) (keeps.moves x now why (told to handled Alike all may x now why h))

    pub leaves_among : (x : S) (now : ℕ) (why : Cause L) (p ch : ℕ) → MayTell all may (to x) now why → Leaves (ways.rows.carries ch) p now (ways.rows.free (to x) p) (handled x now why).actions (ways.rows.free (to (handled x now why).state) p)
    leaves_among x now why p ch h = keeps.leaves x now why p ch (told to handled Alike all may x now why h)

    pub way_among : (x : S) (now : ℕ) (why : Cause L) (f : F) → MayTell all may (to x) now why → ways.way (to (handled x now why).state) f ≡ ways.way (to x) f
    way_among x now why f h = keeps.way_stays x now why f (told to handled Alike all may x now why h)

    pub begins_among : (x : S) (now : ℕ) (why : Cause L) (f : F) → MayTell all may (to x) now why → ways.begins (to (handled x now why).state) f ≡ ways.begins (to x) f
    begins_among x now why f h = keeps.begins_stays x now why f (told to handled Alike all may x now why h)

  module _ (numbering : Numbering U P F) (keeps : KindNumbers (kind_in to handled Alike all) (allowed_in to may) (ways_in to ways) (numbering_in to numbering)) where
    pub numbers_among : (x : S) (now : ℕ) (why : Cause L) (f : F) (p ch : ℕ) → MayTell all may (to x) now why → numbering.sound (to x) ≡ true → ways.begins (to x) f ≡ Some (p, ch) → Counts numbering.number (numbering.count (to x) f) (flow_only ways f (ways.injects (to x) now why))
    numbers_among x now why f p ch h = keeps.numbers x now why f p ch (told to handled Alike all may x now why h)

    pub counts_among : (x : S) (now : ℕ) (why : Cause L) (f : F) (p ch : ℕ) → MayTell all may (to x) now why → numbering.sound (to x) ≡ true → ways.begins (to x) f ≡ Some (p, ch) →
        numbering.count (to (handled x now why).state) f ≡ numbering.count (to x) f + length (flow_only ways f (ways.injects (to x) now why))
    counts_among x now why f p ch h = keeps.counts x now why f p ch (told to handled Alike all may x now why h)

    pub sound_among : (x : S) (now : ℕ) (why : Cause L) → MayTell all may (to x) now why → numbering.sound (to x) ≡ true → numbering.sound (to (handled x now why).state) ≡ true
    sound_among x now why h = keeps.stays_sound x now why (told to handled Alike all may x now why h)

  module _ (numbering : Numbering U P F) (expecting : Expecting U P F) (keeps : KindExpects (kind_in to handled Alike all) (allowed_in to may) (ways_in to ways) (numbering_in to numbering) (expecting_in to expecting)) where
    pub expects_among : (x : S) (now : ℕ) (why : Cause L) → MayTell all may (to x) now why → expecting.sound (to x) ≡ true → AsExpected ways expecting numbering (to x) (ways.delivers (to x) now why) → Counted ways expecting (to x) (to (handled x now why).state) (ways.delivers (to x) now why)
    expects_among x now why h sound comes =
        let c = keeps.counts x now why (told to handled Alike all may x now why h) sound (record { ours = comes.ours; numbers = comes.numbers; small = comes.small }) in
        record { expected = c.expected; out_of_order = c.out_of_order; received = c.received }

    pub table_among : (x : S) (now : ℕ) (why : Cause L) → MayTell all may (to x) now why → expecting.sound (to x) ≡ true → expecting.sound (to (handled x now why).state) ≡ true
    table_among x now why h = keeps.stays_sound x now why (told to handled Alike all may x now why h)

    pub ends_among : (x : S) (now : ℕ) (why : Cause L) (f : F) → MayTell all may (to x) now why → expecting.ends (to (handled x now why).state) f ≡ expecting.ends (to x) f
    ends_among x now why f h = keeps.ends_stay x now why f (told to handled Alike all may x now why h)

    pub small_among : (x : S) (now : ℕ) (why : Cause L) → MayTell all may (to x) now why → numbering.sound (to x) ≡ true → AllByRecursion (λ p. numbering.number p < 2 ^ 64 - 1) (ways.injects (to x) now why)
    small_among x now why h = keeps.small x now why (told to handled Alike all may x now why h)
