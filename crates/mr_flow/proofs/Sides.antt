-- Sides of lines stay whole.
use Rattle.std.proofs.Common.{◌≡◌, ℕ, zero, suc, ◌+◌, ◌*◌, ◌-◌, ◌%◌, ◌^◌, ◌≤◌, ◌<◌, List, [], ◌∷◌, replicate, Option, None, Some, set, drop, min, sym, ◌∙◌, arith}
use Rattle.std.proofs.lemmas.List.{length-set, length-replicate}
use Rattle.std.proofs.lemmas.Nat.{mod_below}
use Rattle.mr_flow.specs.declared.Packet.{Packet}
use Rattle.mr_flow.specs.declared.NetLoad.{NetLoad}
use Rattle.mr_flow.specs.declared.NetLoad.TheVariants as load
use Rattle.mr_flow.specs.Queue.{Row, IsShort, IsHeld, flits_of, room, rest, added, empty_row, row_at}
use Rattle.mr_flow.specs.Side.{Side, IsWhole, IsSound, HasRoom, channels, input, output, credits_at, fresh, arrived, queued, taken, departed}
use Rattle.mr_flow.proofs.Rows.{flits_of-push}

-- the flits of the packets behind the first
flits_of-rest : (ps : List Packet) → flits_of (drop 1 ps) ≤ flits_of ps
flits_of-rest [] = omega arith
flits_of-rest (p ∷ ps) = omega arith

-- one queue changes, and each has the property still
pub each-set : (P : Row → Type 0) (qs : List Row) (c : ℕ) (q : Row) → ((k : ℕ) → P (row_at qs k)) → P q → (k : ℕ) → P (row_at (set qs c q) k)
each-set P [] c q all one k = all k
each-set P (x ∷ qs) zero q all one zero = one
each-set P (x ∷ qs) zero q all one (suc k) = all (suc k)
each-set P (x ∷ qs) (suc c) q all one zero = all zero
each-set P (x ∷ qs) (suc c) q all one (suc k) = each-set P qs c q (λ j. all (suc j)) one k

pub each-replicate : (P : Row → Type 0) (n : ℕ) (q : Row) → P (empty_row 0) → P q → (k : ℕ) → P (row_at (replicate n q) k)
each-replicate P zero q none one k = none
each-replicate P (suc n) q none one zero = one
each-replicate P (suc n) q none one (suc k) = each-replicate P n q none one k

pub whole_arrived : (s : Side) (l : NetLoad) → IsWhole s → IsWhole (arrived s l)
whole_arrived s (load.Packet c p) whole = record {
  few = whole.few;
  inputs = length-set s.inputs c (added (input s c) p) ∙ whole.inputs;
  outputs = whole.outputs;
  short_in = each-set (IsShort s.flit_time) s.inputs c (added (input s c) p) whole.short_in (whole.short_in c);
  short_out = whole.short_out;
}
whole_arrived s (load.Credit c f) whole =
    let e = length-set s.credits c (credits_at s c + f) in
    record {
      few = rw e whole.few;
      inputs = whole.inputs ∙ sym e;
      outputs = whole.outputs ∙ sym e;
      short_in = whole.short_in;
      short_out = whole.short_out;
    }

pub whole_queued : (s : Side) (c : ℕ) (p : Packet) → IsWhole s → IsWhole (queued s c p)
whole_queued s c p whole = record {
  few = whole.few;
  inputs = whole.inputs;
  outputs = length-set s.outputs c (added (output s c) p) ∙ whole.outputs;
  short_in = whole.short_in;
  short_out = each-set (IsShort s.flit_time) s.outputs c (added (output s c) p) whole.short_out (whole.short_out c);
}

pub whole_taken : (s : Side) (c : ℕ) → IsWhole s → IsWhole (taken s c)
whole_taken s c whole = record {
  few = whole.few;
  inputs = length-set s.inputs c (rest (input s c)) ∙ whole.inputs;
  outputs = whole.outputs;
  short_in = each-set (IsShort s.flit_time) s.inputs c (rest (input s c)) whole.short_in (whole.short_in c);
  short_out = whole.short_out;
}

-- a queue is read anew
pub whole_input : (s : Side) (c : ℕ) (q : Row) → q.capacity ≡ (input s c).capacity → IsWhole s → IsWhole (record s { inputs = set s.inputs c q })
whole_input s c q same whole = record {
  few = whole.few;
  inputs = length-set s.inputs c q ∙ whole.inputs;
  outputs = whole.outputs;
  short_in = each-set (IsShort s.flit_time) s.inputs c q whole.short_in (let h = whole.short_in c in rw same h);
  short_out = whole.short_out;
}

pub whole_output : (s : Side) (c : ℕ) (q : Row) → q.capacity ≡ (output s c).capacity → IsWhole s → IsWhole (record s { outputs = set s.outputs c q })
whole_output s c q same whole = record {
  few = whole.few;
  inputs = whole.inputs;
  outputs = length-set s.outputs c q ∙ whole.outputs;
  short_in = whole.short_in;
  short_out = each-set (IsShort s.flit_time) s.outputs c q whole.short_out (let h = whole.short_out c in rw same h);
}

pub whole_fresh : (count i o credits t : ℕ) → i * t ≤ 2 ^ 40 → o * t ≤ 2 ^ 40 → IsWhole (fresh count i o credits t)
whole_fresh count i o credits t hi ho =
    let n = min count 256 in
    let e = length-replicate n credits in
    let none : 0 * t ≤ 2 ^ 40 = grind arith in
    record {
      few = rw e (omega arith);
      inputs = length-replicate n (empty_row i) ∙ sym e;
      outputs = length-replicate n (empty_row o) ∙ sym e;
      short_in = each-replicate (IsShort t) n (empty_row i) none hi;
      short_out = each-replicate (IsShort t) n (empty_row o) none ho;
    }

pub whole_departed : (s : Side) (now : ℕ) (o : Option (ℕ × Packet × ℕ)) → IsWhole s → IsWhole (departed s now o)
whole_departed s now None whole = whole
whole_departed s now (Some (c, p, extra)) whole =
    let e = length-set s.credits c (credits_at s c - p.flits) in
    record {
      few = rw e whole.few;
      inputs = whole.inputs ∙ sym e;
      outputs = length-set s.outputs c (rest (output s c)) ∙ whole.outputs ∙ sym e;
      short_in = whole.short_in;
      short_out = each-set (IsShort s.flit_time) s.outputs c (rest (output s c)) whole.short_out (whole.short_out c);
    }

-- ---- sound

held_added : (q : Row) (p : Packet) → IsHeld q → p.flits ≤ room q → IsHeld (added q p)
held_added q p fit h = omega (arith, flits_of-push q.packets p)

held_rest : (q : Row) → IsHeld q → IsHeld (rest q)
held_rest q fit = omega (arith, flits_of-rest q.packets)

pub sound_arrived : (s : Side) (l : NetLoad) → IsSound s → HasRoom s l → IsSound (arrived s l)
sound_arrived s (load.Packet c p) sound h = record {
  turn = sound.turn;
  held = each-set IsHeld s.inputs c (added (input s c) p) sound.held (held_added (input s c) p (sound.held c) h.1);
  waiting = sound.waiting;
}
sound_arrived s (load.Credit c f) sound h =
    let e = length-set s.credits c (credits_at s c + f) in
    record { turn = rw e sound.turn; held = sound.held; waiting = sound.waiting }

pub sound_queued : (s : Side) (c : ℕ) (p : Packet) → IsSound s → p.flits ≤ room (output s c) → IsSound (queued s c p)
sound_queued s c p sound h = record {
  turn = sound.turn;
  held = sound.held;
  waiting = each-set IsHeld s.outputs c (added (output s c) p) sound.waiting (held_added (output s c) p (sound.waiting c) h);
}

pub sound_taken : (s : Side) (c : ℕ) → IsSound s → IsSound (taken s c)
sound_taken s c sound = record {
  turn = sound.turn;
  held = each-set IsHeld s.inputs c (rest (input s c)) sound.held (held_rest (input s c) (sound.held c));
  waiting = sound.waiting;
}

pub sound_fresh : (count i o credits t : ℕ) → IsSound (fresh count i o credits t)
sound_fresh count i o credits t =
    let n = min count 256 in
    record {
      turn = omega arith;
      held = each-replicate IsHeld n (empty_row i) (omega arith) (omega arith);
      waiting = each-replicate IsHeld n (empty_row o) (omega arith) (omega arith);
    }

-- the turn after a channel is another's, or its own
next_turn : (c n : ℕ) → 0 < n → (c + 1) % n ≤ n - 1
next_turn c n some = let h = mod_below (c + 1) n some in omega arith

pub sound_departed : (s : Side) (now c : ℕ) (p : Packet) (extra : ℕ) → c < channels s → IsSound s → IsSound (departed s now (Some (c, p, extra)))
sound_departed s now c p extra here sound =
    let e = length-set s.credits c (credits_at s c - p.flits) in
    record {
      turn = rw e (next_turn c (channels s) (omega arith));
      held = sound.held;
      waiting = each-set IsHeld s.outputs c (rest (output s c)) sound.waiting (held_rest (output s c) (sound.waiting c));
    }
