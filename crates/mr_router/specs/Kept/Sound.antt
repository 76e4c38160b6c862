-- Ports that fit, and what keeps them so.
use Rattle.std.proofs.Common.{◌≡◌, ℕ, zero, suc, ◌+◌, ◌/◌, ◌^◌, ◌<◌, ◌≤◌, Bool, true, false, List, [], ◌∷◌, length, cond, refl, sym, ap, ◌∙◌, arith}
use Rattle.std.specs.Prelude.{◌||◌, ◌==◌, nat_lt}
use Rattle.std.proofs.lemmas.Bool.{ltb-false}
use Rattle.std.proofs.lemmas.List.Sums.{sum_by-cons}
use Rattle.mr_flow.specs.declared.Packet.{Packet}
use Rattle.mr_flow.specs.declared.Bounds.{Bounds}
use Rattle.mr_flow.specs.Queue.{Row, row_at, is_waiting, waiting_in}
use Rattle.mr_flow.specs.Side.{Side, channels, input, output, credits_at, is_idle}
use Rattle.mr_router.specs.declared.settings.RouterSettings.{RouterSettings}
use Rattle.mr_router.specs.declared.port.Port.{Port}
use Rattle.mr_router.specs.Network.{leads}
use Rattle.mr_router.specs.Fitting.{peer_of, lanes, bounds_of, lane_fits, port_fits}
use Rattle.mr_router.specs.Kept.Judging.{both, and_true, le_of, of_le, lt_of, of_lt, eq_of, of_eq, each_of, of_each, RowFits, row_of, of_row, row_later}

-- what stands at a channel
pub record LaneSound (b : Bounds) (vn at most : ℕ) (i o : Row) (left : ℕ) : Type 0 where
  pub input : RowFits b vn at i
  pub output : RowFits b vn at o
  pub credits : left ≤ most

-- all queues are empty
pub record IsEmpty (s : Side) : Type 0 where
  pub inputs : (c : ℕ) → (input s c).packets ≡ []
  pub outputs : (c : ℕ) → (output s c).packets ≡ []

no_length : (ps : List Packet) → nat_lt 0 (length ps) ≡ false → ps ≡ []
no_length [] h = refl
no_length (p ∷ ps) h = absurd (let l = ltb-false 0 (length (p ∷ ps)) h in omega arith)

waiting-cons : (b : Bool) (n : ℕ) → cond b 1 0 + n ≡ 0 → (b ≡ false) × (n ≡ 0)
waiting-cons true n h = absurd (omega arith)
waiting-cons false n h = (refl, omega arith)

waiting-more : (q : Row) (qs : List Row) → waiting_in (q ∷ qs) ≡ cond (is_waiting q) 1 0 + waiting_in qs
waiting-more q qs = sum_by-cons (λ r. cond (is_waiting r) 1 0) q qs

pub none_waits : (qs : List Row) (c : ℕ) → waiting_in qs ≡ 0 → (row_at qs c).packets ≡ []
none_waits [] c h = refl
none_waits (q ∷ qs) zero h = no_length q.packets (waiting-cons (is_waiting q) (waiting_in qs) (sym (waiting-more q qs) ∙ h)).0
none_waits (q ∷ qs) (suc c) h = none_waits qs c (waiting-cons (is_waiting q) (waiting_in qs) (sym (waiting-more q qs) ∙ h)).1

pub all_empty : (qs : List Row) → ((c : ℕ) → (row_at qs c).packets ≡ []) → waiting_in qs ≡ 0
all_empty [] h = refl
all_empty (q ∷ qs) h =
    let e = all_empty qs (λ c. h (suc c)) in
    let none : ◌≡◌ {A = ℕ} (cond {A = ℕ} (is_waiting q) 1 0) 0 = ap (λ (ps : List Packet). cond {A = ℕ} (nat_lt 0 (length ps)) 1 0) (h 0) in
    omega (arith, waiting-more q qs, none, e)

pub empty_of : (s : Side) → is_idle s ≡ true → IsEmpty s
empty_of s h =
    let a = both (waiting_in s.inputs == 0) (waiting_in s.outputs == 0) h in
    record { inputs = λ c. none_waits s.inputs c (eq_of _ _ a.0); outputs = λ c. none_waits s.outputs c (eq_of _ _ a.1) }

pub of_empty : (s : Side) → IsEmpty s → is_idle s ≡ true
of_empty s e = and_true _ _ (of_eq _ _ (all_empty s.inputs e.inputs)) (of_eq _ _ (all_empty s.outputs e.outputs))

pub record PortSound (x : RouterSettings) (at i : ℕ) (p : Port) : Type 0 where
  pub line : p.line.line_free ≤ at + 2 ^ 40
  pub in_free : p.in_free ≤ at + 2 ^ 40
  pub cross_free : p.cross_free ≤ at + 2 ^ 40
  pub turn : p.line.pump < channels p.line
  pub empty : leads (peer_of x i) ≡ false → IsEmpty p.line
  pub each : (c : ℕ) → c < channels p.line → LaneSound (bounds_of x) (c / lanes x i) at p.most (input p.line c) (output p.line c) (credits_at p.line c)

lane_of_fit : (x : RouterSettings) (at i : ℕ) (p : Port) (c : ℕ) → lane_fits x at i p c ≡ true → LaneSound (bounds_of x) (c / lanes x i) at p.most (input p.line c) (output p.line c) (credits_at p.line c)
lane_of_fit x at i p c h =
    let a = both _ _ h in
    let b = both _ _ a.1 in
    record {
      input = row_of (bounds_of x) (c / lanes x i) at (input p.line c) a.0;
      output = row_of (bounds_of x) (c / lanes x i) at (output p.line c) b.0;
      credits = le_of (credits_at p.line c) p.most b.1;
    }

fit_of_lane : (x : RouterSettings) (at i : ℕ) (p : Port) (c : ℕ) → LaneSound (bounds_of x) (c / lanes x i) at p.most (input p.line c) (output p.line c) (credits_at p.line c) → lane_fits x at i p c ≡ true
fit_of_lane x at i p c s = and_true _ _ (of_row (bounds_of x) (c / lanes x i) at (input p.line c) s.input) (and_true _ _ (of_row (bounds_of x) (c / lanes x i) at (output p.line c) s.output) (of_le (credits_at p.line c) p.most s.credits))

or_else : (a b : Bool) → a || b ≡ true → a ≡ false → b ≡ true
or_else true b h e = absurd cc
or_else false b h e = h

else_or : (a b : Bool) → (a ≡ false → b ≡ true) → a || b ≡ true
else_or true b h = refl
else_or false b h = h refl

pub sound_of : (x : RouterSettings) (at i : ℕ) (p : Port) → port_fits x at i p ≡ true → PortSound x at i p
sound_of x at i p h =
    let a = both _ _ h in
    let b = both _ _ a.1 in
    let c = both _ _ b.1 in
    let d = both _ _ c.1 in
    let e = both _ _ d.1 in
    record {
      line = le_of p.line.line_free (at + 2 ^ 40) a.0;
      in_free = le_of p.in_free (at + 2 ^ 40) b.0;
      cross_free = le_of p.cross_free (at + 2 ^ 40) c.0;
      turn = lt_of p.line.pump (channels p.line) d.0;
      empty = λ no. empty_of p.line (or_else (leads (peer_of x i)) (is_idle p.line) e.0 no);
      each = λ k l. lane_of_fit x at i p k (each_of (lane_fits x at i p) (channels p.line) k e.1 l);
    }

pub of_sound : (x : RouterSettings) (at i : ℕ) (p : Port) → PortSound x at i p → port_fits x at i p ≡ true
of_sound x at i p s =
    and_true _ _ (of_le p.line.line_free (at + 2 ^ 40) s.line)
    (and_true _ _ (of_le p.in_free (at + 2 ^ 40) s.in_free)
    (and_true _ _ (of_le p.cross_free (at + 2 ^ 40) s.cross_free)
    (and_true _ _ (of_lt p.line.pump (channels p.line) s.turn)
    (and_true _ _ (else_or (leads (peer_of x i)) (is_idle p.line) (λ no. of_empty p.line (s.empty no)))
    (of_each (lane_fits x at i p) (channels p.line) (λ k l. fit_of_lane x at i p k (s.each k l)))))))

pub sound_later : (x : RouterSettings) (at later i : ℕ) (p : Port) → at ≤ later → PortSound x at i p → PortSound x later i p
sound_later x at later i p up s = record {
  line = omega (arith, s.line);
  in_free = omega (arith, s.in_free);
  cross_free = omega (arith, s.cross_free);
  turn = s.turn;
  empty = s.empty;
  each = λ c l. let a = s.each c l in record { input = row_later _ _ at later _ up a.input; output = row_later _ _ at later _ up a.output; credits = a.credits };
}
