-- A fitting endpoint, in words.
use Rattle.std.proofs.Common.{◌≡◌, ℕ, ◌+◌, ◌^◌, ◌<◌, ◌≤◌, Bool, true, false, cond, eqb, refl, arith}
use Rattle.std.specs.Prelude.{◌&&◌, nat_le, nat_lt}
use Rattle.std.specs.List.{list_all, range_with_len}
use Rattle.mr_flow.specs.Load.{row_fits}
use Rattle.mr_flow.specs.Queue.{flits_of}
use Rattle.mr_flow.specs.Side.{input, output, credits_at}
use Rattle.mr_nic.specs.declared.nic.Endpoint.{Endpoint}
use Rattle.mr_nic.specs.Endpoint.{networks}
use Rattle.mr_nic.specs.Kind.{bounds_of, lane_fits, endpoint_fits, channels_in, channels_of}
use Rattle.mr_nic.specs.Kept.Lanes.{lanes_within}
use Rattle.mr_nic.specs.Kept.Judging.{both, and_true, le_of, of_le, lt_of, of_lt, each_of, of_each, RowFits, row_of, of_row, row_later}

pub record LaneFits (n : Endpoint) (at vn : ℕ) : Type 0 where
  pub input : RowFits (bounds_of n) vn at (input n.link vn)
  pub output : RowFits (bounds_of n) vn at (output n.link vn)
  pub credits : credits_at n.link vn ≤ n.most

pub record EndpointFits (n : Endpoint) (at : ℕ) : Type 0 where
  pub free : n.link.line_free ≤ at + 2 ^ 40
  pub turn : n.link.pump < networks n
  pub lanes : (vn : ℕ) → vn < networks n → LaneFits n at vn
  pub sent : n.sent ≤ n.total

lane_of : (n : Endpoint) (at vn : ℕ) → lane_fits n at vn ≡ true → LaneFits n at vn
unfolding lane_fits
lane_of n at vn h =
    let a = both (row_fits (bounds_of n) vn at (input n.link vn)) (row_fits (bounds_of n) vn at (output n.link vn) && nat_le (credits_at n.link vn) n.most) h in
    let b = both (row_fits (bounds_of n) vn at (output n.link vn)) (nat_le (credits_at n.link vn) n.most) a.1 in
    record { input = row_of (bounds_of n) vn at (input n.link vn) a.0; output = row_of (bounds_of n) vn at (output n.link vn) b.0; credits = le_of (credits_at n.link vn) n.most b.1 }

of_lane : (n : Endpoint) (at vn : ℕ) → LaneFits n at vn → lane_fits n at vn ≡ true
unfolding lane_fits
of_lane n at vn f = and_true _ _ (of_row (bounds_of n) vn at (input n.link vn) f.input) (and_true _ _ (of_row (bounds_of n) vn at (output n.link vn) f.output) (of_le (credits_at n.link vn) n.most f.credits))

pub fit_of : (n : Endpoint) (at : ℕ) → endpoint_fits n at ≡ true → EndpointFits n at
unfolding endpoint_fits
fit_of n at h =
    let all = list_all (lane_fits n at) (range_with_len 0 (networks n)) in
    let a = both (nat_le n.link.line_free (at + 2 ^ 40)) (nat_lt n.link.pump (networks n) && (all && nat_le n.sent n.total)) h in
    let b = both (nat_lt n.link.pump (networks n)) (all && nat_le n.sent n.total) a.1 in
    let c = both all (nat_le n.sent n.total) b.1 in
    record {
      free = le_of n.link.line_free (at + 2 ^ 40) a.0;
      turn = lt_of n.link.pump (networks n) b.0;
      lanes = λ vn l. lane_of n at vn (each_of (lane_fits n at) (networks n) vn c.0 l);
      sent = le_of n.sent n.total c.1;
    }

pub of_fit : (n : Endpoint) (at : ℕ) → EndpointFits n at → endpoint_fits n at ≡ true
unfolding endpoint_fits
of_fit n at f =
    and_true _ _ (of_le n.link.line_free (at + 2 ^ 40) f.free) (and_true _ _ (of_lt n.link.pump (networks n) f.turn) (and_true _ _ (of_each (lane_fits n at) (networks n) (λ vn l. of_lane n at vn (f.lanes vn l))) (of_le n.sent n.total f.sent)))

pub fit_later : (n : Endpoint) (at later : ℕ) → at ≤ later → endpoint_fits n at ≡ true → endpoint_fits n later ≡ true
fit_later n at later up h =
    let f = fit_of n at h in
    of_fit n later (record {
      free = omega (arith, f.free);
      turn = f.turn;
      lanes = λ vn l. let k = f.lanes vn l in record { input = row_later (bounds_of n) vn at later (input n.link vn) up k.input; output = row_later (bounds_of n) vn at later (output n.link vn) up k.output; credits = k.credits };
      sent = f.sent;
    })

-- a queue that fits holds no more than it may
pub few_flits : (n : Endpoint) (at vn : ℕ) → endpoint_fits n at ≡ true → vn < networks n → flits_of (input n.link vn).packets ≤ (input n.link vn).capacity
few_flits n at vn h l = let f = fit_of n at h in (f.lanes vn l).input.held

-- what is below the channels of a port is a network
below_channels : (b : Bool) (vn k : ℕ) → vn < cond b k 0 → vn < k
below_channels true vn k h = h
below_channels false vn k h = absurd (omega (arith, h))

pub below_lanes : (n : Endpoint) (port vn : ℕ) → vn < channels_of n port → vn < channels_in n
below_lanes n port vn h = below_channels (eqb port 0) vn (channels_in n) h

pub within_networks : (n : Endpoint) (port vn : ℕ) → vn < channels_of n port → vn < networks n
within_networks n port vn h = let l = below_lanes n port vn h in let k = lanes_within n.link in omega (arith, l, k)
