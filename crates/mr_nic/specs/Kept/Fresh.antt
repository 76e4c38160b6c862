-- An endpoint that was made is as every endpoint has to be, and can begin.
use Rattle.std.proofs.Common.{◌≡◌, ℕ, zero, suc, ◌+◌, ◌-◌, ◌*◌, ◌^◌, ◌<◌, ◌≤◌, Bool, true, false, cond, min, List, [], ◌∷◌, length, replicate, refl, sym, ap, ◌∙◌, subst, arith}
use Rattle.std.specs.Prelude.{◌&&◌, ◌==◌, slice_index}
use Rattle.std.proofs.lemmas.List.{length-replicate}
use Rattle.ss_stats.specs.Set.{Entry}
use Rattle.ss_tally.specs.Tally.{StatsFit}
use Rattle.mr_flow.specs.declared.Bounds.{Bounds}
use Rattle.mr_flow.specs.Queue.{Row, flits_of, empty_row, row_at, waiting_in}
use Rattle.mr_flow.specs.Side.{Side, channels, input, output, credits_at, fresh, is_idle}
use Rattle.mr_flow.proofs.Sides.{each-replicate, whole_fresh}
use Rattle.mr_flow.proofs.Rows.{waiting_in-replicate}
use Rattle.mr_link.specs.declared.NicSettings.{NicSettings}
use Rattle.mr_nic.specs.declared.nic.Source.{Source}
use Rattle.mr_nic.specs.declared.nic.Source.TheVariants as source
use Rattle.mr_nic.specs.declared.nic.Endpoint.{Endpoint}
use Rattle.mr_nic.specs.declared.pattern.Pattern.{Pattern}
use Rattle.mr_nic.specs.Pattern.{destination, IsFor}
use Rattle.mr_nic.specs.Endpoint.{networks, SourceFits, endpoint_by, test_nic, packets_to_send, traffic_gen}
use Rattle.mr_nic.specs.Saved.{numbers_form}
use Rattle.mr_nic.specs.Kind.{bounds_of, EndpointHolds, EndpointFirst, NicFits, CanBegin, endpoint_fits}
use Rattle.mr_nic.specs.Kept.Judging.{RowFits}
use Rattle.mr_nic.specs.Kept.Fitting.{EndpointFits, of_fit}

zeros_fit : (k : ℕ) → (numbers_form (replicate k 0)).Fits (replicate k 0)
zeros_fit zero = refl
zeros_fit (suc k) = (omega arith, zeros_fit k)

empty_fits : (b : Bounds) (vn at capacity : ℕ) → RowFits b vn at (empty_row capacity)
empty_fits b vn at capacity = record { held = omega arith; packets = refl }

module _ (set : NicSettings) (total flits : ℕ) (from : Source) (next : List ℕ) (stats : List Entry) (f : NicFits set flits) where
  nets : min set.vns 256 ≡ set.vns
  nets = omega (arith, f.few.1)

  count : length (replicate (min set.vns 256) set.credits) ≡ set.vns
  count = length-replicate (min set.vns 256) set.credits ∙ nets

  pub made_holds : total < 2 ^ 64 → SourceFits from (endpoint_by set total flits from next stats) → StatsFit stats → (numbers_form next).Fits next → EndpointHolds (endpoint_by set total flits from next stats)
  made_holds small source fit numbers = record {
    peers = f.peers;
    here = f.here;
    some = omega (arith, count, f.some);
    count = count;
    few = f.few.1;
    source = source;
    places = refl;
    stats = fit;
    whole = whole_fresh set.vns set.input_flits set.output_flits set.credits set.flit_time f.input f.output;
    flits = f.size;
    sizes = (f.few.0, f.sizes.0, f.sizes.1, small);
    inputs = each-replicate (λ q. q.capacity < 2 ^ 32) (min set.vns 256) (empty_row set.input_flits) (omega arith) f.sizes.2;
    outputs = each-replicate (λ q. q.capacity < 2 ^ 32) (min set.vns 256) (empty_row set.output_flits) (omega arith) f.sizes.3;
    received = omega arith;
    expected = zeros_fit (set.peers * set.vns);
    next = numbers;
  }

  idle_made : is_idle (fresh set.vns set.input_flits set.output_flits set.credits set.flit_time) ≡ true
  idle_made =
      ap (λ k. (k == 0) && (waiting_in (replicate (min set.vns 256) (empty_row set.output_flits)) == 0)) (waiting_in-replicate (min set.vns 256) set.input_flits)
      ∙ ap (λ k. (0 == 0) && (k == 0)) (waiting_in-replicate (min set.vns 256) set.output_flits)

  pub made_first : EndpointFirst (endpoint_by set total flits from next stats)
  made_first = record { begun = refl; sent = refl; received = refl; idle = idle_made }

  credits_of_fresh : (vn : ℕ) → vn < min set.vns 256 → credits_at (fresh set.vns set.input_flits set.output_flits set.credits set.flit_time) vn ≡ set.credits
  credits_of_fresh vn l = at_place (min set.vns 256) vn l
    where
      at_place : (n k : ℕ) → k < n → slice_index (replicate n set.credits) k ≡ set.credits
      at_place zero k l = absurd (omega arith)
      at_place (suc n) zero l = refl
      at_place (suc n) (suc k) l = at_place n k (omega (arith, l))

  pub made_fits : endpoint_fits (endpoint_by set total flits from next stats) 1 ≡ true
  made_fits = of_fit (endpoint_by set total flits from next stats) 1 (record {
    free = omega arith;
    turn = omega (arith, count, f.some);
    lanes = λ vn l. record {
      input = each-replicate (λ q. RowFits (bounds_of (endpoint_by set total flits from next stats)) vn 1 q) (min set.vns 256) (empty_row set.input_flits) (empty_fits _ vn 1 0) (empty_fits _ vn 1 set.input_flits) vn;
      output = each-replicate (λ q. RowFits (bounds_of (endpoint_by set total flits from next stats)) vn 1 q) (min set.vns 256) (empty_row set.output_flits) (empty_fits _ vn 1 0) (empty_fits _ vn 1 set.output_flits) vn;
      credits = (let k = credits_of_fresh vn (omega (arith, l, count, nets)) in omega (arith, k));
    };
    sent = omega arith;
  })

message_count : (peers messages : ℕ) → peers < 2 ^ 32 → messages < 2 ^ 32 → (peers - 1) * messages < 2 ^ 64
message_count peers messages p m = grind arith

pub test_begins : (set : NicSettings) (messages flits : ℕ) (verbose : Bool) (stats : List Entry) → NicFits set flits → messages < 2 ^ 32 → StatsFit stats → CanBegin (test_nic set messages flits verbose stats)
test_begins set messages flits verbose stats f few fit =
    let total = (set.peers - 1) * messages in
    record {
      holds = made_holds set total flits (source.Test verbose) [] stats f (message_count set.peers messages f.few.0 few) tt fit refl;
      first = made_first set total flits (source.Test verbose) [] stats f;
      fit = made_fits set total flits (source.Test verbose) [] stats f;
    }

pub traffic_begins : (set : NicSettings) (pattern : Pattern) (packets flits vn seed hot : ℕ) (stats : List Entry) → NicFits set flits → packets < 2 ^ 32 → vn < set.vns → hot < set.peers → IsFor pattern set.peers → StatsFit stats → CanBegin (traffic_gen set pattern packets flits vn seed hot stats)
traffic_begins set pattern packets flits vn seed hot stats f few net there shape fit =
    let total = packets_to_send pattern set packets seed hot in
    let from = source.Traffic pattern vn seed hot in
    let next = replicate set.peers 0 in
    let k = count set total flits from next stats f in
    record {
      holds = made_holds set total flits from next stats f (small (destination pattern set.id set.peers 0 seed hot == set.id)) (omega (arith, k, net), there, shape) fit (zeros_fit set.peers);
      first = made_first set total flits from next stats f;
      fit = made_fits set total flits from next stats f;
    }
  where
    small : (b : Bool) → cond b 0 packets < 2 ^ 64
    small true = omega arith
    small false = omega (arith, few)
