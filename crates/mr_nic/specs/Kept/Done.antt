-- What is done stays done.
use Rattle.std.proofs.Common.{◌≡◌, ℕ, zero, suc, ◌+◌, ◌≤◌, Bool, true, false, cond, List, Option, Some, None, refl, sym, ap, ◌∙◌, subst, arith}
use Rattle.std.specs.Prelude.{nat_lt, nat_le, ◌&&◌, ◌==◌}
use Rattle.std.proofs.lemmas.Bool.Decides.{nat_tests}
use Rattle.ss_model.specs.declared.Cause.{Cause}
use Rattle.ss_model.specs.declared.Cause.TheVariants as cause
use Rattle.mr_flow.specs.declared.Packet.{Packet}
use Rattle.mr_flow.specs.declared.Load.{Load}
use Rattle.mr_flow.specs.declared.Load.TheVariants as load
use Rattle.mr_flow.specs.Queue.{head, room}
use Rattle.mr_flow.specs.Side.{input, output, arrived}
use Rattle.mr_nic.specs.declared.nic.Source.{Source}
use Rattle.mr_nic.specs.declared.nic.Source.TheVariants as source
use Rattle.mr_nic.specs.declared.nic.Endpoint.{Endpoint}
use Rattle.mr_nic.specs.Endpoint.{networks, next_packet, made, injected, sent_out, received_by, received_on, received_to, received_all, is_done_by, is_done, ticked, endpoint_handled}
use Rattle.mr_nic.specs.Kept.Judging.{both, and_true, eq_of, of_eq, le_of, of_le}
use Rattle.mr_nic.specs.Kept.Small.{next_above}

-- as much was sent, and as much or more received
record Later (n m : Endpoint) : Type 0 where
  source : m.source ≡ n.source
  total : m.total ≡ n.total
  sent : m.sent ≡ n.sent
  received : n.received ≤ m.received

later_same : (n : Endpoint) → Later n n
later_same n = record { source = refl; total = refl; sent = refl; received = omega arith }

later_then : (n m o : Endpoint) → Later n m → Later m o → Later n o
later_then n m o a b = record { source = b.source ∙ a.source; total = b.total ∙ a.total; sent = b.sent ∙ a.sent; received = omega (arith, a.received, b.received) }

done_by : (from : Source) (n m : Endpoint) → Later n m → is_done_by from n ≡ true → is_done_by from m ≡ true
done_by (source.Test verbose) n m l d =
    let a = both (n.sent == n.total) (nat_le n.total n.received) d in
    let s = eq_of n.sent n.total a.0 in
    let r = le_of n.total n.received a.1 in
    and_true _ _ (of_eq m.sent m.total (l.sent ∙ s ∙ sym l.total)) (of_le m.total m.received (omega (arith, l.total, l.received, r)))
done_by (source.Traffic pattern vn seed hot) n m l d = of_eq m.sent m.total (l.sent ∙ eq_of n.sent n.total d ∙ sym l.total)

done_later : (n m : Endpoint) → Later n m → is_done n ≡ true → is_done m ≡ true
unfolding is_done
done_later n m l d = subst (λ s. is_done_by s m ≡ true) (sym l.source) (done_by n.source n m l d)

sent_by : (from : Source) (n : Endpoint) → is_done_by from n ≡ true → n.sent ≡ n.total
sent_by (source.Test verbose) n d = eq_of n.sent n.total (both (n.sent == n.total) (nat_le n.total n.received) d).0
sent_by (source.Traffic pattern vn seed hot) n d = eq_of n.sent n.total d

all_sent : (n : Endpoint) → is_done n ≡ true → n.sent ≡ n.total
unfolding is_done
all_sent n d = sent_by n.source n d

-- where all was sent nothing is made
later_inject : (n : Endpoint) (now : ℕ) → n.sent ≡ n.total → Later n (injected n now)
unfolding injected
later_inject n now e = by_test (nat_lt n.sent n.total) refl
  where
    by_test : (b : Bool) → nat_lt n.sent n.total ≡ b → Later n (cond (b && nat_le n.flits (room (output n.link (next_packet n now).vn))) (made n (next_packet n now)) n)
    by_test true h = absurd (grind (arith, nat_tests))
    by_test false h = later_same n

later_send : (n : Endpoint) (now : ℕ) → Later n (sent_out n now).state
unfolding sent_out
later_send n now = record { source = refl; total = refl; sent = refl; received = omega arith }

later_by : (n : Endpoint) (now vn : ℕ) (o : Option Packet) → Later n (received_by n now vn o).state
later_by n now vn None = later_same n
later_by n now vn (Some p) = record { source = refl; total = refl; sent = refl; received = next_above n.received }

later_on : (n : Endpoint) (now vn : ℕ) → Later n (received_on n now vn).state
unfolding received_on
later_on n now vn = later_by n now vn (head (input n.link vn))

later_to : (n : Endpoint) (now k : ℕ) → Later n (received_to n now k).state
later_to n now zero = later_same n
later_to n now (suc k) = later_then n (received_to n now k).state (received_on (received_to n now k).state now k).state (later_to n now k) (later_on (received_to n now k).state now k)

later_all : (n : Endpoint) (now : ℕ) → Later n (received_all n now).state
unfolding received_all
later_all n now = later_to n now (networks n)

later_tick : (n : Endpoint) (now : ℕ) → n.sent ≡ n.total → Later n (ticked n now).state
unfolding ticked
later_tick n now e =
    let a = injected n now in
    let b = (sent_out a now).state in
    let c = (received_all b now).state in
    later_then n b c (later_then n a b (later_inject n now e) (later_send a now)) (later_all b now)

pub endpoint_done : (n : Endpoint) (now : ℕ) (why : Cause Load) → is_done n ≡ true → is_done (endpoint_handled n now why).state ≡ true
endpoint_done n now cause.Start d = done_later n (record n { begun = true }) (record { source = refl; total = refl; sent = refl; received = omega arith }) d
endpoint_done n now (cause.Link port (load.Core k)) d = d
endpoint_done n now (cause.Link port (load.Net y)) d = done_later n (record n { link = arrived n.link y }) (record { source = refl; total = refl; sent = refl; received = omega arith }) d
endpoint_done n now (cause.Own line y) d = d
endpoint_done n now (cause.Tick k) d = done_later n (ticked n now).state (later_tick n now (all_sent n d)) d
