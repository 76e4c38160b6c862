-- What leaves on a line, and queues that change.
use Rattle.std.proofs.Common.{◌≡◌, ℕ, zero, suc, ◌+◌, ◌≤◌, ◌<◌, Bool, true, false, eqb, List, [], ◌∷◌, length, Some, None, subst, arith}
use Rattle.ss_model.specs.declared.Action.{Action}
use Rattle.ss_model.specs.declared.Action.TheVariants as action
use Rattle.mr_flow.specs.declared.Packet.{Packet}
use Rattle.mr_flow.specs.declared.NetLoad.TheVariants as net
use Rattle.mr_flow.specs.declared.Load.{Load}
use Rattle.mr_flow.specs.declared.Load.TheVariants as load
use Rattle.mr_flow.specs.Queue.{Row, head, room, row_at}
use Rattle.mr_flow.specs.Side.{Side, IsWhole, departed, sent}
use Rattle.mr_flow.specs.Flow.{Departs}
use Rattle.mr_flow.proofs.Flows.{sent_departs}
use Rattle.mr_order.specs.Rows.{only_if, sends_all, Passing, Leaves}
use Rattle.mr_works.specs.Flows.{carries}
use Rattle.mr_works.proofs.Lists.{leaves_silent}

-- what is sent departs
pub departing : (s : Side) (now c : ℕ) (p : Packet) (extra : ℕ) → IsWhole s → sent s now ≡ Some (c, p, extra) → Departs s (departed s now (Some (c, p, extra))) now c p extra
departing s now c p extra whole is = subst (λ o. Departs s (departed s now o) now c p extra) is (sent_departs s now c p extra whole is)

-- a queue with room is one that is there
pub room_within : (qs : List Row) (c : ℕ) → 1 ≤ room (row_at qs c) → c < length qs
room_within [] c h = absurd (omega (arith, h))
room_within (q ∷ qs) zero h = omega arith
room_within (q ∷ qs) (suc c) h = let l = room_within qs c h in omega (arith, l)

pub head_within : (qs : List Row) (c : ℕ) (pk : Packet) → head (row_at qs c) ≡ Some pk → c < length qs
head_within [] c pk h = let e : None ≡ Some pk = h in absurd cc
head_within (q ∷ qs) zero pk h = omega arith
head_within (q ∷ qs) (suc c) pk h = let l = head_within qs c pk h in omega (arith, l)

-- a packet leaves no earlier than the line is free, which then is free when the packet has passed
pub one_leaves : (s new : Side) (now c : ℕ) (pk : Packet) (extra : ℕ) → Departs s new now c pk extra → (i p ch : ℕ) (more : List (Action Load)) → sends_all (carries ch) p more ≡ [] →
    Leaves (carries ch) p now s.line_free (action.Send i extra (load.Net (net.Packet c pk)) ∷ more) new.line_free
one_leaves s new now c pk extra d i p ch more none = by_port (eqb i p)
  where
    later : s.line_free ≤ new.line_free
    later = let a = d.free in let b = d.busy in omega (arith, a, b)

    by_channel : (b : Bool) → Passing (carries ch) (only_if b (pk ∷ [])) (now + extra) s.line_free (λ f. Leaves (carries ch) p now f more new.line_free)
    by_channel true = ((let a = d.free in omega (arith, a)), leaves_silent (carries ch) p now more (now + extra) new.line_free none (let b = d.busy in omega (arith, b)))
    by_channel false = leaves_silent (carries ch) p now more s.line_free new.line_free none later

    by_port : (b : Bool) → Passing (carries ch) (only_if b (only_if (eqb c ch) (pk ∷ []))) (now + extra) s.line_free (λ f. Leaves (carries ch) p now f more new.line_free)
    by_port true = by_channel (eqb c ch)
    by_port false = leaves_silent (carries ch) p now more s.line_free new.line_free none later
