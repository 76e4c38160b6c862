-- A tick that makes no packet and asks for nothing is followed by ticks that change nothing, until the line is free.
use Rattle.std.proofs.Common.{◌≡◌, ℕ, zero, suc, ◌-◌, ◌<◌, ◌≤◌, ◌^◌, Bool, true, false, cond, List, [], ◌∷◌, ◌++◌, length, Option, None, Some, refl, sym, ap, ◌∙◌, subst, arith}
use Rattle.std.specs.Prelude.{nat_lt, nat_le, not, ◌&&◌, option_and_then}
use Rattle.std.proofs.lemmas.Bool.Decides.{nat_tests}
use Rattle.ss_model.specs.declared.Action.{Action}
use Rattle.ss_model.specs.Step.{Reaction}
use Rattle.mr_flow.specs.declared.Packet.{Packet}
use Rattle.mr_flow.specs.declared.Load.{Load}
use Rattle.mr_flow.specs.Queue.{room, head}
use Rattle.mr_flow.specs.Side.{Side, input, output, next_channel, leaving, sent, departed}
use Rattle.mr_nic.specs.declared.nic.Source.{Source}
use Rattle.mr_nic.specs.declared.nic.Source.TheVariants as source
use Rattle.mr_nic.specs.declared.nic.Endpoint.{Endpoint}
use Rattle.mr_nic.specs.Endpoint.{networks, still, then_, packet_by, next_packet, made, injected, sends_packet, sent_out, received_by, received_on, received_to, received_all, is_done, is_verbose, tells, rests, ended, ticked}
use Rattle.mr_nic.specs.Quiet.{IsQuiet, same_until}

-- ---- lists

none_more : {A : Type 0} (xs ys : List A) → length (xs ++ ys) ≡ length xs → ys ≡ []
none_more [] [] h = refl
none_more [] (y ∷ ys) h = absurd (omega (arith, h))
none_more (x ∷ xs) ys h = none_more xs ys (omega (arith, h))

none_in : {A : Type 0} (xs ys : List A) → xs ++ ys ≡ [] → (xs ≡ []) × (ys ≡ [])
none_in [] ys h = (refl, h)
none_in (x ∷ xs) ys h = absurd cc

-- ---- first: no packet is made

same_network_by : (from : Source) (n : Endpoint) (now t : ℕ) → (packet_by from n now).vn ≡ (packet_by from n t).vn
same_network_by (source.Test verbose) n now t = refl
same_network_by (source.Traffic pattern vn seed hot) n now t = refl

same_network : (n : Endpoint) (now t : ℕ) → (next_packet n now).vn ≡ (next_packet n t).vn
unfolding next_packet
same_network n now t = same_network_by n.source n now t

not_made : (n : Endpoint) (p : Packet) (b : Bool) → (cond b (made n p) n).sent ≡ n.sent → b ≡ false
not_made n p true h = absurd (omega (arith, h))
not_made n p false h = refl

makes_none : (n : Endpoint) (now t : ℕ) → (injected n now).sent ≡ n.sent → injected n t ≡ n
unfolding injected
makes_none n now t h =
    let may : ℕ → Bool = λ vn. nat_lt n.sent n.total && nat_le n.flits (room (output n.link vn)) in
    let no : may (next_packet n now).vn ≡ false = not_made n (next_packet n now) (may (next_packet n now).vn) h in
    ap (λ b. cond b (made n (next_packet n t)) n) (ap may (same_network n t now) ∙ no)

-- ---- second: the line takes none

goes_none : (o : Option (ℕ × Packet × ℕ)) → sends_packet o ≡ [] → o ≡ None
goes_none None h = refl
goes_none (Some (c, p, extra)) h = absurd cc

sends_none : (n : Endpoint) (now : ℕ) → (sent_out n now).actions ≡ [] → sent n.link now ≡ None
unfolding sent_out
sends_none n now h = goes_none (sent n.link now) h

stays_by : (s : Side) (now t : ℕ) (b : Bool) → nat_lt now s.line_free ≡ b → cond b None (option_and_then (leaving s) (next_channel s)) ≡ None → now ≤ t → t < cond b s.line_free (2 ^ 64 - 1) → sent s t ≡ None
stays_by s now t true e h low high =
    let busy : nat_lt t s.line_free ≡ true = grind (arith, nat_tests) in
    ap (λ b. cond b None (option_and_then (leaving s) (next_channel s))) busy
stays_by s now t false e h low high =
    let free : nat_lt t s.line_free ≡ false = grind (arith, nat_tests) in
    ap (λ b. cond b None (option_and_then (leaving s) (next_channel s))) free ∙ h

stays_none : (s : Side) (now t : ℕ) → sent s now ≡ None → now ≤ t → t < same_until s.line_free now → sent s t ≡ None
stays_none s now t h low high = stays_by s now t (nat_lt now s.line_free) refl h low high

still_out : (n : Endpoint) (t : ℕ) → sent n.link t ≡ None → sent_out n t ≡ still n
unfolding sent_out
still_out n t h = ap {B = Reaction Endpoint Load} (λ o. record { state = record n { link = departed n.link t o }; actions = sends_packet o }) h

-- ---- third: none is received

takes_none : (n : Endpoint) (now vn : ℕ) (o : Option Packet) → (received_by n now vn o).actions ≡ [] → o ≡ None
takes_none n now vn None h = refl
takes_none n now vn (Some p) h = absurd cc

still_on : (n : Endpoint) (now t vn : ℕ) → (received_on n now vn).actions ≡ [] → received_on n t vn ≡ still n
unfolding received_on
still_on n now t vn h = ap (received_by n t vn) (takes_none n now vn (head (input n.link vn)) h)

still_to : (n : Endpoint) (now t k : ℕ) → (received_to n now k).actions ≡ [] → received_to n t k ≡ still n
still_to n now t zero h = refl
still_to n now t (suc k) h =
    let parts = none_in (received_to n now k).actions (received_on (received_to n now k).state now k).actions h in
    let before : received_to n now k ≡ still n = still_to n now now k parts.0 in
    let none : (received_on n now k).actions ≡ [] = subst (λ (r : Reaction Endpoint Load). (received_on r.state now k).actions ≡ []) before parts.1 in
    ap (λ r. then_ r (λ m. received_on m t k)) (still_to n now t k parts.0) ∙ still_on n now t k none

still_all : (n : Endpoint) (now t : ℕ) → (received_all n now).actions ≡ [] → received_all n t ≡ still n
unfolding received_all
still_all n now t h = still_to n now t (networks n) h

-- ---- fourth and fifth: nothing is told, and the clock stays on

tells_none : (verbose done : Bool) (told : List (Action Load)) → cond (verbose && (not done && done)) told [] ≡ []
tells_none true true told = refl
tells_none true false told = refl
tells_none false done told = refl

still_ended : (n : Endpoint) (t : ℕ) → rests n ≡ [] → ended (is_done n) n t ≡ still n
still_ended n t h =
    let none : tells (is_done n) n t ≡ [] = tells_none (is_verbose n.source) (is_done n) _ in
    ap {B = Reaction Endpoint Load} (λ xs. record { state = n; actions = xs }) (ap (λ xs. xs ++ rests n) none ∙ h)

-- ---- the whole

-- what a tick that changes nothing shows of the endpoint
record Stays (n : Endpoint) (now : ℕ) : Type 0 where
  state : (ticked n now).state ≡ n
  makes : (injected n now).sent ≡ n.sent
  sends : sent n.link now ≡ None
  receives : (received_all n now).actions ≡ []
  rests : rests n ≡ []

stays : (n : Endpoint) (now : ℕ) → (ticked n now).state.sent ≡ n.sent → (ticked n now).actions ≡ [] → Stays n now
unfolding ticked
stays n now few none =
    let i = injected n now in
    let o = sent_out i now in
    let r = received_all o.state now in
    let a = none_in (o.actions ++ r.actions) (ended (is_done n) r.state now).actions none in
    let b = none_in o.actions r.actions a.0 in
    let sends : sent i.link now ≡ None = sends_none i now b.0 in
    let out : o.state ≡ i = ap (λ (x : Reaction Endpoint Load). x.state) (still_out i now sends) in
    let all : r.state ≡ o.state = ap (λ (x : Reaction Endpoint Load). x.state) (still_all o.state now now b.1) in
    let makes : i.sent ≡ n.sent = sym (ap (λ (m : Endpoint). m.sent) (all ∙ out)) ∙ few in
    let same : i ≡ n = makes_none n now now makes in
    record {
      state = all ∙ out ∙ same;
      makes = makes;
      sends = subst (λ (m : Endpoint). sent m.link now ≡ None) same sends;
      receives = subst (λ (m : Endpoint). (received_all m now).actions ≡ []) (out ∙ same) b.1;
      rests = subst (λ (m : Endpoint). rests m ≡ []) (all ∙ out ∙ same) (none_in (tells (is_done n) r.state now) (rests r.state) a.1).1;
    }

quiet_after : (n : Endpoint) (now : ℕ) → Stays n now → IsQuiet n now (same_until n.link.line_free now)
unfolding ticked
quiet_after n now s t low high =
    let receive : Reaction Endpoint Load → Reaction Endpoint Load = λ r. then_ r (λ m. received_all m t) in
    let end : Reaction Endpoint Load → Reaction Endpoint Load = λ r. then_ r (λ m. ended (is_done n) m t) in
    ap (λ m. end (receive (sent_out m t))) (makes_none n now t s.makes)
    ∙ ap (λ r. end (receive r)) (still_out n t (stays_none n.link now t s.sends low high))
    ∙ ap end (still_all n now t s.receives)
    ∙ still_ended n t s.rests

pub never_quiet : (n : Endpoint) (from : ℕ) → IsQuiet n from 0
never_quiet n from t low high = absurd (omega (arith, high))

pub stays_quiet : (n m : Endpoint) (now : ℕ) (before after : List (Action Load)) → m ≡ (ticked n now).state → after ≡ before ++ (ticked n now).actions → m.sent ≡ n.sent → length after ≡ length before → IsQuiet m now (same_until m.link.line_free now)
stays_quiet n m now before after state actions few same =
    let none : (ticked n now).actions ≡ [] = none_more before (ticked n now).actions (sym (ap length actions) ∙ same) in
    let s : Stays n now = stays n now (sym (ap (λ (e : Endpoint). e.sent) state) ∙ few) none in
    subst (λ (e : Endpoint). IsQuiet e now (same_until e.link.line_free now)) (sym (state ∙ s.state)) (quiet_after n now s)
