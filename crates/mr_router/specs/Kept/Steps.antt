-- What loops over ports, channels and grants have come to.
use Rattle.std.proofs.Common.{◌≡◌, ℕ, zero, suc, ◌+◌, ◌*◌, ◌/◌, ◌%◌, ◌<◌, ◌≤◌, Bool, true, false, cond, List, [], ◌∷◌, ◌++◌, length, take, drop, map, set, get_or, Option, Some, None, refl, sym, ap, subst, ◌∙◌, append_assoc, append-nil, arith}
use Rattle.std.specs.Prelude.{◌&&◌, nat_le, nat_lt}
use Rattle.std.specs.List.{flat_map, range_with_len, All}
use Rattle.std.proofs.Math.Nat.{mul-le-mul_left, mul-le-mul_right}
use Rattle.std.proofs.lemmas.List.Elements.{All-tail}
use Rattle.std.proofs.lemmas.Grind.{flat_map-append}
use Rattle.std.proofs.lemmas.List.Concat.{flat_map-cons}
use Rattle.ss_model.specs.declared.Action.{Action}
use Rattle.ss_stats.specs.Set.{Entry, set_with_value}
use Rattle.ss_tally.specs.Tally.{added as tallied_at}
use Rattle.mr_flow.specs.declared.Packet.{Packet}
use Rattle.mr_flow.specs.declared.Load.{Load}
use Rattle.mr_flow.specs.Queue.{room, head}
use Rattle.mr_flow.specs.Side.{channels, input, output, sent}
use Rattle.mr_arb.specs.declared.Request.{Request}
use Rattle.mr_arb.specs.declared.turn.Turn.{Turn}
use Rattle.mr_arb.specs.Arbitrating.{winner, left, picks}
use Rattle.mr_arb.proofs.Orders.{range_more}
use Rattle.mr_router.specs.declared.settings.RouterSettings.{RouterSettings}
use Rattle.mr_router.specs.declared.port.Port.{Port}
use Rattle.mr_router.specs.Router.{port_at, way, width, sends_of, all_sent, counted, all_counted, asks_of, port_asks, all_asks, crossed_if, crossed_by, crossed, all_crossed, given, received, changed}
use Rattle.mr_router.specs.Holding.{AllBound, AllWithin}
use Rattle.mr_router.specs.Fresh.{fresh_port, fresh_ports}
use Rattle.mr_router.specs.Kept.Ports.{length-changed, given_bound, received_bound}

pub flat_map_range : {X : Type 0} (f : ℕ → List X) (n : ℕ) → flat_map f (range_with_len 0 (n + 1)) ≡ flat_map f (range_with_len 0 n) ++ f n
flat_map_range f n =
    ap (flat_map f) (range_more n)
    ∙ flat_map-append f (range_with_len 0 n) (n ∷ [])
    ∙ ap (λ l. flat_map f (range_with_len 0 n) ++ l) (flat_map-cons f n [] ∙ append-nil (f n))

-- one more of a loop that appends
pub grown : {X : Type 0} (f : ℕ → List X) (n : ℕ) (o p q : List X) → p ≡ o ++ flat_map f (range_with_len 0 n) → q ≡ p ++ f n → q ≡ o ++ flat_map f (range_with_len 0 (n + 1))
grown f n o p q so_far now = now ∙ ap (λ l. l ++ f n) so_far ∙ append_assoc o (flat_map f (range_with_len 0 n)) (f n) ∙ ap (λ l. o ++ l) (sym (flat_map_range f n))

-- ---- pumping

pub step_get : (f : Port → Port) (xs : List Port) (i : ℕ) → i < length xs → port_at (map f (take i xs) ++ drop i xs) i ≡ port_at xs i
step_get f [] i h = absurd (omega arith)
step_get f (x ∷ xs) zero h = refl
step_get f (x ∷ xs) (suc i) h = step_get f xs i (omega arith)

step_suc : (f : Port → Port) (xs : List Port) (i : ℕ) → i < length xs → set (map f (take i xs) ++ drop i xs) i (f (port_at xs i)) ≡ map f (take (suc i) xs) ++ drop (suc i) xs
step_suc f [] i h = absurd (omega arith)
step_suc f (x ∷ xs) zero h = refl
step_suc f (x ∷ xs) (suc i) h = ap (λ l. f x ∷ l) (step_suc f xs i (omega arith))

pub step_set : (f : Port → Port) (xs ports new : List Port) (i : ℕ) → i < length xs → ports ≡ map f (take i xs) ++ drop i xs → new ≡ changed ports i f → new ≡ map f (take (i + 1) xs) ++ drop (i + 1) xs
step_set f xs ports new i h e n =
    n ∙ ap (λ l. changed l i f) e
    ∙ ap (λ p. set (map f (take i xs) ++ drop i xs) i (f p)) (step_get f xs i h)
    ∙ step_suc f xs i h
    ∙ ap (λ k. map f (take k xs) ++ drop k xs) {x = suc i} {y = i + 1} (omega arith)

sent_suc : (now j : ℕ) (xs : List Port) (i : ℕ) → i < length xs → all_sent now j (take (suc i) xs) ≡ all_sent now j (take i xs) ++ sends_of (j + i) (sent (port_at xs i).line now)
sent_suc now j [] i h = absurd (omega arith)
sent_suc now j (x ∷ xs) zero h = append-nil (sends_of j (sent x.line now)) ∙ ap (λ k. sends_of k (sent x.line now)) {x = j} {y = j + 0} (omega arith)
sent_suc now j (x ∷ xs) (suc i) h =
    ap (λ l. sends_of j (sent x.line now) ++ l) (sent_suc now (j + 1) xs i (omega arith))
    ∙ sym (append_assoc (sends_of j (sent x.line now)) (all_sent now (j + 1) (take i xs)) (sends_of (j + 1 + i) (sent (port_at xs i).line now)))
    ∙ ap (λ k. all_sent now j (take (suc i) (x ∷ xs)) ++ sends_of k (sent (port_at xs i).line now)) {x = j + 1 + i} {y = j + suc i} (omega arith)

pub step_sent : (now : ℕ) (xs : List Port) (i : ℕ) (o p q : List (Action Load)) → i < length xs → p ≡ o ++ all_sent now 0 (take i xs) → q ≡ p ++ sends_of i (sent (port_at xs i).line now) → q ≡ o ++ all_sent now 0 (take (i + 1) xs)
step_sent now xs i o p q h so_far n =
    n ∙ ap (λ l. l ++ sends_of i (sent (port_at xs i).line now)) so_far
    ∙ append_assoc o (all_sent now 0 (take i xs)) (sends_of i (sent (port_at xs i).line now))
    ∙ ap (λ k. o ++ (all_sent now 0 (take i xs) ++ sends_of k (sent (port_at xs i).line now))) {x = i} {y = 0 + i} (omega arith)
    ∙ ap (λ l. o ++ l) (sym (sent_suc now 0 xs i h))
    ∙ ap (λ k. o ++ all_sent now 0 (take k xs)) {x = suc i} {y = i + 1} (omega arith)

counted_suc : (now : ℕ) (place : Option ℕ) (stats : List Entry) (xs : List Port) (i : ℕ) → i < length xs → all_counted now place stats (take (suc i) xs) ≡ counted place (all_counted now place stats (take i xs)) (sent (port_at xs i).line now)
counted_suc now place stats [] i h = absurd (omega arith)
counted_suc now place stats (x ∷ xs) zero h = refl
counted_suc now place stats (x ∷ xs) (suc i) h = counted_suc now place (counted place stats (sent x.line now)) xs i (omega arith)

pub step_counted : (now : ℕ) (place : Option ℕ) (o p q : List Entry) (xs : List Port) (i : ℕ) → i < length xs → p ≡ all_counted now place o (take i xs) → q ≡ counted place p (sent (port_at xs i).line now) → q ≡ all_counted now place o (take (i + 1) xs)
step_counted now place o p q xs i h so_far n =
    n ∙ ap (λ l. counted place l (sent (port_at xs i).line now)) so_far ∙ sym (counted_suc now place o xs i h)
    ∙ ap (λ k. all_counted now place o (take k xs)) {x = suc i} {y = i + 1} (omega arith)

added_length : (stats : List Entry) (i v : ℕ) → length (set_with_value stats i v) ≡ length stats
added_length [] i v = refl
added_length (e ∷ stats) zero v = refl
added_length (e ∷ stats) (suc i) v = ap suc (added_length stats i v)

tallied_length : (place : Option ℕ) (stats : List Entry) (v : ℕ) → length (tallied_at stats place v) ≡ length stats
tallied_length None stats v = refl
tallied_length (Some i) stats v = added_length stats i v

pub length-counted : (place : Option ℕ) (stats : List Entry) (o : Option (ℕ × Packet × ℕ)) → length (counted place stats o) ≡ length stats
length-counted place stats None = refl
length-counted place stats (Some (c, p, extra)) = tallied_length place stats p.flits

-- ---- crossing

drop_next : (grants : List ℕ) (k slot : ℕ) → k < length grants → slot ≡ get_or grants k slot → drop k grants ≡ slot ∷ drop (k + 1) grants
drop_next [] k slot h is = absurd (omega arith)
drop_next (g ∷ grants) zero slot h is = ap (λ n. n ∷ grants) (sym is)
drop_next (g ∷ grants) (suc k) slot h is = drop_next grants k slot (omega arith) is ∙ ap (λ n. slot ∷ drop n (g ∷ grants)) {x = suc (k + 1)} {y = suc k + 1} (omega arith)

module _ (x : RouterSettings) (now : ℕ) where
  if_bound : (i c : ℕ) (p : Packet) (ports : List Port) (b : Bool) → AllBound x ports → AllBound x (crossed_if x now i c p ports b).0
  if_bound i c p ports true all = received_bound x now p (changed ports i (given x now c p)) (way x p).0 (given_bound x now c p ports i all)
  if_bound i c p ports false all = all

  by_bound : (i c : ℕ) (ports : List Port) (o : Option Packet) → AllBound x ports → AllBound x (crossed_by x now i c ports o).0
  by_bound i c ports None all = all
  by_bound i c ports (Some p) all = if_bound i c p ports (nat_le p.flits (room (output (port_at ports (way x p).0).line (way x p).1))) all

  pub crossed_bound : (ports : List Port) (slot : ℕ) → AllBound x ports → AllBound x (crossed x now ports slot).0
  crossed_bound ports slot all = by_bound (slot / width x) (slot % width x) ports (head (input (port_at ports (slot / width x)).line (slot % width x))) all

  if_length : (i c : ℕ) (p : Packet) (ports : List Port) (b : Bool) → length (crossed_if x now i c p ports b).0 ≡ length ports
  if_length i c p ports true = length-changed (changed ports i (given x now c p)) (way x p).0 (received x now p) ∙ length-changed ports i (given x now c p)
  if_length i c p ports false = refl

  by_length : (i c : ℕ) (ports : List Port) (o : Option Packet) → length (crossed_by x now i c ports o).0 ≡ length ports
  by_length i c ports None = refl
  by_length i c ports (Some p) = if_length i c p ports (nat_le p.flits (room (output (port_at ports (way x p).0).line (way x p).1)))

  pub length-crossed : (ports : List Port) (slot : ℕ) → length (crossed x now ports slot).0 ≡ length ports
  length-crossed ports slot = by_length (slot / width x) (slot % width x) ports (head (input (port_at ports (slot / width x)).line (slot % width x)))

-- ---- requests

cons_all : {X : Type 0} (P : X → Type 0) (x : X) (xs : List X) → P x → All P xs → All P (x ∷ xs)
cons_all P x xs one all zero d l = one
cons_all P x xs one all (suc k) d l = all k d (omega (arith, l))

append_all : {X : Type 0} (P : X → Type 0) (xs ys : List X) → All P xs → All P ys → All P (xs ++ ys)
append_all P [] ys a b = b
append_all P (x ∷ xs) ys a b = cons_all P x (xs ++ ys) (a 0 x (omega arith)) (append_all P xs ys (All-tail P x xs a) b)

range_all : {X : Type 0} (P : X → Type 0) (f : ℕ → List X) (a n : ℕ) → ((k : ℕ) → k < n → All P (f (a + k))) → All P (flat_map f (range_with_len a n))
range_all P f a zero h = λ k d l. absurd (omega (arith, l))
range_all P f a (suc n) h =
    let z : a + 0 ≡ a = omega arith in
    let first : All P (f a) = subst (λ (k : ℕ). All P (f k)) z (h 0 (omega arith)) in
    let more : (k : ℕ) → k < n → All P (f (a + 1 + k)) = λ k l. (let y : a + suc k ≡ a + 1 + k = omega arith in subst (λ (j : ℕ). All P (f j)) y (h (suc k) (omega arith))) in
    subst (All P) (sym (flat_map-cons f a (range_with_len (a + 1) n))) (append_all P (f a) (flat_map f (range_with_len (a + 1) n)) first (range_all P f (a + 1) n more))

pub each_all : {X : Type 0} (P : X → Type 0) (f : ℕ → List X) (n : ℕ) → ((k : ℕ) → k < n → All P (f k)) → All P (flat_map f (range_with_len 0 n))
each_all P f n h = range_all P f 0 n (λ k l. let z : k ≡ 0 + k = omega arith in subst (λ (j : ℕ). All P (f j)) z (h k l))

module _ (x : RouterSettings) (ports : List Port) (now : ℕ) where
  if_within : (P : Request → Type 0) (i c : ℕ) (p : Packet) (b : Bool) → P (record { slot = i * width x + c; input = i; output = (way x p).0; born = p.born }) → All P (cond b (record { slot = i * width x + c; input = i; output = (way x p).0; born = p.born } ∷ []) [])
  if_within P i c p true h = cons_all P _ [] h (λ k d l. absurd (omega (arith, l)))
  if_within P i c p false h = λ k d l. absurd (omega (arith, l))

  by_within : (P : Request → Type 0) (i c : ℕ) (o : Option Packet) → ((p : Packet) → P (record { slot = i * width x + c; input = i; output = (way x p).0; born = p.born })) → All P (asks_of x ports now i c o)
  by_within P i c None h = λ k d l. absurd (omega (arith, l))
  by_within P i c (Some p) h = if_within P i c p (nat_le (port_at ports (way x p).0).cross_free now && nat_le p.flits (room (output (port_at ports (way x p).0).line (way x p).1))) (h p)

  port_within : (P : Request → Type 0) (i : ℕ) (b : Bool) → ((c : ℕ) (p : Packet) → c < channels (port_at ports i).line → P (record { slot = i * width x + c; input = i; output = (way x p).0; born = p.born })) → All P (cond b [] (flat_map (λ c. asks_of x ports now i c (head (input (port_at ports i).line c))) (range_with_len 0 (channels (port_at ports i).line))))
  port_within P i true h = λ k d l. absurd (omega (arith, l))
  port_within P i false h = each_all P (λ c. asks_of x ports now i c (head (input (port_at ports i).line c))) (channels (port_at ports i).line) (λ c l. by_within P i c (head (input (port_at ports i).line c)) (λ p. h c p l))

  asks_hold : (P : Request → Type 0) → ((i c : ℕ) (p : Packet) → i < length ports → c < channels (port_at ports i).line → P (record { slot = i * width x + c; input = i; output = (way x p).0; born = p.born })) → All P (all_asks x ports now)
  asks_hold P h = each_all P (port_asks x ports now) (length ports) (λ i l. port_within P i (nat_lt now (port_at ports i).in_free) (λ c p m. h i c p l m))

  -- each request's slot and input are among the slots
  pub slots_within : AllWithin x ports → All (λ q. q.slot < length ports * width x) (all_asks x ports now)
  slots_within within = asks_hold (λ q. q.slot < length ports * width x) (λ i c p l m. slot_below i c (length ports) (width x) l (let w = within i in omega arith))
    where
      slot_below : (i c n w : ℕ) → i < n → c < w → i * w + c < n * w
      slot_below i c n w l m = let h = mul-le-mul_right w l in omega (arith, h)

  pub inputs_within : 1 ≤ width x → All (λ q. q.input < length ports * width x) (all_asks x ports now)
  inputs_within some = asks_hold (λ q. q.input < length ports * width x) (λ i c p l m. below i (length ports) (width x) l some)
    where
      below : (i n w : ℕ) → i < n → 1 ≤ w → i < n * w
      below i n w l m = let h = mul-le-mul_left n m in omega (arith, h)

-- ---- grants one by one

pub nth_self : (grants : List ℕ) (k : ℕ) → k < length grants → get_or grants k 0 ≡ get_or grants k (get_or grants k 0)
nth_self [] k h = absurd (omega arith)
nth_self (g ∷ grants) zero h = refl
nth_self (g ∷ grants) (suc k) h = any_default grants k 0 (get_or grants k 0) (omega arith)
  where
    any_default : (xs : List ℕ) (k a b : ℕ) → k < length xs → get_or xs k a ≡ get_or xs k b
    any_default [] k a b h = absurd (omega arith)
    any_default (x ∷ xs) zero a b h = refl
    any_default (x ∷ xs) (suc k) a b h = any_default xs k a b (omega arith)

module _ (x : RouterSettings) (now : ℕ) where
  pub next_ports : (ports new : List Port) (grants : List ℕ) (k slot : ℕ) (total : List Port) → k < length grants → slot ≡ get_or grants k slot → new ≡ (crossed x now ports slot).0 →
      (all_crossed x now ports (drop k grants)).0 ≡ total → (all_crossed x now new (drop (k + 1) grants)).0 ≡ total
  next_ports ports new grants k slot total h is n so_far =
      sym (ap (λ l. (all_crossed x now ports l).0) (drop_next grants k slot h is) ∙ ap (λ q. (all_crossed x now q (drop (k + 1) grants)).0) (sym n)) ∙ so_far

  pub next_acts : (ports new : List Port) (grants : List ℕ) (k slot : ℕ) (acts after total : List (Action Load)) → k < length grants → slot ≡ get_or grants k slot → new ≡ (crossed x now ports slot).0 → after ≡ acts ++ (crossed x now ports slot).1 →
      acts ++ (all_crossed x now ports (drop k grants)).1 ≡ total → after ++ (all_crossed x now new (drop (k + 1) grants)).1 ≡ total
  next_acts ports new grants k slot acts after total h is n a so_far =
      ap (λ l. l ++ (all_crossed x now new (drop (k + 1) grants)).1) a
      ∙ ap (λ q. acts ++ (crossed x now ports slot).1 ++ (all_crossed x now q (drop (k + 1) grants)).1) n
      ∙ append_assoc acts (crossed x now ports slot).1 (all_crossed x now (crossed x now ports slot).0 (drop (k + 1) grants)).1
      ∙ ap (λ l. acts ++ (all_crossed x now ports l).1) (sym (drop_next grants k slot h is))
      ∙ so_far

-- ---- turns

pub length-picks : (slots output : ℕ) (turns : List Turn) (qs : List Request) → length (picks slots output turns qs).0 ≡ length turns
length-picks slots output [] qs = refl
length-picks slots output (t ∷ turns) qs = ap suc (length-picks slots (output + 1) turns (left (winner slots output t qs) qs))

-- ---- the first ports

fresh_suc : (x : RouterSettings) (j : ℕ) (rooms : List (Option ℕ)) (k : ℕ) (o : Option ℕ) → k < length rooms → fresh_ports x j (take (suc k) rooms) ≡ fresh_ports x j (take k rooms) ++ fresh_port x (j + k) (get_or rooms k o) ∷ []
fresh_suc x j [] k o h = absurd (omega arith)
fresh_suc x j (r ∷ rooms) zero o h = ap (λ n. fresh_port x n r ∷ []) {x = j} {y = j + 0} (omega arith)
fresh_suc x j (r ∷ rooms) (suc k) o h =
    ap (λ l. fresh_port x j r ∷ l) (fresh_suc x (j + 1) rooms k o (omega arith))
    ∙ ap (λ n. fresh_port x j r ∷ (fresh_ports x (j + 1) (take k rooms) ++ fresh_port x n (get_or rooms k o) ∷ [])) {x = j + 1 + k} {y = j + suc k} (omega arith)

pub fresh_more : (x : RouterSettings) (rooms : List (Option ℕ)) (k : ℕ) (o : Option ℕ) (ports new : List Port) (p : Port) → k < length rooms → ports ≡ fresh_ports x 0 (take k rooms) → new ≡ ports ++ p ∷ [] → p ≡ fresh_port x k (get_or rooms k o) → new ≡ fresh_ports x 0 (take (k + 1) rooms)
fresh_more x rooms k o ports new p h so_far n e =
    n ∙ ap (λ l. l ++ p ∷ []) so_far ∙ ap (λ q. fresh_ports x 0 (take k rooms) ++ q ∷ []) e
    ∙ ap (λ i. fresh_ports x 0 (take k rooms) ++ fresh_port x i (get_or rooms k o) ∷ []) {x = k} {y = 0 + k} (omega arith)
    ∙ sym (fresh_suc x 0 rooms k o h)
    ∙ ap (λ i. fresh_ports x 0 (take i rooms)) {x = suc k} {y = k + 1} (omega arith)
