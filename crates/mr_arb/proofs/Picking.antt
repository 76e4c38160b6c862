-- Arbitration output by output.
use Rattle.std.proofs.Common.{◌≡◌, ℕ, zero, suc, ◌+◌, ◌<◌, ◌≤◌, List, [], ◌∷◌, ◌++◌, length, replicate, slice_get, refl, ap, sym, subst, ◌∙◌, arith, add-one, get_or, set, take, drop, Bool, true, false, not, append_assoc, ◌&&◌, Option, Some, None, ◌==◌, if◌then◌else◌, drop-cons, ◌≢◌}
use Rattle.std.specs.List.{filter, fold, All}
use Rattle.std.proofs.lemmas.Grind.{common_steps}
use Rattle.std.proofs.lemmas.List.Elements.{filter-append, All-filter, All-tail, All-more}
use Rattle.std.proofs.lemmas.List.Sums.{fold-append}
use Rattle.std.proofs.lemmas.List.{append-nil, take_all, get_or-drop, take_more}
use Rattle.mr_arb.specs.declared.Request.{Request}
use Rattle.mr_arb.specs.declared.turn.Turn.{Turn}
use Rattle.mr_arb.specs.declared.turn.Turn.TheVariants.{RoundRobin, LeastRecent, Age}
use Rattle.mr_arb.specs.Arbitrating.{wins, better, best, winner, free, turn_of, turn_after, passed, grant_of, left, picks, Fits, EachFits, IsArbiter, marked}
use Rattle.mr_arb.specs.declared.ArbKind.{ArbKind}
use Rattle.mr_arb.specs.declared.ArbKind.TheVariants.{RoundRobin as RoundRobinKind, LeastRecent as LeastRecentKind, Age as AgeKind}
use Rattle.mr_arb.proofs.Orders.{order_range, order_to_end}

-- the winner, request by request

keep-one : (p : Request → Bool) (xs : List Request) (x : Request) → p x ≡ true → filter p (xs ++ x ∷ []) ≡ filter p xs ++ x ∷ []
keep-one p xs x e = filter-append p xs (x ∷ []) ∙ ap (λ (ys : List Request). filter p xs ++ ys) (rw e refl)

drop-one : (p : Request → Bool) (xs : List Request) (x : Request) → p x ≡ false → filter p (xs ++ x ∷ []) ≡ filter p xs
drop-one p xs x e = filter-append p xs (x ∷ []) ∙ ap (λ (ys : List Request). filter p xs ++ ys) (rw e refl) ∙ append-nil (filter p xs)

abbrev pub asks : ℕ → Request → Bool
asks output q = q.output == output

abbrev pub is-free : List Bool → Request → Bool
is-free granted q = not (get_or granted q.input false)

take-one : (qs : List Request) (i : ℕ) (q : Request) → i < length qs → q ≡ get_or qs i q → take (i + 1) qs ≡ take i qs ++ q ∷ []
take-one qs i q l e = take_more qs i q l ∙ ap (λ (x : Request). take i qs ++ x ∷ []) (sym e)

pub winner_more : (slots output : ℕ) (turn : Turn) (granted : List Bool) (qs : List Request) (i : ℕ) (q : Request) → i < length qs → q ≡ get_or qs i q → get_or granted q.input false ≡ false → q.output ≡ output → winner slots output turn (free granted (take (i + 1) qs)) ≡ better (wins slots turn) (winner slots output turn (free granted (take i qs))) q
winner_more slots output turn granted qs i q l e g o =
    let f : is-free granted q ≡ true = rw g refl in
    let a : asks output q ≡ true = grind (arith, o) in
    ap (λ (ys : List Request). winner slots output turn (free granted ys)) (take-one qs i q l e) ∙ ap (winner slots output turn) (keep-one (is-free granted) (take i qs) q f) ∙ ap (best (wins slots turn)) (keep-one (asks output) (free granted (take i qs)) q a) ∙ fold-append (better (wins slots turn)) None (filter (asks output) (free granted (take i qs))) (q ∷ [])

skip-by : (slots output : ℕ) (turn : Turn) (granted : List Bool) (xs : List Request) (q : Request) (g : Bool) → get_or granted q.input false ≡ g → (get_or granted q.input false ≡ false → q.output ≡ output → ⊥) → winner slots output turn (free granted (xs ++ q ∷ [])) ≡ winner slots output turn (free granted xs)
skip-by slots output turn granted xs q true g n = ap (winner slots output turn) (drop-one (is-free granted) xs q (rw g refl))
skip-by slots output turn granted xs q false g n =
    let a : asks output q ≡ false = grind (arith, n g) in
    ap (winner slots output turn) (keep-one (is-free granted) xs q (rw g refl)) ∙ ap (best (wins slots turn)) (drop-one (asks output) (free granted xs) q a)

pub winner_skip : (slots output : ℕ) (turn : Turn) (granted : List Bool) (qs : List Request) (i : ℕ) (q : Request) → i < length qs → q ≡ get_or qs i q → (get_or granted q.input false ≡ false → q.output ≡ output → ⊥) → winner slots output turn (free granted (take (i + 1) qs)) ≡ winner slots output turn (free granted (take i qs))
winner_skip slots output turn granted qs i q l e n = ap (λ (ys : List Request). winner slots output turn (free granted ys)) (take-one qs i q l e) ∙ skip-by slots output turn granted (take i qs) q (get_or granted q.input false) refl n

-- the first turns

replicate-suc : {X : Type 0} (n : ℕ) (x : X) → replicate (suc n) x ≡ replicate n x ++ x ∷ []
replicate-suc zero x = refl
replicate-suc {X} (suc n) x = ap (λ (ys : List X). x ∷ ys) (replicate-suc n x)

pub replicate_more : {X : Type 0} (n : ℕ) (x : X) → replicate (n + 1) x ≡ replicate n x ++ x ∷ []
replicate_more n x = rw (add-one n) (replicate-suc n x)

some-same : {X : Type 0} (x y : X) → Some x ≡ Some y → x ≡ y
some-same x y e = grind (arith, e)

slice-get-replicate : (n o : ℕ) (x y : Turn) → slice_get (replicate n x) o ≡ Some y → y ≡ x
slice-get-replicate zero o x y e = absurd (grind (arith, common_steps, e))
slice-get-replicate (suc n) zero x y e = sym (some-same x y e)
slice-get-replicate (suc n) (suc o) x y e = slice-get-replicate n o x y e

first-fits : (kind : ArbKind) (slots : ℕ) → 1 ≤ slots → Fits slots (turn_of kind slots)
first-fits RoundRobinKind slots h = h
first-fits LeastRecentKind slots h = order_range slots
first-fits AgeKind slots h = tt

pub each_first : (kind : ArbKind) (slots n : ℕ) → 1 ≤ slots → EachFits slots (replicate n (turn_of kind slots))
each_first kind slots n h = λ o turn e. subst (Fits slots) (sym (slice-get-replicate n o (turn_of kind slots) turn e)) (first-fits kind slots h)

-- marks of inputs

pub set-false : (granted : List Bool) (i k : ℕ) → get_or granted k false ≡ false → get_or (set granted i false) k false ≡ false
set-false [] i k e = e
set-false (b ∷ bs) zero zero e = refl
set-false (b ∷ bs) zero (suc k) e = e
set-false (b ∷ bs) (suc i) zero e = e
set-false (b ∷ bs) (suc i) (suc k) e = set-false bs i k e

pub set-other : (granted : List Bool) (i k : ℕ) → i < length granted → not (get_or (set granted i true) k false) ≡ (not (get_or granted k false) && not (k == i))
set-other [] i k l = absurd (omega (arith, l))
set-other (b ∷ bs) zero zero l = grind arith
set-other (b ∷ bs) zero (suc k) l = grind arith
set-other (b ∷ bs) (suc i) zero l = grind arith
set-other (b ∷ bs) (suc i) (suc k) l = set-other bs i k (omega (arith, l)) ∙ ap (λ (t : Bool). not (get_or bs k false) && not t) (same-suc k i)
  where
    same-suc : (k i : ℕ) → (k == i) ≡ (suc k == suc i)
    same-suc k i = grind arith

-- two filters, one behind the other
filter-by : (p q r : Request → Bool) (x : Request) (xs : List Request) (b : Bool) → q x ≡ b → p x ≡ (q x && r x) → filter p xs ≡ filter r (filter q xs) → filter p (x ∷ xs) ≡ filter r (filter q (x ∷ xs))
filter-by p q r x xs true e h ih = rw (h, e) (ap (λ (ys : List Request). if r x then x ∷ ys else ys) ih)
filter-by p q r x xs false e h ih = rw (h, e) ih

filter-both : (p q r : Request → Bool) (xs : List Request) → ((x : Request) → p x ≡ (q x && r x)) → filter p xs ≡ filter r (filter q xs)
filter-both p q r [] h = refl
filter-both p q r (x ∷ xs) h = filter-by p q r x xs (q x) refl (h x) (filter-both p q r xs h)

free-left : (granted : List Bool) (qs : List Request) (q : Request) → q.input < length granted → free (set granted q.input true) qs ≡ left (Some q) (free granted qs)
free-left granted qs q l = filter-both (is-free (set granted q.input true)) (is-free granted) (λ p. not (p.input == q.input)) qs (λ x. set-other granted q.input x.input l)

pub free_left : (granted : List Bool) (qs : List Request) (w : Option Request) → ((q : Request) → w ≡ Some q → q.input < length granted) → free (marked granted w) qs ≡ left w (free granted qs)
free_left granted qs None h = refl
free_left granted qs (Some q) h = free-left granted qs q (h q refl)

-- the winner is one of the requests

better-by : (f : Request → Request → Bool) (P : Request → Type 0) (p x a : Request) (b : Bool) → P p → P x → (if b then Some x else Some p) ≡ Some a → P a
better-by f P p x a true pp px e = subst P (some-same x a e) px
better-by f P p x a false pp px e = subst P (some-same p a e) pp

pub better_in : (f : Request → Request → Bool) (P : Request → Type 0) (o : Option Request) (x a : Request) → ((q : Request) → o ≡ Some q → P q) → P x → better f o x ≡ Some a → P a
better_in f P None x a h px e = subst P (some-same x a e) px
better_in f P (Some p) x a h px e = better-by f P p x a (f x p) (h p refl) px e

winner-in-from : (f : Request → Request → Bool) (P : Request → Type 0) (xs : List Request) (o : Option Request) (q : Request) → ((a : Request) → o ≡ Some a → P a) → All P xs → fold (better f) o xs ≡ Some q → P q
winner-in-from f P [] o q h all e = h q e
winner-in-from f P (x ∷ xs) o q h all e = winner-in-from f P xs (better f o x) q (λ a. better_in f P o x a h (all 0 x (omega arith))) (All-tail P x xs all) e

none-some : {X : Type 0} (x : X) → None ≡ Some x → ⊥
none-some x e = grind (arith, e)

pub winner_in : (P : Request → Type 0) (slots output : ℕ) (turn : Turn) (granted : List Bool) (qs : List Request) (q : Request) → All P qs → winner slots output turn (free granted qs) ≡ Some q → P q
winner_in P slots output turn granted qs q all e = winner-in-from (wins slots turn) P (filter (asks output) (free granted qs)) None q (λ a n. absurd (none-some a n)) (All-filter (asks output) P (free granted qs) (All-filter (is-free granted) P qs all)) e

-- output by output

pub turns_step : (slots i : ℕ) (whole turns new rest tail : List Turn) (t : Turn) (w : Option Request) (qs left_over : List Request) → whole ≡ take i turns ++ (picks slots i rest qs).0 → rest ≡ t ∷ tail → w ≡ winner slots i t qs → take (i + 1) new ≡ take i turns ++ turn_after slots t w ∷ [] → left_over ≡ left w qs → whole ≡ take (i + 1) new ++ (picks slots (i + 1) tail left_over).0
turns_step slots i whole turns new rest tail t w qs left_over h e v n l =
    h ∙ ap (λ (ts : List Turn). take i turns ++ (picks slots i ts qs).0) e ∙ ap (λ (x : Option Request). take i turns ++ turn_after slots t x ∷ (picks slots (i + 1) tail (left x qs)).0) (sym v) ∙ sym (append_assoc (take i turns) (turn_after slots t w ∷ []) (picks slots (i + 1) tail (left w qs)).0) ∙ ap (λ (ts : List Turn). ts ++ (picks slots (i + 1) tail (left w qs)).0) (sym n) ∙ ap (λ (rs : List Request). take (i + 1) new ++ (picks slots (i + 1) tail rs).0) (sym l)

pub grants_step : (slots i : ℕ) (whole grants new : List ℕ) (rest tail : List Turn) (t : Turn) (w : Option Request) (qs left_over : List Request) → whole ≡ take i grants ++ (picks slots i rest qs).1 → rest ≡ t ∷ tail → w ≡ winner slots i t qs → take (i + 1) new ≡ take i grants ++ grant_of w ∷ [] → left_over ≡ left w qs → whole ≡ take (i + 1) new ++ (picks slots (i + 1) tail left_over).1
grants_step slots i whole grants new rest tail t w qs left_over h e v n l =
    h ∙ ap (λ (ts : List Turn). take i grants ++ (picks slots i ts qs).1) e ∙ ap (λ (x : Option Request). take i grants ++ grant_of x ∷ (picks slots (i + 1) tail (left x qs)).1) (sym v) ∙ sym (append_assoc (take i grants) (grant_of w ∷ []) (picks slots (i + 1) tail (left w qs)).1) ∙ ap (λ (ts : List ℕ). ts ++ (picks slots (i + 1) tail (left w qs)).1) (sym n) ∙ ap (λ (rs : List Request). take (i + 1) new ++ (picks slots (i + 1) tail rs).1) (sym l)

-- turns keep fitting

next-fits : (slots slot : ℕ) (b : Bool) → (slot + 1 == slots) ≡ b → slot < slots → (if b then 0 else slot + 1) < slots
next-fits slots slot true e l = omega (arith, l)
next-fits slots slot false e l = let n : slot + 1 ≢ slots = grind (arith, e) in omega (arith, l, n)

passed-fits : (slots slot : ℕ) (turn : Turn) → slot < slots → Fits slots turn → Fits slots (passed slots turn slot)
passed-fits slots slot (RoundRobin first) l h = next-fits slots slot (slot + 1 == slots) refl l
passed-fits slots slot (LeastRecent order) l h = order_to_end slots slot order l h
passed-fits slots slot Age l h = tt

after-fits : (slots : ℕ) (turn : Turn) (w : Option Request) → ((q : Request) → w ≡ Some q → q.slot < slots) → Fits slots turn → Fits slots (turn_after slots turn w)
after-fits slots turn None h f = f
after-fits slots turn (Some q) h f = passed-fits slots q.slot turn (h q refl) f

left-all : (P : Request → Type 0) (w : Option Request) (qs : List Request) → All P qs → All P (left w qs)
left-all P None qs h = h
left-all P (Some q) qs h = All-filter (λ p. not (p.input == q.input)) P qs h

pub picks-fit : (slots output : ℕ) (turns : List Turn) (qs : List Request) → All (λ q. q.slot < slots) qs → EachFits slots turns → EachFits slots (picks slots output turns qs).0
picks-fit slots output [] qs a h o turn e = h o turn e
picks-fit slots output (t ∷ turns) qs a h zero turn e =
    subst (Fits slots) (some-same (turn_after slots t (winner slots output t qs)) turn e) (after-fits slots t (winner slots output t qs) (λ q w. winner-in-from (wins slots t) (λ p. p.slot < slots) (filter (asks output) qs) None q (λ x n. absurd (none-some x n)) (All-filter (asks output) (λ p. p.slot < slots) qs a) w) (h 0 t refl))
picks-fit slots output (t ∷ turns) qs a h (suc o) turn e = picks-fit slots (output + 1) turns (left (winner slots output t qs) qs) (left-all (λ p. p.slot < slots) (winner slots output t qs) qs a) (λ k x n. h (suc k) x n) o turn e

pub length_picks : (slots output : ℕ) (turns : List Turn) (qs : List Request) → length (picks slots output turns qs).0 ≡ length turns
length_picks slots output [] qs = refl
length_picks slots output (t ∷ turns) qs = ap suc (length_picks slots (output + 1) turns (left (winner slots output t qs) qs))

-- the turn at an output

pub same_default : (xs : List Turn) (i : ℕ) (x y : Turn) → i < length xs → get_or xs i x ≡ get_or xs i y
same_default [] i x y l = absurd (omega (arith, l))
same_default (t ∷ xs) zero x y l = refl
same_default (t ∷ xs) (suc i) x y l = same_default xs i x y (omega (arith, l))

pub same_at : (xs ys : List Turn) (o : ℕ) (d : Turn) → drop o xs ≡ drop o ys → get_or xs o d ≡ get_or ys o d
same_at xs ys o d h =
    let z : o + 0 ≡ o = omega arith in
    ap (λ (n : ℕ). get_or xs n d) (sym z) ∙ sym (get_or-drop o xs 0 d) ∙ ap (λ (ts : List Turn). get_or ts 0 d) h ∙ get_or-drop o ys 0 d ∙ ap (λ (n : ℕ). get_or ys n d) z

get-some : (xs : List Turn) (i : ℕ) (d : Turn) → i < length xs → slice_get xs i ≡ Some (get_or xs i d)
get-some [] i d l = absurd (omega (arith, l))
get-some (t ∷ xs) zero d l = refl
get-some (t ∷ xs) (suc i) d l = get-some xs i d (omega (arith, l))

pub fits_at : (slots : ℕ) (xs ys : List Turn) (o : ℕ) (d : Turn) → drop o xs ≡ drop o ys → o < length ys → EachFits slots ys → Fits slots (get_or xs o d)
fits_at slots xs ys o d h l e = subst (Fits slots) (sym (same_at xs ys o d h)) (e o (get_or ys o d) (get-some ys o d l))

pub drop_at : (xs ys : List Turn) (o : ℕ) (d : Turn) → drop o xs ≡ drop o ys → o < length ys → drop o ys ≡ get_or xs o d ∷ drop (o + 1) ys
drop_at xs ys o d h l = rw (add-one o) (drop-cons ys o d l ∙ ap (λ (t : Turn). t ∷ drop (suc o) ys) (sym (same_at xs ys o d h)))

tail-drop : (xs : List Turn) (o : ℕ) → drop 1 (drop o xs) ≡ drop (suc o) xs
tail-drop [] zero = refl
tail-drop [] (suc o) = refl
tail-drop (t ∷ xs) zero = refl
tail-drop (t ∷ xs) (suc o) = tail-drop xs o

drop-set : (xs : List Turn) (o : ℕ) (y : Turn) → drop (suc o) (set xs o y) ≡ drop (suc o) xs
drop-set [] o y = refl
drop-set (t ∷ xs) zero y = refl
drop-set (t ∷ xs) (suc o) y = drop-set xs o y

pub ahead_step : (xs ys : List Turn) (o : ℕ) (y : Turn) → drop o xs ≡ drop o ys → drop (o + 1) (set xs o y) ≡ drop (o + 1) ys
ahead_step xs ys o y h = rw (add-one o) (drop-set xs o y ∙ sym (tail-drop xs o) ∙ ap (drop 1) h ∙ tail-drop ys o)

-- clearing marks

set-here : (granted : List Bool) (i : ℕ) → get_or (set granted i false) i false ≡ false
set-here [] i = refl
set-here (b ∷ bs) zero = refl
set-here (b ∷ bs) (suc i) = set-here bs i

pub unmarked_more : (granted : List Bool) (qs : List Request) (i : ℕ) (q : Request) → i < length qs → q ≡ get_or qs i q → All (λ p. get_or granted p.input false ≡ false) (take i qs) → All (λ p. get_or (set granted q.input false) p.input false ≡ false) (take (i + 1) qs)
unmarked_more granted qs i q l e h = All-more (λ p. get_or (set granted q.input false) p.input false ≡ false) qs i q l (λ k d m. set-false granted q.input (get_or (take i qs) k d).input (h k d m)) (subst (λ (p : Request). get_or (set granted q.input false) p.input false ≡ false) e (set-here granted q.input))

free-all : (granted : List Bool) (qs : List Request) → All (λ p. get_or granted p.input false ≡ false) qs → free granted qs ≡ qs
free-all granted [] h = refl
free-all granted (q ∷ qs) h =
    let f : is-free granted q ≡ true = rw (h 0 q (omega arith)) refl in
    rw f (ap (λ (ps : List Request). q ∷ ps) (free-all granted qs (All-tail (λ p. get_or granted p.input false ≡ false) q qs h)))

pub free_all : (granted : List Bool) (qs : List Request) (n : ℕ) → length qs ≤ n → All (λ p. get_or granted p.input false ≡ false) (take n qs) → free granted qs ≡ qs
free_all granted qs n l h = free-all granted qs (subst (All (λ p. get_or granted p.input false ≡ false)) (take_all n qs l) h)

-- an arbiter after a call

pub arbiter_kept : (slots n heads links k i j : ℕ) (turns new : List Turn) (qs : List Request) → All (λ q. q.slot < slots) qs → IsArbiter slots turns n heads links → new ≡ (picks slots 0 turns qs).0 → k ≡ slots → i ≡ heads → j ≡ links → IsArbiter slots new k i j
arbiter_kept slots n heads links k i j turns new qs a h e l f g = record {
  few = h.few;
  outputs = rw (e, length_picks slots 0 turns qs) h.outputs;
  inputs = l;
  heads = f ∙ h.heads ∙ sym (ap length e ∙ length_picks slots 0 turns qs);
  links = g ∙ h.links;
  fit = subst (EachFits slots) (sym e) (picks-fit slots 0 turns qs a h.fit);
}
