-- Chains of requests by output.
use Rattle.std.proofs.Common.{◌≡◌, ℕ, zero, suc, ◌<◌, ◌≤◌, List, [], ◌∷◌, length, refl, ap, sym, subst, ◌∙◌, arith, get_or, drop, Bool, true, false, Option, ◌==◌, if◌then◌else◌, drop-cons, None}
use Rattle.std.specs.List.{filter, fold}
use Rattle.std.proofs.Math.ListN.{drop_of_length-le}
use Rattle.mr_arb.specs.declared.Request.{Request}
use Rattle.mr_arb.specs.declared.turn.Turn.{Turn}
use Rattle.mr_arb.specs.Arbitrating.{wins, better, winner, free}
use Rattle.mr_arb.specs.Chains.{first_of, AreChains}
use Rattle.mr_arb.proofs.Picking.{asks}

-- lists of requests

drop-none : (qs : List Request) (k : ℕ) → length qs ≤ k → drop k qs ≡ []
drop-none qs k l = drop_of_length-le qs l

no-cons : (q : Request) (later : List Request) → [] ≡ q ∷ later → ⊥
no-cons q later e = grind (arith, e)

tail-same : (q p : Request) (xs ys : List Request) → q ∷ xs ≡ p ∷ ys → xs ≡ ys
tail-same q p xs ys e = cc

-- along a chain

above-by : (o i r : ℕ) (b : Bool) → suc i ≤ r → i ≤ (if b then i else r)
above-by o i r true l = omega arith
above-by o i r false l = omega (arith, l)

pub first_above : (o i : ℕ) (qs : List Request) → i ≤ first_of o i qs
first_above o i [] = omega arith
first_above o i (q ∷ qs) = above-by o i (first_of o (suc i) qs) (q.output == o) (first_above o (suc i) qs)

drop-tail : (qs xs : List Request) (i : ℕ) (x : Request) → drop i qs ≡ x ∷ xs → drop (suc i) qs ≡ xs
drop-tail [] xs zero x e = absurd (no-cons x xs e)
drop-tail [] xs (suc i) x e = absurd (no-cons x xs e)
drop-tail (q ∷ qs) xs zero x e = tail-same q x qs xs e
drop-tail (q ∷ qs) xs (suc i) x e = drop-tail qs xs i x e

-- the number that a chain begins with or goes on with is one of its own, or there are no more

stays-by : (o i r : ℕ) (qs xs : List Request) (x : Request) (b : Bool) → (x.output == o) ≡ b → drop i qs ≡ x ∷ xs → first_of o r (drop r qs) ≡ r → first_of o (if b then i else r) (drop (if b then i else r) qs) ≡ (if b then i else r)
stays-by o i r qs xs x true e d h = rw (d, e) refl
stays-by o i r qs xs x false e d h = h

stays : (o i : ℕ) (qs xs : List Request) → drop i qs ≡ xs → first_of o (first_of o i xs) (drop (first_of o i xs) qs) ≡ first_of o i xs
stays o i qs [] d = rw d refl
stays o i qs (x ∷ xs) d = stays-by o i (first_of o (suc i) xs) qs xs x (x.output == o) refl d (stays o (suc i) qs xs (drop-tail qs xs i x d))

is-own-by : (o n r : ℕ) (q : Request) (b : Bool) → (q.output == o) ≡ b → suc n ≤ r → (if b then n else r) ≡ n → q.output ≡ o
is-own-by o n r q true e l h = grind (arith, e)
is-own-by o n r q false e l h = absurd (omega (arith, l, h))

pub is_own : (o n : ℕ) (qs : List Request) (q d : Request) → n < length qs → q ≡ get_or qs n d → first_of o n (drop n qs) ≡ n → q.output ≡ o
is_own o n qs q d l e h =
    let c : drop n qs ≡ q ∷ drop (suc n) qs = drop-cons qs n d l ∙ ap (λ (p : Request). p ∷ drop (suc n) qs) (sym e) in
    is-own-by o n (first_of o (suc n) (drop (suc n) qs)) q (q.output == o) refl (first_above o (suc n) (drop (suc n) qs)) (ap (first_of o n) (sym c) ∙ h)

-- an output's requests that are still free

abbrev own : ℕ → List Bool → List Request → List Request
own o granted qs = filter (asks o) (free granted qs)

own-granted : (o : ℕ) (granted : List Bool) (x : Request) (xs : List Request) → get_or granted x.input false ≡ true → own o granted (x ∷ xs) ≡ own o granted xs
own-granted o granted x xs g = rw g refl

own-free : (o : ℕ) (granted : List Bool) (x : Request) (xs : List Request) → get_or granted x.input false ≡ false → x.output ≡ o → own o granted (x ∷ xs) ≡ x ∷ own o granted xs
own-free o granted x xs g e =
    let a : (x.output == o) ≡ true = grind (arith, e) in
    rw (g, a) refl

not-own : (o : ℕ) (granted : List Bool) (x : Request) (xs : List Request) (b : Bool) → get_or granted x.input false ≡ b → (x.output == o) ≡ false → own o granted (x ∷ xs) ≡ own o granted xs
not-own o granted x xs true g e = own-granted o granted x xs g
not-own o granted x xs false g e = rw (g, e) refl

same-own-by : (o i r : ℕ) (granted : List Bool) (qs xs : List Request) (x : Request) (b : Bool) → (x.output == o) ≡ b → drop i qs ≡ x ∷ xs → own o granted xs ≡ own o granted (drop r qs) → own o granted (x ∷ xs) ≡ own o granted (drop (if b then i else r) qs)
same-own-by o i r granted qs xs x true e d h = ap (own o granted) (sym d)
same-own-by o i r granted qs xs x false e d h = not-own o granted x xs (get_or granted x.input false) refl e ∙ h

same-own : (o i : ℕ) (granted : List Bool) (qs xs : List Request) → drop i qs ≡ xs → own o granted xs ≡ own o granted (drop (first_of o i xs) qs)
same-own o i granted qs [] d = ap (own o granted) (sym d)
same-own o i granted qs (x ∷ xs) d = same-own-by o i (first_of o (suc i) xs) granted qs xs x (x.output == o) refl d (same-own o (suc i) granted qs xs (drop-tail qs xs i x d))

-- the walk along a chain

-- the winner where the walk has come to a number with so good a request
pub record IsWalked (slots output : ℕ) (turn : Turn) (granted : List Bool) (qs : List Request) (number : ℕ) (best : Option Request) : Type 0 where
  pub place : first_of output number (drop number qs) ≡ number
  pub rest : winner slots output turn (free granted qs) ≡ fold (better (wins slots turn)) best (filter (λ q. q.output == output) (free granted (drop number qs)))

pub walk_begins : (slots output : ℕ) (turn : Turn) (granted : List Bool) (qs : List Request) (first next : List ℕ) (number : ℕ) → output < length first → AreChains first next 0 qs → number ≡ get_or first output 0 → IsWalked slots output turn granted qs number None
walk_begins slots output turn granted qs first next number l h e =
    let n : number ≡ first_of output 0 qs = e ∙ h.begins output l in
    subst (λ (k : ℕ). IsWalked slots output turn granted qs k None) (sym n) record {
      place = stays output 0 qs qs refl;
      rest = ap (fold (better (wins slots turn)) None) (same-own output 0 granted qs qs refl);
    }

pub walk_next : (output number to : ℕ) (qs : List Request) (first next : List ℕ) (q d : Request) → output < length first → AreChains first next 0 qs → number < length qs → q ≡ get_or qs number d → first_of output number (drop number qs) ≡ number → to ≡ get_or next number 0 → to ≡ first_of output (suc number) (drop (suc number) qs)
walk_next output number to qs first next q d l h m e p t =
    let o : q.output ≡ output = is_own output number qs q d m e p in
    let c : drop number qs ≡ q ∷ drop (suc number) qs = drop-cons qs number d m ∙ ap (λ (x : Request). x ∷ drop (suc number) qs) (sym e) in
    t ∙ h.goes_on number q (drop (suc number) qs) (omega arith) c (omega (arith, o, l)) ∙ ap (λ (x : ℕ). first_of x (suc number) (drop (suc number) qs)) o

pub walk_above : (output number to : ℕ) (qs : List Request) (first next : List ℕ) (q d : Request) → output < length first → AreChains first next 0 qs → number < length qs → q ≡ get_or qs number d → first_of output number (drop number qs) ≡ number → to ≡ get_or next number 0 → number < to
walk_above output number to qs first next q d l h m e p t =
    let n = walk_next output number to qs first next q d l h m e p t in
    let a : suc number ≤ first_of output (suc number) (drop (suc number) qs) = first_above output (suc number) (drop (suc number) qs) in
    omega (arith, n, a)

pub walk_granted : (slots output number to : ℕ) (turn : Turn) (granted : List Bool) (qs : List Request) (first next : List ℕ) (best : Option Request) (q d : Request) → output < length first → AreChains first next 0 qs → number < length qs → q ≡ get_or qs number d → to ≡ get_or next number 0 → get_or granted q.input false ≡ true → IsWalked slots output turn granted qs number best → IsWalked slots output turn granted qs to best
walk_granted slots output number to turn granted qs first next best q d l h m e t g w =
    let n : to ≡ first_of output (suc number) (drop (suc number) qs) = walk_next output number to qs first next q d l h m e w.place t in
    let c : drop number qs ≡ q ∷ drop (suc number) qs = drop-cons qs number d m ∙ ap (λ (x : Request). x ∷ drop (suc number) qs) (sym e) in
    subst (λ (k : ℕ). IsWalked slots output turn granted qs k best) (sym n) record {
      place = stays output (suc number) qs (drop (suc number) qs) refl;
      rest = w.rest ∙ ap (fold (better (wins slots turn)) best) (ap (own output granted) c ∙ own-granted output granted q (drop (suc number) qs) g ∙ same-own output (suc number) granted qs (drop (suc number) qs) refl);
    }

pub walk_free : (slots output number to : ℕ) (turn : Turn) (granted : List Bool) (qs : List Request) (first next : List ℕ) (best new : Option Request) (q d : Request) → output < length first → AreChains first next 0 qs → number < length qs → q ≡ get_or qs number d → to ≡ get_or next number 0 → get_or granted q.input false ≡ false → new ≡ better (wins slots turn) best q → IsWalked slots output turn granted qs number best → IsWalked slots output turn granted qs to new
walk_free slots output number to turn granted qs first next best new q d l h m e t g b w =
    let n : to ≡ first_of output (suc number) (drop (suc number) qs) = walk_next output number to qs first next q d l h m e w.place t in
    let c : drop number qs ≡ q ∷ drop (suc number) qs = drop-cons qs number d m ∙ ap (λ (x : Request). x ∷ drop (suc number) qs) (sym e) in
    subst (λ (k : ℕ). IsWalked slots output turn granted qs k new) (sym n) (subst (λ (x : Option Request). IsWalked slots output turn granted qs (first_of output (suc number) (drop (suc number) qs)) x) (sym b) record {
      place = stays output (suc number) qs (drop (suc number) qs) refl;
      rest = w.rest ∙ ap (fold (better (wins slots turn)) best) (ap (own output granted) c ∙ own-free output granted q (drop (suc number) qs) g (is_own output number qs q d m e w.place)) ∙ ap (fold (better (wins slots turn)) (better (wins slots turn) best q)) (same-own output (suc number) granted qs (drop (suc number) qs) refl);
    })

pub walked : (slots output : ℕ) (turn : Turn) (granted : List Bool) (qs : List Request) (number : ℕ) (best : Option Request) → length qs ≤ number → IsWalked slots output turn granted qs number best → best ≡ winner slots output turn (free granted qs)
walked slots output turn granted qs number best l w = sym (w.rest ∙ ap (λ (xs : List Request). fold (better (wins slots turn)) best (filter (asks output) (free granted xs))) (drop-none qs number l))
