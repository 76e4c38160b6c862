-- Timelines of uses.
use Rattle.std.proofs.Common.{◌≡◌, ◌≢◌, ◌==◌, ℕ, suc, ◌+◌, ◌*◌, ◌<◌, ◌≤◌, List, [], ◌∷◌, ◌++◌, length, get_or, set, take, drop, Bool, true, false, not, nat_lt, if◌then◌else◌, refl, sym, ap, subst, ◌∙◌, arith}
use Rattle.std.specs.List.{All}
use Rattle.std.proofs.lemmas.Bool.Decides.{nat_tests}
use Rattle.std.proofs.lemmas.List.Elements.{All-tail, All-cons}
use Rattle.std.proofs.lemmas.List.{get_or-set_same, get_or-set_other, length-append, length-take-le, get_or-take, take_more, take_more_set, take-append-drop}
use Rattle.std.proofs.Math.ListN.{length-set}
use Rattle.mr_arb.specs.Slots.{IsOrder, place_of, to_end}
use Rattle.mr_arb.specs.Uses.{last_uses, order_of, IsTimeline}
use Rattle.mr_arb.proofs.Orders.{without, order_to_end, found}

same : (x s : ℕ) → (x == s) ≡ true → x ≡ s
same x s e = grind (arith, e)

other : (x s : ℕ) → (x == s) ≡ false → x ≢ s
other x s e h = grind (arith, e, h)

-- entries that are last beyond these

uses-append-by : (p : List ℕ) (i s : ℕ) (xs ys zs : List ℕ) (b : Bool) → last_uses p (suc i) (xs ++ ys) ≡ last_uses p (suc i) xs ++ zs → (if b then s ∷ last_uses p (suc i) (xs ++ ys) else last_uses p (suc i) (xs ++ ys)) ≡ (if b then s ∷ last_uses p (suc i) xs else last_uses p (suc i) xs) ++ zs
uses-append-by p i s xs ys zs true h = ap (λ (us : List ℕ). s ∷ us) h
uses-append-by p i s xs ys zs false h = h

pub uses-append : (p : List ℕ) (i : ℕ) (xs ys : List ℕ) → last_uses p i (xs ++ ys) ≡ last_uses p i xs ++ last_uses p (i + length xs) ys
uses-append p i [] ys = ap (λ (n : ℕ). last_uses p n ys) (let e : i ≡ i + 0 = omega arith in e)
uses-append p i (s ∷ xs) ys =
    let e : suc i + length xs ≡ i + suc (length xs) = omega arith in
    uses-append-by p i s xs ys (last_uses p (i + suc (length xs)) ys) (get_or p s 0 == i) (uses-append p (suc i) xs ys ∙ ap (λ (n : ℕ). last_uses p (suc i) xs ++ last_uses p n ys) e)

-- a use behind entries takes its slot out of them

set-by : (p : List ℕ) (s at i x : ℕ) (us : List ℕ) (b c : Bool) → s < length p → i < at → b ≡ (x == s) → c ≡ (get_or p x 0 == i) → (if get_or (set p s at) x 0 == i then x ∷ us else us) ≡ (if not b then (if c then x ∷ us else us) else us)
set-by p s at i x us true c l m e f =
    let q : x ≡ s = same x s (sym e) in
    let g : get_or (set p s at) x 0 ≡ at = ap (λ (y : ℕ). get_or (set p s at) y 0) q ∙ get_or-set_same p s at 0 l in
    let h : (get_or (set p s at) x 0 == i) ≡ false = grind (arith, g, m) in
    rw h refl
set-by p s at i x us false c l m e f =
    let q : x ≢ s = other x s (sym e) in
    let g : get_or (set p s at) x 0 ≡ get_or p x 0 = get_or-set_other p s x at 0 q in
    ap (λ (y : ℕ). if y == i then x ∷ us else us) g ∙ ap (λ (d : Bool). if d then x ∷ us else us) (sym f)

keep-by : (s x : ℕ) (us : List ℕ) (b c : Bool) → b ≡ (x == s) → without s (if c then x ∷ us else us) ≡ (if not b then (if c then x ∷ without s us else without s us) else without s us)
keep-by s x us true true e = rw (← e) refl
keep-by s x us true false e = refl
keep-by s x us false true e = rw (← e) refl
keep-by s x us false false e = refl

pub uses-set : (p : List ℕ) (s at i : ℕ) (xs : List ℕ) → s < length p → i + length xs ≤ at → last_uses (set p s at) i xs ≡ without s (last_uses p i xs)
uses-set p s at i [] l m = refl
uses-set p s at i (x ∷ xs) l m =
    let ih = uses-set p s at (suc i) xs l (omega (arith, m)) in
    ap (λ (us : List ℕ). if get_or (set p s at) x 0 == i then x ∷ us else us) ih ∙ set-by p s at i x (without s (last_uses p (suc i) xs)) (x == s) (get_or p x 0 == i) l (omega (arith, m)) refl refl ∙ sym (keep-by s x (last_uses p (suc i) xs) (x == s) (get_or p x 0 == i) refl)

pub uses_push : (p : List ℕ) (s : ℕ) (xs : List ℕ) → s < length p → last_uses (set p s (length xs)) 0 (xs ++ s ∷ []) ≡ to_end (last_uses p 0 xs) s
uses_push p s xs l =
    let g : (get_or (set p s (length xs)) s 0 == 0 + length xs) ≡ true = grind (arith, get_or-set_same p s (length xs) 0 l) in
    uses-append (set p s (length xs)) 0 xs (s ∷ []) ∙ ap (λ (us : List ℕ). us ++ (if get_or (set p s (length xs)) s 0 == 0 + length xs then s ∷ [] else [])) (uses-set p s (length xs) 0 xs l (omega arith)) ∙ rw g refl

-- entries that are all last
pub uses_all : (p : List ℕ) (i : ℕ) (xs : List ℕ) → ((k : ℕ) → k < length xs → get_or p (get_or xs k 0) 0 ≡ i + k) → last_uses p i xs ≡ xs
uses_all p i [] h = refl
uses_all p i (x ∷ xs) h =
    let g : (get_or p x 0 == i) ≡ true = grind (arith, h 0 (omega arith)) in
    let ih = uses_all p (suc i) xs (λ k l. let e = h (suc k) (omega (arith, l)) in omega (arith, e)) in
    rw g (ap (λ (us : List ℕ). x ∷ us) ih)

-- of two slots whose last entries are these, the one that stands first is the one that was used first

abbrev Stands : List ℕ → ℕ → List ℕ → ℕ → Type 0
Stands p i xs a = (i ≤ get_or p a 0) × (get_or p a 0 < i + length xs) × ((k : ℕ) → i + k ≡ get_or p a 0 → get_or xs k 0 ≡ a)

stands-on : (p : List ℕ) (i x : ℕ) (xs : List ℕ) (a : ℕ) → get_or p a 0 ≢ i → Stands p i (x ∷ xs) a → Stands p (suc i) xs a
stands-on p i x xs a n h = (omega (arith, h.0, n), omega (arith, h.1), λ k e. h.2 (suc k) (omega (arith, e)))

first-is : (p : List ℕ) (i x : ℕ) (xs : List ℕ) (a : ℕ) → Stands p i (x ∷ xs) a → get_or p a 0 ≡ i → x ≡ a
first-is p i x xs a h e = h.2 0 (omega (arith, e))

here-by : (x a : ℕ) (us : List ℕ) → x ≡ a → place_of (x ∷ us) a ≡ 0
here-by x a us e = let f : (x == a) ≡ true = grind (arith, e) in rw f refl

there-by : (x a : ℕ) (us : List ℕ) → x ≢ a → place_of (x ∷ us) a ≡ suc (place_of us a)
there-by x a us n = let f : (x == a) ≡ false = grind (arith, n) in rw f refl

abbrev Agree : List ℕ → List ℕ → ℕ → ℕ → Type 0
Agree p us a b = nat_lt (place_of us a) (place_of us b) ≡ nat_lt (get_or p a 0) (get_or p b 0)

both-first : (m n u v : ℕ) → m ≡ 0 → n ≡ 0 → u ≡ v → nat_lt m n ≡ nat_lt u v
both-first m n u v e f g = grind (arith, nat_tests, e, f, g)

left-first : (m n u v : ℕ) → m ≡ 0 → 1 ≤ n → u < v → nat_lt m n ≡ nat_lt u v
left-first m n u v e f g = grind (arith, nat_tests, e, f, g)

right-first : (m n u v : ℕ) → n ≡ 0 → v < u → nat_lt m n ≡ nat_lt u v
right-first m n u v e g = grind (arith, nat_tests, e, g)

neither-first : (m n k l u v : ℕ) → m ≡ suc k → n ≡ suc l → nat_lt k l ≡ nat_lt u v → nat_lt m n ≡ nat_lt u v
neither-first m n k l u v e f g = grind (arith, nat_tests, e, f, g)

live-by : (p : List ℕ) (i x : ℕ) (xs us : List ℕ) (a b : ℕ) (c d : Bool) → get_or p x 0 ≡ i → Stands p i (x ∷ xs) a → Stands p i (x ∷ xs) b → (Stands p (suc i) xs a → Stands p (suc i) xs b → Agree p us a b) → c ≡ (x == a) → d ≡ (x == b) → Agree p (x ∷ us) a b
live-by p i x xs us a b true true e ha hb ih ea eb =
    let qa : x ≡ a = same x a (sym ea) in
    let qb : x ≡ b = same x b (sym eb) in
    both-first (place_of (x ∷ us) a) (place_of (x ∷ us) b) (get_or p a 0) (get_or p b 0) (here-by x a us qa) (here-by x b us qb) (ap (λ (y : ℕ). get_or p y 0) (sym qa ∙ qb))
live-by p i x xs us a b true false e ha hb ih ea eb =
    let qa : x ≡ a = same x a (sym ea) in
    let nb : x ≢ b = other x b (sym eb) in
    let pa : get_or p a 0 ≡ i = ap (λ (y : ℕ). get_or p y 0) (sym qa) ∙ e in
    let pb : get_or p b 0 ≢ i = λ h. nb (first-is p i x xs b hb h) in
    left-first (place_of (x ∷ us) a) (place_of (x ∷ us) b) (get_or p a 0) (get_or p b 0) (here-by x a us qa) (omega (arith, there-by x b us nb)) (omega (arith, pa, pb, hb.0))
live-by p i x xs us a b false true e ha hb ih ea eb =
    let na : x ≢ a = other x a (sym ea) in
    let qb : x ≡ b = same x b (sym eb) in
    let pb : get_or p b 0 ≡ i = ap (λ (y : ℕ). get_or p y 0) (sym qb) ∙ e in
    let pa : get_or p a 0 ≢ i = λ h. na (first-is p i x xs a ha h) in
    right-first (place_of (x ∷ us) a) (place_of (x ∷ us) b) (get_or p a 0) (get_or p b 0) (here-by x b us qb) (omega (arith, pa, pb, ha.0))
live-by p i x xs us a b false false e ha hb ih ea eb =
    let na : x ≢ a = other x a (sym ea) in
    let nb : x ≢ b = other x b (sym eb) in
    let pa : get_or p a 0 ≢ i = λ h. na (first-is p i x xs a ha h) in
    let pb : get_or p b 0 ≢ i = λ h. nb (first-is p i x xs b hb h) in
    neither-first (place_of (x ∷ us) a) (place_of (x ∷ us) b) (place_of us a) (place_of us b) (get_or p a 0) (get_or p b 0) (there-by x a us na) (there-by x b us nb) (ih (stands-on p i x xs a pa ha) (stands-on p i x xs b pb hb))

entry-by : (p : List ℕ) (i x : ℕ) (xs us : List ℕ) (a b : ℕ) (c : Bool) → Stands p i (x ∷ xs) a → Stands p i (x ∷ xs) b → (Stands p (suc i) xs a → Stands p (suc i) xs b → Agree p us a b) → c ≡ (get_or p x 0 == i) → Agree p (if c then x ∷ us else us) a b
entry-by p i x xs us a b true ha hb ih e = live-by p i x xs us a b (x == a) (x == b) (same (get_or p x 0) i (sym e)) ha hb ih refl refl
entry-by p i x xs us a b false ha hb ih e =
    let n : get_or p x 0 ≢ i = other (get_or p x 0) i (sym e) in
    let pa : get_or p a 0 ≢ i = λ h. n (ap (λ (y : ℕ). get_or p y 0) (first-is p i x xs a ha h) ∙ h) in
    let pb : get_or p b 0 ≢ i = λ h. n (ap (λ (y : ℕ). get_or p y 0) (first-is p i x xs b hb h) ∙ h) in
    ih (stands-on p i x xs a pa ha) (stands-on p i x xs b pb hb)

pub uses_before : (p : List ℕ) (i : ℕ) (xs : List ℕ) (a b : ℕ) → Stands p i xs a → Stands p i xs b → Agree p (last_uses p i xs) a b
uses_before p i [] a b ha hb = absurd (omega (arith, ha.0, ha.1))
uses_before p i (x ∷ xs) a b ha hb = entry-by p i x xs (last_uses p (suc i) xs) a b (get_or p x 0 == i) ha hb (uses_before p (suc i) xs a b) refl

-- of a timeline

stands : (p tl : List ℕ) (used a : ℕ) → IsTimeline p tl used → a < length p → Stands p 0 (take used tl) a
stands p tl used a h l =
    let w = h.last a l in
    (omega arith, omega (arith, w.0, length-take-le used tl h.within), λ k e. get_or-take used tl k 0 (omega (arith, e, w.0)) ∙ ap (λ (n : ℕ). get_or tl n 0) (let f : k ≡ get_or p a 0 = omega (arith, e) in f) ∙ w.1)

pub timeline_before : (p tl : List ℕ) (used a b : ℕ) → IsTimeline p tl used → a < length (order_of p tl used) → b < length (order_of p tl used) → nat_lt (get_or p a 0) (get_or p b 0) ≡ nat_lt (place_of (order_of p tl used) a) (place_of (order_of p tl used) b)
timeline_before p tl used a b h l m = sym (uses_before p 0 (take used tl) a b (stands p tl used a h (omega (arith, l, h.order.count))) (stands p tl used b h (omega (arith, m, h.order.count))))

-- one more use

All-push : (P : ℕ → Type 0) (xs : List ℕ) (s : ℕ) → All P xs → P s → All P (xs ++ s ∷ [])
All-push P [] s h p = All-cons P s [] p h
All-push P (x ∷ xs) s h p = All-cons P x (xs ++ s ∷ []) (h 0 x (omega arith)) (All-push P xs s (All-tail P x xs h) p)

pub order_pushed : (p tl : List ℕ) (used s : ℕ) → IsTimeline p tl used → used < length tl → s < length p → order_of (set p s used) (set tl used s) (used + 1) ≡ to_end (order_of p tl used) s
order_pushed p tl used s h l m =
    ap (last_uses (set p s used) 0) (take_more_set tl used s l) ∙ ap (λ (n : ℕ). last_uses (set p s n) 0 (take used tl ++ s ∷ [])) (sym (length-take-le used tl h.within)) ∙ uses_push p s (take used tl) m

last-by : (p tl : List ℕ) (used s t : ℕ) (b : Bool) → b ≡ (t == s) → IsTimeline p tl used → used < length tl → s < length p → t < length p → (get_or (set p s used) t 0 < used + 1) × (get_or (set tl used s) (get_or (set p s used) t 0) 0 ≡ t)
last-by p tl used s t true e h l m n =
    let q : t ≡ s = same t s (sym e) in
    let g : get_or (set p s used) t 0 ≡ used = ap (λ (y : ℕ). get_or (set p s used) y 0) q ∙ get_or-set_same p s used 0 m in
    (omega (arith, g), ap (λ (y : ℕ). get_or (set tl used s) y 0) g ∙ get_or-set_same tl used s 0 l ∙ sym q)
last-by p tl used s t false e h l m n =
    let q : t ≢ s = other t s (sym e) in
    let w = h.last t n in
    let g : get_or (set p s used) t 0 ≡ get_or p t 0 = get_or-set_other p s t used 0 q in
    let r : get_or p t 0 ≢ used = omega (arith, w.0) in
    (omega (arith, g, w.0), ap (λ (y : ℕ). get_or (set tl used s) y 0) g ∙ get_or-set_other tl used (get_or p t 0) s 0 r ∙ w.1)

pub timeline_pushed : (p tl : List ℕ) (used s : ℕ) → IsTimeline p tl used → used < length tl → s < length p → IsTimeline (set p s used) (set tl used s) (used + 1)
timeline_pushed p tl used s h l m =
    let n : length (set p s used) ≡ length p = length-set p s used in
    let k : length (set tl used s) ≡ length tl = length-set tl used s in
    record {
      order = subst (λ (x : ℕ). IsOrder x (order_of (set p s used) (set tl used s) (used + 1))) (sym n) (subst (IsOrder (length p)) (sym (order_pushed p tl used s h l m)) (order_to_end (length p) s (order_of p tl used) m h.order));
      inside = subst (λ (x : ℕ). All (λ t. t < x) (take (used + 1) (set tl used s))) (sym n) (subst (All (λ t. t < length p)) (sym (take_more_set tl used s l)) (All-push (λ t. t < length p) (take used tl) s h.inside m));
      last = λ t o. last-by p tl used s t (t == s) refl h l m (omega (arith, n, o));
      some = omega (arith, n, h.some);
      few = omega (arith, n, h.few);
      room = omega (arith, n, k, h.room);
      within = omega (arith, k, l);
    }

-- a timeline that begins with all slots in their order

pub order_gathered : (p tl os : List ℕ) (n : ℕ) → take n tl ≡ os → ((k : ℕ) → k < length os → get_or p (get_or os k 0) 0 ≡ k) → order_of p tl n ≡ os
order_gathered p tl os n e h = ap (last_uses p 0) e ∙ uses_all p 0 os (λ k l. let q = h k l in omega (arith, q))

gathered-last : (p tl os : List ℕ) → IsOrder (length p) os → take (length p) tl ≡ os → ((k : ℕ) → k < length os → get_or p (get_or os k 0) 0 ≡ k) → (s : ℕ) → s < length p → (get_or p s 0 < length p) × (get_or tl (get_or p s 0) 0 ≡ s)
gathered-last p tl os o e h s l =
    let once = o.once s l in
    let w = found s os (omega (arith, once)) in
    let g : get_or p s 0 ≡ w.0 = ap (λ (y : ℕ). get_or p y 0) (sym w.2) ∙ h w.0 w.1 in
    let m : w.0 < length p = omega (arith, w.1, o.count) in
    (omega (arith, g, m), ap (λ (y : ℕ). get_or tl y 0) g ∙ sym (get_or-take (length p) tl w.0 0 m) ∙ ap (λ (xs : List ℕ). get_or xs w.0 0) e ∙ w.2)

pub timeline_gathered : (p tl os : List ℕ) (n : ℕ) → n ≡ length p → IsOrder n os → take n tl ≡ os → ((k : ℕ) → k < length os → get_or p (get_or os k 0) 0 ≡ k) → length tl ≡ 2 * n → 1 ≤ n → n ≤ 4096 → IsTimeline p tl n
timeline_gathered p tl os n q o e h r s f =
    let o' : IsOrder (length p) os = subst (λ (m : ℕ). IsOrder m os) q o in
    let e' : take (length p) tl ≡ os = subst (λ (m : ℕ). take m tl ≡ os) q e in
    subst (λ (m : ℕ). IsTimeline p tl m) (sym q) (record {
      order = subst (IsOrder (length p)) (sym (order_gathered p tl os (length p) e' h)) o';
      inside = subst (All (λ t. t < length p)) (sym e') o'.inside;
      last = gathered-last p tl os o' e' h;
      some = omega (arith, q, s);
      few = omega (arith, q, f);
      room = omega (arith, q, r);
      within = omega (arith, q, r);
    })

-- entry by entry

pub uses_more : (p tl : List ℕ) (k : ℕ) → k < length tl → get_or p (get_or tl k 0) 0 ≡ k → last_uses p 0 (take (k + 1) tl) ≡ last_uses p 0 (take k tl) ++ get_or tl k 0 ∷ []
uses_more p tl k l h =
    let n : length (take k tl) ≡ k = length-take-le k tl (omega (arith, l)) in
    let g : (get_or p (get_or tl k 0) 0 == 0 + length (take k tl)) ≡ true = grind (arith, h, n) in
    ap (last_uses p 0) (take_more tl k 0 l) ∙ uses-append p 0 (take k tl) (get_or tl k 0 ∷ []) ∙ ap (λ (b : Bool). last_uses p 0 (take k tl) ++ (if b then get_or tl k 0 ∷ [] else [])) g

nil-end : (us : List ℕ) → us ++ [] ≡ us
nil-end [] = refl
nil-end (u ∷ us) = ap (λ (xs : List ℕ). u ∷ xs) (nil-end us)

pub uses_skip : (p tl : List ℕ) (k : ℕ) → k < length tl → get_or p (get_or tl k 0) 0 ≢ k → last_uses p 0 (take (k + 1) tl) ≡ last_uses p 0 (take k tl)
uses_skip p tl k l h =
    let n : length (take k tl) ≡ k = length-take-le k tl (omega (arith, l)) in
    let g : (get_or p (get_or tl k 0) 0 == 0 + length (take k tl)) ≡ false = grind (arith, h, n) in
    ap (last_uses p 0) (take_more tl k 0 l) ∙ uses-append p 0 (take k tl) (get_or tl k 0 ∷ []) ∙ ap (λ (b : Bool). last_uses p 0 (take k tl) ++ (if b then get_or tl k 0 ∷ [] else [])) g ∙ nil-end (last_uses p 0 (take k tl))

pub uses_room : (p tl : List ℕ) (k : ℕ) → k < length tl → get_or p (get_or tl k 0) 0 ≡ k → length (last_uses p 0 (take k tl)) < length (last_uses p 0 tl)
uses_room p tl k l h =
    let a = ap length (ap (last_uses p 0) (sym (take-append-drop (k + 1) tl)) ∙ uses-append p 0 (take (k + 1) tl) (drop (k + 1) tl)) in
    let b = length-append (last_uses p 0 (take (k + 1) tl)) (last_uses p (0 + length (take (k + 1) tl)) (drop (k + 1) tl)) in
    let c = ap length (uses_more p tl k l h) in
    let d = length-append (last_uses p 0 (take k tl)) (get_or tl k 0 ∷ []) in
    omega (arith, a, b, c, d)
