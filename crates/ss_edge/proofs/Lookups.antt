-- Entries that are looked up, changed and added.
use Rattle.std.proofs.Common.{◌≡◌, ◌≢◌, ℕ, zero, suc, ◌+◌, ◌-◌, ◌^◌, min, ◌<◌, ◌≤◌, Bool, true, false, cond, List, [], ◌∷◌, ◌++◌, map, get_or, set, Option, Some, None, refl, ap, sym, ◌∙◌, arith, if◌then◌else◌, is_some, is_none, inr, reverse, nat_lt, ◌&&◌, ◌||◌}
use Rattle.std.proofs.lemmas.Slice.Eq.{bytes_eq-Decides}
use Rattle.std.specs.Str.{bytes_eq}
use Rattle.std.proofs.lemmas.List.{reverse-append}
use Rattle.std.specs.Ordering.{nat_cmp, eq_by_cmp, is_eq}
use Rattle.std.specs.Cmp.{tied_itself}
use Rattle.std.specs.Cmp.Lexicographic.{slice_cmp, nat_list_cmp_total}
use Rattle.std.specs.FinMap.{from_entries, get, insert, find, same_map, get-insert, get-from_entries, from_entries_push, IsAntisymmetric, slice_cmp-IsAntisymmetric, nat_cmp-IsAntisymmetric}
use Rattle.ss_edge.specs.Edge.{Contents, Rose, Kept, PartlyPut, with_entry, HasRead, Reads}
use Rattle.ss_edge.specs.Entries.{pair_of, contents, look, IsAt, IsNowhere, kept_of, risen, counted, Same}
use Rattle.std.specs.declared.cmp.Ordering.{Ordering}
use Rattle.std.specs.declared.cmp.Ordering.TheVariants.{Equal}
use Rattle.ss_edge.specs.declared.mem_shelf.Entry.{Entry}

abbrev pub R : List ℕ → List ℕ → Ordering
R = slice_cmp nat_cmp

pub antisym : IsAntisymmetric R
antisym = slice_cmp-IsAntisymmetric nat_cmp-IsAntisymmetric

-- a test that decides an equation is the other test that does
pub tests_agree : {P : Type 0} (a b : Bool) → (a ≡ true → P) → (P → a ≡ true) → (b ≡ true → P) → (P → b ≡ true) → a ≡ b
tests_agree true b f g h k = sym (k (f refl))
tests_agree false true f g h k = g (h refl)
tests_agree false false f g h k = refl

to_false : (b : Bool) → (b ≡ true → ⊥) → b ≡ false
to_false true h = absurd (h refl)
to_false false h = refl

pub differs : (a b : List ℕ) → a ≢ b → bytes_eq a b ≡ false
differs a b ne = to_false (bytes_eq a b) (λ e. ne ((bytes_eq-Decides a b).0 e))

pub same : (a b : List ℕ) → a ≡ b → bytes_eq a b ≡ true
same a b e = (bytes_eq-Decides a b).1 e

is_equal : (o : Ordering) → is_eq o ≡ true → o ≡ Equal
is_equal o h = grind arith

pub tied : (a b : List ℕ) → a ≡ b → eq_by_cmp R a b ≡ true
tied a b e = rw (← e) (ap is_eq (tied_itself nat_list_cmp_total a))

pub tells : (a b : List ℕ) → eq_by_cmp R a b ≡ bytes_eq a b
tells a b = tests_agree (eq_by_cmp R a b) (bytes_eq a b) (λ e. antisym a b (is_equal (R a b) e)) (tied a b) ((bytes_eq-Decides a b).0) ((bytes_eq-Decides a b).1)

-- what holds of a place behind the first entry
tail_at : (name : List ℕ) (e : Entry) (es : List Entry) (i : ℕ) → IsAt name (e ∷ es) (suc i) → IsAt name es i
tail_at name e es i at = record { within = grind (arith, at.within); named = λ d. at.named d; first = λ k d h. at.first (suc k) d (omega (arith, h)) }

head_apart : (name : List ℕ) (e : Entry) (es : List Entry) (i : ℕ) → IsAt name (e ∷ es) (suc i) → e.name ≢ name
head_apart name e es i at = at.first zero e (omega arith)

apart' : (a b : List ℕ) → a ≢ b → b ≢ a
apart' a b h e = h (sym e)

pub look-at : (f : Entry → ℕ) (o : ℕ) (name : List ℕ) (es : List Entry) (i : ℕ) (d : Entry) → IsAt name es i → look f o name es ≡ f (get_or es i d)
look-at f o name [] i d at = absurd (omega (arith, at.within))
look-at f o name (e ∷ es) zero d at = rw (same name e.name (sym (at.named e))) refl
look-at f o name (e ∷ es) (suc i) d at = rw (differs name e.name (apart' _ _ (head_apart name e es i at))) (look-at f o name es i d (tail_at name e es i at))

tail_nowhere : (name : List ℕ) (e : Entry) (es : List Entry) → IsNowhere name (e ∷ es) → IsNowhere name es
tail_nowhere name e es none k d h = none (suc k) d (omega (arith, h))

pub look-nowhere : (f : Entry → ℕ) (o : ℕ) (name : List ℕ) (es : List Entry) → IsNowhere name es → look f o name es ≡ o
look-nowhere f o name [] none = refl
look-nowhere f o name (e ∷ es) none = rw (differs name e.name (apart' _ _ (none zero e (omega arith)))) (look-nowhere f o name es (tail_nowhere name e es none))

-- the value at a key, by the test of bytes
abbrev pub at_key : List ℕ → List (List ℕ × List ℕ) → Option (List ℕ)
at_key q [] = None
at_key q (p ∷ ps) = cond (bytes_eq q p.0) (Some p.1) (at_key q ps)

twice : {A : Type 0} (b : Bool) (x y z : A) → cond b x z ≡ cond b x (cond b y z)
twice true x y z = refl
twice false x y z = refl

turned : {A : Type 0} (a b : Bool) (x y z : A) → (a ≡ true → b ≡ true → ⊥) → cond a x (cond b y z) ≡ cond b y (cond a x z)
turned true true x y z h = absurd (h refl refl)
turned true false x y z h = refl
turned false b x y z h = refl

not_both : (q a b : List ℕ) → a ≢ b → bytes_eq q a ≡ true → bytes_eq q b ≡ true → ⊥
not_both q a b ne ea eb = ne (sym ((bytes_eq-Decides q a).0 ea) ∙ (bytes_eq-Decides q b).0 eb)

-- the entry at a place gives way to another of its name
pub look-set-at : (f : Entry → ℕ) (o : ℕ) (name : List ℕ) (es : List Entry) (i : ℕ) (y : Entry) → IsAt name es i → y.name ≡ name → (k : List ℕ) → look f o k (set es i y) ≡ (if bytes_eq k name then f y else look f o k es)
look-set-at f o name [] i y at e k = absurd (omega (arith, at.within))
look-set-at f o name (x ∷ es) zero y at e k =
    ap (λ n. if bytes_eq k n then f y else look f o k es) e
    ∙ twice (bytes_eq k name) (f y) (f x) (look f o k es)
    ∙ ap (λ n. if bytes_eq k name then f y else (if bytes_eq k n then f x else look f o k es)) (sym (at.named x))
look-set-at f o name (x ∷ es) (suc i) y at e k =
    rw (look-set-at f o name es i y (tail_at name x es i at) e k) (turned (bytes_eq k x.name) (bytes_eq k name) (f x) (f y) (look f o k es) (not_both k x.name name (head_apart name x es i at)))

-- an entry with the same count stands in its place
pub look-set-same : (f : Entry → ℕ) (o : ℕ) (es : List Entry) (i : ℕ) (y r : Entry) → r ≡ get_or es i r → y.name ≡ r.name → f y ≡ f r → (k : List ℕ) → look f o k (set es i y) ≡ look f o k es
look-set-same f o [] i y r t e h k = refl
look-set-same f o (x ∷ es) zero y r t e h k =
    ap (λ n. if bytes_eq k n then f y else look f o k es) (e ∙ ap (λ z. z.name) t) ∙ ap (λ m. if bytes_eq k x.name then m else look f o k es) (h ∙ ap f t)
look-set-same f o (x ∷ es) (suc i) y r t e h k = ap (λ z. if bytes_eq k x.name then f x else z) (look-set-same f o es i y r t e h k)

same-both : (b : Bool) (m n : ℕ) → m ≡ n → (if b then m else n) ≡ n
same-both true m n e = e
same-both false m n e = refl

-- a new entry begins with the count of the names that aren't there
pub look-push-same : (f : Entry → ℕ) (o : ℕ) (es : List Entry) (y : Entry) → f y ≡ o → (k : List ℕ) → look f o k (es ++ y ∷ []) ≡ look f o k es
look-push-same f o [] y h k = same-both (bytes_eq k y.name) (f y) o h
look-push-same f o (x ∷ es) y h k = ap (λ z. if bytes_eq k x.name then f x else z) (look-push-same f o es y h k)

none-of : {A : Type 0} (b : Bool) (x : A) (o : Option A) → is_none (cond b (Some x) o) ≡ (if b then false else is_none o)
none-of true x o = refl
none-of false x o = refl

pick-none : (b c : Bool) (m n p : ℕ) → (if b then m else (if c then p else n)) ≡ (if (if b then false else c) then p else (if b then m else n))
pick-none true c m n p = refl
pick-none false c m n p = refl

-- the count of the names that aren't there changes
pub look-others : (f : Entry → ℕ) (o p : ℕ) (es : List Entry) (k : List ℕ) → look f p k es ≡ (if is_none (at_key k (map pair_of es)) then p else look f o k es)
look-others f o p [] k = refl
look-others f o p (x ∷ es) k =
    rw (none-of (bytes_eq k x.name) x.bytes.items (at_key k (map pair_of es)), look-others f o p es k) (pick-none (bytes_eq k x.name) (is_none (at_key k (map pair_of es))) (f x) (look f o k es) p)

pick-out : (b c : Bool) (m n o : ℕ) → (if b then false else c) ≡ true → (c ≡ true → n ≡ o) → (if b then m else n) ≡ o
pick-out true c m n o e h = absurd cc
pick-out false c m n o e h = h e

-- a name that isn't there has the others' count
pub look-none : (f : Entry → ℕ) (o : ℕ) (es : List Entry) (k : List ℕ) → is_none (at_key k (map pair_of es)) ≡ true → look f o k es ≡ o
look-none f o [] k h = refl
look-none f o (x ∷ es) k h = pick-out (bytes_eq k x.name) (is_none (at_key k (map pair_of es))) (f x) (look f o k es) o (sym (none-of (bytes_eq k x.name) x.bytes.items (at_key k (map pair_of es))) ∙ h) (look-none f o es k)

pub pairs-same : (es : List Entry) (i : ℕ) (y r : Entry) → r ≡ get_or es i r → y.name ≡ r.name → y.bytes ≡ r.bytes → map pair_of (set es i y) ≡ map pair_of es
pairs-same [] i y r t e h = refl
pairs-same (x ∷ es) zero y r t e h = let e' : y.name ≡ x.name = e ∙ ap (λ z. z.name) t in let h' : y.bytes ≡ x.bytes = h ∙ ap (λ z. z.bytes) t in ap (λ n. (n, y.bytes.items) ∷ map pair_of es) e' ∙ ap (λ b. (x.name, b.items) ∷ map pair_of es) h'
pairs-same (x ∷ es) (suc i) y r t e h = ap (λ z. pair_of x ∷ z) (pairs-same es i y r t e h)

pub contents-same : (es : List Entry) (i : ℕ) (y r : Entry) → r ≡ get_or es i r → y.name ≡ r.name → y.bytes ≡ r.bytes → contents (set es i y) ≡ contents es
contents-same es i y r t e h = ap (λ z. from_entries z) (pairs-same es i y r t e h)

pub find-is : (q : List ℕ) (ps : List (List ℕ × List ℕ)) → find R q ps ≡ at_key q ps
find-is q [] = refl
find-is q (p ∷ ps) = rw (tells q p.0, find-is q ps) refl

pub at_key-set : (q name : List ℕ) (es : List Entry) (i : ℕ) (y : Entry) → IsAt name es i → y.name ≡ name → at_key q (map pair_of (set es i y)) ≡ cond (bytes_eq q name) (Some y.bytes.items) (at_key q (map pair_of es))
at_key-set q name [] i y at e = absurd (omega (arith, at.within))
at_key-set q name (x ∷ es) zero y at e = rw (e, at.named x) (twice (bytes_eq q name) (Some y.bytes.items) (Some x.bytes.items) (at_key q (map pair_of es)))
at_key-set q name (x ∷ es) (suc i) y at e =
    rw (at_key-set q name es i y (tail_at name x es i at) e) (turned (bytes_eq q x.name) (bytes_eq q name) (Some x.bytes.items) (Some y.bytes.items) (at_key q (map pair_of es)) (not_both q x.name name (head_apart name x es i at)))

pub contents-get : (es : List Entry) (q : List ℕ) → get (contents es) q ≡ at_key q (map pair_of es)
contents-get es q = get-from_entries nat_list_cmp_total (map pair_of es) q ∙ find-is q (map pair_of es)

pub contents-set : (name : List ℕ) (es : List Entry) (i : ℕ) (y r : Entry) → IsAt name es i → r ≡ get_or es i r → y.name ≡ r.name → contents (set es i y) ≡ insert (contents es) name y.bytes.items
contents-set name es i y r at t e = let named : y.name ≡ name = e ∙ ap (λ z. z.name) t ∙ at.named r in same_map nat_list_cmp_total antisym _ _ (λ q. contents-get (set es i y) q ∙ at_key-set q name es i y at named ∙ ap (λ o. cond (bytes_eq q name) (Some y.bytes.items) o) (sym (contents-get es q)) ∙ ap (λ b. cond b (Some y.bytes.items) (get (contents es) q)) (sym (tells q name)) ∙ sym (get-insert nat_list_cmp_total (contents es) name y.bytes.items q))

pub at_key-nowhere : (name : List ℕ) (es : List Entry) → IsNowhere name es → at_key name (map pair_of es) ≡ None
at_key-nowhere name [] none = refl
at_key-nowhere name (e ∷ es) none = rw (differs name e.name (apart' _ _ (none zero e (omega arith)))) (at_key-nowhere name es (tail_nowhere name e es none))

at_key-at : (name : List ℕ) (es : List Entry) (i : ℕ) (d : Entry) → IsAt name es i → at_key name (map pair_of es) ≡ Some (get_or es i d).bytes.items
at_key-at name [] i d at = absurd (omega (arith, at.within))
at_key-at name (e ∷ es) zero d at = rw (same name e.name (sym (at.named e))) refl
at_key-at name (e ∷ es) (suc i) d at = rw (differs name e.name (apart' _ _ (head_apart name e es i at))) (at_key-at name es i d (tail_at name e es i at))

pub map-push : (es : List Entry) (y : Entry) → map pair_of (es ++ y ∷ []) ≡ map pair_of es ++ pair_of y ∷ []
map-push [] y = refl
map-push (x ∷ es) y = ap (λ t. pair_of x ∷ t) (map-push es y)

pub pairs-push : (es : List Entry) (y : Entry) (raw : List (List ℕ × List ℕ)) → map pair_of (es ++ y ∷ []) ++ raw ≡ map pair_of es ++ (pair_of y ∷ raw)
pairs-push [] y raw = refl
pairs-push (x ∷ es) y raw = ap (λ t. pair_of x ∷ t) (pairs-push es y raw)

pub contents-push : (name : List ℕ) (es : List Entry) (y : Entry) → IsNowhere name es → y.name ≡ name → contents (es ++ y ∷ []) ≡ insert (contents es) name y.bytes.items
contents-push name es y none e = rw map-push (rw (e) (from_entries_push nat_list_cmp_total antisym (map pair_of es) name y.bytes.items (find-is name (map pair_of es) ∙ at_key-nowhere name es none)))

pub contents-at : (name : List ℕ) (es : List Entry) (i : ℕ) (d : Entry) → IsAt name es i → get (contents es) name ≡ Some (get_or es i d).bytes.items
contents-at name es i d at = contents-get es name ∙ at_key-at name es i d at

pub contents-nowhere : (name : List ℕ) (es : List Entry) → IsNowhere name es → get (contents es) name ≡ None
contents-nowhere name es none = contents-get es name ∙ at_key-nowhere name es none

-- the last of a list is the first of the list turned round
pub moved : {A B : Type 0} (f : A → B) (xs ys : List A) (x : A) → xs ≡ ys ++ x ∷ [] → f x ∷ map f (reverse ys) ≡ map f (reverse xs)
moved f xs ys x e = ap (λ z. map f z) (sym (ap reverse e ∙ reverse-append ys (x ∷ [])))

pub look-push-zero : (f : Entry → ℕ) (es : List Entry) (y : Entry) → f y ≡ 0 → ((k : List ℕ) → look f 0 k es ≡ 0) → (k : List ℕ) → look f 0 k (es ++ y ∷ []) ≡ 0
look-push-zero f es y z h k = look-push-same f 0 es y z k ∙ h k

false_true : {P : Type 0} → false ≡ true → P
false_true h = cc

pick-one : (b c : Bool) (m n p : ℕ) → (b ≡ true → n ≡ m) → p ≡ risen m → (if b then p else n) ≡ (if b || (false && c) then risen n else n)
pick-one true c m n p h e = e ∙ ap risen (sym (h refl))
pick-one false c m n p h e = refl

-- the count of an entry that is there rises
pub counted-set : (f : Entry → ℕ) (o : ℕ) (name : List ℕ) (es : List Entry) (i : ℕ) (y r : Entry) → IsAt name es i → r ≡ get_or es i r → y.name ≡ r.name → f y ≡ risen (f r) → (k : List ℕ) → look f o k (set es i y) ≡ counted (contents es) name (λ n. look f o n es) k
counted-set f o name es i y r at t e h k =
    let named : y.name ≡ name = e ∙ ap (λ z. z.name) t ∙ at.named r in
    let there : get (contents es) name ≡ Some (get_or es i r).bytes.items = contents-at name es i r at in
    look-set-at f o name es i y at named k
    ∙ pick-one (bytes_eq k name) (is_none (get (contents es) k)) (f r) (look f o k es) (f y) (λ w. ap (λ q. look f o q es) ((bytes_eq-Decides k name).0 w) ∙ look-at f o name es i r at ∙ ap f (sym t)) h
    ∙ ap (λ g. if bytes_eq k name || (is_none g && is_none (get (contents es) k)) then risen (look f o k es) else look f o k es) (sym there)

pick-all : (b c : Bool) (n p o : ℕ) → (b ≡ true → c ≡ true) → (c ≡ true → n ≡ o) → p ≡ risen o → (if c then p else n) ≡ (if b || (true && c) then risen n else n)
pick-all true true n p o h g e = e ∙ ap risen (sym (g refl))
pick-all true false n p o h g e = false_true (h refl)
pick-all false true n p o h g e = e ∙ ap risen (sym (g refl))
pick-all false false n p o h g e = refl

-- the count of the names that aren't there rises
pub counted-others : (f : Entry → ℕ) (o p : ℕ) (name : List ℕ) (es : List Entry) → IsNowhere name es → p ≡ risen o → (k : List ℕ) → look f p k es ≡ counted (contents es) name (λ n. look f o n es) k
counted-others f o p name es none e k =
    let away : get (contents es) name ≡ None = contents-nowhere name es none in
    look-others f o p es k
    ∙ pick-all (bytes_eq k name) (is_none (at_key k (map pair_of es))) (look f o k es) p o (λ w. ap is_none (ap (λ q. at_key q (map pair_of es)) ((bytes_eq-Decides k name).0 w) ∙ at_key-nowhere name es none)) (look-none f o es k) e
    ∙ ap (λ g. if bytes_eq k name || (is_none g && is_none (at_key k (map pair_of es))) then risen (look f o k es) else look f o k es) (sym away)
    ∙ ap (λ g. if bytes_eq k name || (is_none (get (contents es) name) && is_none g) then risen (look f o k es) else look f o k es) (sym (contents-get es k))

pick-more : (b : Bool) (n : ℕ) → n ≤ (if b then n + 1 else n)
pick-more true n = omega arith
pick-more false n = omega arith

pub risen-more : (n : ℕ) → n ≤ risen n
risen-more n = pick-more (nat_lt n (2 ^ 64 - 1)) n

pick-risen : (b : Bool) (n : ℕ) → n ≤ (if b then risen n else n)
pick-risen true n = risen-more n
pick-risen false n = omega arith

-- a count that is kept in 64 bits, as the code raises it
pub risen-is : (a b : ℕ) → b ≡ min (a + 1) (2 ^ 64 - 1) → a < 2 ^ 64 → b ≡ risen a
risen-is a b e h = grind arith

pub rose-risen : (n : ℕ) → Rose n (risen n)
rose-risen n h = grind arith

pub kept-counted : (held : Contents) (name : List ℕ) (before after : List ℕ → ℕ) → ((k : List ℕ) → after k ≡ counted held name before k) → Kept before after
kept-counted held name before after h k = rw (h k) (pick-risen (bytes_eq k name || (is_none (get held name) && is_none (get held k))) (before k))

pub kept-same : (before after : List ℕ → ℕ) → Same before after → Kept before after
kept-same before after h k = rw (h k) (omega arith)

pub rose-counted : (held : Contents) (name : List ℕ) (before after : List ℕ → ℕ) → ((k : List ℕ) → after k ≡ counted held name before k) → Rose (before name) (after name)
rose-counted held name before after h = rw (h name, same name name refl) (rose-risen (before name))

pub partly-kept : (fails : Option ℕ) (name bytes : List ℕ) (before : Option Contents) → is_some fails ≡ true → PartlyPut name bytes before (with_entry name (kept_of fails bytes) before)
partly-kept None name bytes before h = false_true h
partly-kept (Some n) name bytes before h = inr (n, refl)

pub read-entry : (held : Contents) (name entry : List ℕ) (at n : ℕ) (buf : List ℕ) → get held name ≡ Some entry → HasRead entry at n buf → Reads (Some held) name at n buf
read-entry held name entry at n buf e h = rw e h
