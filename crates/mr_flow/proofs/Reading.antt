-- Reading packets and channels one after another.
use Rattle.std.proofs.Common.{◌≡◌, ℕ, zero, suc, ◌+◌, ◌-◌, ◌<◌, List, [], ◌∷◌, ◌++◌, length, take, drop, get_or, set, Some, Result, Ok, Err, refl, sym, ap, ◌∙◌, append_assoc, append-nil, arith}
use Rattle.std.specs.Prelude.{slice_get}
use Rattle.std.proofs.lemmas.List.{length-set}
use Rattle.ss_wire.specs.Wire.{Cursor, number}
use Rattle.ss_wire.specs.Form.{◌>>=◌, Form, or_short, pair, told, each, times}
use Rattle.ss_wire.proofs.Loops.{with_front, is_done}
use Rattle.ss_element.specs.declared.fault.RestoreFault.{RestoreFault}
use Rattle.ss_element.specs.declared.fault.RestoreFault.TheVariants as fault
use Rattle.ss_element.specs.Gives.{Fails, put_at}
use Rattle.mr_flow.specs.declared.Packet.{Packet}
use Rattle.ss_element.specs.Stored.{field}
use Rattle.ss_element.proofs.Reading.{there, no_more}
use Rattle.mr_flow.specs.Queue.{Row}
use Rattle.mr_flow.specs.Side.{Side, IsWhole, channels, input, output, credits_at}
use Rattle.mr_flow.specs.Saved.{packet_form, row_form, Lane, lane_form, lanes_by, lanes_of}
use Rattle.mr_flow.proofs.Lanes.{lane_at, lanes-set}

pub fails_on : {A B : Type 0} (e : RestoreFault) (r : Result A RestoreFault) (f : A → Result B RestoreFault) → Fails e r → Fails e (r >>= f)
fails_on (fault.Short at) r f h = ap (λ x. x >>= f) h
fails_on (fault.Value at) r f h = ap (λ x. x >>= f) h
fails_on fault.NoMemory r f h = tt

pub fails_put : {X : Type 0} (e : RestoreFault) (xs : List X) (i : ℕ) (r : Result (X × Cursor) RestoreFault) → Fails e r → Fails e (put_at xs i r)
fails_put (fault.Short at) xs i r h = ap (put_at xs i) h
fails_put (fault.Value at) xs i r h = ap (put_at xs i) h
fails_put fault.NoMemory xs i r h = tt

regroup : {F A : Type 0} (front : List A) (x : A) (read : Result (List A × Cursor) F) → with_front front (read >>= λ xs. Ok (x ∷ xs.0, xs.1)) ≡ with_front (front ++ x ∷ []) read
regroup front x (Ok xs) = ap (λ l. Ok (l, xs.1)) (sym (append_assoc front (x ∷ []) xs.0))
regroup front x (Err e) = refl

one_fewer : (n i : ℕ) → i < n → n - i ≡ suc (n - (i + 1))
one_fewer n i h = omega arith

-- one more of so many was read, or could not be
pub times_more : {F A : Type 0} (f : Form F A) (front : List A) (n i : ℕ) (x : A) (c d : Cursor) (total : Result (List A × Cursor) F) → i < n → f.read c ≡ Ok (x, d) →
    with_front front ((times (n - i) f).read c) ≡ total → with_front (front ++ x ∷ []) ((times (n - (i + 1)) f).read d) ≡ total
times_more f front n i x c d total h one so_far =
    sym (ap (λ k. with_front front ((times k f).read c)) (one_fewer n i h) ∙ rw one (regroup front x ((times (n - (i + 1)) f).read d))) ∙ so_far

pub times_fails : {F A : Type 0} (f : Form F A) (front : List A) (n i : ℕ) (e : F) (c : Cursor) (total : Result (List A × Cursor) F) → i < n → f.read c ≡ Err e →
    with_front front ((times (n - i) f).read c) ≡ total → total ≡ Err e
times_fails f front n i e c total h one so_far = sym so_far ∙ ap (λ k. with_front front ((times k f).read c)) (one_fewer n i h) ∙ rw one refl

pub times_done : {F A : Type 0} (f : Form F A) (front : List A) (n i : ℕ) (c : Cursor) (total : Result (List A × Cursor) F) → n ≡ i →
    with_front front ((times (n - i) f).read c) ≡ total → total ≡ Ok (front, c)
times_done {F} f front n i c total h so_far =
    let none : n - i ≡ 0 = omega arith in
    sym so_far ∙ ap (λ k. with_front front ((times k f).read c)) none ∙ ap (λ l. Ok (l, c)) (append-nil front)

pub fails_of : {A : Type 0} (e : RestoreFault) (r : Result A RestoreFault) → r ≡ Err e → Fails e r
fails_of (fault.Short at) r h = h
fails_of (fault.Value at) r h = h
fails_of fault.NoMemory r h = tt

-- a queue is read by its count, and then its packets
pub row_reads : (q : Row) (c d : Cursor) (n : ℕ) (total : Result (List Packet × Cursor) RestoreFault) → number 4 c ≡ Ok (n, d) → (times n packet_form).read d ≡ total → (row_form q).read c ≡ (total >>= λ x. Ok (record { packets = x.0; capacity = q.capacity }, x.1))
row_reads q c d n total h k = rw (h, k) refl

-- three fields one behind another
three_read : {F A B C D : Type 0} (f : Form F A) (g : Form F B) (h : Form F C) (to : A × (B × C) → D) (from : D → A × (B × C)) (Told : D → Type 0) (a b c d : Cursor) (x : A) (y : B) (z : C) →
    f.read a ≡ Ok (x, b) → g.read b ≡ Ok (y, c) → h.read c ≡ Ok (z, d) → (told (pair f (λ v. pair g (λ w. h))) to from Told).read a ≡ Ok (to (x, (y, z)), d)
three_read f g h to from Told a b c d x y z e k l = rw (e, k, l) refl

got : {X : Type 0} (xs : List X) (i : ℕ) (x y : X) → slice_get xs i ≡ Some x → get_or xs i y ≡ x
got [] i x y h = absurd cc
got (z ∷ xs) zero x y h = cc
got (z ∷ xs) (suc i) x y h = got xs i x y h

-- a channel was read in its place
pub lane_reads : (s : Side) (n : ℕ) (l : Lane) (a b c d : Cursor) (i o : Row) (k : ℕ) (is os : List Row) (ks : List ℕ) → IsWhole s → n < channels s → slice_get (lanes_of s) n ≡ Some l →
    (row_form (input s n)).read a ≡ Ok (i, b) → (row_form (output s n)).read b ≡ Ok (o, c) → number 4 c ≡ Ok (k, d) →
    is ≡ set s.inputs n i → os ≡ set s.outputs n o → ks ≡ set s.credits n k →
    put_at (lanes_of s) n ((lane_form l).read a) ≡ Ok (lanes_by is os ks, d)
lane_reads s n l a b c d i o k is os ks whole here there e f g x y z =
    let lane : Lane = record { input = input s n; output = output s n; credits = credits_at s n } in
    let same : l ≡ lane = sym (got (lanes_of s) n l lane there) ∙ lane_at s.inputs s.outputs s.credits n lane whole.inputs whole.outputs here in
    let num : (field 4).read c ≡ Ok (k, d) = ap (or_short fault.Short) g in
    let one : (lane_form lane).read a ≡ Ok (record { input = i; output = o; credits = k }, d)
    = three_read (row_form (input s n)) (row_form (output s n)) (field 4) (λ v. record { input = v.0; output = v.1.0; credits = v.1.1 }) (λ m. (m.input, (m.output, m.credits))) (λ m. Unit {0}) a b c d i o k e f num in
    ap (λ m. put_at (lanes_of s) n ((lane_form m).read a)) same
    ∙ ap (put_at (lanes_of s) n) one
    ∙ ap (λ m. Ok (m, d)) (sym (rw (x, y, z) (lanes-set s.inputs s.outputs s.credits n i o k)))

-- a channel could not be read
pub fails_more : (xs : List Lane) (i : ℕ) (c : Cursor) (e : RestoreFault) (total : Result (List Lane × Cursor) RestoreFault) → i < length xs →
    ((x : Lane) → slice_get xs i ≡ Some x → Fails e (put_at xs i ((lane_form x).read c))) →
    with_front (take i xs) ((each lane_form (drop i xs)).read c) ≡ total → Fails e total
fails_more xs i c (fault.Short at) total h told so_far = no_more lane_form xs i c (fault.Short at) total h told so_far
fails_more xs i c (fault.Value at) total h told so_far = no_more lane_form xs i c (fault.Value at) total h told so_far
fails_more xs i c fault.NoMemory total h told so_far = tt

pub lanes_done : (xs : List Lane) (i : ℕ) (c : Cursor) (total : Result (List Lane × Cursor) RestoreFault) → length xs ≡ i → with_front (take i xs) ((each lane_form (drop i xs)).read c) ≡ total → total ≡ Ok (xs, c)
lanes_done xs i c total h so_far = sym so_far ∙ is_done lane_form xs i c h

put_size : (xs ys : List Lane) (i : ℕ) (d : Cursor) (r : Result (Lane × Cursor) RestoreFault) → put_at xs i r ≡ Ok (ys, d) → length ys ≡ length xs
put_size xs ys i d (Ok x) h = let e : ◌≡◌ {A = List Lane × Cursor} (set xs i x.0, x.1) (ys, d) = cc in ap (λ (p : List Lane × Cursor). length p.0) (sym e) ∙ length-set xs i x.0
put_size xs ys i d (Err f) h = absurd cc

pub same_size : (xs ys : List Lane) (i : ℕ) (c d : Cursor) → i < length xs → ((x : Lane) → slice_get xs i ≡ Some x → put_at xs i ((lane_form x).read c) ≡ Ok (ys, d)) → length ys ≡ length xs
same_size xs ys i c d h told = let here = there xs i h in put_size xs ys i d ((lane_form here.0).read c) (told here.0 here.1)
