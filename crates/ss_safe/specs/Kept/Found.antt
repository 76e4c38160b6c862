-- What look-ups find, and whom an event tells.
use Rattle.std.proofs.Common.{◌≡◌, ℕ, zero, suc, ◌+◌, ◌-◌, ◌<◌, ◌≤◌, Bool, true, false, ◌&&◌, cond, eqb, ltb, List, [], ◌∷◌, length, Option, Some, None, is_some, refl, sym, ap, ◌∙◌, subst, arith}
use Rattle.std.specs.Prelude.{slice_get}
use Rattle.std.proofs.lemmas.Bool.{false≢true, eqb-true}
use Rattle.std.proofs.lemmas.Bool.Decides.{nat_tests}
use Rattle.ss_model.specs.declared.Event.{Event}
use Rattle.ss_model.specs.declared.Cause.{Cause}
use Rattle.ss_model.specs.declared.Cause.TheVariants as cause
use Rattle.ss_model.specs.declared.LinkLine.{LinkLine}
use Rattle.ss_model.specs.declared.InnerLine.{InnerLine}
use Rattle.ss_model.specs.declared.InnerLine.TheVariants as inner
use Rattle.ss_model.specs.Wiring.{Wiring, link_from, own_from, clock_from, link_at, own_at, clock_at, inner_at, of_link, of_own, of_clock, of_line, target_of, target, arrival, told_load, told_of, told}
use Rattle.ss_element.proofs.Places.{behind_first, clock_at_place}
use Rattle.ss_safe.specs.Safe.{ClocksApart, Reaches, IsReal}
use Rattle.ss_safe.specs.Kept.Events.{arrival_event}

pub some_same : {X : Type 0} {x y : X} → Some x ≡ Some y → x ≡ y
some_same h = cc

pub some_pair : {X Y : Type 0} (a b : X) (x y : Y) → ◌≡◌ {A = Option (X × Y)} (Some (a, x)) (Some (b, y)) → (a ≡ b) × (x ≡ y)
some_pair {X} {Y} a b x y h =
    let pair : ◌≡◌ {A = X × Y} (a, x) (b, y) = some_same h in
    (ap (λ (q : X × Y). q.0) pair, ap (λ (q : X × Y). q.1) pair)

pub none_some : {X : Type 0} {x : X} → None ≡ Some x → ⊥
none_some h = cc

pub get_below : {X : Type 0} (xs : List X) (n : ℕ) (x : X) → slice_get xs n ≡ Some x → n < length xs
get_below [] n x h = absurd (none_some h)
get_below (y ∷ xs) zero x h = omega arith
get_below (y ∷ xs) (suc n) x h = let s = get_below xs n x h in omega (arith, s)

pub get_some : {X : Type 0} (xs : List X) (n : ℕ) → n < length xs → (x : X) × (slice_get xs n ≡ Some x)
get_some [] n h = absurd (omega arith)
get_some (y ∷ xs) zero h = (y, refl)
get_some (y ∷ xs) (suc n) h = get_some xs n (omega arith)

-- ---- look-ups

pub record IsLinkAt (ls : List LinkLine) (c p d latency : ℕ) : Type 0 where
  pub link : LinkLine
  pub is : slice_get ls d ≡ Some link
  pub sender : link.sender ≡ c
  pub out_port : link.out_port ≡ p
  pub latency_is : link.latency ≡ latency

link_found : (n : ℕ) (ls : List LinkLine) (c p m latency : ℕ) → link_from n ls c p ≡ Some (m, latency) → (d : ℕ) × (m ≡ n + d) × IsLinkAt ls c p d latency
link_found n [] c p m latency h = absurd (none_some h)
link_found n (l ∷ ls) c p m latency h = by_test (eqb l.sender c) refl (eqb l.out_port p) refl (link_found (n + 1) ls c p m latency) h
  where
    later : (d : ℕ) × (m ≡ n + 1 + d) × IsLinkAt ls c p d latency → (d : ℕ) × (m ≡ n + d) × IsLinkAt (l ∷ ls) c p d latency
    later f = (suc f.0, omega (arith, f.1), record { link = f.2.link; is = f.2.is; sender = f.2.sender; out_port = f.2.out_port; latency_is = f.2.latency_is })

    by_test : (a : Bool) → eqb l.sender c ≡ a → (b : Bool) → eqb l.out_port p ≡ b → (link_from (n + 1) ls c p ≡ Some (m, latency) → (d : ℕ) × (m ≡ n + 1 + d) × IsLinkAt ls c p d latency) → cond (a && b) (Some (n, l.latency)) (link_from (n + 1) ls c p) ≡ Some (m, latency) → (d : ℕ) × (m ≡ n + d) × IsLinkAt (l ∷ ls) c p d latency
    by_test true x true y ih h = let s = some_pair n m l.latency latency h in (0, omega (arith, s.0), record { link = l; is = refl; sender = eqb-true l.sender c x; out_port = eqb-true l.out_port p y; latency_is = s.1 })
    by_test true x false y ih h = later (ih h)
    by_test false x b y ih h = later (ih h)

pub link_at_found : (w : Wiring) (c p n latency : ℕ) → link_at w c p ≡ Some (n, latency) → IsLinkAt w.links c p n latency
link_at_found w c p n latency h =
    let f = link_found 0 w.links c p n latency h in
    subst (λ d. IsLinkAt w.links c p d latency) {x = f.0} {y = n} (omega (arith, f.1)) f.2

own_found : (n : ℕ) (ls : List InnerLine) (c i m : ℕ) → own_from n ls c i ≡ Some m → (d : ℕ) × (m ≡ n + d) × (slice_get ls d ≡ Some (inner.Own c i))
own_found n [] c i m h = absurd (none_some h)
own_found n (inner.Own e j ∷ ls) c i m h = by_test (eqb e c) refl (eqb j i) refl (own_found (n + 1) ls c i m) h
  where
    later : (d : ℕ) × (m ≡ n + 1 + d) × (slice_get ls d ≡ Some (inner.Own c i)) → (d : ℕ) × (m ≡ n + d) × (slice_get (inner.Own e j ∷ ls) d ≡ Some (inner.Own c i))
    later f = (suc f.0, omega (arith, f.1), f.2)

    by_test : (a : Bool) → eqb e c ≡ a → (b : Bool) → eqb j i ≡ b → (own_from (n + 1) ls c i ≡ Some m → (d : ℕ) × (m ≡ n + 1 + d) × (slice_get ls d ≡ Some (inner.Own c i))) → cond (a && b) (Some n) (own_from (n + 1) ls c i) ≡ Some m → (d : ℕ) × (m ≡ n + d) × (slice_get (inner.Own e j ∷ ls) d ≡ Some (inner.Own c i))
    by_test true x true y ih h = let s = some_same h in (0, omega (arith, s), ap (λ a. Some (inner.Own a j)) (eqb-true e c x) ∙ ap (λ b. Some (inner.Own c b)) (eqb-true j i y))
    by_test true x false y ih h = later (ih h)
    by_test false x b y ih h = later (ih h)
own_found n (inner.Clock e j period ∷ ls) c i m h = let f = own_found (n + 1) ls c i m h in (suc f.0, omega (arith, f.1), f.2)

clock_found : (n : ℕ) (ls : List InnerLine) (c i m period : ℕ) → clock_from n ls c i ≡ Some (m, period) → (d : ℕ) × (m ≡ n + d) × (slice_get ls d ≡ Some (inner.Clock c i period))
clock_found n [] c i m period h = absurd (none_some h)
clock_found n (inner.Own e j ∷ ls) c i m period h = let f = clock_found (n + 1) ls c i m period h in (suc f.0, omega (arith, f.1), f.2)
clock_found n (inner.Clock e j q ∷ ls) c i m period h = by_test (eqb e c) refl (eqb j i) refl (clock_found (n + 1) ls c i m period) h
  where
    later : (d : ℕ) × (m ≡ n + 1 + d) × (slice_get ls d ≡ Some (inner.Clock c i period)) → (d : ℕ) × (m ≡ n + d) × (slice_get (inner.Clock e j q ∷ ls) d ≡ Some (inner.Clock c i period))
    later f = (suc f.0, omega (arith, f.1), f.2)

    by_test : (a : Bool) → eqb e c ≡ a → (b : Bool) → eqb j i ≡ b → (clock_from (n + 1) ls c i ≡ Some (m, period) → (d : ℕ) × (m ≡ n + 1 + d) × (slice_get ls d ≡ Some (inner.Clock c i period))) → cond (a && b) (Some (n, q)) (clock_from (n + 1) ls c i) ≡ Some (m, period) → (d : ℕ) × (m ≡ n + d) × (slice_get (inner.Clock e j q ∷ ls) d ≡ Some (inner.Clock c i period))
    by_test true x true y ih h = let s = some_pair n m q period h in (0, omega (arith, s.0), ap (λ a. Some (inner.Clock a j q)) (eqb-true e c x) ∙ ap (λ b. Some (inner.Clock c b q)) (eqb-true j i y) ∙ ap (λ r. Some (inner.Clock c i r)) s.1)
    by_test true x false y ih h = later (ih h)
    by_test false x b y ih h = later (ih h)

-- a place behind the links, by its number
inner_at_place : (w : Wiring) (m d : ℕ) → m ≡ length w.links + d → inner_at w m ≡ slice_get w.inner d
inner_at_place w m d h =
    let past : ltb m (length w.links) ≡ false = grind (arith, nat_tests) in
    ap (λ b. cond b None (slice_get w.inner (m - length w.links))) past ∙ ap (slice_get w.inner) {x = m - length w.links} {y = d} (omega arith)

pub own_at_found : (w : Wiring) (c i n : ℕ) → own_at w c i ≡ Some n → inner_at w n ≡ Some (inner.Own c i)
own_at_found w c i n h = let f = own_found (length w.links) w.inner c i n h in inner_at_place w n f.0 f.1 ∙ f.2

pub clock_at_found : (w : Wiring) (c i n period : ℕ) → clock_at w c i ≡ Some (n, period) → inner_at w n ≡ Some (inner.Clock c i period)
clock_at_found w c i n period h = let f = clock_found (length w.links) w.inner c i n period h in inner_at_place w n f.0 f.1 ∙ f.2

-- what stands behind the links is no link
pub inner_past : (w : Wiring) (n : ℕ) (l : InnerLine) → inner_at w n ≡ Some l → ltb n (length w.links) ≡ false
inner_past w n l h = by_place (ltb n (length w.links)) h
  where
    by_place : (b : Bool) → cond b None (slice_get w.inner (n - length w.links)) ≡ Some l → b ≡ false
    by_place true e = absurd (none_some e)
    by_place false e = refl

pub link_within : (w : Wiring) (n : ℕ) (l : LinkLine) → slice_get w.links n ≡ Some l → ltb n (length w.links) ≡ true
link_within w n l h = let b = get_below w.links n l h in grind (arith, nat_tests)

-- ---- whom an event reaches

pub line_of_link : (w : Wiring) (n : ℕ) (l : LinkLine) → slice_get w.links n ≡ Some l → of_line w n ≡ Some (l.receiver, l.in_port)
line_of_link w n l h = ap (λ b. cond b (of_link (slice_get w.links n)) (of_own (inner_at w n))) (link_within w n l h) ∙ ap of_link h

pub line_of_own : (w : Wiring) (n c i : ℕ) → inner_at w n ≡ Some (inner.Own c i) → of_line w n ≡ Some (c, i)
line_of_own w n c i h = ap (λ b. cond b (of_link (slice_get w.links n)) (of_own (inner_at w n))) (inner_past w n (inner.Own c i) h) ∙ ap of_own h

-- what is told, by the classes
abbrev pub ToldAs : {L : Type 0} → Wiring → ℕ → ℕ → Option L → ℕ → Cause L → Type 0
ToldAs w class line load c cause.Start = (class ≡ 0) × (line ≡ c)
ToldAs w class line load c (cause.Link p x) = (class ≡ 2) × (of_line w line ≡ Some (c, p)) × (ltb line (length w.links) ≡ true) × (load ≡ Some x)
ToldAs w class line load c (cause.Own i x) = (class ≡ 2) × (of_line w line ≡ Some (c, i)) × (ltb line (length w.links) ≡ false)
ToldAs w class line load c (cause.Tick i) = (class ≡ 1) × (of_clock (inner_at w line) ≡ Some (c, i))

-- whom a key reaches, and what is told, by tests
abbrev reached : Bool → Bool → Bool → ℕ → Option (ℕ × ℕ) → Option (ℕ × ℕ) → Option (ℕ × ℕ)
reached a b d line clock arrives = cond a (Some (line, 0)) (cond b clock (cond d arrives None))

abbrev told_by : {L : Type 0} → Bool → Bool → Bool → Option (ℕ × ℕ) → Option L → Option (ℕ × Cause L)
told_by a b link None load = None
told_by a b link (Some r) load = cond a (Some (r.0, cause.Start)) (cond b (Some (r.0, cause.Tick r.1)) (told_load link r load))

told_is : {L : Type 0} (w : Wiring) (e : Event L) → told w e ≡ told_by (eqb e.key.class 0) (eqb e.key.class 1) (ltb e.key.line (length w.links)) (target w e.key) e.load
told_is w e = at_target (target w e.key)
  where
    at_target : (o : Option (ℕ × ℕ)) → told_of w e.key.class e.key.line o e.load ≡ told_by (eqb e.key.class 0) (eqb e.key.class 1) (ltb e.key.line (length w.links)) o e.load
    at_target None = refl
    at_target (Some r) = refl

module _ (L : Type 0) (w : Wiring) (class line c : ℕ) (why : Cause L) where
  as_start : (load : Option L) → class ≡ 0 → ◌≡◌ {A = Option (ℕ × Cause L)} (Some (line, cause.Start)) (Some (c, why)) → ToldAs w class line load c why
  as_start load k h = let s = some_pair line c cause.Start why h in subst (ToldAs w class line load c) s.1 (k, s.0)

  as_tick : class ≡ 1 → (o : Option (ℕ × ℕ)) → of_clock (inner_at w line) ≡ o → (load : Option L) (link : Bool) → told_by false true link o load ≡ Some (c, why) → ToldAs w class line load c why
  as_tick k None e load link h = absurd (none_some h)
  as_tick k (Some r) e load link h = let s = some_pair r.0 c (cause.Tick r.1) why h in subst (ToldAs w class line load c) s.1 (k, e ∙ ap (λ d. Some (d, r.1)) s.0)

  as_arrival : class ≡ 2 → (o : Option (ℕ × ℕ)) → of_line w line ≡ o → (load : Option L) (link : Bool) → ltb line (length w.links) ≡ link → told_by false false link o load ≡ Some (c, why) → ToldAs w class line load c why
  as_arrival k None e load link g h = absurd (none_some h)
  as_arrival k (Some r) e None link g h = absurd (none_some h)
  as_arrival k (Some r) e (Some x) true g h = let s = some_pair r.0 c (cause.Link r.1 x) why h in subst (ToldAs w class line (Some x) c) s.1 (k, e ∙ ap (λ d. Some (d, r.1)) s.0, g, refl)
  as_arrival k (Some r) e (Some x) false g h = let s = some_pair r.0 c (cause.Own r.1 x) why h in subst (ToldAs w class line (Some x) c) s.1 (k, e ∙ ap (λ d. Some (d, r.1)) s.0, g)

  as_told : (load : Option L) (a : Bool) → eqb class 0 ≡ a → (b : Bool) → eqb class 1 ≡ b → (d : Bool) → eqb class 2 ≡ d → told_by a b (ltb line (length w.links)) (reached a b d line (of_clock (inner_at w line)) (of_line w line)) load ≡ Some (c, why) → ToldAs w class line load c why
  as_told load true x b y d z h = as_start load (eqb-true class 0 x) h
  as_told load false x true y d z h = as_tick (eqb-true class 1 y) (of_clock (inner_at w line)) refl load (ltb line (length w.links)) h
  as_told load false x false y true z h = as_arrival (eqb-true class 2 z) (of_line w line) refl load (ltb line (length w.links)) refl h
  as_told load false x false y false z h = absurd (none_some h)

pub told_as : {L : Type 0} (w : Wiring) (e : Event L) (c : ℕ) (why : Cause L) → told w e ≡ Some (c, why) → ToldAs w e.key.class e.key.line e.load c why
told_as {L} w e c why h = as_told L w e.key.class e.key.line c why e.load (eqb e.key.class 0) refl (eqb e.key.class 1) refl (eqb e.key.class 2) refl (sym (told_is w e) ∙ h)

-- a clock that is found among the inner lines
pub clock_of : (w : Wiring) (n c i : ℕ) → of_clock (inner_at w n) ≡ Some (c, i) → (period : ℕ) × (inner_at w n ≡ Some (inner.Clock c i period))
clock_of w n c i h = at_inner (inner_at w n) h
  where
    at_inner : (o : Option InnerLine) → of_clock o ≡ Some (c, i) → (period : ℕ) × (o ≡ Some (inner.Clock c i period))
    at_inner None g = absurd (none_some g)
    at_inner (Some (inner.Own d j)) g = absurd (none_some g)
    at_inner (Some (inner.Clock d j period)) g = let s = some_pair d c j i g in (period, ap (λ a. Some (inner.Clock a j period)) s.0 ∙ ap (λ b. Some (inner.Clock c b period)) s.1)

-- a start tells its component, and a tick that of its clock
pub told_start : {L : Type 0} (w : Wiring) (e : Event L) → e.key.class ≡ 0 → told w e ≡ Some (e.key.line, cause.Start)
told_start w e k = ap (λ n. told_of w n e.key.line (target_of w n e.key.line) e.load) k

pub told_tick : {L : Type 0} (w : Wiring) (e : Event L) (n c i period : ℕ) → e.key.class ≡ 1 → e.key.line ≡ n → inner_at w n ≡ Some (inner.Clock c i period) → told w e ≡ Some (c, cause.Tick i)
told_tick w e n c i period k l h =
    ap (λ m. told_of w m e.key.line (target_of w m e.key.line) e.load) k
    ∙ ap (λ m. told_of w 1 m (of_clock (inner_at w m)) e.load) l
    ∙ ap (λ o. told_of w 1 n (of_clock o) e.load) h

-- an event whose key is real tells a component
pub real_told : {L : Type 0} (w : Wiring) (count : ℕ) (e : Event L) → IsReal w count e → (c : ℕ) × (why : Cause L) × (told w e ≡ Some (c, why)) × (c < count)
real_told {L} w count e real =
    let f = at_target (eqb e.key.class 0) (eqb e.key.class 1) (eqb e.key.class 2) real.reaches real.loaded in
    (f.0, f.1, told_is w e ∙ f.2, f.3)
  where
    at_load : (o : Option (ℕ × ℕ)) (load : Option L) (link : Bool) → Reaches count o → is_some load ≡ true → (c : ℕ) × (why : Cause L) × (told_by false false link o load ≡ Some (c, why)) × (c < count)
    at_load None load link r l = absurd r
    at_load (Some t) None link r l = absurd (false≢true l)
    at_load (Some t) (Some x) link r l = (t.0, arrival link t.1 x, refl, r)

    at_clock : (o : Option (ℕ × ℕ)) (load : Option L) (link : Bool) → Reaches count o → (c : ℕ) × (why : Cause L) × (told_by false true link o load ≡ Some (c, why)) × (c < count)
    at_clock None load link r = absurd r
    at_clock (Some t) load link r = (t.0, cause.Tick t.1, refl, r)

    at_target : (a b d : Bool) → Reaches count (reached a b d e.key.line (of_clock (inner_at w e.key.line)) (of_line w e.key.line)) → is_some e.load ≡ d → (c : ℕ) × (why : Cause L) × (told_by a b (ltb e.key.line (length w.links)) (reached a b d e.key.line (of_clock (inner_at w e.key.line)) (of_line w e.key.line)) e.load ≡ Some (c, why)) × (c < count)
    at_target true b d r l = (e.key.line, cause.Start, refl, r)
    at_target false true d r l = at_clock (of_clock (inner_at w e.key.line)) e.load (ltb e.key.line (length w.links)) r
    at_target false false true r l = at_load (of_line w e.key.line) e.load (ltb e.key.line (length w.links)) r l
    at_target false false false r l = absurd r

-- an arrival on a link line, and on a self line
pub told_link : {L : Type 0} (w : Wiring) (at n : ℕ) (y : L) (l : LinkLine) → slice_get w.links n ≡ Some l → told w (arrival_event at n y) ≡ Some (l.receiver, cause.Link l.in_port y)
told_link w at n y l h =
    ap (λ o. told_of w 2 n o (Some y)) (line_of_link w n l h)
    ∙ ap (λ b. Some (l.receiver, arrival b l.in_port y)) (link_within w n l h)

pub told_own : {L : Type 0} (w : Wiring) (at n c i : ℕ) (y : L) → inner_at w n ≡ Some (inner.Own c i) → told w (arrival_event at n y) ≡ Some (c, cause.Own i y)
told_own w at n c i y h =
    ap (λ o. told_of w 2 n o (Some y)) (line_of_own w n c i h)
    ∙ ap (λ b. Some (c, arrival b i y)) (inner_past w n (inner.Own c i) h)

-- the link line on which what comes at a port came
pub link_of : (w : Wiring) (n c p : ℕ) → of_line w n ≡ Some (c, p) → ltb n (length w.links) ≡ true → (l : LinkLine) × (slice_get w.links n ≡ Some l) × (l.receiver ≡ c) × (l.in_port ≡ p)
link_of w n c p h k = at_link (slice_get w.links n) (ap (λ b. cond b (of_link (slice_get w.links n)) (of_own (inner_at w n))) (sym k) ∙ h)
  where
    at_link : (o : Option LinkLine) → of_link o ≡ Some (c, p) → (l : LinkLine) × (o ≡ Some l) × (l.receiver ≡ c) × (l.in_port ≡ p)
    at_link None e = absurd (none_some e)
    at_link (Some l) e = let s = some_pair l.receiver c l.in_port p e in (l, refl, s.0, s.1)

-- a test that is true just where two are
pub and_iff : (x a b : Bool) → (x ≡ true → (a ≡ true) × (b ≡ true)) → (a ≡ true → b ≡ true → x ≡ true) → x ≡ (a && b)
and_iff true true true f g = refl
and_iff true true false f g = absurd (false≢true (f refl).1)
and_iff true false b f g = absurd (false≢true (f refl).0)
and_iff false true true f g = g refl refl
and_iff false true false f g = refl
and_iff false false b f g = refl

-- a clock that stands at a number is found there
pub apart_numbers : (w : Wiring) → ClocksApart w.inner → (n c i period : ℕ) → inner_at w n ≡ Some (inner.Clock c i period) → clock_at w c i ≡ Some (n, period)
apart_numbers w apart n c i period h = by_place (ltb n (length w.links)) refl h
  where
    by_place : (b : Bool) → ltb n (length w.links) ≡ b → cond b None (slice_get w.inner (n - length w.links)) ≡ Some (inner.Clock c i period) → clock_at w c i ≡ Some (n, period)
    by_place true e g = absurd (none_some g)
    by_place false e g =
        let past : length w.links ≤ n = grind (arith, nat_tests) in
        clock_at_place w c i ∙ ap (behind_first (length w.links)) (apart (n - length w.links) c i period g) ∙ ap (λ m. Some (m, period)) {x = length w.links + (n - length w.links)} {y = n} (omega arith)
