-- What is looked up where the wires have one entry more, and what is looked up where they fit.
use Rattle.std.proofs.Common.{◌≡◌, ℕ, zero, suc, ◌+◌, ◌-◌, ◌<◌, ◌≤◌, ◌^◌, Bool, true, false, ◌&&◌, cond, eqb, List, [], ◌∷◌, ◌++◌, length, get_or, count_by, Option, Some, None, IfSome, refl, sym, ap, ◌∙◌, subst, arith, length-append}
use Rattle.std.specs.Prelude.{slice_get}
use Rattle.std.proofs.lemmas.Bool.Decides.{nat_tests}
use Rattle.std.proofs.lemmas.List.{length_push}
use Rattle.std.proofs.lemmas.Option.{slice_get_within, slice_get-get_or}
use Rattle.std.proofs.lemmas.List.Sums.{sum_by-cons, sum_by_push}
use Rattle.ss_model.specs.declared.LinkLine.{LinkLine}
use Rattle.ss_model.specs.declared.InnerLine.{InnerLine}
use Rattle.ss_model.specs.declared.InnerLine.TheVariants as inner
use Rattle.ss_model.specs.Wiring.{Wiring, link_from, own_from, clock_from, link_at, own_at, clock_at, of_clock, inner_at, LinksFit, InnersFit, WiringFits, SecondFits}
use Rattle.ss_element.specs.Index.{first_of, only_if, at, is_own, is_clock, again_of, clock_again, place_of, place_or, first_place, Firsts, Indexed}

-- one link line more
pub link_from-append : (n : ℕ) (ls : List LinkLine) (l : LinkLine) (c p : ℕ) → link_from n (ls ++ l ∷ []) c p ≡ first_of (link_from n ls c p) (only_if (eqb l.sender c && eqb l.out_port p) (n + length ls, l.latency))
link_from-append n [] l c p = ap (λ k. only_if (eqb l.sender c && eqb l.out_port p) (k, l.latency)) {x = n} {y = n + 0} (omega arith)
link_from-append n (x ∷ ls) l c p =
    let step = link_from-append (n + 1) ls l c p ∙ ap (λ k. first_of (link_from (n + 1) ls c p) (only_if (eqb l.sender c && eqb l.out_port p) (k, l.latency))) {x = n + 1 + length ls} {y = n + length (x ∷ ls)} (omega arith) in
    at_test (eqb x.sender c && eqb x.out_port p) step
  where
    at_test : (b : Bool) → link_from (n + 1) (ls ++ l ∷ []) c p ≡ first_of (link_from (n + 1) ls c p) (only_if (eqb l.sender c && eqb l.out_port p) (n + length (x ∷ ls), l.latency)) → cond b (Some (n, x.latency)) (link_from (n + 1) (ls ++ l ∷ []) c p) ≡ first_of (cond b (Some (n, x.latency)) (link_from (n + 1) ls c p)) (only_if (eqb l.sender c && eqb l.out_port p) (n + length (x ∷ ls), l.latency))
    at_test true e = refl
    at_test false e = e

-- one self line or clock more
abbrev pub own_here : ℕ → InnerLine → ℕ → ℕ → Option ℕ
own_here k l c i = own_from k (l ∷ []) c i

abbrev pub clock_here : ℕ → InnerLine → ℕ → ℕ → Option (ℕ × ℕ)
clock_here k l c i = clock_from k (l ∷ []) c i

pub own_from-append : (n : ℕ) (ls : List InnerLine) (l : InnerLine) (c i : ℕ) → own_from n (ls ++ l ∷ []) c i ≡ first_of (own_from n ls c i) (own_here (n + length ls) l c i)
own_from-append n [] l c i = ap (λ k. own_here k l c i) {x = n} {y = n + 0} (omega arith)
own_from-append n (inner.Own d j ∷ ls) l c i =
    let step = own_from-append (n + 1) ls l c i ∙ ap (λ k. first_of (own_from (n + 1) ls c i) (own_here k l c i)) {x = n + 1 + length ls} {y = n + length (inner.Own d j ∷ ls)} (omega arith) in
    at_test (eqb d c && eqb j i) step
  where
    at_test : (b : Bool) → own_from (n + 1) (ls ++ l ∷ []) c i ≡ first_of (own_from (n + 1) ls c i) (own_here (n + length (inner.Own d j ∷ ls)) l c i) → cond b (Some n) (own_from (n + 1) (ls ++ l ∷ []) c i) ≡ first_of (cond b (Some n) (own_from (n + 1) ls c i)) (own_here (n + length (inner.Own d j ∷ ls)) l c i)
    at_test true e = refl
    at_test false e = e
own_from-append n (inner.Clock d j period ∷ ls) l c i =
    own_from-append (n + 1) ls l c i ∙ ap (λ k. first_of (own_from (n + 1) ls c i) (own_here k l c i)) {x = n + 1 + length ls} {y = n + length (inner.Clock d j period ∷ ls)} (omega arith)

pub clock_from-append : (n : ℕ) (ls : List InnerLine) (l : InnerLine) (c i : ℕ) → clock_from n (ls ++ l ∷ []) c i ≡ first_of (clock_from n ls c i) (clock_here (n + length ls) l c i)
clock_from-append n [] l c i = ap (λ k. clock_here k l c i) {x = n} {y = n + 0} (omega arith)
clock_from-append n (inner.Own d j ∷ ls) l c i =
    clock_from-append (n + 1) ls l c i ∙ ap (λ k. first_of (clock_from (n + 1) ls c i) (clock_here k l c i)) {x = n + 1 + length ls} {y = n + length (inner.Own d j ∷ ls)} (omega arith)
clock_from-append n (inner.Clock d j period ∷ ls) l c i =
    let step = clock_from-append (n + 1) ls l c i ∙ ap (λ k. first_of (clock_from (n + 1) ls c i) (clock_here k l c i)) {x = n + 1 + length ls} {y = n + length (inner.Clock d j period ∷ ls)} (omega arith) in
    at_test (eqb d c && eqb j i) step
  where
    at_test : (b : Bool) → clock_from (n + 1) (ls ++ l ∷ []) c i ≡ first_of (clock_from (n + 1) ls c i) (clock_here (n + length (inner.Clock d j period ∷ ls)) l c i) → cond b (Some (n, period)) (clock_from (n + 1) (ls ++ l ∷ []) c i) ≡ first_of (cond b (Some (n, period)) (clock_from (n + 1) ls c i)) (clock_here (n + length (inner.Clock d j period ∷ ls)) l c i)
    at_test true e = refl
    at_test false e = e

-- each is a self line or a clock
pub counted_all : (ls : List InnerLine) → count_by is_own ls + count_by is_clock ls ≡ length ls
counted_all [] = refl
counted_all (inner.Own c i ∷ ls) = omega (arith, counted_all ls, sum_by-cons (λ x. cond (is_own x) 1 0) (inner.Own c i) ls, sum_by-cons (λ x. cond (is_clock x) 1 0) (inner.Own c i) ls)
counted_all (inner.Clock c i period ∷ ls) = omega (arith, counted_all ls, sum_by-cons (λ x. cond (is_own x) 1 0) (inner.Clock c i period) ls, sum_by-cons (λ x. cond (is_clock x) 1 0) (inner.Clock c i period) ls)

pub nothing : {X : Type 0} (o : Option X) → o ≡ first_of o None
nothing None = refl
nothing (Some x) = refl

zeroed : (n : ℕ) → n ≡ 0 + n
zeroed n = omega arith

-- what a table has that has grown and then been filled at one place
filled_is : {X : Type 0} (old grown new : List (List (Option X))) (d j : ℕ) (x y : X) → ((c i : ℕ) → at grown c i ≡ at old c i) → ((c i : ℕ) → at new c i ≡ first_of (at grown c i) (only_if (eqb d c && eqb j i) x)) → x ≡ y → (c i : ℕ) (o : Option X) → at old c i ≡ o → at new c i ≡ first_of o (only_if (eqb d c && eqb j i) y)
filled_is old grown new d j x y same filled e c i o is = filled c i ∙ ap (λ r. first_of r (only_if (eqb d c && eqb j i) x)) (same c i ∙ is) ∙ ap (λ v. first_of o (only_if (eqb d c && eqb j i) v)) e

-- what stands at a place of a list with one entry more
at_front : {X : Type 0} (xs : List X) (y : X) (k : ℕ) → k < length xs → slice_get (xs ++ y ∷ []) k ≡ slice_get xs k
at_front [] y k l = absurd (omega arith)
at_front (x ∷ xs) y zero l = refl
at_front (x ∷ xs) y (suc k) l = at_front xs y k (omega arith)

at_back : {X : Type 0} (xs : List X) (y : X) → slice_get (xs ++ y ∷ []) (length xs) ≡ Some y
at_back [] y = refl
at_back (x ∷ xs) y = at_back xs y

by_place : {X : Type 0} (P : Type 0) (xs : List X) (y : X) (k : ℕ) (x : X) → slice_get (xs ++ y ∷ []) k ≡ Some x → (slice_get xs k ≡ Some x → P) → (k ≡ length xs → y ≡ x → P) → P
by_place P [] y zero x e front back = back refl (cc)
by_place P [] y (suc k) x e front back = absurd (cc)
by_place P (z ∷ zs) y zero x e front back = front e
by_place P (z ∷ zs) y (suc k) x e front back = by_place P zs y k x e front (λ q r. back (ap suc q) r)

-- a first that is there stays the first
first_stays : (o more : Option (ℕ × ℕ)) (k : ℕ) → Some k ≡ place_of o → place_of o ≡ place_of (first_of o more)
first_stays None more k e = absurd (cc)
first_stays (Some r) more k e = refl

Firsts-more : (ls : List InnerLine) (fs : List ℕ) (l : InnerLine) (f : ℕ) → Firsts ls fs → ((c i period : ℕ) → l ≡ inner.Clock c i period → Some f ≡ place_of (clock_from 0 (ls ++ l ∷ []) c i)) → Firsts (ls ++ l ∷ []) (fs ++ f ∷ [])
Firsts-more ls fs l f h last = record {
  beside = omega (arith, h.beside, length_push ls l, length_push fs f);
  first = λ p c i period e. by_place (slice_get (fs ++ f ∷ []) p ≡ place_of (clock_from 0 (ls ++ l ∷ []) c i)) ls l p (inner.Clock c i period) e (front p c i period) (λ q r. back p c i period q r);
}
  where
    front : (p c i period : ℕ) → slice_get ls p ≡ Some (inner.Clock c i period) → slice_get (fs ++ f ∷ []) p ≡ place_of (clock_from 0 (ls ++ l ∷ []) c i)
    front p c i period g =
        let below : p < length fs = omega (arith, h.beside, slice_get_within ls p (inner.Clock c i period) g) in
        let there = h.first p c i period g in
        at_front fs f p below ∙ there ∙ first_stays (clock_from 0 ls c i) (clock_here (0 + length ls) l c i) (get_or fs p 0) (sym (slice_get-get_or fs p 0 below) ∙ there) ∙ ap place_of (sym (clock_from-append 0 ls l c i))

    back : (p c i period : ℕ) → p ≡ length ls → l ≡ inner.Clock c i period → slice_get (fs ++ f ∷ []) p ≡ place_of (clock_from 0 (ls ++ l ∷ []) c i)
    back p c i period q r =
        let end : p ≡ length fs = q ∙ sym h.beside in
        ap (slice_get (fs ++ f ∷ [])) end ∙ at_back fs f ∙ last c i period r

-- what is filled in where there is none is the first
both_same : (d j : ℕ) → (eqb d d && eqb j j) ≡ true
both_same d j = grind (arith, nat_tests)

first_filled : (d j : ℕ) (o : Option (ℕ × ℕ)) (place period : ℕ) → Some (place_or o place) ≡ place_of (first_of o (only_if (eqb d d && eqb j j) (place, period)))
first_filled d j None place period = rw (both_same d j) refl
first_filled d j (Some r) place period = refl

-- the tables keep up where the wires gain an entry
module _ (links new_links : List LinkLine) (ls : List InnerLine) (fs : List ℕ) (n : ℕ) (ports grown new : List (List (Option (ℕ × ℕ)))) (owns : List (List (Option ℕ))) (clocks : List (List (Option (ℕ × ℕ)))) (l : LinkLine) (number : ℕ) where
  pub Indexed-link : Indexed links ls fs n ports owns clocks → length links + length ls + 1 < 2 ^ 32 → number ≡ length links → new_links ≡ links ++ l ∷ [] → ((c p : ℕ) → at grown c p ≡ at ports c p) → ((c p : ℕ) → at new c p ≡ first_of (at grown c p) (only_if (eqb l.sender c && eqb l.out_port p) (number, l.latency))) → Indexed new_links ls fs n new owns clocks
  Indexed-link h room e is same filled =
      let more : Indexed (links ++ l ∷ []) ls fs n new owns clocks = record {
        by_port = λ c p. filled_is ports grown new l.sender l.out_port (number, l.latency) (0 + length links, l.latency) same filled (ap (λ k. (k, l.latency)) (e ∙ zeroed (length links))) c p (link_from 0 links c p) (h.by_port c p) ∙ sym (link_from-append 0 links l c p);
        by_own = h.by_own;
        by_clock = h.by_clock;
        by_first = h.by_first;
        counted = h.counted;
        numbered = omega (arith, length-append links (l ∷ []));
      } in
      subst (λ ys. Indexed ys ls fs n new owns clocks) (sym is) more

module _ (links : List LinkLine) (ls new_ls : List InnerLine) (fs new_fs : List ℕ) (n : ℕ) (ports : List (List (Option (ℕ × ℕ)))) (owns grown new : List (List (Option ℕ))) (clocks : List (List (Option (ℕ × ℕ)))) (d j place : ℕ) where
  pub Indexed-own : Indexed links ls fs n ports owns clocks → length links + length ls + 1 < 2 ^ 32 → place ≡ length ls → new_ls ≡ ls ++ inner.Own d j ∷ [] → new_fs ≡ fs ++ place ∷ [] → ((c p : ℕ) → at grown c p ≡ at owns c p) → ((c p : ℕ) → at new c p ≡ first_of (at grown c p) (only_if (eqb d c && eqb j p) place)) → Indexed links new_ls new_fs (n + 1) ports new clocks
  Indexed-own h room e is beside same filled =
      let more : Indexed links (ls ++ inner.Own d j ∷ []) (fs ++ place ∷ []) (n + 1) ports new clocks = record {
        by_port = h.by_port;
        by_own = λ c i. filled_is owns grown new d j place (0 + length ls) same filled (e ∙ zeroed (length ls)) c i (own_from 0 ls c i) (h.by_own c i) ∙ sym (own_from-append 0 ls (inner.Own d j) c i);
        by_clock = λ c i. h.by_clock c i ∙ nothing (clock_from 0 ls c i) ∙ sym (clock_from-append 0 ls (inner.Own d j) c i);
        by_first = Firsts-more ls fs (inner.Own d j) place h.by_first (λ c i p own. absurd (cc));
        counted = omega (arith, h.counted, sum_by_push (λ x. cond (is_own x) 1 0) ls (inner.Own d j));
        numbered = omega (arith, length-append ls (inner.Own d j ∷ []));
      } in
      subst (λ ys. Indexed links ys new_fs (n + 1) ports new clocks) (sym is) (subst (λ gs. Indexed links (ls ++ inner.Own d j ∷ []) gs (n + 1) ports new clocks) (sym beside) more)

module _ (links : List LinkLine) (ls new_ls : List InnerLine) (fs new_fs : List ℕ) (n : ℕ) (ports : List (List (Option (ℕ × ℕ)))) (owns : List (List (Option ℕ))) (clocks grown new : List (List (Option (ℕ × ℕ)))) (d j period place first : ℕ) where
  pub Indexed-clock : Indexed links ls fs n ports owns clocks → length links + length ls + 1 < 2 ^ 32 → place ≡ length ls → new_ls ≡ ls ++ inner.Clock d j period ∷ [] → new_fs ≡ fs ++ first ∷ [] → first ≡ place_or (at grown d j) place → ((c p : ℕ) → at grown c p ≡ at clocks c p) → ((c p : ℕ) → at new c p ≡ first_of (at grown c p) (only_if (eqb d c && eqb j p) (place, period))) → Indexed links new_ls new_fs n ports owns new
  Indexed-clock h room e is beside found same filled =
      let by_clock : (c i : ℕ) → at new c i ≡ clock_from 0 (ls ++ inner.Clock d j period ∷ []) c i = λ c i. filled_is clocks grown new d j (place, period) (0 + length ls, period) same filled (ap (λ k. (k, period)) (e ∙ zeroed (length ls))) c i (clock_from 0 ls c i) (h.by_clock c i) ∙ sym (clock_from-append 0 ls (inner.Clock d j period) c i) in
      let here : Some first ≡ place_of (clock_from 0 (ls ++ inner.Clock d j period ∷ []) d j) = ap Some found ∙ first_filled d j (at grown d j) place period ∙ ap place_of (sym (filled d j) ∙ by_clock d j) in
      let more : Indexed links (ls ++ inner.Clock d j period ∷ []) (fs ++ first ∷ []) n ports owns new = record {
        by_port = h.by_port;
        by_own = λ c i. h.by_own c i ∙ nothing (own_from 0 ls c i) ∙ sym (own_from-append 0 ls (inner.Clock d j period) c i);
        by_clock = by_clock;
        by_first = Firsts-more ls fs (inner.Clock d j period) first h.by_first (λ c i p is_that. first_there d j period c i p is_that here);
        counted = omega (arith, h.counted, sum_by_push (λ x. cond (is_own x) 1 0) ls (inner.Clock d j period));
        numbered = omega (arith, length-append ls (inner.Clock d j period ∷ []));
      } in
      subst (λ ys. Indexed links ys new_fs n ports owns new) (sym is) (subst (λ gs. Indexed links (ls ++ inner.Clock d j period ∷ []) gs n ports owns new) (sym beside) more)
    where
      first_there : (d j period c i p : ℕ) → inner.Clock d j period ≡ inner.Clock c i p → Some first ≡ place_of (clock_from 0 (ls ++ inner.Clock d j period ∷ []) d j) → Some first ≡ place_of (clock_from 0 (ls ++ inner.Clock d j period ∷ []) c i)
      first_there d j period c i p same here =
          let component : d ≡ c = cc in
          let index : j ≡ i = cc in
          here ∙ ap (λ k. place_of (clock_from 0 (ls ++ inner.Clock d j period ∷ []) k j)) component ∙ ap (λ k. place_of (clock_from 0 (ls ++ inner.Clock d j period ∷ []) c k)) index

-- a number behind the links is a place behind them
abbrev pub behind : ℕ → Option ℕ → Option ℕ
behind n None = None
behind n (Some k) = Some (n + k)

abbrev pub behind_first : ℕ → Option (ℕ × ℕ) → Option (ℕ × ℕ)
behind_first n None = None
behind_first n (Some (k, period)) = Some (n + k, period)

own_from-behind : (m n : ℕ) (ls : List InnerLine) (c i : ℕ) → own_from (m + n) ls c i ≡ behind m (own_from n ls c i)
own_from-behind m n [] c i = refl
own_from-behind m n (inner.Own d j ∷ ls) c i = at_test (eqb d c && eqb j i) (ap (λ k. own_from k ls c i) {x = m + n + 1} {y = m + (n + 1)} (omega arith) ∙ own_from-behind m (n + 1) ls c i)
  where
    at_test : (b : Bool) → own_from (m + n + 1) ls c i ≡ behind m (own_from (n + 1) ls c i) → cond b (Some (m + n)) (own_from (m + n + 1) ls c i) ≡ behind m (cond b (Some n) (own_from (n + 1) ls c i))
    at_test true e = refl
    at_test false e = e
own_from-behind m n (inner.Clock d j period ∷ ls) c i = ap (λ k. own_from k ls c i) {x = m + n + 1} {y = m + (n + 1)} (omega arith) ∙ own_from-behind m (n + 1) ls c i

clock_from-behind : (m n : ℕ) (ls : List InnerLine) (c i : ℕ) → clock_from (m + n) ls c i ≡ behind_first m (clock_from n ls c i)
clock_from-behind m n [] c i = refl
clock_from-behind m n (inner.Own d j ∷ ls) c i = ap (λ k. clock_from k ls c i) {x = m + n + 1} {y = m + (n + 1)} (omega arith) ∙ clock_from-behind m (n + 1) ls c i
clock_from-behind m n (inner.Clock d j period ∷ ls) c i = at_test (eqb d c && eqb j i) (ap (λ k. clock_from k ls c i) {x = m + n + 1} {y = m + (n + 1)} (omega arith) ∙ clock_from-behind m (n + 1) ls c i)
  where
    at_test : (b : Bool) → clock_from (m + n + 1) ls c i ≡ behind_first m (clock_from (n + 1) ls c i) → cond b (Some (m + n, period)) (clock_from (m + n + 1) ls c i) ≡ behind_first m (cond b (Some (n, period)) (clock_from (n + 1) ls c i))
    at_test true e = refl
    at_test false e = e

-- self lines and clocks, by their places
pub own_at_place : (w : Wiring) (c i : ℕ) → own_at w c i ≡ behind (length w.links) (own_from 0 w.inner c i)
own_at_place w c i = ap (λ k. own_from k w.inner c i) {x = length w.links} {y = length w.links + 0} (omega arith) ∙ own_from-behind (length w.links) 0 w.inner c i

pub clock_at_place : (w : Wiring) (c i : ℕ) → clock_at w c i ≡ behind_first (length w.links) (clock_from 0 w.inner c i)
clock_at_place w c i = ap (λ k. clock_from k w.inner c i) {x = length w.links} {y = length w.links + 0} (omega arith) ∙ clock_from-behind (length w.links) 0 w.inner c i

-- a place is below the length
own_place_within : (n : ℕ) (ls : List InnerLine) (c i : ℕ) → IfSome (own_from n ls c i) (λ k. k < n + length ls)
own_place_within n [] c i = tt
own_place_within n (inner.Own d j ∷ ls) c i = at_test (eqb d c && eqb j i) (raise (own_from (n + 1) ls c i) (own_place_within (n + 1) ls c i))
  where
    raise : (o : Option ℕ) → IfSome o (λ k. k < n + 1 + length ls) → IfSome o (λ k. k < n + length (inner.Own d j ∷ ls))
    raise None h = tt
    raise (Some k) h = omega arith

    at_test : (b : Bool) → IfSome (own_from (n + 1) ls c i) (λ k. k < n + length (inner.Own d j ∷ ls)) → IfSome (cond b (Some n) (own_from (n + 1) ls c i)) (λ k. k < n + length (inner.Own d j ∷ ls))
    at_test true r = omega arith
    at_test false r = r
own_place_within n (inner.Clock d j period ∷ ls) c i = raise (own_from (n + 1) ls c i) (own_place_within (n + 1) ls c i)
  where
    raise : (o : Option ℕ) → IfSome o (λ k. k < n + 1 + length ls) → IfSome o (λ k. k < n + length (inner.Clock d j period ∷ ls))
    raise None h = tt
    raise (Some k) h = omega arith

clock_place_within : (n : ℕ) (ls : List InnerLine) (c i : ℕ) → IfSome (clock_from n ls c i) (λ r. r.0 < n + length ls)
clock_place_within n [] c i = tt
clock_place_within n (inner.Own d j ∷ ls) c i = raise (clock_from (n + 1) ls c i) (clock_place_within (n + 1) ls c i)
  where
    raise : (o : Option (ℕ × ℕ)) → IfSome o (λ r. r.0 < n + 1 + length ls) → IfSome o (λ r. r.0 < n + length (inner.Own d j ∷ ls))
    raise None h = tt
    raise (Some k) h = omega arith
clock_place_within n (inner.Clock d j period ∷ ls) c i = at_test (eqb d c && eqb j i) (raise (clock_from (n + 1) ls c i) (clock_place_within (n + 1) ls c i))
  where
    raise : (o : Option (ℕ × ℕ)) → IfSome o (λ r. r.0 < n + 1 + length ls) → IfSome o (λ r. r.0 < n + length (inner.Clock d j period ∷ ls))
    raise None h = tt
    raise (Some k) h = omega arith

    at_test : (b : Bool) → IfSome (clock_from (n + 1) ls c i) (λ r. r.0 < n + length (inner.Clock d j period ∷ ls)) → IfSome (cond b (Some (n, period)) (clock_from (n + 1) ls c i)) (λ r. r.0 < n + length (inner.Clock d j period ∷ ls))
    at_test true r = omega arith
    at_test false r = r

-- a place that a table has is below the length
pub own_within : (ls : List InnerLine) (owns : List (List (Option ℕ))) (c i k : ℕ) → ((c i : ℕ) → at owns c i ≡ own_from 0 ls c i) → Some k ≡ at owns c i → k < length ls
own_within ls owns c i k by e =
    let h = subst (λ o. IfSome o (λ k. k < 0 + length ls)) (sym (e ∙ by c i)) (own_place_within 0 ls c i) in
    omega (arith, h)

pub clock_within : (ls : List InnerLine) (clocks : List (List (Option (ℕ × ℕ)))) (c i k p : ℕ) → ((c i : ℕ) → at clocks c i ≡ clock_from 0 ls c i) → Some (k, p) ≡ at clocks c i → k < length ls
clock_within ls clocks c i k p by e =
    let h = subst (λ o. IfSome o (λ r. r.0 < 0 + length ls)) (sym (e ∙ by c i)) (clock_place_within 0 ls c i) in
    omega (arith, h)

-- what is found is among those that fit
link_fits : (n : ℕ) (ls : List LinkLine) (c p : ℕ) → LinksFit ls → SecondFits (link_from n ls c p)
link_fits n [] c p h = tt
link_fits n (l ∷ ls) c p h = at_test (eqb l.sender c && eqb l.out_port p) (link_fits (n + 1) ls c p h.2)
  where
    at_test : (b : Bool) → SecondFits (link_from (n + 1) ls c p) → SecondFits (cond b (Some (n, l.latency)) (link_from (n + 1) ls c p))
    at_test true r = (h.0, h.1)
    at_test false r = r

clock_fits : (n : ℕ) (ls : List InnerLine) (c i : ℕ) → InnersFit ls → SecondFits (clock_from n ls c i)
clock_fits n [] c i h = tt
clock_fits n (inner.Own d j ∷ ls) c i h = clock_fits (n + 1) ls c i h.1
clock_fits n (inner.Clock d j period ∷ ls) c i h = at_test (eqb d c && eqb j i) (clock_fits (n + 1) ls c i h.1)
  where
    at_test : (b : Bool) → SecondFits (clock_from (n + 1) ls c i) → SecondFits (cond b (Some (n, period)) (clock_from (n + 1) ls c i))
    at_test true r = h.0
    at_test false r = r

pub link_at_fits : (w : Wiring) (c p : ℕ) → WiringFits w → SecondFits (link_at w c p)
link_at_fits w c p h = link_fits 0 w.links c p h.links

pub clock_at_fits : (w : Wiring) (c i : ℕ) → WiringFits w → SecondFits (clock_at w c i)
clock_at_fits w c i h = clock_fits (length w.links) w.inner c i h.inner

-- what is found stands at its place
abbrev stands : ℕ → List InnerLine → ℕ → ℕ → Option (ℕ × ℕ) → Type 0
stands n ls c i o = IfSome o (λ r. (n ≤ r.0) × (slice_get ls (r.0 - n) ≡ Some (inner.Clock c i r.1)))

stands_past : (n : ℕ) (l : InnerLine) (ls : List InnerLine) (c i : ℕ) (o : Option (ℕ × ℕ)) → stands (n + 1) ls c i o → stands n (l ∷ ls) c i o
stands_past n l ls c i None h = tt
stands_past n l ls c i (Some (k, p)) h = (omega (arith, h.0), ap (slice_get (l ∷ ls)) {x = k - n} {y = suc (k - (n + 1))} (omega (arith, h.0)) ∙ h.1)

both_are : (d c j i : ℕ) → (eqb d c && eqb j i) ≡ true → (d ≡ c) × (j ≡ i)
both_are d c j i h = (grind (arith, nat_tests), grind (arith, nat_tests))

clock_stands : (n : ℕ) (ls : List InnerLine) (c i : ℕ) → stands n ls c i (clock_from n ls c i)
clock_stands n [] c i = tt
clock_stands n (inner.Own d j ∷ ls) c i = stands_past n (inner.Own d j) ls c i (clock_from (n + 1) ls c i) (clock_stands (n + 1) ls c i)
clock_stands n (inner.Clock d j period ∷ ls) c i = at_test (eqb d c && eqb j i) refl (clock_stands (n + 1) ls c i)
  where
    at_test : (b : Bool) → (eqb d c && eqb j i) ≡ b → stands (n + 1) ls c i (clock_from (n + 1) ls c i) → stands n (inner.Clock d j period ∷ ls) c i (cond b (Some (n, period)) (clock_from (n + 1) ls c i))
    at_test true is r =
        let same = both_are d c j i is in
        (omega arith, ap (slice_get (inner.Clock d j period ∷ ls)) {x = n - n} {y = 0} (omega arith) ∙ ap (λ k. Some (inner.Clock k j period)) same.0 ∙ ap (λ k. Some (inner.Clock c k period)) same.1)
    at_test false is r = stands_past n (inner.Clock d j period) ls c i (clock_from (n + 1) ls c i) r

inner_past : (w : Wiring) (n : ℕ) → length w.links ≤ n → inner_at w n ≡ slice_get w.inner (n - length w.links)
inner_past w n h = grind (arith, nat_tests)

-- a clock at a place behind some links, with its number
abbrev pub numbered_clock : ℕ → ℕ → Option InnerLine → Option (ℕ × ℕ)
numbered_clock links f None = None
numbered_clock links f (Some (inner.Own c i)) = None
numbered_clock links f (Some (inner.Clock c i period)) = Some (links + f, period)

-- the clock that ticks again stands at the place of the first
pub again_there : (w : Wiring) (n f : ℕ) → length w.links ≤ n → Some f ≡ first_place w.inner (slice_get w.inner (n - length w.links)) → clock_again w n ≡ numbered_clock (length w.links) f (slice_get w.inner f)
again_there w n f h e = at_line (slice_get w.inner (n - length w.links)) (inner_past w n h) e
  where
    at_found : (c i : ℕ) (r : Option (ℕ × ℕ)) → clock_from 0 w.inner c i ≡ r → Some f ≡ place_of r → clock_at w c i ≡ numbered_clock (length w.links) f (slice_get w.inner f)
    at_found c i None found e = absurd (cc)
    at_found c i (Some (k, period)) found e =
        let same : k ≡ f = cc in
        let there = subst (stands 0 w.inner c i) found (clock_stands 0 w.inner c i) in
        let here : slice_get w.inner f ≡ Some (inner.Clock c i period) = ap (slice_get w.inner) {x = f} {y = k - 0} (omega arith) ∙ there.1 in
        clock_at_place w c i ∙ ap (behind_first (length w.links)) found ∙ ap (λ u. Some (length w.links + u, period)) same ∙ ap (numbered_clock (length w.links) f) (sym here)

    at_line : (o : Option InnerLine) → inner_at w n ≡ o → Some f ≡ first_place w.inner o → clock_again w n ≡ numbered_clock (length w.links) f (slice_get w.inner f)
    at_line None is e = absurd (cc)
    at_line (Some (inner.Own c i)) is e = absurd (cc)
    at_line (Some (inner.Clock c i period)) is e = ap (λ o. again_of w (of_clock o)) is ∙ at_found c i (clock_from 0 w.inner c i) refl e

-- what ticks again is among those that fit
pub again_fits : (w : Wiring) (n : ℕ) → WiringFits w → SecondFits (clock_again w n)
again_fits w n h = at_clock (of_clock (inner_at w n))
  where
    at_clock : (o : Option (ℕ × ℕ)) → SecondFits (again_of w o)
    at_clock None = tt
    at_clock (Some (c, i)) = clock_at_fits w c i h
