-- The lines of links go both ways, each from a port that no other line leaves to one that no other line comes to.
use Rattle.std.proofs.Common.{◌≡◌, ℕ, zero, suc, ◌+◌, ◌<◌, ◌≤◌, List, [], ◌∷◌, map, Bool, true, false, cond, Option, Some, None, is_some, refl, sym, ap, ◌∙◌, subst, arith}
use Rattle.std.specs.Prelude.{nat_eq, slice_get, ◌&&◌, ◌==◌}
use Rattle.std.specs.List.{IsDistinct, AllByRecursion}
use Rattle.std.specs.Str.{bytes_eq}
use Rattle.std.proofs.lemmas.Bool.{false≢true}
use Rattle.std.proofs.lemmas.Bool.Decides.{nat_tests}
use Rattle.std.proofs.lemmas.Slice.Eq.{bytes_eq-Decides}
use Rattle.ss_model.specs.declared.LinkLine.{LinkLine}
use Rattle.ss_model.specs.Wiring.{Wiring, link_from}
use Rattle.ss_safe.specs.Safe.{IsLine, IsPair}
use Rattle.ss_safe.specs.Kept.Found.{some_same, none_some}
use Rattle.ss_graph.specs.declared.graph.Join.{Join}
use Rattle.ss_graph.specs.declared.graph.Part.{Part}
use Rattle.ss_graph.specs.declared.graph.PortEnd.{PortEnd}
use Rattle.ss_graph.specs.Checks.{first_fault}
use Rattle.ss_graph.specs.Options.{the}
use Rattle.ss_graph.specs.Links.{same_end, end_key}
use Rattle.ss_graph.specs.Fit.{ends_of}
use Rattle.ss_network.specs.declared.member.Member.{Member}
use Rattle.ss_network.specs.declared.member.Member.TheVariants as member
use Rattle.ss_network.specs.Asks.{router_of}
use Rattle.ss_network.specs.Names.{rtr_text}
use Rattle.ss_network.specs.Network.{ports_of as router_ports}
use Rattle.ss_network.specs.Joined.{HasPort}
use Rattle.ss_network.proofs.Decimals.{numbered_is}
use Rattle.ss_fresh.specs.Tied.{AreJoined, AllTied}
use Rattle.ss_library.specs.declared.table.KindName.{KindName}
use Rattle.ss_library.specs.declared.table.KindName.TheVariants as kind
use Rattle.ss_library.specs.declared.table.PortRow.{PortRow}
use Rattle.ss_kinds.specs.Names.{port_text}
use Rattle.ss_library.specs.Tables.{kind_named, port_from, ports_table}
use Rattle.ss_library.specs.Make.{each_numbered, member_by, member_of, port_named, port_there, port_in, is_network, is_part, same_protocol, link_checks, line_between, lines_of}
use Rattle.ss_library.proofs.Ports.{same_bytes, port_least, three_hold}

-- ---- one name for a port

row-once : (x : List ℕ) (m k : ℕ) (s t : List ℕ) (o q : Option ℕ) (a b : Bool) → bytes_eq x s ≡ a → bytes_eq x t ≡ b → (o ≡ Some k → m + 1 ≤ k) → (q ≡ Some k → m + 1 ≤ k) → (o ≡ Some k → q ≡ Some k → s ≡ t) → cond a (Some m) o ≡ Some k → cond b (Some m) q ≡ Some k → s ≡ t
row-once x m k s t o q true true e f l r h g i = sym (same_bytes x s e) ∙ same_bytes x t f
row-once x m k s t o q true false e f l r h g i = let z : m ≡ k = some_same g in let y = r i in absurd (omega (arith, z, y))
row-once x m k s t o q false true e f l r h g i = let z : m ≡ k = some_same i in let y = l g in absurd (omega (arith, z, y))
row-once x m k s t o q false false e f l r h g i = h g i

rows-once : (rows : List PortRow) (m k : ℕ) (s t : List ℕ) → port_from m rows s ≡ Some k → port_from m rows t ≡ Some k → s ≡ t
rows-once [] m k s t g i = absurd (none_some g)
rows-once (x ∷ rows) m k s t g i = row-once (port_text x.name) m k s t (port_from (m + 1) rows s) (port_from (m + 1) rows t) (bytes_eq (port_text x.name) s) (bytes_eq (port_text x.name) t) refl refl (port_least rows (m + 1) k s) (port_least rows (m + 1) k t) (rows-once rows (m + 1) k s t) g i

rtr-is : (k : ℕ) (s : List ℕ) (b : Bool) → bytes_eq rtr_text s ≡ b → cond b (Some 0) None ≡ Some k → (0 ≡ k) × (s ≡ rtr_text)
rtr-is k s true e h = (some_same h, sym (same_bytes rtr_text s e))
rtr-is k s false e h = absurd (none_some h)

name-once : (p : Part) (o : Option KindName) (k : ℕ) (s t : List ℕ) → port_named p o s ≡ Some k → port_named p o t ≡ Some k → s ≡ t
name-once p None k s t g i = absurd (none_some g)
name-once p (Some kind.Pinger) k s t g i = rows-once (ports_table kind.Pinger) 0 k s t g i
name-once p (Some kind.Echo) k s t g i = rows-once (ports_table kind.Echo) 0 k s t g i
name-once p (Some kind.Ticker) k s t g i = rows-once (ports_table kind.Ticker) 0 k s t g i
name-once p (Some kind.Router) k s t g i = (numbered_is (router_ports (router_of p.params)) k s g).1 ∙ sym (numbered_is (router_ports (router_of p.params)) k t i).1
name-once p (Some kind.TestNic) k s t g i = (rtr-is k s (bytes_eq rtr_text s) refl g).1 ∙ sym (rtr-is k t (bytes_eq rtr_text t) refl i).1
name-once p (Some kind.TrafficGen) k s t g i = (rtr-is k s (bytes_eq rtr_text s) refl g).1 ∙ sym (rtr-is k t (bytes_eq rtr_text t) refl i).1

-- a port of a member has a name
named-has : (p : Part) (o : Option KindName) (k : ℕ) (s : List ℕ) → port_named p o s ≡ Some k → is_network (member_by p o) ≡ true → HasPort (member_by p o) k
named-has p None k s g n = absurd (false≢true n)
named-has p (Some kind.Pinger) k s g n = absurd (false≢true n)
named-has p (Some kind.Echo) k s g n = absurd (false≢true n)
named-has p (Some kind.Ticker) k s g n = absurd (false≢true n)
named-has p (Some kind.Router) k s g n = (numbered_is (router_ports (router_of p.params)) k s g).0
named-has p (Some kind.TestNic) k s g n = sym (rtr-is k s (bytes_eq rtr_text s) refl g).0
named-has p (Some kind.TrafficGen) k s g n = sym (rtr-is k s (bytes_eq rtr_text s) refl g).0

some-the : (o : Option ℕ) → is_some o ≡ true → o ≡ Some (the o)
some-the None h = absurd (false≢true h)
some-the (Some n) h = refl

part-once : (o : Option Part) (k : ℕ) (s t : List ℕ) → port_there o s ≡ Some k → port_there o t ≡ Some k → s ≡ t
part-once None k s t g i = absurd (none_some g)
part-once (Some p) k s t g i = name-once p (kind_named p.kind) k s t g i

end-once : (ps : List Part) (e f : PortEnd) → is_some (port_in ps e) ≡ true → is_some (port_in ps f) ≡ true → e.component ≡ f.component → the (port_in ps e) ≡ the (port_in ps f) → e.port ≡ f.port
end-once ps e f a b c d =
    let g : port_in ps e ≡ Some (the (port_in ps e)) = some-the (port_in ps e) a in
    let i : port_in ps f ≡ Some (the (port_in ps e)) = some-the (port_in ps f) b ∙ ap Some (sym d) in
    let j : port_there (slice_get ps e.component) f.port ≡ Some (the (port_in ps e)) = ap (λ n. port_there (slice_get ps n) f.port) c ∙ i in
    part-once (slice_get ps e.component) (the (port_in ps e)) e.port f.port g j

-- ---- the ends of links

abbrev pends : List Join → List PortEnd
pends [] = []
pends (j ∷ js) = j.left ∷ j.right ∷ pends js

abbrev other : ℕ → ℕ
other zero = 1
other (suc zero) = 0
other (suc (suc n)) = suc (suc (other n))

other-other : (n : ℕ) → other (other n) ≡ n
other-other zero = refl
other-other (suc zero) = refl
other-other (suc (suc n)) = ap (λ k. suc (suc k)) (other-other n)

keys-are : (js : List Join) → ends_of js ≡ map end_key (pends js)
keys-are [] = refl
keys-are (j ∷ js) = ap (λ es. end_key j.left ∷ end_key j.right ∷ es) (keys-are js)

all-at : (P : ℕ × List ℕ → Type 0) (xs : List PortEnd) (n : ℕ) (e : PortEnd) → AllByRecursion P (map end_key xs) → slice_get xs n ≡ Some e → P (end_key e)
all-at P [] n e h g = absurd (none_some g)
all-at P (x ∷ xs) zero e h g = subst (λ (y : PortEnd). P (end_key y)) (some_same g) h.0
all-at P (x ∷ xs) (suc n) e h g = all-at P xs n e h.1 g

same-is : (e f : PortEnd) → e.component ≡ f.component → e.port ≡ f.port → same_end (end_key e) (end_key f) ≡ true
same-is e f c p =
    let a : nat_eq e.component f.component ≡ true = grind (arith, nat_tests, c) in
    let b : bytes_eq e.port f.port ≡ true = grind (arith, bytes_eq-Decides, p) in
    ap (λ t. t && bytes_eq e.port f.port) a ∙ b

ends-once : (xs : List PortEnd) (n m : ℕ) (e f : PortEnd) → IsDistinct same_end (map end_key xs) → slice_get xs n ≡ Some e → slice_get xs m ≡ Some f → e.component ≡ f.component → e.port ≡ f.port → n ≡ m
unfolding IsDistinct
ends-once [] n m e f d g i c p = absurd (none_some g)
ends-once (x ∷ xs) zero zero e f d g i c p = refl
ends-once (x ∷ xs) zero (suc m) e f d g i c p =
    let z : same_end (end_key x) (end_key f) ≡ false = all-at (λ y. same_end (end_key x) y ≡ false) xs m f d.0 i in
    let y : same_end (end_key x) (end_key f) ≡ true = subst (λ (u : PortEnd). same_end (end_key u) (end_key f) ≡ true) (sym (some_same g)) (same-is e f c p) in
    absurd (false≢true (sym z ∙ y))
ends-once (x ∷ xs) (suc n) zero e f d g i c p =
    let z : same_end (end_key x) (end_key e) ≡ false = all-at (λ y. same_end (end_key x) y ≡ false) xs n e d.0 g in
    let y : same_end (end_key x) (end_key e) ≡ true = subst (λ (u : PortEnd). same_end (end_key u) (end_key e) ≡ true) (sym (some_same i)) (same-is f e (sym c) (sym p)) in
    absurd (false≢true (sym z ∙ y))
ends-once (x ∷ xs) (suc n) (suc m) e f d g i c p = ap suc (ends-once xs n m e f d.1 g i c p)

-- ---- lines by their ends

record Ends (ps : List Part) (js : List Join) (lines : List LinkLine) (n : ℕ) (l : LinkLine) : Type 0 where
  from : PortEnd
  to : PortEnd
  here : slice_get (pends js) n ≡ Some from
  there : slice_get (pends js) (other n) ≡ Some to
  is : l ≡ line_between ps from to
  back : slice_get lines (other n) ≡ Some (line_between ps to from)
  known : (is_some (port_in ps from) ≡ true) × (is_some (port_in ps to) ≡ true)
  protocol : same_protocol (is_part (slice_get (map member_of ps) from.component)) (is_part (slice_get (map member_of ps) to.component)) ≡ true

flip : (a b : Bool) → same_protocol a b ≡ true → same_protocol b a ≡ true
flip true true h = h
flip true false h = h
flip false true h = h
flip false false h = h

ends-at : (ps : List Part) (k n : ℕ) (js : List Join) (l : LinkLine) → first_fault (each_numbered (link_checks ps) k js) ≡ None → slice_get (each_numbered (lines_of ps) k js) n ≡ Some l → Ends ps js (each_numbered (lines_of ps) k js) n l
unfolding each_numbered link_checks first_fault
ends-at ps k n [] l c g = absurd (none_some g)
ends-at ps k zero (j ∷ js) l c g =
    let h = three_hold (is_some (port_in ps j.left)) (is_some (port_in ps j.right)) _ _ _ _ (first_fault (each_numbered (link_checks ps) (k + 1) js)) c in
    record { from = j.left; to = j.right; here = refl; there = refl; is = sym (some_same g); back = refl; known = (h.0, h.1); protocol = h.2 }
ends-at ps k (suc zero) (j ∷ js) l c g =
    let h = three_hold (is_some (port_in ps j.left)) (is_some (port_in ps j.right)) _ _ _ _ (first_fault (each_numbered (link_checks ps) (k + 1) js)) c in
    record { from = j.right; to = j.left; here = refl; there = refl; is = sym (some_same g); back = refl; known = (h.1, h.0); protocol = flip (is_part (slice_get (map member_of ps) j.left.component)) (is_part (slice_get (map member_of ps) j.right.component)) h.2 }
ends-at ps k (suc (suc n)) (j ∷ js) l c g =
    let h = three_hold (is_some (port_in ps j.left)) (is_some (port_in ps j.right)) _ _ _ _ (first_fault (each_numbered (link_checks ps) (k + 1) js)) c in
    let r = ends-at ps (k + 1) n js l h.3 g in
    record { from = r.from; to = r.to; here = r.here; there = r.there; is = r.is; back = r.back; known = r.known; protocol = r.protocol }

-- ---- the first line of a port

here-by : (a b : Bool) (x : ℕ × ℕ) (o : Option (ℕ × ℕ)) → a ≡ true → b ≡ true → cond (a && b) (Some x) o ≡ Some x
here-by true true x o e f = refl
here-by true false x o e f = absurd (false≢true f)
here-by false b x o e f = absurd (false≢true e)

first-by : (s p c q : ℕ) (x y : ℕ × ℕ) (o : Option (ℕ × ℕ)) (a b : Bool) → (s == c) ≡ a → (p == q) ≡ b → (s ≡ c → p ≡ q → ⊥) → o ≡ Some y → cond (a && b) (Some x) o ≡ Some y
first-by s p c q x y o true true e f h k = absurd (h (grind (arith, nat_tests, e)) (grind (arith, nat_tests, f)))
first-by s p c q x y o true false e f h k = k
first-by s p c q x y o false b e f h k = k

first-line : (ls : List LinkLine) (d n m : ℕ) (l : LinkLine) → m ≡ d + n → slice_get ls n ≡ Some l → ((i : ℕ) (k : LinkLine) → i < n → slice_get ls i ≡ Some k → k.sender ≡ l.sender → k.out_port ≡ l.out_port → ⊥) → link_from d ls l.sender l.out_port ≡ Some (m, l.latency)
first-line [] d n m l e g h = absurd (none_some g)
first-line (x ∷ ls) d zero m l e g h =
    let s : x ≡ l = some_same g in
    let a : (x.sender == l.sender) ≡ true = (let z = ap (λ (k : LinkLine). k.sender) s in grind (arith, nat_tests, z)) in
    let b : (x.out_port == l.out_port) ≡ true = (let z = ap (λ (k : LinkLine). k.out_port) s in grind (arith, nat_tests, z)) in
    here-by (x.sender == l.sender) (x.out_port == l.out_port) (d, x.latency) (link_from (d + 1) ls l.sender l.out_port) a b ∙ ap (λ (k : LinkLine). Some (d, k.latency)) s ∙ ap (λ k. Some (k, l.latency)) {x = d} {y = m} (omega (arith, e))
first-line (x ∷ ls) d (suc n) m l e g h =
    first-by x.sender x.out_port l.sender l.out_port (d, x.latency) (m, l.latency) (link_from (d + 1) ls l.sender l.out_port) (x.sender == l.sender) (x.out_port == l.out_port) refl refl (h 0 x (omega arith) refl)
    (first-line ls (d + 1) n m l (omega (arith, e)) g (λ i k r. h (suc i) k (omega (arith, r))))

-- ---- the ties

module _ (ps : List Part) (js : List Join) (w : Wiring) (links : w.links ≡ each_numbered (lines_of ps) 0 js) (checks : first_fault (each_numbered (link_checks ps) 0 js) ≡ None) (distinct : IsDistinct same_end (ends_of js)) where
  ends : (n : ℕ) (l : LinkLine) → slice_get w.links n ≡ Some l → Ends ps js w.links n l
  ends n l g =
      let r = ends-at ps 0 n js l checks (ap (λ ls. slice_get ls n) (sym links) ∙ g) in
      subst (λ (ls : List LinkLine). Ends ps js ls n l) (sym links) r

  once : (n m : ℕ) (e f : PortEnd) → slice_get (pends js) n ≡ Some e → slice_get (pends js) m ≡ Some f → is_some (port_in ps e) ≡ true → is_some (port_in ps f) ≡ true → e.component ≡ f.component → the (port_in ps e) ≡ the (port_in ps f) → n ≡ m
  once n m e f g i a b c d = ends-once (pends js) n m e f (subst (IsDistinct same_end) (keys-are js) distinct) g i c (end-once ps e f a b c d)

  line-is : (n : ℕ) (l : LinkLine) → slice_get w.links n ≡ Some l → IsLine w n l.sender l.out_port l.receiver l.in_port
  line-is n l g =
      let r = ends n l g in
      record {
        link = l;
        is = g;
        sender = refl;
        out_port = refl;
        receiver = refl;
        in_port = refl;
        first = first-line w.links 0 n n l (omega arith) g (λ i k less at s p.
            let q = ends i k at in
            let z = once i n q.from r.from q.here r.here q.known.0 r.known.0 (sym (ap (λ (u : LinkLine). u.sender) q.is) ∙ s ∙ ap (λ (u : LinkLine). u.sender) r.is) (sym (ap (λ (u : LinkLine). u.out_port) q.is) ∙ p ∙ ap (λ (u : LinkLine). u.out_port) r.is) in
            absurd (omega (arith, less, z)));
        only = λ i k at s p.
            let q = ends i k at in
            let z = once (other i) (other n) q.to r.to q.there r.there q.known.1 r.known.1 (sym (ap (λ (u : LinkLine). u.receiver) q.is) ∙ s ∙ ap (λ (u : LinkLine). u.receiver) r.is) (sym (ap (λ (u : LinkLine). u.in_port) q.is) ∙ p ∙ ap (λ (u : LinkLine). u.in_port) r.is) in
            sym (other-other i) ∙ ap other z ∙ other-other n;
      }

  pub pair-is : (n : ℕ) (l : LinkLine) → slice_get w.links n ≡ Some l → IsPair w n (other n) l.sender l.out_port l.receiver l.in_port
  pair-is n l g =
      let r = ends n l g in
      let b = line-is (other n) (line_between ps r.to r.from) r.back in
      record {
        ahead = line-is n l g;
        back = subst (λ (u : LinkLine). IsLine w (other n) u.receiver u.in_port u.sender u.out_port) (sym r.is) b;
      }

  -- the ends as members
  got-map : {X Y : Type 0} (f : X → Y) (xs : List X) (k : ℕ) (y : Y) → slice_get (map f xs) k ≡ Some y → (x : X) × (slice_get xs k ≡ Some x) × (f x ≡ y)
  got-map f [] k y g = absurd (none_some g)
  got-map f (x ∷ xs) zero y g = (x, refl, some_same g)
  got-map f (x ∷ xs) (suc k) y g = got-map f xs k y g

  has : (e : PortEnd) (x : Member) → slice_get (map member_of ps) e.component ≡ Some x → is_some (port_in ps e) ≡ true → is_network x ≡ true → HasPort x (the (port_in ps e))
  has e x g a n =
      let p = got-map member_of ps e.component x g in
      let h : port_named p.0 (kind_named p.0.kind) e.port ≡ Some (the (port_in ps e)) = ap (λ o. port_there o e.port) (sym p.1) ∙ some-the (port_in ps e) a in
      subst (λ (m : Member). HasPort m (the (port_in ps e))) p.2 (named-has p.0 (kind_named p.0.kind) (the (port_in ps e)) e.port h (subst (λ (m : Member). is_network m ≡ true) (sym p.2) n))

  joined-by : (x y : Member) (p q : ℕ) → same_protocol (is_network x) (is_network y) ≡ true → (is_network x ≡ true → HasPort x p) → (is_network y ≡ true → HasPort y q) → AreJoined x p y q
  joined-by (member.Router r) (member.Router s) p q h a b = (a refl, b refl)
  joined-by (member.Router r) (member.Endpoint e) p q h a b = (a refl, b refl)
  joined-by (member.Router r) member.Other p q h a b = absurd (false≢true h)
  joined-by (member.Endpoint e) (member.Router s) p q h a b = (a refl, b refl)
  joined-by (member.Endpoint e) (member.Endpoint f) p q h a b = (a refl, b refl)
  joined-by (member.Endpoint e) member.Other p q h a b = absurd (false≢true h)
  joined-by member.Other (member.Router s) p q h a b = absurd (false≢true h)
  joined-by member.Other (member.Endpoint e) p q h a b = absurd (false≢true h)
  joined-by member.Other member.Other p q h a b = tt

  pub all_tied : AllTied w (map member_of ps)
  all_tied n l g =
      let r = ends n l g in
      record {
        way = other n;
        pair = pair-is n l g;
        ends = λ x y hx hy.
            let ex : slice_get (map member_of ps) r.from.component ≡ Some x = ap (λ (u : LinkLine). slice_get (map member_of ps) u.sender) (sym r.is) ∙ hx in
            let ey : slice_get (map member_of ps) r.to.component ≡ Some y = ap (λ (u : LinkLine). slice_get (map member_of ps) u.receiver) (sym r.is) ∙ hy in
            let both : same_protocol (is_network x) (is_network y) ≡ true = ap (λ o. same_protocol (is_part o) (is_network y)) (sym ex) ∙ ap (λ o. same_protocol (is_part (slice_get (map member_of ps) r.from.component)) (is_part o)) (sym ey) ∙ r.protocol in
            subst (λ (u : LinkLine). AreJoined x u.out_port y u.in_port) (sym r.is) (joined-by x y (the (port_in ps r.from)) (the (port_in ps r.to)) both (has r.from x ex r.known.0) (has r.to y ey r.known.1));
      }
