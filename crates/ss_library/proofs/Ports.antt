-- A port has a line exactly where an end names it.
use Rattle.std.proofs.Common.{◌≡◌, ℕ, zero, suc, ◌+◌, ◌≤◌, List, [], ◌∷◌, Bool, true, false, cond, Option, Some, None, is_some, refl, sym, ap, ◌∙◌, subst, arith}
use Rattle.std.specs.Prelude.{nat_eq, slice_get, ◌&&◌, ◌||◌}
use Rattle.std.specs.Str.{bytes_eq}
use Rattle.std.proofs.lemmas.Bool.Decides.{nat_tests}
use Rattle.std.proofs.lemmas.Slice.Eq.{bytes_eq-Decides}
use Rattle.ss_model.specs.Wiring.{link_from}
use Rattle.ss_graph.specs.declared.graph.Join.{Join}
use Rattle.ss_graph.specs.declared.graph.Part.{Part}
use Rattle.ss_graph.specs.declared.graph.PortEnd.{PortEnd}
use Rattle.ss_graph.specs.Checks.{first_fault}
use Rattle.ss_graph.specs.Options.{the}
use Rattle.ss_graph.specs.Links.{same_end, is_taken, end_key}
use Rattle.ss_graph.specs.Fit.{ends_of}
use Rattle.ss_network.specs.declared.fault.MakeFault.{MakeFault}
use Rattle.ss_library.specs.declared.table.KindName.{KindName}
use Rattle.ss_library.specs.declared.table.KindName.TheVariants as kind
use Rattle.ss_library.specs.declared.table.PortRow.{PortRow}
use Rattle.ss_kinds.specs.Names.{port_text}
use Rattle.ss_network.specs.Names.{rtr_text}
use Rattle.ss_library.specs.Tables.{port_from, kind_named, is_endpoint}
use Rattle.ss_library.specs.Make.{each_numbered, ports_of, port_named, port_there, port_in, link_checks, lines_of}

-- ---- the names in a table differ

abbrev NotAmong : List ℕ → List PortRow → Type 0
NotAmong s [] = Unit {0}
NotAmong s (r ∷ rs) = (bytes_eq (port_text r.name) s ≡ false) × NotAmong s rs

abbrev Differ : List PortRow → Type 0
Differ [] = Unit {0}
Differ (r ∷ rs) = NotAmong (port_text r.name) rs × Differ rs

differ : (o : Option KindName) → Differ (ports_of o)
differ None = tt
differ (Some kind.Pinger) = (tt, tt)
differ (Some kind.Echo) = (tt, tt)
differ (Some kind.Router) = tt
differ (Some kind.TestNic) = tt
differ (Some kind.TrafficGen) = tt
differ (Some kind.Ticker) = ((refl, (refl, (refl, (refl, tt)))), ((refl, (refl, (refl, tt))), ((refl, (refl, tt)), ((refl, tt), (tt, tt)))))

pub same_bytes : (a b : List ℕ) → bytes_eq a b ≡ true → a ≡ b
same_bytes a b h = grind (arith, bytes_eq-Decides)

not_among : (t : List ℕ) (rows : List PortRow) (k : ℕ) (r : PortRow) → NotAmong t rows → slice_get rows k ≡ Some r → bytes_eq (port_text r.name) t ≡ false
not_among t [] k r d h = absurd cc
not_among t (x ∷ rows) zero r d h = let e : x ≡ r = cc in subst (λ y. bytes_eq (port_text y.name) t ≡ false) e d.0
not_among t (x ∷ rows) (suc k) r d h = not_among t rows k r d.1 h

-- ---- the number of a port

least_by : (b : Bool) (m n : ℕ) (o : Option ℕ) → (o ≡ Some n → m + 1 ≤ n) → cond b (Some m) o ≡ Some n → m ≤ n
least_by true m n o h e = let q : m ≡ n = cc in omega arith
least_by false m n o h e = let q : m + 1 ≤ n = h e in omega arith

pub port_least : (rows : List PortRow) (m n : ℕ) (s : List ℕ) → port_from m rows s ≡ Some n → m ≤ n
port_least [] m n s e = absurd cc
port_least (x ∷ rows) m n s e = least_by (bytes_eq (port_text x.name) s) m n (port_from (m + 1) rows s) (port_least rows (m + 1) n s) e

-- the first row has the name, or another has
first_row : (x r : PortRow) (m n : ℕ) (s : List ℕ) (o : Option ℕ) (b : Bool) → bytes_eq (port_text x.name) s ≡ b → (o ≡ Some n → m + 1 ≤ n) → cond b (Some m) o ≡ Some n → x ≡ r → nat_eq n (m + 0) ≡ bytes_eq (port_text r.name) s
first_row x r m n s o true t l e q = let p : m ≡ n = cc in rw (← q, t) (grind (arith, nat_tests))
first_row x r m n s o false t l e q = let p : m + 1 ≤ n = l e in rw (← q, t) (grind (arith, nat_tests))

later_row : (x r : PortRow) (rows : List PortRow) (m k n : ℕ) (s : List ℕ) (o : Option ℕ) (b : Bool) → bytes_eq (port_text x.name) s ≡ b → NotAmong (port_text x.name) rows → slice_get rows k ≡ Some r → (o ≡ Some n → nat_eq n (m + 1 + k) ≡ bytes_eq (port_text r.name) s) → cond b (Some m) o ≡ Some n → nat_eq n (m + suc k) ≡ bytes_eq (port_text r.name) s
later_row x r rows m k n s o true t d h l e =
    let p : m ≡ n = cc in
    let f : bytes_eq (port_text r.name) s ≡ false = subst (λ y. bytes_eq (port_text r.name) y ≡ false) (same_bytes _ _ t) (not_among (port_text x.name) rows k r d h) in
    rw f (grind (arith, nat_tests))
later_row x r rows m k n s o false t d h l e = let q : m + suc k ≡ m + 1 + k = omega arith in rw q (l e)

port_is : (rows : List PortRow) (m k n : ℕ) (s : List ℕ) (r : PortRow) → Differ rows → port_from m rows s ≡ Some n → slice_get rows k ≡ Some r → nat_eq n (m + k) ≡ bytes_eq (port_text r.name) s
port_is [] m k n s r d e h = absurd cc
port_is (x ∷ rows) m zero n s r d e h = let q : x ≡ r = cc in first_row x r m n s (port_from (m + 1) rows s) (bytes_eq (port_text x.name) s) refl (port_least rows (m + 1) n s) e q
port_is (x ∷ rows) m (suc k) n s r d e h = later_row x r rows m k n s (port_from (m + 1) rows s) (bytes_eq (port_text x.name) s) refl d.0 h (λ g. port_is rows (m + 1) k n s r d.1 g h) e

-- ---- an end

some_the : (o : Option ℕ) → is_some o ≡ true → o ≡ Some (the o)
some_the None h = absurd cc
some_the (Some n) h = refl

-- the one name of port k of a component
abbrev pub Named : Part → List ℕ → ℕ → Type 0
Named p t k = (s : List ℕ) (n : ℕ) → port_named p (kind_named p.kind) s ≡ Some n → nat_eq n k ≡ bytes_eq t s

row_named : (p : Part) (o : Option KindName) (k : ℕ) (r : PortRow) → slice_get (ports_of o) k ≡ Some r → (s : List ℕ) (n : ℕ) → port_named p o s ≡ Some n → nat_eq n (0 + k) ≡ bytes_eq (port_text r.name) s
row_named p None k r g s n h = absurd cc
row_named p (Some kind.Pinger) k r g s n h = port_is (ports_of (Some kind.Pinger)) 0 k n s r (differ (Some kind.Pinger)) h g
row_named p (Some kind.Echo) k r g s n h = port_is (ports_of (Some kind.Echo)) 0 k n s r (differ (Some kind.Echo)) h g
row_named p (Some kind.Ticker) k r g s n h = port_is (ports_of (Some kind.Ticker)) 0 k n s r (differ (Some kind.Ticker)) h g
row_named p (Some kind.Router) k r g s n h = absurd cc
row_named p (Some kind.TestNic) k r g s n h = absurd cc
row_named p (Some kind.TrafficGen) k r g s n h = absurd cc

pub rows_named : (p : Part) (k : ℕ) (r : PortRow) → slice_get (ports_of (kind_named p.kind)) k ≡ Some r → Named p (port_text r.name) k
rows_named p k r g s n h = let v : 0 + k ≡ k = omega arith in ap (nat_eq n) (sym v) ∙ row_named p (kind_named p.kind) k r g s n h

rtr_by : (n : ℕ) (s : List ℕ) (b : Bool) → bytes_eq rtr_text s ≡ b → cond b (Some 0) None ≡ Some n → nat_eq n 0 ≡ bytes_eq rtr_text s
rtr_by n s true e h = let z : 0 ≡ n = cc in ap (λ m. nat_eq m 0) (sym z) ∙ sym e
rtr_by n s false e h = absurd cc

rtr_of : (p : Part) (o : Option KindName) → is_endpoint o ≡ true → (s : List ℕ) (n : ℕ) → port_named p o s ≡ Some n → nat_eq n 0 ≡ bytes_eq rtr_text s
rtr_of p None k s n h = absurd cc
rtr_of p (Some kind.Pinger) k s n h = absurd cc
rtr_of p (Some kind.Echo) k s n h = absurd cc
rtr_of p (Some kind.Ticker) k s n h = absurd cc
rtr_of p (Some kind.Router) k s n h = absurd cc
rtr_of p (Some kind.TestNic) k s n h = rtr_by n s (bytes_eq rtr_text s) refl h
rtr_of p (Some kind.TrafficGen) k s n h = rtr_by n s (bytes_eq rtr_text s) refl h

pub rtr_named : (p : Part) → is_endpoint (kind_named p.kind) ≡ true → Named p rtr_text 0
rtr_named p k s n h = rtr_of p (kind_named p.kind) k s n h

end_by : (ps : List Part) (p : Part) (t : List ℕ) (c d k : ℕ) (s : List ℕ) (b : Bool) → nat_eq d c ≡ b → slice_get ps c ≡ Some p → Named p t k → is_some (port_there (slice_get ps d) s) ≡ true → (b && nat_eq (the (port_there (slice_get ps d) s)) k) ≡ (nat_eq c d && bytes_eq t s)
end_by ps p t c d k s true e h g f =
    let q : d ≡ c = grind (arith, nat_tests) in
    let y : nat_eq c d ≡ true = grind (arith, nat_tests) in
    let a : slice_get ps d ≡ Some p = ap (slice_get ps) q ∙ h in
    let z : port_named p (kind_named p.kind) s ≡ Some (the (port_there (slice_get ps d) s)) = ap (λ o. port_there o s) (sym a) ∙ some_the _ f in
    rw y (g s _ z)
end_by ps p t c d k s false e h g f = let y : nat_eq c d ≡ false = grind (arith, nat_tests) in rw y refl

end_is : (ps : List Part) (p : Part) (t : List ℕ) (c k : ℕ) (e : PortEnd) → slice_get ps c ≡ Some p → Named p t k → is_some (port_in ps e) ≡ true → (nat_eq e.component c && nat_eq (the (port_in ps e)) k) ≡ same_end (c, t) (end_key e)
end_is ps p t c k e h g f = end_by ps p t c e.component k e.port (nat_eq e.component c) refl h g f

-- ---- all links

pub three_hold : (a b d : Bool) (x y z : MakeFault) (o : Option MakeFault) → cond a (cond b (cond d o (Some z)) (Some y)) (Some x) ≡ None → (a ≡ true) × (b ≡ true) × (d ≡ true) × (o ≡ None)
three_hold true true true x y z o e = (refl, refl, refl, e)
three_hold true true false x y z o e = absurd cc
three_hold true false d x y z o e = absurd cc
three_hold false b d x y z o e = absurd cc

either_line : (a b x y : Bool) (p q : ℕ × ℕ) (o : Option (ℕ × ℕ)) (t : Bool) → a ≡ x → b ≡ y → is_some o ≡ t → is_some (cond a (Some p) (cond b (Some q) o)) ≡ (x || (y || t))
either_line true b x y p q o t e f g = rw (← e) refl
either_line false true x y p q o t e f g = rw (← e, ← f) refl
either_line false false x y p q o t e f g = rw (← e, ← f) g

pub linked_is : (ps : List Part) (p : Part) (t : List ℕ) (c k m i : ℕ) (js : List Join) → slice_get ps c ≡ Some p → Named p t k → first_fault (each_numbered (link_checks ps) i js) ≡ None → is_some (link_from m (each_numbered (lines_of ps) i js) c k) ≡ is_taken (ends_of js) (c, t)
unfolding each_numbered link_checks first_fault
linked_is ps p t c k m i [] h g f = refl
linked_is ps p t c k m i (j ∷ js) h g f =
    let a = three_hold (is_some (port_in ps j.left)) (is_some (port_in ps j.right)) _ _ _ _ (first_fault (each_numbered (link_checks ps) (i + 1) js)) f in
    either_line _ _ _ _ _ _ (link_from (m + 1 + 1) (each_numbered (lines_of ps) (i + 1) js) c k) (is_taken (ends_of js) (c, t)) (end_is ps p t c k j.left h g a.0) (end_is ps p t c k j.right h g a.1) (linked_is ps p t c k (m + 1 + 1) (i + 1) js h g a.3)
