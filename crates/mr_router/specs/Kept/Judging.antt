-- What the tests of a fitting router say.
use Rattle.std.proofs.Common.{◌≡◌, ℕ, zero, suc, ◌+◌, ◌-◌, ◌^◌, ◌<◌, ◌≤◌, Bool, true, false, List, [], ◌∷◌, ◌++◌, drop, Some, refl, sym, ap, ◌∙◌, arith}
use Rattle.std.specs.Prelude.{◌&&◌, ◌==◌, nat_le, nat_lt, slice_get}
use Rattle.std.specs.List.{list_all, range_with_len, All}
use Rattle.std.proofs.lemmas.Bool.Decides.{nat_tests}
use Rattle.mr_flow.specs.declared.Packet.{Packet}
use Rattle.mr_flow.specs.declared.Bounds.{Bounds}
use Rattle.mr_flow.specs.Load.{packet_fits, is_of, row_fits}
use Rattle.mr_flow.specs.Queue.{Row, flits_of, room, head, rest, added}
use Rattle.mr_flow.proofs.Rows.{flits_of-push}

pub both : (a b : Bool) → a && b ≡ true → (a ≡ true) × (b ≡ true)
both true true h = (refl, refl)
both true false h = absurd cc
both false b h = absurd cc

pub and_true : (a b : Bool) → a ≡ true → b ≡ true → a && b ≡ true
and_true true true h k = refl
and_true true false h k = k
and_true false b h k = absurd cc

pub and_false : (a : Bool) → a && false ≡ false
and_false true = refl
and_false false = refl

pub le_of : (a b : ℕ) → nat_le a b ≡ true → a ≤ b
le_of a b h = grind (arith, nat_tests)

pub of_le : (a b : ℕ) → a ≤ b → nat_le a b ≡ true
of_le a b h = grind (arith, nat_tests)

pub lt_of : (a b : ℕ) → nat_lt a b ≡ true → a < b
lt_of a b h = grind (arith, nat_tests)

pub of_lt : (a b : ℕ) → a < b → nat_lt a b ≡ true
of_lt a b h = grind (arith, nat_tests)

pub eq_of : (a b : ℕ) → a == b ≡ true → a ≡ b
eq_of a b h = grind (arith, nat_tests)

pub of_eq : (a b : ℕ) → a ≡ b → a == b ≡ true
of_eq a b h = grind (arith, nat_tests)

-- a test that each number of a range passes
pub all_from : (p : ℕ → Bool) (a n k : ℕ) → list_all p (range_with_len a n) ≡ true → k < n → p (a + k) ≡ true
all_from p a zero k h l = absurd (omega arith)
all_from p a (suc n) zero h l = let z : a ≡ a + 0 = omega arith in ap p (sym z) ∙ (both (p a) (list_all p (range_with_len (a + 1) n)) h).0
all_from p a (suc n) (suc k) h l =
    let z : a + 1 + k ≡ a + suc k = omega arith in
    ap p (sym z) ∙ all_from p (a + 1) n k (both (p a) (list_all p (range_with_len (a + 1) n)) h).1 (omega arith)

pub each_of : (p : ℕ → Bool) (n k : ℕ) → list_all p (range_with_len 0 n) ≡ true → k < n → p k ≡ true
each_of p n k h l = let z : 0 + k ≡ k = omega arith in ap p (sym z) ∙ all_from p 0 n k h l

all_to : (p : ℕ → Bool) (a n : ℕ) → ((k : ℕ) → k < n → p (a + k) ≡ true) → list_all p (range_with_len a n) ≡ true
all_to p a zero h = refl
all_to p a (suc n) h =
    let z : a ≡ a + 0 = omega arith in
    and_true (p a) (list_all p (range_with_len (a + 1) n)) (ap p z ∙ h 0 (omega arith)) (all_to p (a + 1) n (λ k l. let y : a + 1 + k ≡ a + suc k = omega arith in ap p y ∙ h (suc k) (omega arith)))

pub of_each : (p : ℕ → Bool) (n : ℕ) → ((k : ℕ) → k < n → p k ≡ true) → list_all p (range_with_len 0 n) ≡ true
of_each p n h = all_to p 0 n (λ k l. let z : 0 + k ≡ k = omega arith in ap p z ∙ h k l)

-- one more of a range
pub each_more : (p : ℕ → Bool) (n : ℕ) → list_all p (range_with_len 0 n) ≡ true → p n ≡ true → list_all p (range_with_len 0 (n + 1)) ≡ true
each_more p n h last = of_each p (n + 1) (λ k l. by_place k l (nat_lt k n) refl)
  where
    by_place : (k : ℕ) → k < n + 1 → (b : Bool) → nat_lt k n ≡ b → p k ≡ true
    by_place k l true e = each_of p n k h (lt_of k n e)
    by_place k l false e = let same : k ≡ n = grind (arith, nat_tests) in ap p same ∙ last

-- one that fails
pub not_each : (p : ℕ → Bool) (n k : ℕ) → k < n → p k ≡ false → false ≡ list_all p (range_with_len 0 n)
not_each p n k l h = by_value (list_all p (range_with_len 0 n)) refl
  where
    by_value : (b : Bool) → list_all p (range_with_len 0 n) ≡ b → false ≡ b
    by_value false e = refl
    by_value true e = let x = each_of p n k e l in absurd cc

-- ---- packets and queues

pub record Fits (b : Bounds) (at : ℕ) (p : Packet) : Type 0 where
  pub src : p.src < b.endpoints
  pub dst : p.dst < b.endpoints
  pub vn : p.vn < b.vns
  pub some : 1 ≤ p.flits
  pub few : p.flits ≤ b.least
  pub early : p.born < at
  pub seq : p.seq ≤ 2 ^ 64 - 1
  pub tag : p.tag ≤ 2 ^ 64 - 1

pub fits_of : (b : Bounds) (at : ℕ) (p : Packet) → packet_fits b at p ≡ true → Fits b at p
fits_of b at p h =
    let a = both (nat_lt p.src b.endpoints) (nat_lt p.dst b.endpoints && (nat_lt p.vn b.vns && (nat_le 1 p.flits && (nat_le p.flits b.least && (nat_lt p.born at && (nat_le p.seq (2 ^ 64 - 1) && nat_le p.tag (2 ^ 64 - 1))))))) h in
    let c = both (nat_lt p.dst b.endpoints) (nat_lt p.vn b.vns && (nat_le 1 p.flits && (nat_le p.flits b.least && (nat_lt p.born at && (nat_le p.seq (2 ^ 64 - 1) && nat_le p.tag (2 ^ 64 - 1)))))) a.1 in
    let d = both (nat_lt p.vn b.vns) (nat_le 1 p.flits && (nat_le p.flits b.least && (nat_lt p.born at && (nat_le p.seq (2 ^ 64 - 1) && nat_le p.tag (2 ^ 64 - 1))))) c.1 in
    let e = both (nat_le 1 p.flits) (nat_le p.flits b.least && (nat_lt p.born at && (nat_le p.seq (2 ^ 64 - 1) && nat_le p.tag (2 ^ 64 - 1)))) d.1 in
    let f = both (nat_le p.flits b.least) (nat_lt p.born at && (nat_le p.seq (2 ^ 64 - 1) && nat_le p.tag (2 ^ 64 - 1))) e.1 in
    let g = both (nat_lt p.born at) (nat_le p.seq (2 ^ 64 - 1) && nat_le p.tag (2 ^ 64 - 1)) f.1 in
    let i = both (nat_le p.seq (2 ^ 64 - 1)) (nat_le p.tag (2 ^ 64 - 1)) g.1 in
    record {
      src = lt_of p.src b.endpoints a.0;
      dst = lt_of p.dst b.endpoints c.0;
      vn = lt_of p.vn b.vns d.0;
      some = le_of 1 p.flits e.0;
      few = le_of p.flits b.least f.0;
      early = lt_of p.born at g.0;
      seq = le_of p.seq (2 ^ 64 - 1) i.0;
      tag = le_of p.tag (2 ^ 64 - 1) i.1;
    }

pub of_fits : (b : Bounds) (at : ℕ) (p : Packet) → Fits b at p → packet_fits b at p ≡ true
of_fits b at p f =
    and_true _ _ (of_lt p.src b.endpoints f.src) (and_true _ _ (of_lt p.dst b.endpoints f.dst) (and_true _ _ (of_lt p.vn b.vns f.vn) (and_true _ _ (of_le 1 p.flits f.some) (and_true _ _ (of_le p.flits b.least f.few) (and_true _ _ (of_lt p.born at f.early) (and_true _ _ (of_le p.seq (2 ^ 64 - 1) f.seq) (of_le p.tag (2 ^ 64 - 1) f.tag)))))))

-- a packet of a virtual network that fits
pub of_network : (b : Bounds) (vn at : ℕ) (p : Packet) → is_of b vn at p ≡ true → (p.vn ≡ vn) × Fits b at p
of_network b vn at p h = let a = both (p.vn == vn) (packet_fits b at p) h in (eq_of p.vn vn a.0, fits_of b at p a.1)

pub is_network : (b : Bounds) (vn at : ℕ) (p : Packet) → p.vn ≡ vn → Fits b at p → is_of b vn at p ≡ true
is_network b vn at p e f = and_true (p.vn == vn) (packet_fits b at p) (of_eq p.vn vn e) (of_fits b at p f)

pub later_packet : (b : Bounds) (vn at later : ℕ) (p : Packet) → at ≤ later → is_of b vn at p ≡ true → is_of b vn later p ≡ true
later_packet b vn at later p up h =
    let a = of_network b vn at p h in
    let f = a.1 in
    is_network b vn later p a.0 (record { src = f.src; dst = f.dst; vn = f.vn; some = f.some; few = f.few; early = omega (arith, f.early); seq = f.seq; tag = f.tag })

all_later : (b : Bounds) (vn at later : ℕ) (ps : List Packet) → at ≤ later → list_all (is_of b vn at) ps ≡ true → list_all (is_of b vn later) ps ≡ true
all_later b vn at later [] up h = refl
all_later b vn at later (p ∷ ps) up h =
    let a = both (is_of b vn at p) (list_all (is_of b vn at) ps) h in
    and_true _ _ (later_packet b vn at later p up a.0) (all_later b vn at later ps up a.1)

-- a queue that fits
pub record RowFits (b : Bounds) (vn at : ℕ) (q : Row) : Type 0 where
  pub held : flits_of q.packets ≤ q.capacity
  pub packets : list_all (is_of b vn at) q.packets ≡ true

pub row_of : (b : Bounds) (vn at : ℕ) (q : Row) → row_fits b vn at q ≡ true → RowFits b vn at q
row_of b vn at q h = let a = both (nat_le (flits_of q.packets) q.capacity) (list_all (is_of b vn at) q.packets) h in record { held = le_of (flits_of q.packets) q.capacity a.0; packets = a.1 }

pub of_row : (b : Bounds) (vn at : ℕ) (q : Row) → RowFits b vn at q → row_fits b vn at q ≡ true
of_row b vn at q f = and_true _ _ (of_le (flits_of q.packets) q.capacity f.held) f.packets

pub row_later : (b : Bounds) (vn at later : ℕ) (q : Row) → at ≤ later → RowFits b vn at q → RowFits b vn later q
row_later b vn at later q up f = record { held = f.held; packets = all_later b vn at later q.packets up f.packets }

-- the packet in front, and those behind it
front_fits : (b : Bounds) (vn at : ℕ) (ps : List Packet) (p : Packet) → slice_get ps 0 ≡ Some p → list_all (is_of b vn at) ps ≡ true → is_of b vn at p ≡ true
front_fits b vn at [] p e h = absurd cc
front_fits b vn at (x ∷ ps) p e h = let same : x ≡ p = cc in ap (is_of b vn at) (sym same) ∙ (both (is_of b vn at x) (list_all (is_of b vn at) ps) h).0

pub head_fits : (b : Bounds) (vn at : ℕ) (q : Row) (p : Packet) → head q ≡ Some p → RowFits b vn at q → is_of b vn at p ≡ true
head_fits b vn at q p e f = front_fits b vn at q.packets p e f.packets

behind : (ps : List Packet) → flits_of (drop 1 ps) ≤ flits_of ps
behind [] = omega arith
behind (p ∷ ps) = omega arith

all_behind : (b : Bounds) (vn at : ℕ) (ps : List Packet) → list_all (is_of b vn at) ps ≡ true → list_all (is_of b vn at) (drop 1 ps) ≡ true
all_behind b vn at [] h = refl
all_behind b vn at (p ∷ ps) h = (both (is_of b vn at p) (list_all (is_of b vn at) ps) h).1

pub rest_fits : (b : Bounds) (vn at : ℕ) (q : Row) → RowFits b vn at q → RowFits b vn at (rest q)
rest_fits b vn at q f = record { held = omega (arith, behind q.packets, f.held); packets = all_behind b vn at q.packets f.packets }

all_push : (b : Bounds) (vn at : ℕ) (ps : List Packet) (p : Packet) → list_all (is_of b vn at) ps ≡ true → is_of b vn at p ≡ true → list_all (is_of b vn at) (ps ++ p ∷ []) ≡ true
all_push b vn at [] p h k = and_true _ _ k refl
all_push b vn at (x ∷ ps) p h k = let a = both (is_of b vn at x) (list_all (is_of b vn at) ps) h in and_true _ _ a.0 (all_push b vn at ps p a.1 k)

pub added_fits : (b : Bounds) (vn at : ℕ) (q : Row) (p : Packet) → p.flits ≤ room q → is_of b vn at p ≡ true → RowFits b vn at q → RowFits b vn at (added q p)
added_fits b vn at q p l k f = record { held = omega (arith, flits_of-push q.packets p, f.held); packets = all_push b vn at q.packets p f.packets k }

-- each packet of a queue that fits
pub each_fits : (b : Bounds) (vn at : ℕ) (P : Packet → Type 0) (ps : List Packet) → ((p : Packet) → is_of b vn at p ≡ true → P p) → list_all (is_of b vn at) ps ≡ true → All P ps
each_fits b vn at P [] to h = λ k d l. absurd (omega (arith, l))
each_fits b vn at P (p ∷ ps) to h =
    let a = both (is_of b vn at p) (list_all (is_of b vn at) ps) h in
    cons_all p ps (to p a.0) (each_fits b vn at P ps to a.1)
  where
    cons_all : (p : Packet) (ps : List Packet) → P p → All P ps → All P (p ∷ ps)
    cons_all p ps x all zero d l = x
    cons_all p ps x all (suc k) d l = all k d (omega (arith, l))
