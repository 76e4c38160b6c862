-- How much the queues of a line's end can hold, which neither handling nor reading changes.
use Rattle.std.proofs.Common.{◌≡◌, ℕ, zero, suc, ◌*◌, ◌^◌, ◌<◌, ◌≤◌, List, [], ◌∷◌, length, map, set, refl, sym, ap, subst, ◌∙◌, arith}
use Rattle.mr_flow.specs.Queue.{Row, row_at}
use Rattle.mr_flow.specs.Side.{Side, IsWhole, channels, input, output}
use Rattle.mr_flow.specs.Saved.{Lane, lanes_form, lanes_by, lanes_of, with_lanes}
use Rattle.mr_flow.proofs.Lanes.{length-lanes, lanes_again}
use Rattle.mr_router.specs.declared.topology.Topology.{Topology}
use Rattle.mr_router.specs.declared.topology.Topology.TheVariants as topology
use Rattle.mr_router.specs.Network.{routes}
use Rattle.mr_router.specs.Alike.{sizes_of}

pub cons_parts : {X : Type 0} (x y : X) (xs ys : List X) → x ∷ xs ≡ y ∷ ys → (x ≡ y) × (xs ≡ ys)
cons_parts x y xs ys e = (cc, cc)

pub map_length : {X Y : Type 0} (f : X → Y) (xs : List X) → length (map f xs) ≡ length xs
map_length f [] = refl
map_length f (x ∷ xs) = ap (λ n. suc n) (map_length f xs)

abbrev pub capacities : List Row → List ℕ
capacities rows = map (λ (r : Row). r.capacity) rows

pub capacities-set : (rows : List Row) (c : ℕ) (r : Row) → r.capacity ≡ (row_at rows c).capacity → capacities (set rows c r) ≡ capacities rows
capacities-set [] c r e = refl
capacities-set (x ∷ rows) zero r e = ap (λ n. n ∷ capacities rows) e
capacities-set (x ∷ rows) (suc c) r e = ap (λ l. x.capacity ∷ l) (capacities-set rows c r e)

pub capacity_at : (is js : List Row) (c : ℕ) → capacities js ≡ capacities is → (row_at js c).capacity ≡ (row_at is c).capacity
capacity_at [] [] c e = refl
capacity_at [] (j ∷ js) c e = absurd cc
capacity_at (i ∷ is) [] c e = absurd cc
capacity_at (i ∷ is) (j ∷ js) zero e = (cons_parts j.capacity i.capacity (capacities js) (capacities is) e).0
capacity_at (i ∷ is) (j ∷ js) (suc c) e = capacity_at is js c (cons_parts j.capacity i.capacity (capacities js) (capacities is) e).1

sizes_by : (is js os ps : List Row) (ns ms : List ℕ) → capacities js ≡ capacities is → capacities ps ≡ capacities os → length ms ≡ length ns → map sizes_of (lanes_by js ps ms) ≡ map sizes_of (lanes_by is os ns)
sizes_by [] [] os ps ns ms a b c = refl
sizes_by [] (j ∷ js) os ps ns ms a b c = absurd cc
sizes_by (i ∷ is) [] os ps ns ms a b c = absurd cc
sizes_by (i ∷ is) (j ∷ js) [] [] ns ms a b c = refl
sizes_by (i ∷ is) (j ∷ js) [] (p ∷ ps) ns ms a b c = absurd cc
sizes_by (i ∷ is) (j ∷ js) (o ∷ os) [] ns ms a b c = absurd cc
sizes_by (i ∷ is) (j ∷ js) (o ∷ os) (p ∷ ps) [] [] a b c = refl
sizes_by (i ∷ is) (j ∷ js) (o ∷ os) (p ∷ ps) [] (m ∷ ms) a b c = absurd (omega (arith, c))
sizes_by (i ∷ is) (j ∷ js) (o ∷ os) (p ∷ ps) (n ∷ ns) [] a b c = absurd (omega (arith, c))
sizes_by (i ∷ is) (j ∷ js) (o ∷ os) (p ∷ ps) (n ∷ ns) (m ∷ ms) a b c =
    let x = cons_parts j.capacity i.capacity (capacities js) (capacities is) a in
    let y = cons_parts p.capacity o.capacity (capacities ps) (capacities os) b in
    ap (λ k. (k, p.capacity) ∷ map sizes_of (lanes_by js ps ms)) x.0
    ∙ ap (λ k. (i.capacity, k) ∷ map sizes_of (lanes_by js ps ms)) y.0
    ∙ ap (λ l. (i.capacity, o.capacity) ∷ l) (sizes_by is js os ps ns ms x.1 y.1 (omega (arith, c)))

-- an end of the same sizes
pub record SameSizes (s t : Side) : Type 0 where
  pub inputs : capacities t.inputs ≡ capacities s.inputs
  pub outputs : capacities t.outputs ≡ capacities s.outputs
  pub credits : length t.credits ≡ length s.credits

pub same_lanes : (s t : Side) → SameSizes s t → map sizes_of (lanes_of t) ≡ map sizes_of (lanes_of s)
same_lanes s t h = sizes_by s.inputs t.inputs s.outputs t.outputs s.credits t.credits h.inputs h.outputs h.credits

-- channels of the same sizes are as many, and their queues hold the same
pub lanes_count : (s t : Side) → map sizes_of (lanes_of t) ≡ map sizes_of (lanes_of s) → length (lanes_of t) ≡ length (lanes_of s)
lanes_count s t e = sym (map_length sizes_of (lanes_of t)) ∙ ap length e ∙ map_length sizes_of (lanes_of s)

pub size_at : (is js os ps : List Row) (ns ms : List ℕ) (c : ℕ) → map sizes_of (lanes_by js ps ms) ≡ map sizes_of (lanes_by is os ns) → c < length (lanes_by is os ns) → (row_at js c).capacity ≡ (row_at is c).capacity
size_at [] js os ps ns ms c e l = absurd (omega (arith, l))
size_at (i ∷ is) js [] ps ns ms c e l = absurd (omega (arith, l))
size_at (i ∷ is) js (o ∷ os) ps [] ms c e l = absurd (omega (arith, l))
size_at (i ∷ is) [] (o ∷ os) ps (n ∷ ns) ms c e l = absurd cc
size_at (i ∷ is) (j ∷ js) (o ∷ os) [] (n ∷ ns) ms c e l = absurd cc
size_at (i ∷ is) (j ∷ js) (o ∷ os) (p ∷ ps) (n ∷ ns) [] c e l = absurd cc
size_at (i ∷ is) (j ∷ js) (o ∷ os) (p ∷ ps) (n ∷ ns) (m ∷ ms) zero e l = ap (λ z. z.0) (cons_parts (j.capacity, p.capacity) (i.capacity, o.capacity) (map sizes_of (lanes_by js ps ms)) (map sizes_of (lanes_by is os ns)) e).0
size_at (i ∷ is) (j ∷ js) (o ∷ os) (p ∷ ps) (n ∷ ns) (m ∷ ms) (suc c) e l = size_at is js os ps ns ms c (cons_parts (j.capacity, p.capacity) (i.capacity, o.capacity) (map sizes_of (lanes_by js ps ms)) (map sizes_of (lanes_by is os ns)) e).1 (omega (arith, l))

-- ---- how many channels there are

pub count_lanes : (s : Side) → IsWhole s → length (lanes_of s) ≡ channels s
count_lanes s whole = length-lanes s.inputs s.outputs s.credits whole.inputs whole.outputs

few_lanes : (is os : List Row) (ns : List ℕ) → length (lanes_by is os ns) ≤ length ns
few_lanes [] os ns = omega arith
few_lanes (i ∷ is) [] ns = omega arith
few_lanes (i ∷ is) (o ∷ os) [] = omega arith
few_lanes (i ∷ is) (o ∷ os) (n ∷ ns) = let h = few_lanes is os ns in omega (arith, h)

pub lanes_within : (s : Side) → length (lanes_of s) ≤ channels s
lanes_within s = few_lanes s.inputs s.outputs s.credits

-- there is a lane between routers
pub some_lanes : (t : Topology) → 1 ≤ (routes t).channels
some_lanes (topology.Single ports) = omega arith
some_lanes (topology.Mesh g) = omega arith
some_lanes (topology.Torus g) = omega arith
some_lanes (topology.FatTree ls) = omega arith

-- ---- channels that were read

pub lanes_sizes : (ls ms : List Lane) → (lanes_form ls).Fits ms → map sizes_of ms ≡ map sizes_of ls
lanes_sizes [] ms h = ap (map sizes_of) h
lanes_sizes (l ∷ ls) [] h = absurd h
lanes_sizes (l ∷ ls) (m ∷ ms) h =
    ap (λ k. (k, m.output.capacity) ∷ map sizes_of ms) h.0.1.0.0
    ∙ ap (λ k. (l.input.capacity, k) ∷ map sizes_of ms) h.0.1.1.0.0
    ∙ ap (λ r. sizes_of l ∷ r) (lanes_sizes ls ms h.1)

pub lanes_refit : (ds bs ms : List Lane) → map sizes_of ds ≡ map sizes_of bs → (lanes_form ds).Fits ms → (lanes_form bs).Fits ms
lanes_refit [] [] ms e h = h
lanes_refit [] (b ∷ bs) ms e h = absurd cc
lanes_refit (a ∷ ds) [] ms e h = absurd cc
lanes_refit (a ∷ ds) (b ∷ bs) [] e h = absurd h
lanes_refit (a ∷ ds) (b ∷ bs) (m ∷ ms) e h =
    let x = cons_parts (sizes_of a) (sizes_of b) (map sizes_of ds) (map sizes_of bs) e in
    ((tt, ((h.0.1.0.0 ∙ ap (λ z. z.0) x.0, h.0.1.0.1), ((h.0.1.1.0.0 ∙ ap (λ z. z.1) x.0, h.0.1.1.0.1), h.0.1.1.1))), lanes_refit ds bs ms x.1 h.1)

caps_in : (ls : List Lane) → capacities (map (λ (l : Lane). l.input) ls) ≡ map (λ z. z.0) (map sizes_of ls)
caps_in [] = refl
caps_in (l ∷ ls) = ap (λ r. l.input.capacity ∷ r) (caps_in ls)

caps_out : (ls : List Lane) → capacities (map (λ (l : Lane). l.output) ls) ≡ map (λ z. z.1) (map sizes_of ls)
caps_out [] = refl
caps_out (l ∷ ls) = ap (λ r. l.output.capacity ∷ r) (caps_out ls)

pub with_same : (s : Side) (ls : List Lane) → IsWhole s → map sizes_of ls ≡ map sizes_of (lanes_of s) → SameSizes s (with_lanes s ls)
with_same s ls whole e =
    let again = lanes_again s s refl whole.inputs whole.outputs in
    record {
      inputs = caps_in ls ∙ ap (map (λ z. z.0)) e ∙ sym (caps_in (lanes_of s)) ∙ ap (λ (t : Side). capacities t.inputs) (sym again);
      outputs = caps_out ls ∙ ap (map (λ z. z.1)) e ∙ sym (caps_out (lanes_of s)) ∙ ap (λ (t : Side). capacities t.outputs) (sym again);
      credits = map_length (λ (l : Lane). l.credits) ls ∙ sym (map_length sizes_of ls) ∙ ap length e ∙ map_length sizes_of (lanes_of s) ∙ count_lanes s whole;
    }

pub whole_again : (s t : Side) → IsWhole s → t.flit_time ≡ s.flit_time → SameSizes s t → IsWhole t
whole_again s t whole time sizes = record {
  few = omega (arith, sizes.credits, whole.few);
  inputs = sym (map_length (λ (r : Row). r.capacity) t.inputs) ∙ ap length sizes.inputs ∙ map_length (λ (r : Row). r.capacity) s.inputs ∙ whole.inputs ∙ sym sizes.credits;
  outputs = sym (map_length (λ (r : Row). r.capacity) t.outputs) ∙ ap length sizes.outputs ∙ map_length (λ (r : Row). r.capacity) s.outputs ∙ whole.outputs ∙ sym sizes.credits;
  short_in = λ c. subst (λ k. k * t.flit_time ≤ 2 ^ 40) (sym (capacity_at s.inputs t.inputs c sizes.inputs)) (subst (λ k. (input s c).capacity * k ≤ 2 ^ 40) (sym time) (whole.short_in c));
  short_out = λ c. subst (λ k. k * t.flit_time ≤ 2 ^ 40) (sym (capacity_at s.outputs t.outputs c sizes.outputs)) (subst (λ k. (output s c).capacity * k ≤ 2 ^ 40) (sym time) (whole.short_out c));
}
