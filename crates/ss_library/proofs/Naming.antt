-- What the elements of a graph name, its wires have.
use Rattle.std.proofs.Common.{◌≡◌, ℕ, zero, suc, ◌+◌, Bool, true, false, ◌&&◌, cond, eqb, List, [], ◌∷◌, ◌++◌, map, Option, Some, None, is_some, refl, sym, ap, ◌∙◌, arith}
use Rattle.std.specs.Prelude.{slice_get}
use Rattle.std.proofs.lemmas.Bool.{eq-eqb}
use Rattle.ss_model.specs.declared.InnerLine.{InnerLine}
use Rattle.ss_model.specs.declared.InnerLine.TheVariants as inner
use Rattle.ss_model.specs.Wiring.{link_at, own_from, clock_from}
use Rattle.ss_safe.specs.Kept.Found.{some_same, none_some}
use Rattle.ss_graph.specs.declared.graph.Graph.{Graph}
use Rattle.ss_graph.specs.declared.graph.Part.{Part}
use Rattle.ss_graph.specs.Checks.{Check, first_fault, or_else}
use Rattle.ss_graph.specs.Links.{is_taken}
use Rattle.ss_graph.specs.Fit.{ends_of}
use Rattle.ss_graph.proofs.Judging.{first_fault_append}
use Rattle.ss_network.specs.declared.fault.MakeFault.{MakeFault}
use Rattle.ss_library.specs.declared.table.KindName.{KindName}
use Rattle.ss_library.specs.declared.table.KindName.TheVariants as kind
use Rattle.ss_kinds.specs.declared.names.PortName.TheVariants as port
use Rattle.ss_kinds.specs.Names.{port_text}
use Rattle.ss_library.specs.Tables.{kind_named, the_port}
use Rattle.ss_library.specs.Make.{each_numbered, ports_of, links_checks, linked_check, ports_by, ports_checks, all_ports_checks, inner_by, inner_of, wiring_of}
use Rattle.ss_library.proofs.Ports.{rows_named, linked_is}

-- ---- checks by their places

pub holds_by : (t : Bool) (o : Option MakeFault) (f : MakeFault) → cond t o (Some f) ≡ None → t ≡ true
holds_by true o f h = refl
holds_by false o f h = absurd (cc)

pub no_fault : (o p : Option MakeFault) → or_else o p ≡ None → (o ≡ None) × (p ≡ None)
no_fault None p h = (refl, h)
no_fault (Some f) p h = absurd (cc)

pub checked : {X : Type 0} (f : ℕ → X → List (Check MakeFault)) (n c d : ℕ) (xs : List X) (x : X) → c ≡ n + d → first_fault (each_numbered f n xs) ≡ None → slice_get xs d ≡ Some x → first_fault (f c x) ≡ None
unfolding each_numbered
checked f n c d [] x e h g = absurd (none_some g)
checked f n c zero (y ∷ xs) x e h g =
    let both = no_fault (first_fault (f n y)) (first_fault (each_numbered f (n + 1) xs)) (sym (first_fault_append (f n y) (each_numbered f (n + 1) xs)) ∙ h) in
    ap (λ m. first_fault (f m x)) {x = c} {y = n} (omega arith) ∙ ap (λ z. first_fault (f n z)) (sym (some_same g)) ∙ both.0
checked f n c (suc d) (y ∷ xs) x e h g =
    let both = no_fault (first_fault (f n y)) (first_fault (each_numbered f (n + 1) xs)) (sym (first_fault_append (f n y) (each_numbered f (n + 1) xs)) ∙ h) in
    checked f (n + 1) c d xs x (omega arith) both.1 g

-- ---- self lines and clocks

some_either : {X : Type 0} (a : Bool) (x : X) (o : Option X) → is_some o ≡ true → is_some (cond a (Some x) o) ≡ true
some_either true x o h = refl
some_either false x o h = h

some_here : {X : Type 0} (a b : Bool) (x : X) (o : Option X) → a ≡ true → b ≡ true → is_some (cond (a && b) (Some x) o) ≡ true
some_here true true x o e f = refl
some_here true false x o e f = absurd (cc)
some_here false b x o e f = absurd (cc)

-- what is there behind some lines is there
own_behind : (m c i : ℕ) (ls more : List InnerLine) → ((k : ℕ) → is_some (own_from k more c i) ≡ true) → is_some (own_from m (ls ++ more) c i) ≡ true
own_behind m c i [] more h = h m
own_behind m c i (inner.Own d j ∷ ls) more h = some_either (eqb d c && eqb j i) m (own_from (m + 1) (ls ++ more) c i) (own_behind (m + 1) c i ls more h)
own_behind m c i (inner.Clock d j period ∷ ls) more h = own_behind (m + 1) c i ls more h

clock_behind : (m c i : ℕ) (ls more : List InnerLine) → ((k : ℕ) → is_some (clock_from k more c i) ≡ true) → is_some (clock_from m (ls ++ more) c i) ≡ true
clock_behind m c i [] more h = h m
clock_behind m c i (inner.Own d j ∷ ls) more h = clock_behind (m + 1) c i ls more h
clock_behind m c i (inner.Clock d j period ∷ ls) more h = some_either (eqb d c && eqb j i) (m, period) (clock_from (m + 1) (ls ++ more) c i) (clock_behind (m + 1) c i ls more h)

own_by : (m n c : ℕ) (p : Part) (o : Option KindName) (more : List InnerLine) → c ≡ n → o ≡ Some kind.Echo → is_some (own_from m (inner_by n p o ++ more) c 0) ≡ true
own_by m n c p None more e k = absurd (none_some k)
own_by m n c p (Some kind.Pinger) more e k = absurd (let s = some_same k in cc)
own_by m n c p (Some kind.Echo) more e k = some_here (eqb n c) (eqb 0 0) m (own_from (m + 1) more c 0) (eq-eqb n c (sym e)) refl
own_by m n c p (Some kind.Ticker) more e k = absurd (let s = some_same k in cc)
own_by m n c p (Some kind.Router) more e k = absurd (let s = some_same k in cc)
own_by m n c p (Some kind.TestNic) more e k = absurd (let s = some_same k in cc)
own_by m n c p (Some kind.TrafficGen) more e k = absurd (let s = some_same k in cc)

-- which kinds have a clock
abbrev pub is_clocked : Option KindName → Bool
is_clocked None = false
is_clocked (Some kind.Pinger) = false
is_clocked (Some kind.Echo) = false
is_clocked (Some kind.Ticker) = true
is_clocked (Some kind.Router) = true
is_clocked (Some kind.TestNic) = true
is_clocked (Some kind.TrafficGen) = true

clock_by : (m n c : ℕ) (p : Part) (o : Option KindName) (more : List InnerLine) → c ≡ n → is_clocked o ≡ true → is_some (clock_from m (inner_by n p o ++ more) c 0) ≡ true
clock_by m n c p None more e k = absurd cc
clock_by m n c p (Some kind.Pinger) more e k = absurd cc
clock_by m n c p (Some kind.Echo) more e k = absurd cc
clock_by m n c p (Some kind.Ticker) more e k = some_here (eqb n c) (eqb 0 0) (m, _) (clock_from (m + 1) more c 0) (eq-eqb n c (sym e)) refl
clock_by m n c p (Some kind.Router) more e k = some_here (eqb n c) (eqb 0 0) (m, _) (clock_from (m + 1) more c 0) (eq-eqb n c (sym e)) refl
clock_by m n c p (Some kind.TestNic) more e k = some_here (eqb n c) (eqb 0 0) (m, _) (clock_from (m + 1) more c 0) (eq-eqb n c (sym e)) refl
clock_by m n c p (Some kind.TrafficGen) more e k = some_here (eqb n c) (eqb 0 0) (m, _) (clock_from (m + 1) more c 0) (eq-eqb n c (sym e)) refl

pub own_there : (m n c d : ℕ) (ps : List Part) (p : Part) → c ≡ n + d → slice_get ps d ≡ Some p → kind_named p.kind ≡ Some kind.Echo → is_some (own_from m (each_numbered inner_of n ps) c 0) ≡ true
unfolding each_numbered
own_there m n c d [] p e g k = absurd (none_some g)
own_there m n c zero (q ∷ ps) p e g k = own_by m n c q (kind_named q.kind) (each_numbered inner_of (n + 1) ps) (omega arith) (ap (λ z. kind_named z.kind) (some_same g) ∙ k)
own_there m n c (suc d) (q ∷ ps) p e g k = own_behind m c 0 (inner_of n q) (each_numbered inner_of (n + 1) ps) (λ l. own_there l (n + 1) c d ps p (omega arith) g k)

pub clock_there : (m n c d : ℕ) (ps : List Part) (p : Part) → c ≡ n + d → slice_get ps d ≡ Some p → is_clocked (kind_named p.kind) ≡ true → is_some (clock_from m (each_numbered inner_of n ps) c 0) ≡ true
unfolding each_numbered
clock_there m n c d [] p e g k = absurd (none_some g)
clock_there m n c zero (q ∷ ps) p e g k = clock_by m n c q (kind_named q.kind) (each_numbered inner_of (n + 1) ps) (omega arith) (ap (λ z. is_clocked (kind_named z.kind)) (some_same g) ∙ k)
clock_there m n c (suc d) (q ∷ ps) p e g k = clock_behind m c 0 (inner_of n q) (each_numbered inner_of (n + 1) ps) (λ l. clock_there l (n + 1) c d ps p (omega arith) g k)

-- ---- a required port

module _ (g : Graph) (links : first_fault (links_checks g.components g.links) ≡ None) (ports : first_fault (all_ports_checks (ends_of g.links) g.components) ≡ None) (c : ℕ) (p : Part) (there : slice_get g.components c ≡ Some p) where
  -- the first port, where it is required
  taken : (o : Option KindName) → kind_named p.kind ≡ o → ports_by (ends_of g.links) c o ≡ map (linked_check (ends_of g.links) c) (the_port ∷ []) → is_taken (ends_of g.links) (c, port_text port.Port) ≡ true
  unfolding all_ports_checks ports_checks first_fault
  taken o k is =
      let all = checked (ports_checks (ends_of g.links)) 0 c c g.components p (omega arith) ports there in
      let rows : first_fault (map (linked_check (ends_of g.links) c) (the_port ∷ [])) ≡ None = ap (λ cs. first_fault cs) (sym (ap (ports_by (ends_of g.links) c) k ∙ is)) ∙ all in
      holds_by (is_taken (ends_of g.links) (c, port_text port.Port)) _ _ rows

  pub leads : (o : Option KindName) → kind_named p.kind ≡ o → ports_by (ends_of g.links) c o ≡ map (linked_check (ends_of g.links) c) (the_port ∷ []) → slice_get (ports_of o) 0 ≡ Some the_port → is_some (link_at (wiring_of g) c 0) ≡ true
  unfolding links_checks
  leads o k is row = linked_is g.components p (port_text port.Port) c 0 0 0 g.links there (rows_named p 0 the_port (ap (λ q. slice_get (ports_of q) 0) k ∙ row)) links ∙ taken o k is
