-- The simulation of a graph that was read is safe as it begins.
use Rattle.std.proofs.Common.{◌≡◌, ℕ, zero, suc, ◌+◌, ◌<◌, ◌≤◌, Bool, true, false, ◌&&◌, cond, eqb, List, [], ◌∷◌, ◌++◌, length, map, Option, Some, None, is_some, refl, sym, ap, ◌∙◌, subst, arith}
use Rattle.std.specs.Prelude.{slice_get}
use Rattle.std.proofs.lemmas.Bool.{eq-eqb}
use Rattle.std.proofs.lemmas.Bool.Decides.{nat_tests}
use Rattle.std.specs.List.{All}
use Rattle.std.proofs.lemmas.List.Elements.{All-head, All-tail}
use Rattle.ss_model.specs.declared.InnerLine.{InnerLine}
use Rattle.ss_model.specs.declared.InnerLine.TheVariants as inner
use Rattle.ss_model.specs.declared.LinkLine.{LinkLine}
use Rattle.ss_model.specs.Wiring.{Wiring, clock_from, LinksFit, InnersFit}
use Rattle.ss_model.specs.Step.{opening}
use Rattle.ss_safe.specs.Laws.{meters_of}
use Rattle.ss_safe.specs.Safe.{LinksEnd, owner, InnersEnd, ClocksApart, HasNamed, Opens}
use Rattle.ss_safe.specs.Kept.Found.{some_same, none_some}
use Rattle.ss_safe.specs.Worlds.{opening_safe}
use Rattle.ss_graph.specs.declared.graph.Graph.{Graph}
use Rattle.ss_graph.specs.declared.graph.Join.{Join}
use Rattle.ss_graph.specs.declared.graph.Part.{Part}
use Rattle.ss_graph.specs.Fit.{IsFit, IsSoundLink, ends_of}
use Rattle.ss_library.specs.declared.table.KindName.{KindName}
use Rattle.ss_library.specs.declared.table.KindName.TheVariants as kind
use Rattle.ss_library.specs.declared.kinds.Any.{Any}
use Rattle.ss_graph.specs.Checks.{first_fault}
use Rattle.ss_graph.proofs.Judging.{first_fault_append}
use Rattle.ss_network.specs.declared.ask.RouterAsk.{RouterAsk}
use Rattle.ss_network.specs.declared.member.Member.{Member}
use Rattle.ss_network.specs.declared.member.Member.TheVariants as member
use Rattle.ss_network.specs.Asks.{router_of, endpoint_of, generator_of}
use Rattle.ss_network.specs.Network.{first_router, least}
use Rattle.ss_network.specs.Joined.{IsNetwork, HasPort, Joins}
use Rattle.ss_network.proofs.Ranges.{router_fits, endpoint_fits, generator_fits}
use Rattle.ss_fresh.specs.Tied.{AreJoined, AllTied}
use Rattle.ss_fresh.specs.Begins.{AreRead, bounds, LoadGoes}
use Rattle.ss_fresh.proofs.Balance.{end_of_line, paired, credited}
use Rattle.ss_fresh.proofs.Speaking.{lines_agree}
use Rattle.ss_model.specs.declared.Cause.TheVariants as cause
use Rattle.mr_flow.specs.declared.Load.{Load}
use Rattle.ss_library.specs.Kinds.{any_kind, any_allowed, any_safe, any_hears, AnyGives}
use Rattle.ss_library.specs.Tables.{kind_named, param_value, clock_row}
use Rattle.ss_library.specs.Make.{each_numbered, lines_of, inner_by, inner_of, wiring_of, members_of, Made, model_of, begun_from, member_of, is_network, rows_by, component_checks, components_checks, links_checks, all_ports_checks, value}
use Rattle.ss_library.proofs.Values.{clock_fits}
use Rattle.ss_library.proofs.Naming.{holds_by, no_fault}
use Rattle.ss_library.proofs.Members.{passed}
use Rattle.ss_library.proofs.Ties.{all_tied}
use Rattle.ss_library.proofs.Begun.{CanStart, starts, Voice, Core, Net, voice, read, named, IsBegun, begun_at, begun_count}

links_fit : (ps : List Part) (n : ℕ) (js : List Join) → All (λ j. IsSoundLink ps j) js → LinksFit (each_numbered (lines_of ps) n js)
unfolding each_numbered
links_fit ps n [] h = tt
links_fit ps n (j ∷ js) h =
    let f : IsSoundLink ps j = All-head (IsSoundLink ps) j js h in
    (f.onward.least, f.onward.most, (f.back.least, f.back.most, links_fit ps (n + 1) js (All-tail (IsSoundLink ps) j js h)))

inner_before : (i : ℕ) (p : Part) (o : Option KindName) (ys : List InnerLine) → first_fault (rows_by i p o) ≡ None → InnersFit ys → InnersFit (inner_by i p o ++ ys)
unfolding first_fault
inner_before i p None ys c h = h
inner_before i p (Some kind.Pinger) ys c h = h
inner_before i p (Some kind.Echo) ys c h = (tt, h)
inner_before i p (Some kind.Ticker) ys c h = (clock_fits p.params (holds_by (is_some (param_value p.params clock_row)) _ _ c), h)
inner_before i p (Some kind.Router) ys c h = let t = (router_fits i p.params c).period in ((t.some, t.few), h)
inner_before i p (Some kind.TestNic) ys c h = let t = (endpoint_fits i p.params c).time in ((t.some, t.few), h)
inner_before i p (Some kind.TrafficGen) ys c h = let t = (generator_fits i p.params c).time in ((t.some, t.few), h)

inner_fit : (n : ℕ) (ps : List Part) → first_fault (each_numbered component_checks n ps) ≡ None → InnersFit (each_numbered inner_of n ps)
unfolding each_numbered
inner_fit n [] c = tt
inner_fit n (p ∷ ps) c =
    let both = no_fault (first_fault (component_checks n p)) (first_fault (each_numbered component_checks (n + 1) ps)) (sym (first_fault_append (component_checks n p) (each_numbered component_checks (n + 1) ps)) ∙ c) in
    inner_before n p (kind_named p.kind) (each_numbered inner_of (n + 1) ps) (passed n p both.0).rows (inner_fit (n + 1) ps both.1)

-- each line of a link ends at a component that is there
lines_end : (ps : List Part) (n : ℕ) (js : List Join) → All (λ j. IsSoundLink ps j) js → LinksEnd (length ps) (each_numbered (lines_of ps) n js)
unfolding each_numbered
lines_end ps n [] h k l g = absurd (none_some g)
lines_end ps n (j ∷ js) h zero l g = subst (λ (m : LinkLine). m.receiver < length ps) (some_same g) (All-head (IsSoundLink ps) j js h).right
lines_end ps n (j ∷ js) h (suc zero) l g = subst (λ (m : LinkLine). m.receiver < length ps) (some_same g) (All-head (IsSoundLink ps) j js h).left
lines_end ps n (j ∷ js) h (suc (suc k)) l g = lines_end ps (n + 1) js (All-tail (IsSoundLink ps) j js h) k l g

-- the clocks are of components from n on, and each is the first of its component and index
record Clocks (n : ℕ) (ls : List InnerLine) : Type 0 where
  later : (d c i period : ℕ) → slice_get ls d ≡ Some (inner.Clock c i period) → n ≤ c
  found : (m d c i period : ℕ) → slice_get ls d ≡ Some (inner.Clock c i period) → clock_from m ls c i ≡ Some (m + d, period)

clocks_up : (n : ℕ) (ls : List InnerLine) → Clocks (n + 1) ls → Clocks n ls
clocks_up n ls h = record {
  later = λ d c i period g. let k = h.later d c i period g in omega (arith, k);
  found = h.found;
}

clocks_own : (n c : ℕ) (ls : List InnerLine) → Clocks n ls → Clocks n (inner.Own c 0 ∷ ls)
clocks_own n c ls h = record { later = later; found = found }
  where
    later : (d b i period : ℕ) → slice_get (inner.Own c 0 ∷ ls) d ≡ Some (inner.Clock b i period) → n ≤ b
    later zero b i period g = let e = some_same g in absurd (cc)
    later (suc d) b i period g = h.later d b i period g

    found : (m d b i period : ℕ) → slice_get (inner.Own c 0 ∷ ls) d ≡ Some (inner.Clock b i period) → clock_from m (inner.Own c 0 ∷ ls) b i ≡ Some (m + d, period)
    found m zero b i period g = let e = some_same g in absurd (cc)
    found m (suc d) b i period g = h.found (m + 1) d b i period g ∙ ap (λ k. Some (k, period)) {x = m + 1 + d} {y = m + suc d} (omega arith)

here_by : (x y : Bool) (m period : ℕ) (o : Option (ℕ × ℕ)) → x ≡ true → y ≡ true → cond (x && y) (Some (m, period)) o ≡ Some (m, period)
here_by true true m period o e f = refl
here_by true false m period o e f = absurd (cc)
here_by false y m period o e f = absurd (cc)

there_by : (x y : Bool) (m period : ℕ) (o : Option (ℕ × ℕ)) → x ≡ false → cond (x && y) (Some (m, period)) o ≡ o
there_by true y m period o e = absurd (cc)
there_by false y m period o e = refl

clocks_clock : (n p : ℕ) (ls : List InnerLine) → Clocks (n + 1) ls → Clocks n (inner.Clock n 0 p ∷ ls)
clocks_clock n p ls h = record { later = later; found = found }
  where
    later : (d b i period : ℕ) → slice_get (inner.Clock n 0 p ∷ ls) d ≡ Some (inner.Clock b i period) → n ≤ b
    later zero b i period g = let e = some_same g in let k : n ≡ b = cc in omega arith
    later (suc d) b i period g = let k = h.later d b i period g in omega (arith, k)

    found : (m d b i period : ℕ) → slice_get (inner.Clock n 0 p ∷ ls) d ≡ Some (inner.Clock b i period) → clock_from m (inner.Clock n 0 p ∷ ls) b i ≡ Some (m + d, period)
    found m zero b i period g =
        let e = some_same g in
        let k : n ≡ b = cc in
        let j : 0 ≡ i = cc in
        let q : p ≡ period = cc in
        here_by (eqb n b) (eqb 0 i) m p (clock_from (m + 1) ls b i) (eq-eqb n b k) (eq-eqb 0 i j)
        ∙ ap (λ r. Some (m, r)) q
        ∙ ap (λ r. Some (r, period)) {x = m} {y = m + 0} (omega arith)
    found m (suc d) b i period g =
        let k = h.later d b i period g in
        let u : eqb n b ≡ false = grind (arith, nat_tests) in
        there_by (eqb n b) (eqb 0 i) m p (clock_from (m + 1) ls b i) u
        ∙ h.found (m + 1) d b i period g
        ∙ ap (λ r. Some (r, period)) {x = m + 1 + d} {y = m + suc d} (omega arith)

clocks_front : (i : ℕ) (p : Part) (o : Option KindName) (ls : List InnerLine) → Clocks (i + 1) ls → Clocks i (inner_by i p o ++ ls)
clocks_front i p None ls h = clocks_up i ls h
clocks_front i p (Some kind.Pinger) ls h = clocks_up i ls h
clocks_front i p (Some kind.Echo) ls h = clocks_own i i ls (clocks_up i ls h)
clocks_front i p (Some kind.Ticker) ls h = clocks_clock i (value p clock_row) ls h
clocks_front i p (Some kind.Router) ls h = clocks_clock i (router_of p.params).period ls h
clocks_front i p (Some kind.TestNic) ls h = clocks_clock i (endpoint_of p.params).flit_time ls h
clocks_front i p (Some kind.TrafficGen) ls h = clocks_clock i (generator_of p.params).flit_time ls h

clocks_all : (n : ℕ) (ps : List Part) → Clocks n (each_numbered inner_of n ps)
unfolding each_numbered
clocks_all n [] = record { later = λ d c i period g. absurd (none_some g); found = λ m d c i period g. absurd (none_some g) }
clocks_all n (p ∷ ps) = clocks_front n p (kind_named p.kind) _ (clocks_all (n + 1) ps)

clocks_apart : (ps : List Part) → ClocksApart (each_numbered inner_of 0 ps)
clocks_apart ps d c i period g = (clocks_all 0 ps).found 0 d c i period g ∙ ap (λ k. Some (k, period)) {x = 0 + d} {y = d} (omega arith)

-- each self line and each clock is that of one of the components
clock_end : (i period : ℕ) (ls : List InnerLine) (count : ℕ) → i < count → InnersEnd count ls → InnersEnd count (inner.Clock i 0 period ∷ ls)
clock_end i period ls count h rest zero l g = subst (λ m. owner m < count) (some_same g) h
clock_end i period ls count h rest (suc n) l g = rest n l g

inner_end : (i : ℕ) (p : Part) (o : Option KindName) (ls : List InnerLine) (count : ℕ) → i < count → InnersEnd count ls → InnersEnd count (inner_by i p o ++ ls)
inner_end i p None ls count h rest = rest
inner_end i p (Some kind.Pinger) ls count h rest = rest
inner_end i p (Some kind.Echo) ls count h rest = owned
  where
    owned : InnersEnd count (inner.Own i 0 ∷ ls)
    owned zero l g = subst (λ m. owner m < count) (some_same g) h
    owned (suc n) l g = rest n l g
inner_end i p (Some kind.Ticker) ls count h rest = clock_end i (value p clock_row) ls count h rest
inner_end i p (Some kind.Router) ls count h rest = clock_end i (router_of p.params).period ls count h rest
inner_end i p (Some kind.TestNic) ls count h rest = clock_end i (endpoint_of p.params).flit_time ls count h rest
inner_end i p (Some kind.TrafficGen) ls count h rest = clock_end i (generator_of p.params).flit_time ls count h rest

inners_end : (n count : ℕ) (ps : List Part) → n + length ps ≡ count → InnersEnd count (each_numbered inner_of n ps)
unfolding each_numbered
inners_end n count [] e = λ m l g. absurd (none_some g)
inners_end n count (p ∷ ps) e = inner_end n p (kind_named p.kind) (each_numbered inner_of (n + 1) ps) count (omega arith) (inners_end (n + 1) count ps (omega (arith, e)))

-- ---- what goes over the lines

same_first : (ms : List Member) (f h : RouterAsk) → first_router ms ≡ Some f → first_router ms ≡ Some h → f ≡ h
same_first ms f h a b = some_same (sym a ∙ b)

both-ports : (x y : Member) (p q : ℕ) → AreJoined x p y q → is_network x ≡ true → is_network y ≡ true → HasPort x p × HasPort y q
both-ports (member.Router r) (member.Router s) p q h a b = h
both-ports (member.Router r) (member.Endpoint e) p q h a b = h
both-ports (member.Router r) member.Other p q h a b = absurd h
both-ports (member.Endpoint e) (member.Router s) p q h a b = h
both-ports (member.Endpoint e) (member.Endpoint f) p q h a b = h
both-ports (member.Endpoint e) member.Other p q h a b = absurd h
both-ports member.Other (member.Router s) p q h a b = absurd h
both-ports member.Other (member.Endpoint e) p q h a b = absurd h
both-ports member.Other member.Other p q h a b = absurd cc

one-other : (y : Member) (p q : ℕ) → AreJoined member.Other p y q → is_network y ≡ true → ⊥
one-other (member.Router s) p q h b = h
one-other (member.Endpoint e) p q h b = h
one-other member.Other p q h b = absurd cc

other-one : (x : Member) (p q : ℕ) → AreJoined x p member.Other q → is_network x ≡ true → ⊥
other-one (member.Router s) p q h b = h
other-one (member.Endpoint e) p q h b = h
other-one member.Other p q h b = absurd cc

module _ (w : Wiring) (ms : List Member) (net : IsNetwork w ms) (tied : AllTied w ms) (n : ℕ) (l : LinkLine) (at_l : slice_get w.links n ≡ Some l) where
  heard : (x y : Any) → Voice w ms l.sender x → Voice w ms l.receiver y → (a : Load) (at : ℕ) → AnyGives x l.out_port a at → any_hears y (cause.Link l.in_port a) at ≡ true
  heard x y (Core ox gx hx) (Core oy gy hy) a at may = hy l.in_port a at (gx l.out_port a at may)
  heard x y (Core ox gx hx) (Net f m first there is v) a at may = absurd (one-other m l.out_port l.in_port ((tied n l at_l).ends member.Other m ox there) is)
  heard x y (Net f m first there is v) (Core oy gy hy) a at may = absurd (other-one m l.out_port l.in_port ((tied n l at_l).ends m member.Other there oy) is)
  heard x y (Net f m first here is v) (Net h k second there is2 u) a at may =
      let t = tied n l at_l in
      let ps = both-ports m k l.out_port l.in_port (t.ends m k here there) is is2 in
      let j : Joins w ms l.sender l.out_port l.receiver l.in_port m k = record { here = here; there = there; out = ps.0; into = ps.1; ahead = end_of_line w n l.sender l.out_port l.receiver l.in_port t.pair.ahead; back = end_of_line w t.way l.receiver l.in_port l.sender l.out_port t.pair.back } in
      let goes = v.gives l.out_port a at may in
      let same : f ≡ h = same_first ms f h first second in
      u.hears l.in_port a at (lines_agree w ms (bounds h (least ms)) l.sender l.out_port l.receiver l.in_port m k net j a at (subst (λ (r : RouterAsk). LoadGoes (bounds r (least ms)) m l.out_port a at) same goes))

-- ---- the whole

module _ (g : Graph) (h : IsFit g) (c : first_fault (components_checks g.components) ≡ None) (links : first_fault (links_checks g.components g.links) ≡ None) (ports : first_fault (all_ports_checks (ends_of g.links) g.components) ≡ None) (net : IsNetwork (wiring_of g) (members_of g)) where
  part_at : (i : ℕ) (x : Any) → slice_get (model_of g).elements i ≡ Some x → IsBegun (wiring_of g) (members_of g) i i g.components x
  part_at i x at = begun_at (wiring_of g) (members_of g) 0 i i g.components x (omega arith) at

  start_at : (i : ℕ) (x : Any) → slice_get (model_of g).elements i ≡ Some x → CanStart x
  start_at i x at = let f = part_at i x at in subst CanStart f.is (starts g c links ports net i f.part f.there)

  voice_at : (i : ℕ) (x : Any) → slice_get (model_of g).elements i ≡ Some x → Voice (wiring_of g) (members_of g) i x
  voice_at i x at = let f = part_at i x at in subst (Voice (wiring_of g) (members_of g) i) f.is (voice g c links ports net i f.part f.there)

  read_at : (i : ℕ) (x : Any) → slice_get (model_of g).elements i ≡ Some x → AreRead (meters_of any_kind) (wiring_of g) (members_of g) i x
  read_at i x at = let f = part_at i x at in subst (AreRead (meters_of any_kind) (wiring_of g) (members_of g) i) f.is (read g c links ports net i f.part f.there)

  pub tied : AllTied (wiring_of g) (members_of g)
  unfolding links_checks
  tied = all_tied g.components g.links (wiring_of g) refl links h.ends

  pub model_opens : Opens any_kind any_allowed (wiring_of g) (model_of g).elements
  unfolding components_checks
  model_opens = record {
    stands = record {
      wires = record {
        fits = record { links = links_fit g.components 0 g.links h.links; inner = inner_fit 0 g.components c };
        ends = subst (λ n. LinksEnd n (each_numbered (lines_of g.components) 0 g.links)) (begun_count (wiring_of g) (members_of g) 0 g.components) (lines_end g.components 0 g.links h.links);
        owned = subst (λ n. InnersEnd n (each_numbered inner_of 0 g.components)) (begun_count (wiring_of g) (members_of g) 0 g.components) (inners_end 0 (length g.components) g.components (omega arith));
        apart = clocks_apart g.components;
      };
      agrees = λ n l x y there hx hy load at may. heard (wiring_of g) (members_of g) net tied n l there x y (voice_at l.sender x hx) (voice_at l.receiver y hy) load at may;
      named = λ i x at. let f = part_at i x at in subst (HasNamed any_kind any_allowed (wiring_of g) i) f.is (named g c links ports net i f.part f.there);
      holds = λ i x at. (start_at i x at).holds;
      paired = paired (meters_of any_kind) (wiring_of g) (members_of g) (model_of g).elements net tied read_at;
    };
    elements = λ i x at. (start_at i x at).fit;
    first = λ i x at. (start_at i x at).first;
    off = λ b x i there. (start_at b x there).off i;
    credits = credited (meters_of any_kind) (wiring_of g) (members_of g) (model_of g).elements net tied read_at;
  }

  pub model_safe : any_safe (wiring_of g) 0 (opening (model_of g).elements)
  model_safe = opening_safe any_kind any_allowed (wiring_of g) (model_of g).elements model_opens

-- ---- what was made, by its parts

pub same_wires : (g : Graph) (before after : Wiring) (ps : List Part) → ps ≡ g.components → before ≡ record { links = each_numbered (lines_of g.components) 0 g.links; inner = [] } → after ≡ record { links = before.links; inner = each_numbered inner_of 0 ps } → after ≡ wiring_of g
same_wires g before after ps p b a = a ∙ ap (λ (v : Wiring). record { links = v.links; inner = each_numbered inner_of 0 ps }) b ∙ ap (λ (qs : List Part). record { links = each_numbered (lines_of g.components) 0 g.links; inner = each_numbered inner_of 0 qs }) p

module _ (g : Graph) (w : Wiring) (ms : List Member) (xs : List Any) (ps : List Part) (h : IsFit g) (p : ps ≡ g.components) (e : w ≡ wiring_of g) (m : ms ≡ map member_of ps) (v : xs ≡ begun_from w ms 0 ps) where
  same_members : ms ≡ members_of g
  same_members = m ∙ ap (map member_of) p

  same_elements : xs ≡ (model_of g).elements
  same_elements = v ∙ ap (λ (u : Wiring). begun_from u ms 0 ps) e ∙ ap (λ (k : List Member). begun_from (wiring_of g) k 0 ps) same_members ∙ ap (λ (k : List Part). begun_from (wiring_of g) (members_of g) 0 k) p

  pub made_is : ◌≡◌ {A = Made} (record { elements = xs; wires = w }) (model_of g)
  made_is = ap (λ (k : List Any). record { elements = k; wires = w }) same_elements ∙ ap (λ (u : Wiring). record { elements = (model_of g).elements; wires = u }) e

  pub network_is : IsNetwork w ms → IsNetwork (wiring_of g) (members_of g)
  network_is n = subst (λ (u : Wiring). IsNetwork u (members_of g)) e (subst (λ (k : List Member). IsNetwork w k) same_members n)

  pub made_safe : first_fault (components_checks ps) ≡ None → first_fault (links_checks g.components g.links) ≡ None → first_fault (all_ports_checks (ends_of g.links) g.components) ≡ None → IsNetwork w ms → any_safe w 0 (opening xs)
  made_safe c l q n =
      let s = model_safe g h (subst (λ (k : List Part). first_fault (components_checks k) ≡ None) p c) l q (network_is n) in
      subst (λ (u : Wiring). any_safe u 0 (opening xs)) (sym e) (subst (λ (k : List Any). any_safe (wiring_of g) 0 (opening k)) (sym same_elements) s)
