-- The statistics that a run leaves tell that its packets came in order.
use Rattle.std.proofs.Common.{◌≡◌, ℕ, zero, suc, ◌+◌, ◌≤◌, ◌<◌, ◌^◌, Bool, true, false, not, ◌&&◌, ◌||◌, cond, nat_lt, take, List, [], ◌∷◌, length, Option, Some, None, is_some, option_map, refl, sym, ap, ◌∙◌, subst, arith}
use Rattle.std.specs.Prelude.{slice_get, codes, bytes_eq}
use Rattle.std.specs.List.{position_or_len}
use Rattle.std.proofs.lemmas.Slice.Eq.{bytes_eq-Decides}
use Rattle.std.proofs.lemmas.Bool.Decides.{nat_tests}
use Rattle.ss_safe.specs.Kept.Found.{some_same, none_some}
use Rattle.ss_model.specs.Wiring.{Wiring}
use Rattle.ss_model.specs.Step.{opening}
use Rattle.ss_model.specs.End.{Limits, IsBound, IsRun}
use Rattle.ss_stats.specs.declared.set.Stat.{Stat}
use Rattle.ss_stats.specs.declared.set.Stat.TheVariants as stat
use Rattle.ss_stats.specs.Set.{Entry, place_of}
use Rattle.ss_graph.specs.declared.graph.Graph.{Graph}
use Rattle.ss_graph.specs.declared.graph.Part.{Part}
use Rattle.ss_graph.specs.declared.graph.StatAsk.{StatAsk}
use Rattle.ss_graph.specs.Checks.{first_fault}
use Rattle.ss_graph.specs.Fit.{IsFit}
use Rattle.ss_graph.proofs.Judging.{first_fault_append}
use Rattle.mr_flow.specs.declared.Packet.{Packet}
use Rattle.mr_works.specs.Expected.{stat_in, stat_named}
use Rattle.mr_wired.specs.Stored.{nothing, Sums, Stored}
use Rattle.ss_network.specs.declared.ask.EndpointAsk.{EndpointAsk}
use Rattle.ss_network.specs.declared.member.Member.{Member}
use Rattle.ss_network.specs.declared.member.Member.TheVariants as member
use Rattle.ss_library.specs.declared.kinds.Any.{Any}
use Rattle.ss_library.specs.declared.kinds.Any.TheVariants as any
use Rattle.ss_library.specs.declared.table.KindName.{KindName}
use Rattle.ss_library.specs.declared.table.KindName.TheVariants as kind
use Rattle.ss_library.specs.Kinds.{any_stats}
use Rattle.ss_library.specs.Ways.{any_expecting}
use Rattle.ss_library.specs.Tables.{kind_named, is_among}
use Rattle.ss_library.specs.Make.{each_numbered, stats_of, stat_check, stats_by, rest_by, components_checks, make_checks, member_by, members_of, begun_by, begun, begun_from, wiring_of, model_of}
use Rattle.ss_library.specs.Stats.{empty_by, empty_stat, empty_stats, has_bins, is_asked_before}
use Rattle.ss_library.specs.Order.{PacketsStayInOrder}
use Rattle.ss_library.proofs.Members.{get_map, passed_at}
use Rattle.ss_library.proofs.Naming.{holds_by, no_fault, checked}
use Rattle.ss_library.specs.Kinds.{any_kind}
use Rattle.ss_library.specs.Meaning.{any_meaning}
use Rattle.ss_run.specs.declared.Origin.TheVariants as origin
use Rattle.ss_course.specs.Course.{limits}
use Rattle.ss_cmd.specs.declared.RunOptions.{RunOptions}
use Rattle.ss_cmd.specs.Grammar.{AreInRange}
use Rattle.ss_top.specs.Asked.{course_of}
use Rattle.ss_top.specs.Judge.{elements, limits_of, stop_by}
use Rattle.ss_top.proofs.Fitting.{bound_within, max_most, max_zero, stop_early}
use Rattle.ss_top.specs.Tells.{AsksFor, delivered_by, TellsOf, StatisticsTellOrder}

-- ---- the end of a run

-- the limits of a run from the start
limits_same : (g : Graph) (o : RunOptions) → limits any_kind any_meaning (course_of g origin.Start o) ≡ limits_of g o.stop_at
limits_same g o = ap (λ n. record { origin = 0; stop = n; exit = g.options.exit_period }) (max_zero (stop_by o.stop_at g.options.stop_at))

bound_early : (g : Graph) (asked : Option ℕ) (agreed : Bool) (q : ℕ) → stop_by asked g.options.stop_at ≤ 2 ^ 62 → IsBound elements (model_of g).wires (limits_of g asked) (opening (model_of g).elements) agreed q → q ≤ 2 ^ 62
bound_early g asked agreed q early b =
    let w = bound_within elements (model_of g).wires (limits_of g asked) (opening (model_of g).elements) agreed q b in
    let m = max_most (stop_by asked g.options.stop_at) 0 (2 ^ 62) early (omega arith) in
    omega (arith, w, m)

-- ---- the beginning

begun_there : (w : Wiring) (ms : List Member) (n c d : ℕ) (ps : List Part) (p : Part) → c ≡ n + d → slice_get ps d ≡ Some p → slice_get (begun_from w ms n ps) d ≡ Some (begun w ms c p)
unfolding each_numbered
begun_there w ms n c d [] p e g = absurd (none_some g)
begun_there w ms n c zero (q ∷ ps) p e g = ap Some (ap (begun w ms n) (some_same g) ∙ ap (λ m. begun w ms m p) {x = n} {y = c} (omega (arith, e)))
begun_there w ms n c (suc d) (q ∷ ps) p e g = begun_there w ms (n + 1) c d ps p (omega (arith, e)) g

-- ---- statistics

bytes_same : (a b : List ℕ) → a ≡ b → bytes_eq a b ≡ true
bytes_same a b h = grind (arith, bytes_eq-Decides)

-- what tells of packets is an endpoint
late : (x : Any) (s : Stat) → any_expecting.out_of_order x ≡ Some s → stat_named (any_stats x) (codes "out_of_order") ≡ Some s
late (any.Pinger p) s e = absurd (none_some e)
late (any.Echo y) s e = absurd (none_some e)
late (any.Ticker t) s e = absurd (none_some e)
late (any.TestNic n) s e = e
late (any.TrafficGen n) s e = e
late (any.Router r) s e = absurd (none_some e)

came : (x : Any) (vs : List ℕ) → Sums (any_expecting.received x) vs → Sums (stat_named (any_stats x) (codes "received")) vs
came (any.Pinger p) vs h = absurd (none_some h.is)
came (any.Echo y) vs h = absurd (none_some h.is)
came (any.Ticker t) vs h = absurd (none_some h.is)
came (any.TestNic n) vs h = h
came (any.TrafficGen n) vs h = h
came (any.Router r) vs h = absurd (none_some h.is)

-- ---- what is asked for

second : (a b c : Bool) → a && (b && c) ≡ true → b ≡ true
second true true c h = refl
second true false c h = absurd cc
second false b c h = absurd cc

none_before : (b : Bool) (n : ℕ) → not (is_some (cond b (Some n) None)) ≡ true → b ≡ false
none_before true n h = absurd cc
none_before false n h = refl

module _ (name : List ℕ) where
  abbrev is_named : Entry → Bool
  is_named e = bytes_eq e.0 name

  abbrev place : List StatAsk → ℕ
  place asks = position_or_len is_named (empty_stats asks)

  abbrev count : List StatAsk → ℕ
  count asks = length (empty_stats asks)

  -- where none before is of the name, an item of it is the first
  first : (asks : List StatAsk) (j : ℕ) (a : StatAsk) → slice_get asks j ≡ Some a → bytes_eq a.name name ≡ true → count (take j asks) ≤ place (take j asks) → place asks ≡ j
  first [] j a g e n = absurd (none_some g)
  first (b ∷ bs) zero a g e n = ap (λ t. cond (not t) (1 + place bs) 0) (subst (λ (z : StatAsk). bytes_eq z.name name ≡ true) (sym (some_same g)) e)
  first (b ∷ bs) (suc j) a g e n = by (bytes_eq b.name name) (first bs j a g e) n
    where
      by : (t : Bool) → (count (take j bs) ≤ place (take j bs) → place bs ≡ j) → suc (count (take j bs)) ≤ cond (not t) (1 + place (take j bs)) 0 → cond (not t) (1 + place bs) 0 ≡ suc j
      by true r m = absurd (omega (arith, m))
      by false r m = let h = r (omega (arith, m)) in omega (arith, h)

  within : (asks : List StatAsk) (j : ℕ) (a : StatAsk) → slice_get asks j ≡ Some a → j < count asks
  within [] j a g = absurd (none_some g)
  within (b ∷ bs) zero a g = omega arith
  within (b ∷ bs) (suc j) a g = let h = within bs j a g in omega (arith, h)

  passes_all : (n m : ℕ) → nat_lt n m ≡ false → m ≤ n
  passes_all n m h = grind (arith, nat_tests, h)

  is_below : (n m : ℕ) → n < m → nat_lt n m ≡ true
  is_below n m h = grind (arith, nat_tests, h)

  found : (asks : List StatAsk) (j : ℕ) (a : StatAsk) → slice_get asks j ≡ Some a → a.name ≡ name → not (is_asked_before asks j name) ≡ true → place_of (empty_stats asks) name ≡ Some j
  found asks j a g e n =
      let none = none_before (nat_lt (place (take j asks)) (count (take j asks))) (place (take j asks)) n in
      let at = first asks j a g (bytes_same a.name name e) (passes_all (place (take j asks)) (count (take j asks)) none) in
      ap (λ k. cond (nat_lt k (count asks)) (Some k) None) at ∙ ap (λ t. cond t (Some j) None) (is_below j (count asks) (within asks j a g))

-- an accumulator that is asked for begins without values
begins_empty : (i : ℕ) (p : Part) (o : Option KindName) (name : List ℕ) → first_fault (stats_by i p o) ≡ None → AsksFor p name → stat_named (empty_stats p.stats) name ≡ Some (stat.Accumulator nothing)
unfolding stats_by first_fault
begins_empty i p o name h a =
    let ok = holds_by (is_among (stats_of o) a.ask.name && (not (is_asked_before p.stats a.place a.ask.name) && (not a.ask.histogram || has_bins a.ask))) _ _ (checked (λ j b. stat_check o p.stats i j b ∷ []) 0 a.place a.place p.stats a.ask (omega arith) h a.there) in
    let fresh = second (is_among (stats_of o) a.ask.name) (not (is_asked_before p.stats a.place a.ask.name)) (not a.ask.histogram || has_bins a.ask) ok in
    ap (stat_in (empty_stats p.stats)) (found name p.stats a.place a.ask a.there a.named (subst (λ (t : List ℕ). not (is_asked_before p.stats a.place t) ≡ true) a.named fresh))
    ∙ ap (option_map (λ (e : Entry). e.1)) (get_map (λ (b : StatAsk). (b.name, empty_stat b)) p.stats a.place a.ask a.there)
    ∙ ap (λ t. Some (empty_by a.ask t)) a.accumulates

-- ---- what is told

-- an endpoint begins with the statistics that are asked for
module _ (w : Wiring) (ms : List Member) (c : ℕ) (p : Part) (e : EndpointAsk) (x : Any) (packets : List Packet) where
  told_by : (o : Option KindName) → first_fault (rest_by c p o) ≡ None → member_by p o ≡ member.Endpoint e → Stored any_expecting x (begun_by w ms c p o) packets → TellsOf p x packets
  told_by None ok is h = absurd cc
  told_by (Some kind.Pinger) ok is h = absurd cc
  told_by (Some kind.Echo) ok is h = absurd cc
  told_by (Some kind.Ticker) ok is h = absurd cc
  told_by (Some kind.Router) ok is h = absurd cc
  told_by (Some kind.TestNic) ok is h = record {
    out_of_order = λ a. late x _ (h.out_of_order (begins_empty c p (Some kind.TestNic) (codes "out_of_order") ok a));
    received = λ a. came x _ (h.received (begins_empty c p (Some kind.TestNic) (codes "received") ok a));
  }
  told_by (Some kind.TrafficGen) ok is h = record {
    out_of_order = λ a. late x _ (h.out_of_order (begins_empty c p (Some kind.TrafficGen) (codes "out_of_order") ok a));
    received = λ a. came x _ (h.received (begins_empty c p (Some kind.TrafficGen) (codes "received") ok a));
  }

-- ---- runs

components_pass : (g : Graph) → first_fault (make_checks g) ≡ None → first_fault (components_checks g.components) ≡ None
unfolding make_checks
components_pass g h = (no_fault (first_fault (components_checks g.components)) _ (sym (first_fault_append (components_checks g.components) _) ∙ h)).0

pub statistics_tell_order : (g : Graph) (o : RunOptions) → first_fault (make_checks g) ≡ None → IsFit g → AreInRange o → PacketsStayInOrder g (model_of g) → StatisticsTellOrder g o
unfolding PacketsStayInOrder
statistics_tell_order g o checks fit range order ks rest time left h =
    let x = h.outcome in
    let run : IsRun elements (model_of g).wires (limits_of g o.stop_at) (opening (model_of g).elements) x = subst (λ (l : Limits). IsRun elements (model_of g).wires l (opening (model_of g).elements) x) (limits_same g o) h.is in
    let until = run.until in
    let bound = bound_early g o.stop_at x.agreed x.bound (stop_early g o.stop_at fit range.stop_at) run.bound in
    let kept = order x.bound x.steps x.steps bound until (omega arith) in
    record {
      outcome = x;
      run = run;
      each = λ c p e y there is at.
          told_by (wiring_of g) (members_of g) c p e y (delivered_by (model_of g) c x.steps) (kind_named p.kind) (passed_at g.components c p (components_pass g checks) there).rest is
          (kept.stored c y (begun (wiring_of g) (members_of g) c p) (ap (λ (xs : List Any). slice_get xs c) (sym h.left) ∙ at) (begun_there (wiring_of g) (members_of g) 0 c c g.components p (omega arith) there));
    }
