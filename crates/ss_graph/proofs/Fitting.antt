-- What follows from the checks of a text that all hold.
use Rattle.std.proofs.Common.{◌≡◌, ◌<◌, ◌≤◌, ◌+◌, ◌^◌, ℕ, suc, List, [], ◌∷◌, ◌++◌, length, map, Bool, true, false, cond, not, ◌&&◌, Some, None, Option, option_map, Result, Ok, Err, ◌*◌, refl, sym, ap, ◌∙◌, subst, arith, append_assoc, codes}
use Rattle.std.specs.Prelude.{nat_le, nat_lt, nat_eq, is_some, IfOk}
use Rattle.std.specs.List.{IsDistinct, All, list_any, position_or_len}
use Rattle.std.specs.Str.{bytes_eq}
use Rattle.std.specs.Cmp.{IsEquivalence}
use Rattle.std.proofs.lemmas.Bool.Decides.{nat_tests}
use Rattle.std.proofs.lemmas.Cmp.{nat_list_eq_equiv, nat_eq_equiv, on_equiv, and_equiv}
use Rattle.std.proofs.lemmas.List.{append-nil}
use Rattle.std.proofs.lemmas.List.Elements.{All-nil, All-cons}
use Rattle.std.proofs.lemmas.Map.Keys.{IsDistinct-push}
use Rattle.serde_json.specs.Data.{Data, Items, no_items, item}
use Rattle.serde_json.specs.Find.{get, as_str}
use Rattle.ss_graph.specs.declared.fault.GraphFault.{GraphFault}
use Rattle.ss_graph.specs.declared.fault.GraphFault.TheVariants as fault
use Rattle.ss_graph.specs.declared.fault.LimitKind.TheVariants as limit
use Rattle.ss_units.specs.Units.{ps}
use Rattle.ss_units.specs.declared.units.UnitFault.{UnitFault}
use Rattle.ss_graph.specs.declared.graph.Part.{Part}
use Rattle.ss_graph.specs.declared.graph.PortEnd.{PortEnd}
use Rattle.ss_graph.specs.declared.graph.Join.{Join}
use Rattle.ss_graph.specs.declared.graph.Options.{Options}
use Rattle.ss_graph.specs.Checks.{Check, check, first_fault, or_else, at, Judged}
use Rattle.ss_graph.specs.Faults.{is_memory}
use Rattle.ss_graph.specs.declared.graph.Graph.{Graph}
use Rattle.ss_graph.specs.Options.{ranged, time_or, time_of, the, time_checks, stop_in, period_in, stop_of, options_checks, options_of, fits_if, is_object, options_in}
use Rattle.ss_graph.specs.Components.{or_null, object_checks, named_checks, name_checks, fresh_checks, name_in, place_in, is_new, items_count, items_in, text_in}
use Rattle.ss_graph.specs.Parts.{all_params_checks, rest_checks, kind_checks, component_checks, components_checks, names_of, parts_of, part_items, part_list_checks, parts_checks}
use Rattle.ss_graph.specs.Links.{join_of, reach_checks, port_checks, latency_checks, end_checks, end_of, end_key, end_place, component_in, is_taken, same_end, side_checks, crossing_checks, is_lasting, line_latency, left_of, right_of, link_checks, links_checks, joins_of, link_items, link_list_checks, joins_checks}
use Rattle.ss_graph.specs.Judge.{shared_checks, head_checks, value_checks, text_checks, json, graph_of, graph_of_value}
use Rattle.ss_graph.specs.Fit.{IsWithin, IsSoundLink, IsFit, ends_of}
use Rattle.ss_graph.proofs.Judging.{first_fault_append}

module _ {F : Type 0} where
  split : (a b : Option F) → or_else a b ≡ None → (a ≡ None) × (b ≡ None)
  split None b h = (refl, h)
  split (Some x) b h = absurd cc

  pub both_none : (xs ys : List (Check F)) → first_fault (xs ++ ys) ≡ None → (first_fault xs ≡ None) × (first_fault ys ≡ None)
  both_none xs ys h = split (first_fault xs) (first_fault ys) (sym (first_fault_append xs ys) ∙ h)

  holds_by : (b : Bool) (o : Option F) (f : F) → cond b o (Some f) ≡ None → (b ≡ true) × (o ≡ None)
  holds_by true o f h = (refl, h)
  holds_by false o f h = absurd cc

  pub head_holds : (b : Bool) (f : F) (cs : List (Check F)) → first_fault (check b f ∷ cs) ≡ None → (b ≡ true) × (first_fault cs ≡ None)
  unfolding first_fault
  head_holds b f cs h = holds_by b (first_fault cs) f h

-- ---- components

fresh_named : (place : List ℕ) (fresh : Bool) (o : Option Data) → first_fault (named_checks place fresh o) ≡ None → fresh ≡ true
unfolding named_checks fresh_checks
fresh_named place fresh o h = (head_holds fresh (fault.DuplicateName place) [] (both_none (name_checks place o) (check fresh (fault.DuplicateName place) ∷ []) h).1).0

fresh_component : (i : ℕ) (fresh : Bool) (d : Data) → first_fault (component_checks i fresh d) ≡ None → fresh ≡ true
unfolding component_checks
fresh_component i fresh d h =
    let named = named_checks (at (codes "components") i ++ codes ".name") fresh (get (codes "name") d) in
    let rest = kind_checks i (get (codes "type") d) ++ (all_params_checks i d ++ rest_checks i d) in
    fresh_named (at (codes "components") i ++ codes ".name") fresh (get (codes "name") d) (both_none named rest (both_none (object_checks (at (codes "components") i) d) (named ++ rest) h).1).0

not_any : (b : Bool) → not b ≡ true → b ≡ false
not_any true h = absurd cc
not_any false h = refl

distinct_names : (i : ℕ) (names : List (List ℕ)) (ds : Items) → IsDistinct bytes_eq names → first_fault (components_checks i names ds) ≡ None → IsDistinct bytes_eq (names ++ names_of ds)
unfolding components_checks
distinct_names i names no_items d h = subst (λ ns. IsDistinct bytes_eq ns) (sym (append-nil names)) d
distinct_names i names (item x ds) d h =
    let p = both_none (component_checks i (is_new names (name_in x)) x) (components_checks (i + 1) (names ++ name_in x ∷ []) ds) h in
    let n = not_any (list_any (bytes_eq (name_in x)) names) (fresh_component i (is_new names (name_in x)) x p.0) in
    subst (λ ns. IsDistinct bytes_eq ns) (append_assoc names (name_in x ∷ []) (names_of ds)) (distinct_names (i + 1) (names ++ name_in x ∷ []) ds (IsDistinct-push nat_list_eq_equiv names (name_in x) d n) p.1)

part_names : (ds : Items) → map (λ p. p.name) (parts_of ds) ≡ names_of ds
part_names no_items = refl
part_names (item d ds) = ap (λ ns. name_in d ∷ ns) (part_names ds)

parts_counted : (ds : Items) → length (parts_of ds) ≡ items_count ds
parts_counted no_items = refl
parts_counted (item d ds) = ap suc (parts_counted ds)

names_counted : (ds : Items) → length (names_of ds) ≡ items_count ds
names_counted no_items = refl
names_counted (item d ds) = ap suc (names_counted ds)

few_by : (n m : ℕ) → nat_le n m ≡ true → n ≤ m
few_by n m h = grind (arith, nat_tests)

few_parts : (o : Option Data) → first_fault (part_list_checks o) ≡ None → items_count (items_in o) ≤ 2 ^ 16
unfolding part_list_checks
few_parts o h = few_by _ _ (head_holds _ _ _ (head_holds _ _ _ (head_holds _ _ _ h).1).1).0

few_links : (o : Option Data) → first_fault (link_list_checks o) ≡ None → items_count (items_in o) ≤ 2 ^ 18
unfolding link_list_checks
few_links o h = few_by _ _ (head_holds _ _ _ (head_holds _ _ _ h).1).0

-- ---- links

pub within_by : (low n high : ℕ) → nat_le low n && nat_le n high ≡ true → IsWithin low n high
within_by low n high h = record { least = grind (arith, nat_tests); most = grind (arith, nat_tests) }

number_by : (b : Bool) (n m : ℕ) → (b ≡ true → n < m) → is_some (cond b (Some n) None) ≡ true → the (cond b (Some n) None) < m
number_by true n m f h = f refl
number_by false n m f h = absurd cc

below_by : (n m : ℕ) → nat_lt n m ≡ true → n < m
below_by n m h = grind (arith, nat_tests)

found_below : (names : List (List ℕ)) (q : List ℕ) → is_some (place_in names q) ≡ true → the (place_in names q) < length names
found_below names q h = number_by _ (position_or_len (bytes_eq q) names) (length names) (below_by (position_or_len (bytes_eq q) names) (length names)) h

same_end_equiv : IsEquivalence same_end
same_end_equiv = and_equiv (on_equiv (λ e. e.0) nat_eq_equiv) (on_equiv (λ e. e.1) nat_list_eq_equiv)

module _ (names : List (List ℕ)) where
  real_end : (i : ℕ) (side : List ℕ) (ends : List (ℕ × List ℕ)) (d : Data) → first_fault (end_checks i side names ends d) ≡ None → (component_in names d < length names) × (is_taken ends (end_key (end_of names d)) ≡ false)
  unfolding end_checks reach_checks port_checks
  real_end i side ends d h =
      let q = text_in (get (codes "component") d) in
      let reach = reach_checks i side (place_in names q) (get (codes "component") d) in
      let port = port_checks i side (is_taken ends (component_in names d, text_in (get (codes "port") d))) (get (codes "port") d) in
      let latency = latency_checks i side (get (codes "latency") d) in
      let p = both_none reach (port ++ latency) (both_none (object_checks (end_place i side []) d) (reach ++ (port ++ latency)) h).1 in
      let found = (head_holds _ _ _ (head_holds _ _ _ p.0).1).0 in
      let free = (head_holds _ _ _ (head_holds _ _ _ (both_none port latency p.1).0).1).0 in
      (found_below names q found, not_any _ free)

  real_side : (i : ℕ) (side : List ℕ) (ends : List (ℕ × List ℕ)) (o : Option Data) → first_fault (side_checks i side names ends o) ≡ None → (component_in names (or_null o) < length names) × (is_taken ends (end_key (end_of names (or_null o))) ≡ false)
  unfolding side_checks
  real_side i side ends o h = real_end i side ends (or_null o) (both_none (check (is_some o) (fault.Member (end_place i side [])) ∷ []) (end_checks i side names ends (or_null o)) h).1

  sound_link : (i : ℕ) (fresh : Bool) (parts : List Part) (ends : List (ℕ × List ℕ)) (d : Data) → length names ≡ length parts → first_fault (link_checks i fresh names parts ends d) ≡ None → IsSoundLink parts (join_of names d) × (is_taken ends (end_key (left_of names d)) ≡ false) × (is_taken (ends ++ end_key (left_of names d) ∷ []) (end_key (right_of names d)) ≡ false)
  unfolding link_checks crossing_checks
  sound_link i fresh parts ends d e h =
      let object = object_checks (at (codes "links") i) d in
      let named = named_checks (at (codes "links") i ++ codes ".name") fresh (get (codes "name") d) in
      let left = side_checks i (codes "left") names ends (get (codes "left") d) in
      let right = side_checks i (codes "right") names (ends ++ end_key (left_of names d) ∷ []) (get (codes "right") d) in
      let crossing = crossing_checks i parts (left_of names d) (right_of names d) in
      let p = both_none left (right ++ crossing) (both_none named (left ++ (right ++ crossing)) (both_none object (named ++ (left ++ (right ++ crossing))) h).1).1 in
      let q = both_none right crossing p.1 in
      let l = real_side i (codes "left") ends (get (codes "left") d) p.0 in
      let r = real_side i (codes "right") (ends ++ end_key (left_of names d) ∷ []) (get (codes "right") d) q.0 in
      let c = head_holds _ _ _ q.1 in
      let b = head_holds _ _ _ c.1 in (
        record {
          left = subst (λ n. component_in names (or_null (get (codes "left") d)) < n) e l.0;
          right = subst (λ n. component_in names (or_null (get (codes "right") d)) < n) e r.0;
          onward = within_by 1 (line_latency parts (left_of names d) (right_of names d)) (2 ^ 40) c.0;
          back = within_by 1 (line_latency parts (right_of names d) (left_of names d)) (2 ^ 40) b.0;
        },
        l.1,
        r.1,
      )

  sound_links : (i : ℕ) (parts : List Part) (link_names : List (List ℕ)) (ends : List (ℕ × List ℕ)) (ds : Items) → length names ≡ length parts → first_fault (links_checks names parts i link_names ends ds) ≡ None → All (λ j. IsSoundLink parts j) (joins_of names ds)
  unfolding links_checks
  sound_links i parts link_names ends no_items e h = All-nil (λ j. IsSoundLink parts j)
  sound_links i parts link_names ends (item d ds) e h =
      let p = both_none (link_checks i (is_new link_names (name_in d)) names parts ends d) (links_checks names parts (i + 1) (link_names ++ name_in d ∷ []) ((ends ++ end_key (left_of names d) ∷ []) ++ end_key (right_of names d) ∷ []) ds) h in
      All-cons (λ j. IsSoundLink parts j) (join_of names d) (joins_of names ds) (sound_link i (is_new link_names (name_in d)) parts ends d e p.0).0 (sound_links (i + 1) parts (link_names ++ name_in d ∷ []) ((ends ++ end_key (left_of names d) ∷ []) ++ end_key (right_of names d) ∷ []) ds e p.1)

  distinct_ends : (i : ℕ) (parts : List Part) (link_names : List (List ℕ)) (ends : List (ℕ × List ℕ)) (ds : Items) → length names ≡ length parts → IsDistinct same_end ends → first_fault (links_checks names parts i link_names ends ds) ≡ None → IsDistinct same_end (ends ++ ends_of (joins_of names ds))
  unfolding links_checks
  distinct_ends i parts link_names ends no_items e a h = subst (λ es. IsDistinct same_end es) (sym (append-nil ends)) a
  distinct_ends i parts link_names ends (item d ds) e a h =
      let l = end_key (left_of names d) in
      let r = end_key (right_of names d) in
      let p = both_none (link_checks i (is_new link_names (name_in d)) names parts ends d) (links_checks names parts (i + 1) (link_names ++ name_in d ∷ []) ((ends ++ l ∷ []) ++ r ∷ []) ds) h in
      let s = sound_link i (is_new link_names (name_in d)) parts ends d e p.0 in
      let b = IsDistinct-push same_end_equiv (ends ++ l ∷ []) r (IsDistinct-push same_end_equiv ends l a s.1) s.2 in
      subst (λ es. IsDistinct same_end es) (append_assoc (ends ++ l ∷ []) (r ∷ []) (ends_of (joins_of names ds)) ∙ append_assoc ends (l ∷ []) (r ∷ ends_of (joins_of names ds))) (distinct_ends (i + 1) parts (link_names ++ name_in d ∷ []) ((ends ++ l ∷ []) ++ r ∷ []) ds e b p.1)

  joins_counted : (ds : Items) → length (joins_of names ds) ≡ items_count ds
  joins_counted no_items = refl
  joins_counted (item d ds) = ap suc (joins_counted ds)

-- ---- options

module _ (low high : ℕ) where
  kept_by : (b : Bool) (n : ℕ) → (b ≡ true → IsWithin low n high) → is_some (cond b (Some n) None) ≡ true → IsWithin low (the (cond b (Some n) None)) high
  kept_by true n f h = f refl
  kept_by false n f h = absurd cc

  in_ranged : (r : Result ℕ UnitFault) → is_some (ranged low high r) ≡ true → IsWithin low (the (ranged low high r)) high
  in_ranged (Ok n) h = kept_by (nat_le low n && nat_le n high) n (within_by low n high) h
  in_ranged (Err e) h = absurd cc

  in_time : (o : Option (List ℕ)) → is_some (time_of low high o) ≡ true → IsWithin low (the (time_of low high o)) high
  in_time None h = absurd cc
  in_time (Some s) h = in_ranged (ps s) h

  pub in_time_or : (default : ℕ) (o : Option Data) → IsWithin low default high → is_some (time_or default low high o) ≡ true → IsWithin low (the (time_or default low high o)) high
  in_time_or default None w h = w
  in_time_or default (Some d) w h = in_time (as_str d) h

stop_by : (b : Bool) (n : ℕ) → n ≤ 2 ^ 62 → cond b (2 ^ 62) n ≤ 2 ^ 62
stop_by true n h = omega arith
stop_by false n h = h

fit_options : (d : Data) → first_fault (options_checks d) ≡ None → ((options_of d).stop_at ≤ 2 ^ 62) × IsWithin 1 (options_of d).exit_period (2 ^ 40)
unfolding options_checks time_checks
fit_options d h =
    let stop = time_checks (codes "program_options.stop-at") 0 0 (2 ^ 62) (stop_in d) in
    let period = time_checks (codes "program_options.exit-period") (10 ^ 6) 1 (2 ^ 40) (period_in d) in
    let p = both_none stop period (both_none (check (fits_if is_object (options_in d)) (fault.Form (codes "program_options")) ∷ []) (stop ++ period) h).1 in
    let s = (head_holds _ _ _ (head_holds _ _ _ p.0).1).0 in
    let e = (head_holds _ _ _ (head_holds _ _ _ p.1).1).0 in
    let w = in_time_or 0 (2 ^ 62) 0 (stop_in d) (record { least = omega arith; most = omega arith }) s in
    (stop_by _ _ w.most, in_time_or 1 (2 ^ 40) (10 ^ 6) (period_in d) (record { least = omega arith; most = omega arith }) e)

-- ---- the whole

fit_value : (text : List ℕ) (d : Data) → first_fault (value_checks d) ≡ None → IsFit (graph_of_value text d)
unfolding value_checks head_checks parts_checks joins_checks IsDistinct
fit_value text d h =
    let names = names_of (part_items d) in
    let parts = parts_of (part_items d) in
    let part_list = part_list_checks (get (codes "components") d) in
    let each_part = components_checks 0 [] (part_items d) in
    let link_list = link_list_checks (get (codes "links") d) in
    let each_link = links_checks names parts 0 [] [] (link_items d) in
    let links = link_list ++ each_link in
    let head = object_checks (codes "graph") d ++ (shared_checks d ++ options_checks d) in
    let p = both_none head ((part_list ++ each_part) ++ links) h in
    let q = both_none (part_list ++ each_part) links p.1 in
    let c = both_none part_list each_part q.0 in
    let l = both_none link_list each_link q.1 in
    let o = fit_options d (both_none (shared_checks d) (options_checks d) (both_none (object_checks (codes "graph") d) (shared_checks d ++ options_checks d) p.0).1).1 in
    let e : length names ≡ length parts = names_counted (part_items d) ∙ sym (parts_counted (part_items d)) in
    record {
      few_components = subst (λ n. n ≤ 2 ^ 16) (sym (parts_counted (part_items d))) (few_parts (get (codes "components") d) c.0);
      few_links = subst (λ n. n ≤ 2 ^ 18) (sym (joins_counted names (link_items d))) (few_links (get (codes "links") d) l.0);
      names = subst (λ ns. IsDistinct bytes_eq ns) (sym (part_names (part_items d))) (distinct_names 0 [] (part_items d) tt c.1);
      ends = distinct_ends names 0 parts [] [] (link_items d) e tt l.1;
      links = sound_links names 0 parts [] [] (link_items d) e l.1;
      stop_at = o.0;
      exit_period = o.1;
    }

-- a graph that passes all checks is fit
pub fit : (text : List ℕ) → first_fault (text_checks text) ≡ None → IsFit (graph_of text)
unfolding text_checks graph_of
fit text h = fit_value text (or_null (json text)) (both_none (check (nat_le (length text) 67108864) (fault.Limit limit.GraphBytes (length text)) ∷ check (is_some (json text)) fault.Text ∷ []) (value_checks (or_null (json text))) h).1

-- what is read of a value is fit
pub fit_answer : (text : List ℕ) (d : Data) (r : Result Graph GraphFault) → Judged is_memory (λ g. g) r (value_checks d) (graph_of_value text d) → IfOk r (λ g. IsFit g)
fit_answer text d (Ok g) p = subst (λ x. IsFit x) (sym p.1) (fit_value text d p.0)
fit_answer text d (Err e) p = tt
