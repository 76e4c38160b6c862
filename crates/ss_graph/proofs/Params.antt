-- Parameters by name, and lists of subcomponents and statistics, item by item.
use Rattle.std.proofs.Common.{◌≡◌, ℕ, ◌+◌, List, [], ◌∷◌, ◌++◌, map, Bool, true, false, cond, ◌&&◌, Option, Some, None, refl, ap, ◌∙◌, String, Global, string_bytes, append_assoc, Ordering, ◌==◌, length, arith}
use Rattle.std.proofs.lemmas.Bool.Decides.{nat_tests}
use Rattle.std.specs.declared.cmp.Ordering.TheVariants.{Less, Equal, Greater}
use Rattle.std.specs.Ordering.{match_ordering, nat_cmp, is_eq}
use Rattle.std.specs.Cmp.Lexicographic.{slice_cmp}
use Rattle.std.specs.String.{string_cmp}
use Rattle.std.specs.Str.{bytes_eq}
use Rattle.std.specs.Map.{lookup}
use Rattle.std.specs.BTreeMap.{insert_entry, is_at}
use Rattle.std.proofs.lemmas.Map.Text.{is_eq-slice_cmp}
use Rattle.std.proofs.lemmas.Cmp.{nat_list_eq_equiv}
use Rattle.serde_json.specs.Data.{no_items}
use Rattle.serde_json.specs.View.{view, items_view}
use Rattle.serde_json.specs.declared.value.Value.{Value}
use Rattle.ss_graph.specs.declared.fault.GraphFault.{GraphFault}
use Rattle.ss_graph.specs.declared.graph.StatAsk.{StatAsk}
use Rattle.ss_graph.specs.Checks.{Check, first_fault, Fails}
use Rattle.ss_graph.specs.Faults.{is_memory}
use Rattle.ss_graph.specs.Components.{seen_params, with_param, with_params, given}
use Rattle.ss_graph.specs.Subcomponents.{is_no_item, sub_params, sub_checks, each_sub_checks}
use Rattle.ss_graph.specs.Statistics.{stat_checks, stat_of, each_stat_checks, stats_of}
use Rattle.ss_graph.proofs.Judging.{first_fault_append, fails_front}

-- ---- the map of parameters

map_ordering : {A B : Type 0} (f : A → B) (o : Ordering) (x y z : List A) (u v w : List B) → map f x ≡ u → map f y ≡ v → map f z ≡ w → map f (match_ordering o x y z) ≡ match_ordering o u v w
map_ordering f Less x y z u v w a b c = a
map_ordering f Equal x y z u v w a b c = b
map_ordering f Greater x y z u v w a b c = c

pub seen_insert : (es : List (String Global × List ℕ)) (k : String Global) (v : List ℕ) → seen_params (insert_entry string_cmp es k v) ≡ with_param (seen_params es) (string_bytes k, v)
seen_insert [] k v = refl
seen_insert (e ∷ es) k v = map_ordering (λ p. (string_bytes p.0, p.1)) (string_cmp k e.0) _ _ _ _ _ _ refl refl (ap (λ ps. (string_bytes e.0, e.1) ∷ ps) (seen_insert es k v))

pub seen_get : (es : List (String Global × List ℕ)) (k : String Global) → lookup (is_at (string_cmp k)) es ≡ given (seen_params es) (string_bytes k)
seen_get [] k = refl
seen_get (e ∷ es) k =
    let same : is_eq (string_cmp k e.0) ≡ bytes_eq (string_bytes e.0) (string_bytes k) = is_eq-slice_cmp (string_bytes k) (string_bytes e.0) ∙ nat_list_eq_equiv.symm (string_bytes k) (string_bytes e.0) in
    ap (λ b. cond b (Some e.1) (lookup (is_at (string_cmp k)) es)) same ∙ ap (λ o. cond (bytes_eq (string_bytes e.0) (string_bytes k)) (Some e.1) o) (seen_get es k)

pub and_assoc : (a b c : Bool) → ((a && b) && c) ≡ (a && (b && c))
and_assoc true b c = refl
and_assoc false b c = refl

-- ---- subcomponents

pub no_items_counted : (vs : List Value) → is_no_item (items_view vs) ≡ (length vs == 0)
no_items_counted [] = refl
no_items_counted (v ∷ vs) = grind (arith, nat_tests)

pub no_subs : (i : ℕ) (ps : List (List ℕ × List ℕ)) → first_fault (each_sub_checks i 0 ps no_items) ≡ None
unfolding each_sub_checks first_fault
no_subs i ps = refl

pub subs_cons : (i j : ℕ) (ps : List (List ℕ × List ℕ)) (x : Value) (rest : List Value) → first_fault (sub_checks i j ps (view x)) ≡ None → first_fault (each_sub_checks i j ps (items_view (x ∷ rest))) ≡ first_fault (each_sub_checks i (j + 1) (with_params ps (sub_params (view x))) (items_view rest))
unfolding each_sub_checks
subs_cons i j ps x rest h = rw (first_fault_append (sub_checks i j ps (view x)) (each_sub_checks i (j + 1) (with_params ps (sub_params (view x))) (items_view rest)), h) refl

pub subs_cons_fails : (e : GraphFault) (i j : ℕ) (ps : List (List ℕ × List ℕ)) (x : Value) (rest : List Value) → Fails is_memory e (first_fault (sub_checks i j ps (view x))) → Fails is_memory e (first_fault (each_sub_checks i j ps (items_view (x ∷ rest))))
unfolding each_sub_checks
subs_cons_fails e i j ps x rest f = fails_front is_memory e (sub_checks i j ps (view x)) (each_sub_checks i (j + 1) (with_params ps (sub_params (view x))) (items_view rest)) f

pub subs_none : (i j : ℕ) (ps : List (List ℕ × List ℕ)) → first_fault (each_sub_checks i j ps (items_view [])) ≡ None
unfolding each_sub_checks first_fault
subs_none i j ps = refl

-- ---- statistics

pub no_stats : (i : ℕ) → first_fault (each_stat_checks i 0 no_items) ≡ None
unfolding each_stat_checks first_fault
no_stats i = refl

pub stats_cons : (i j : ℕ) (x : Value) (rest : List Value) → first_fault (stat_checks i j (view x)) ≡ None → first_fault (each_stat_checks i j (items_view (x ∷ rest))) ≡ first_fault (each_stat_checks i (j + 1) (items_view rest))
unfolding each_stat_checks
stats_cons i j x rest h = rw (first_fault_append (stat_checks i j (view x)) (each_stat_checks i (j + 1) (items_view rest)), h) refl

pub stats_cons_fails : (e : GraphFault) (i j : ℕ) (x : Value) (rest : List Value) → Fails is_memory e (first_fault (stat_checks i j (view x))) → Fails is_memory e (first_fault (each_stat_checks i j (items_view (x ∷ rest))))
unfolding each_stat_checks
stats_cons_fails e i j x rest f = fails_front is_memory e (stat_checks i j (view x)) (each_stat_checks i (j + 1) (items_view rest)) f

pub stats_none : (i j : ℕ) → first_fault (each_stat_checks i j (items_view [])) ≡ None
unfolding each_stat_checks first_fault
stats_none i j = refl

pub stats_push : (ss : List StatAsk) (s : StatAsk) (x : Value) (rest : List Value) (all : List StatAsk) → ss ++ stats_of (items_view (x ∷ rest)) ≡ all → s ≡ stat_of (view x) → (ss ++ s ∷ []) ++ stats_of (items_view rest) ≡ all
stats_push ss s x rest all h e = rw (append_assoc ss (s ∷ []) (stats_of (items_view rest)), e) h
