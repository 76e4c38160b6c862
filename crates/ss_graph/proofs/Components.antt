-- A list of components, item by item.
use Rattle.std.proofs.Common.{◌≡◌, ℕ, suc, ap, sym, ◌∙◌, map, String, Global, string_bytes, ◌+◌, ◌<◌, ◌≤◌, List, [], ◌∷◌, ◌++◌, length, drop, get_or, Bool, None, refl, arith, drop-cons, append_assoc}
use Rattle.std.proofs.lemmas.List.{length-map}
use Rattle.std.proofs.lemmas.Grind.{common_steps}
use Rattle.serde_json.specs.View.{view, items_view}
use Rattle.serde_json.specs.declared.value.Value.{Value}
use Rattle.ss_graph.specs.declared.fault.GraphFault.{GraphFault}
use Rattle.ss_graph.specs.declared.graph.Part.{Part}
use Rattle.ss_graph.specs.Checks.{Check, first_fault, Fails}
use Rattle.ss_graph.specs.Faults.{is_memory}
use Rattle.ss_graph.specs.Components.{name_in, is_new, items_count}
use Rattle.ss_graph.specs.Parts.{component_checks, components_checks, part_of, parts_of, names_of}
use Rattle.ss_graph.proofs.Judging.{first_fault_append, fails_front}

pub dropped : (vs : List Value) (i : ℕ) (x : Value) → i < length vs → x ≡ get_or vs i x → drop i vs ≡ x ∷ drop (i + 1) vs
dropped vs i x h e = grind (arith, drop-cons vs i x h, e)

pub emptied : (vs : List Value) (i : ℕ) → length vs ≤ i → drop i vs ≡ []
emptied vs i h = grind (arith, common_steps)

pub components_cons : (i : ℕ) (names : List (List ℕ)) (x : Value) (rest : List Value) → first_fault (component_checks i (is_new names (name_in (view x))) (view x)) ≡ None → first_fault (components_checks i names (items_view (x ∷ rest))) ≡ first_fault (components_checks (i + 1) (names ++ name_in (view x) ∷ []) (items_view rest))
unfolding components_checks
components_cons i names x rest h = rw (first_fault_append (component_checks i (is_new names (name_in (view x))) (view x)) (components_checks (i + 1) (names ++ name_in (view x) ∷ []) (items_view rest)), h) refl

pub components_cons_fails : (e : GraphFault) (i : ℕ) (names : List (List ℕ)) (x : Value) (rest : List Value) → Fails is_memory e (first_fault (component_checks i (is_new names (name_in (view x))) (view x))) → Fails is_memory e (first_fault (components_checks i names (items_view (x ∷ rest))))
unfolding components_checks
components_cons_fails e i names x rest f = fails_front is_memory e (component_checks i (is_new names (name_in (view x))) (view x)) (components_checks (i + 1) (names ++ name_in (view x) ∷ []) (items_view rest)) f

pub components_none : (i : ℕ) (names : List (List ℕ)) → first_fault (components_checks i names (items_view [])) ≡ None
unfolding components_checks first_fault
components_none i names = refl

pub made_push : (ps : List Part) (p : Part) (x : Value) (rest : List Value) (all : List Part) → ps ++ parts_of (items_view (x ∷ rest)) ≡ all → p ≡ part_of (view x) → (ps ++ p ∷ []) ++ parts_of (items_view rest) ≡ all
made_push ps p x rest all h e = rw (append_assoc ps (p ∷ []) (parts_of (items_view rest)), e) h

pub noted_push : (ns : List (List ℕ)) (x : Value) (rest : List Value) (all : List (List ℕ)) → ns ++ names_of (items_view (x ∷ rest)) ≡ all → (ns ++ name_in (view x) ∷ []) ++ names_of (items_view rest) ≡ all
noted_push ns x rest all h = rw (append_assoc ns (name_in (view x) ∷ []) (names_of (items_view rest))) h

items_counted : (vs : List Value) → length (names_of (items_view vs)) ≡ length vs
items_counted [] = refl
items_counted (v ∷ vs) = ap suc (items_counted vs)

pub counted_names : (ks : List (String Global)) (vs : List Value) → map string_bytes ks ≡ names_of (items_view vs) → length ks ≡ length vs
counted_names ks vs h = sym (length-map ks string_bytes) ∙ ap length h ∙ items_counted vs

pub counted_items : (vs : List Value) → items_count (items_view vs) ≡ length vs
counted_items [] = refl
counted_items (v ∷ vs) = ap suc (counted_items vs)
