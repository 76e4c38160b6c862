-- A list of links, item by item.
use Rattle.std.proofs.Common.{◌≡◌, ℕ, ◌+◌, List, [], ◌∷◌, ◌++◌, None, refl, append_assoc}
use Rattle.serde_json.specs.Data.{no_items}
use Rattle.serde_json.specs.View.{view, items_view}
use Rattle.serde_json.specs.declared.value.Value.{Value}
use Rattle.ss_graph.specs.declared.fault.GraphFault.{GraphFault}
use Rattle.ss_graph.specs.declared.graph.Part.{Part}
use Rattle.ss_graph.specs.declared.graph.Join.{Join}
use Rattle.ss_graph.specs.Checks.{Check, first_fault, Fails}
use Rattle.ss_graph.specs.Faults.{is_memory}
use Rattle.ss_graph.specs.Components.{name_in, is_new}
use Rattle.ss_graph.specs.Links.{end_key, left_of, right_of, link_checks, links_checks, join_of, joins_of}
use Rattle.ss_graph.proofs.Judging.{first_fault_append, fails_front}

module _ (names : List (List ℕ)) (parts : List Part) where
  pub links_cons : (i : ℕ) (link_names : List (List ℕ)) (ends : List (ℕ × List ℕ)) (x : Value) (rest : List Value) → first_fault (link_checks i (is_new link_names (name_in (view x))) names parts ends (view x)) ≡ None → first_fault (links_checks names parts i link_names ends (items_view (x ∷ rest))) ≡ first_fault (links_checks names parts (i + 1) (link_names ++ name_in (view x) ∷ []) ((ends ++ end_key (left_of names (view x)) ∷ []) ++ end_key (right_of names (view x)) ∷ []) (items_view rest))
  unfolding links_checks
  links_cons i link_names ends x rest h = rw (first_fault_append (link_checks i (is_new link_names (name_in (view x))) names parts ends (view x)) (links_checks names parts (i + 1) (link_names ++ name_in (view x) ∷ []) ((ends ++ end_key (left_of names (view x)) ∷ []) ++ end_key (right_of names (view x)) ∷ []) (items_view rest)), h) refl

  pub links_cons_fails : (e : GraphFault) (i : ℕ) (link_names : List (List ℕ)) (ends : List (ℕ × List ℕ)) (x : Value) (rest : List Value) → Fails is_memory e (first_fault (link_checks i (is_new link_names (name_in (view x))) names parts ends (view x))) → Fails is_memory e (first_fault (links_checks names parts i link_names ends (items_view (x ∷ rest))))
  unfolding links_checks
  links_cons_fails e i link_names ends x rest f = fails_front is_memory e (link_checks i (is_new link_names (name_in (view x))) names parts ends (view x)) (links_checks names parts (i + 1) (link_names ++ name_in (view x) ∷ []) ((ends ++ end_key (left_of names (view x)) ∷ []) ++ end_key (right_of names (view x)) ∷ []) (items_view rest)) f

  pub links_none : (i : ℕ) (link_names : List (List ℕ)) (ends : List (ℕ × List ℕ)) → first_fault (links_checks names parts i link_names ends (items_view [])) ≡ None
  unfolding links_checks first_fault
  links_none i link_names ends = refl

  pub joins_push : (js : List Join) (j : Join) (x : Value) (rest : List Value) (all : List Join) → js ++ joins_of names (items_view (x ∷ rest)) ≡ all → j ≡ join_of names (view x) → (js ++ j ∷ []) ++ joins_of names (items_view rest) ≡ all
  joins_push js j x rest all h e = rw (append_assoc js (j ∷ []) (joins_of names (items_view rest)), e) h

pub no_links : (names : List (List ℕ)) (parts : List Part) → first_fault (links_checks names parts 0 [] [] no_items) ≡ None
unfolding links_checks first_fault
no_links names parts = refl
