-- What graph texts make, by their first faults.
use Rattle.std.proofs.Common.{◌≡◌, ℕ, Bool, true, false, cond, List, ◌++◌, Option, Some, None, refl, sym, ap, ◌∙◌, subst}
use Rattle.ss_model.specs.Wiring.{Wiring}
use Rattle.ss_graph.specs.declared.graph.Graph.{Graph}
use Rattle.ss_graph.specs.declared.fault.GraphFault.{GraphFault}
use Rattle.ss_graph.specs.Checks.{first_fault, Fails}
use Rattle.ss_graph.specs.Faults.{is_memory}
use Rattle.ss_graph.specs.Fit.{IsFit, ends_of}
use Rattle.ss_graph.specs.Judge.{text_checks, graph_of}
use Rattle.ss_graph.proofs.Fitting.{fit}
use Rattle.ss_network.specs.declared.fault.MakeFault.{MakeFault}
use Rattle.ss_network.specs.Faults.{is_memory as is_making_memory}
use Rattle.ss_network.proofs.Joined.{none-both}
use Rattle.ss_library.specs.declared.kinds.Any.{Any}
use Rattle.ss_library.specs.Make.{Made, components_checks, links_checks, all_ports_checks, members_of, wiring_of, make_checks, model_of}
use Rattle.ss_network.specs.Network.{network_checks}
use Rattle.ss_library.specs.Meaning.{IsMade}
use Rattle.ss_library.proofs.Begun.{begun_count}
use Rattle.ss_library.proofs.Opening.{model_safe}
use Rattle.ss_recall.specs.declared.fault.RecallFault.TheVariants as fault
use Rattle.ss_recall.specs.Begun.{IsBegun, text_fault, RefusesText}
use Rattle.ss_recall.specs.Recall.{IsAccepted, made_if, makes}

-- the graph of a text has it
pub text_is : (text : List ℕ) → (graph_of text).text ≡ text
unfolding graph_of
text_is text = refl

-- an accepted text makes its graph's model
pub accepted_makes : (text : List ℕ) → IsAccepted text → makes text ≡ Some ((model_of (graph_of text)).elements, (model_of (graph_of text)).wires)
unfolding makes
accepted_makes text a =
    ap (λ o. made_if o (first_fault (make_checks (graph_of text))) (model_of (graph_of text))) a.read
    ∙ ap (λ o. made_if None o (model_of (graph_of text))) a.made

none_fails : (o : Option GraphFault) (p : Option MakeFault) (m : Made) (x : List Any × Wiring) → made_if o p m ≡ Some x → (o ≡ None) × (p ≡ None)
none_fails None None m x h = (refl, refl)
none_fails None (Some f) m x h = absurd cc
none_fails (Some e) p m x h = absurd cc

-- and only an accepted one makes anything
pub makes_accepted : (text : List ℕ) (x : List Any × Wiring) → makes text ≡ Some x → IsAccepted text
unfolding makes
makes_accepted text x h =
    let a = none_fails (first_fault (text_checks text)) (first_fault (make_checks (graph_of text))) (model_of (graph_of text)) x h in
    record { read = a.0; made = a.1 }

-- a graph with no fault is one that a run may begin with
pub unfaulted_is_made : (g : Graph) → IsFit g → first_fault (make_checks g) ≡ None → IsMade g
unfolding make_checks
unfaulted_is_made g f h =
    let components = none-both (components_checks g.components) (links_checks g.components g.links ++ (all_ports_checks (ends_of g.links) g.components ++ network_checks (wiring_of g) (members_of g))) h in
    let links = none-both (links_checks g.components g.links) (all_ports_checks (ends_of g.links) g.components ++ network_checks (wiring_of g) (members_of g)) components.1 in
    let ports = none-both (all_ports_checks (ends_of g.links) g.components) (network_checks (wiring_of g) (members_of g)) links.1 in
    record { fit = f; whole = sym (begun_count (wiring_of g) (members_of g) 0 g.components); safe = model_safe g f components.0 links.0 ports.0 ports.1 }

pub accepted_is_made : (text : List ℕ) → IsAccepted text → IsMade (graph_of text)
accepted_is_made text a = unfaulted_is_made (graph_of text) (fit text a.read) a.made

-- the text of a model that was begun makes it
pub begun_makes : (text : List ℕ) (g : Graph) (m : Made) → IsBegun text g m → makes text ≡ Some (m.elements, m.wires)
begun_makes text g m b = accepted_makes text b.accepted ∙ ap (λ (k : Made). Some (k.elements, k.wires)) (sym (b.model ∙ ap model_of b.graph))

-- ---- faults

-- a text with a fault makes nothing
unread_by : (b : Bool) (text : List ℕ) (e : GraphFault) → first_fault (text_checks text) ≡ cond b (first_fault (text_checks text)) (Some e) → RefusesText text (cond b fault.NoMemory text_fault)
unfolding makes
unread_by true text e h = tt
unread_by false text e h = (refl, ap (λ o. made_if o (first_fault (make_checks (graph_of text))) (model_of (graph_of text))) h)

pub unread : (text : List ℕ) (e : GraphFault) → Fails is_memory e (first_fault (text_checks text)) → RefusesText text (cond (is_memory e) fault.NoMemory text_fault)
unread text e h = unread_by (is_memory e) text e h

unmade_by : (b : Bool) (text : List ℕ) (e : MakeFault) → first_fault (text_checks text) ≡ None → first_fault (make_checks (graph_of text)) ≡ cond b (first_fault (make_checks (graph_of text))) (Some e) → RefusesText text (cond b fault.NoMemory text_fault)
unfolding makes
unmade_by true text e r h = tt
unmade_by false text e r h = (
  refl,
  ap (λ o. made_if o (first_fault (make_checks (graph_of text))) (model_of (graph_of text))) r
      ∙ ap (λ o. made_if None o (model_of (graph_of text))) h,
)

pub unmade : (text : List ℕ) (g : Graph) (e : MakeFault) → first_fault (text_checks text) ≡ None → g ≡ graph_of text → Fails is_making_memory e (first_fault (make_checks g)) → RefusesText text (cond (is_making_memory e) fault.NoMemory text_fault)
unmade text g e r is h = unmade_by (is_making_memory e) text e r (subst (λ (k : Graph). Fails is_making_memory e (first_fault (make_checks k))) is h)
