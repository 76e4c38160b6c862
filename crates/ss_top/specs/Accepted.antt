-- What is so of a graph text that was judged, and of a division of its graph.
use Rattle.std.specs.Prelude.{◌≡◌, ℕ, ◌≤◌, List, length, Option, Some, None}
use Rattle.ss_model.specs.Step.{opening}
use Rattle.ss_graph.specs.declared.graph.Graph.{Graph}
use Rattle.ss_graph.specs.Checks.{first_fault}
use Rattle.ss_graph.specs.Fit.{IsFit}
use Rattle.ss_graph.specs.Judge.{graph_of}
use Rattle.ss_part.specs.Assigned.{assigned, refusal as undivided}
use Rattle.ss_part.specs.Division.{Division, AreBelow}
use Rattle.ss_part.specs.declared.PartFault.{PartFault}
use Rattle.ss_cmd.specs.declared.Spread.{Spread}
use Rattle.ss_library.specs.Kinds.{any_safe}
use Rattle.ss_library.specs.Make.{make_checks, model_of}
use Rattle.ss_library.specs.Order.{PacketsStayInOrder}
use Rattle.ss_top.specs.Answer.{undivided_by}
use Rattle.ss_top.specs.Judge.{Judged, accepted, judge}
use Rattle.ss_top.specs.Simulate.{judged_by}
use Rattle.ss_top.specs.Spreading.{parts_of}
use Rattle.ss_top.specs.declared.refusal.Refusal.{Refusal}
use Rattle.ss_top.specs.declared.simulate.Accepted.{Accepted}

-- a graph with its model, of which no check fails: it is fit, and the model is safe as it begins and keeps packets in order
pub record IsRunnable (a : Accepted) : Type 0 where
  pub fit : IsFit a.graph
  pub checked : first_fault (make_checks a.graph) ≡ None
  pub made : record { elements = a.model.elements.items; wires = a.model.wires } ≡ model_of a.graph
  pub safe : any_safe (model_of a.graph).wires 0 (opening (model_of a.graph).elements)
  pub order : PacketsStayInOrder a.graph (model_of a.graph)

-- the text is accepted, and this is its graph with its model
pub record IsAcceptedText (text : List ℕ) (a : Accepted) : Type 0 where
  pub judged : judge text ≡ accepted
  pub is : a.graph ≡ graph_of text
  pub runs : IsRunnable a

-- it isn't, and this says why, unless memory was wanting
abbrev pub IsRefused : List ℕ → Option Judged → Type 0
IsRefused text None = Unit {0}
IsRefused text (Some j) = (judge text ≡ j) × (j ≡ accepted → ⊥)

abbrev pub IsRefusedText : List ℕ → Refusal → Type 0
IsRefusedText text r = IsRefused text (judged_by r)

-- the parts of a graph as they are asked for
pub record IsDivision (g : Graph) (s : Spread) (d : Division) : Type 0 where
  pub can : undivided g (parts_of s g) s.how ≡ None
  pub parts : d.parts ≡ parts_of s g
  pub list : d.list ≡ assigned g (parts_of s g) s.how
  pub some : 1 ≤ d.parts
  pub few : d.parts ≤ 32
  pub whole : length d.list ≡ length g.components
  pub below : AreBelow d.list d.parts

-- or why it can't be divided so, unless memory was wanting
abbrev pub IsWhy : Graph → Spread → Option Judged → Type 0
IsWhy g s None = Unit {0}
IsWhy g s (Some j) = (f : PartFault) × (undivided g (parts_of s g) s.how ≡ Some f) × (j ≡ undivided_by f)

abbrev pub Undivides : Graph → Spread → Refusal → Type 0
Undivides g s r = IsWhy g s (judged_by r)
