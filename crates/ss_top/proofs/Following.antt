-- Restarts from the checkpoints of an accepted graph's runs get the rest.
use Rattle.std.proofs.Common.{◌≡◌, ℕ, List, map, None, sym, ap, ◌∙◌, subst}
use Rattle.std.specs.List.{All}
use Rattle.ss_wire.specs.Wire.{IsBytes}
use Rattle.ss_model.specs.declared.Line.{Line}
use Rattle.ss_graph.specs.declared.graph.Graph.{Graph}
use Rattle.ss_graph.specs.Checks.{first_fault}
use Rattle.ss_graph.specs.Judge.{graph_of, text_checks}
use Rattle.ss_library.specs.declared.kinds.Any.{Any}
use Rattle.ss_library.specs.Kinds.{any_kind}
use Rattle.ss_library.specs.Make.{make_checks}
use Rattle.ss_library.specs.Meaning.{any_meaning}
use Rattle.ss_library.specs.Saved.{any_saving}
use Rattle.ss_run.specs.declared.Origin.TheVariants as origin
use Rattle.ss_course.specs.Kept.{Kept, RunsWhole}
use Rattle.ss_recall.specs.declared.recalling.Recalled.{Recalled}
use Rattle.ss_recall.specs.Recall.{IsAccepted}
use Rattle.ss_recall.specs.Recalled.{IsRecalled}
use Rattle.ss_recall.proofs.Texts.{text_is}
use Rattle.ss_cmd.specs.declared.RunOptions.{RunOptions}
use Rattle.ss_cmd.specs.Grammar.{AreInRange}
use Rattle.ss_top.specs.Accepted.{IsAcceptedText}
use Rattle.ss_top.specs.Asked.{course_of}
use Rattle.ss_top.specs.Rest.{RestartsPrintTheRest}
use Rattle.ss_top.specs.declared.simulate.Accepted.{Accepted}
use Rattle.ss_top.proofs.Judging.{read_short}
use Rattle.ss_top.proofs.Simulating.{accepted_read, made_of}
use Rattle.ss_top.proofs.Resting.{restarts_follow}

-- a graph of a text has that text
own_text : (text : List ℕ) (g : Graph) → g ≡ graph_of text → g.text ≡ text
own_text text g e = ap (λ (x : Graph). x.text) e ∙ text_is text

own_graph : (text : List ℕ) (g : Graph) → g ≡ graph_of text → graph_of g.text ≡ g
own_graph text g e = ap graph_of (own_text text g e) ∙ sym e

pub started_follow : (text : List ℕ) (a : Accepted) (o : RunOptions) → IsAcceptedText text a → AreInRange o
    → (ks : List Kept) (rest : List Line) (time : ℕ) (left : List Any) → RunsWhole any_kind any_saving any_meaning (course_of a.graph origin.Start o) ks rest time left → All IsBytes (map (λ k. k.bytes) ks) → RestartsPrintTheRest a.graph origin.Start o
started_follow text a o h range =
    let own = own_text text a.graph h.is in
    let read = accepted_read text h.judged in
    let accepted : IsAccepted text = record { read = read; made = subst (λ (g : Graph). first_fault (make_checks g) ≡ None) h.is h.runs.checked } in
    restarts_follow a.graph origin.Start o (made_of a h.runs) range (made_of a h.runs) (subst IsAccepted (sym own) accepted) (own_graph text a.graph h.is) (read_short a.graph.text (subst (λ t. first_fault (text_checks t) ≡ None) (sym own) read))

pub recalled_follow : (bytes : List ℕ) (r : Recalled) (o : RunOptions) → IsRecalled bytes r → AreInRange o
    → (ks : List Kept) (rest : List Line) (time : ℕ) (left : List Any) → RunsWhole any_kind any_saving any_meaning (course_of r.graph (origin.Saved bytes) o) ks rest time left → All IsBytes (map (λ k. k.bytes) ks) → RestartsPrintTheRest r.graph (origin.Saved bytes) o
recalled_follow bytes r o h range =
    restarts_follow r.graph (origin.Saved bytes) o h.accepted range h.made (record { read = h.read; made = subst (λ (g : Graph). first_fault (make_checks g) ≡ None) h.graph h.unfaulted }) (sym h.graph) (read_short r.graph.text h.read)
