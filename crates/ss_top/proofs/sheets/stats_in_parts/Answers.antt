use Rattle.std.proofs.Common.{◌≡◌, ◌++◌, List, ℕ, map, sym, subst, IfOk}
use Rattle.std.specs.Borrow.{Bor}
use Rattle.ss_graph.specs.declared.graph.Part.{Part}
use Rattle.ss_library.specs.declared.kinds.Any.{Any}
use Rattle.ss_stats.specs.Text.{head}
use Rattle.ss_top.specs.Answer.{stats_rows}
use Rattle.ss_top.specs.Dividing.{AreParts}
use Rattle.ss_top.proofs.Running.{parts_are}
use Rattle.ss_top.proofs.sheets.stats_in_parts.Goals as goal

pub lists_of-requires : goal.lists_of-requires
lists_of-requires c = record { alive = λ p x g. (c.requires.stand.each p x g).whole.alive }

pub stats_of_lists-requires-clause-elements : goal.stats_of_lists-requires-clause-elements
stats_of_lists-requires-clause-elements c = (
  c.requires.windows.last.whole.state,
  subst (λ (ls : List (Bor (List (ℕ × Any)))). AreParts c.args.run.now.partition.list (map (λ s. s.now) ls) c.requires.windows.last.whole.state) (sym c.as_slice-2.ensures.value)
      (parts_are c.args.run.now c.requires.fits c.args.windows c.args.workers.now (map (λ s. s.now) c.in_ok-lists.lists.items) c.requires.stand c.in_ok-lists.ensures c.requires.windows),
)

pub returns : goal.returns
returns c = λ n.
    subst (λ (ps : List Part). IfOk c.stats_of_lists.result (λ v. v.items ≡ head ++ stats_rows ps n.last.whole.state)) c.as_slice.ensures
    (c.stats_of_lists.ensures n.last.whole.state
    (subst (λ (ls : List (Bor (List (ℕ × Any)))). AreParts c.args.run.now.partition.list (map (λ s. s.now) ls) n.last.whole.state) (sym c.as_slice-2.ensures.value)
    (parts_are c.args.run.now c.requires.fits c.args.windows c.args.workers.now (map (λ s. s.now) c.in_ok-lists.lists.items) c.requires.stand c.in_ok-lists.ensures n)))
