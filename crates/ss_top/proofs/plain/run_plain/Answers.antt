use Rattle.std.proofs.Common.{List, refl, ap, ◌∙◌}
use Rattle.ss_library.specs.declared.kinds.Any.{Any}
use Rattle.ss_run.specs.declared.RunSpec.{RunSpec}
use Rattle.ss_top.specs.Answer.{sheets as sheets_of, stats_text}
use Rattle.ss_top.proofs.Plainly.{as_asked, has_run_plainly}
use Rattle.ss_top.proofs.plain.run_plain.Goals as goal

pub returns : goal.returns
returns c =
    let spec = c.args.spec in
    let o = c.args.options.now in
    let s = c.in_ok-simulated.simulated in
    let left = s.serial.state.components in
    λ workers.
    has_run_plainly spec.graph o spec.partition.parts c.requires.plain s.lines.items s.time left workers _ c.in_ok-lines_alone.ensures
    (as_asked spec o s.lines.items s.time left _ c.requires.asked c.requires.made c.in_ok-simulated.ensures)
    c.in_ok-sheets.sheets refl
    (c.in_ok-sheets.ensures ∙ ap (λ (xs : List Any). sheets_of o.stats (stats_text spec.graph xs)) c.elements-elements.ensures)
    (ap (λ (r : RunSpec). r.graph) c.in_ok-new.ensures.ok) c.in_ok-copy.ensures c.requires.fit
