use Rattle.std.proofs.Common.{ap, ◌∙◌, arith}
use Rattle.std.specs.ControlFlow.{continue_value}
use Rattle.ss_worker.specs.Knowing.{bound_of}
use Rattle.ss_worker.proofs.Knowns.{cut_is, window_some}
use Rattle.ss_worker.proofs.known.Known.window.Goals as goal

pub returns : goal.returns
returns c =
    window_some c.args.self.now.next c.args.number c.in_ok-least.least c.next_cut-upto.result c.bound-bound.result (bound_of c.args.cuts.now c.args.self.now) c.args.look c.args.cuts.now (c.branch-least.ensures ∙ ap continue_value c.in_ok-least.is) (omega (arith, c.if-least-bound.false)) c.bound-bound.ensures
    (cut_is c.args.cuts.now c.requires.fits.cuts c.args.look c.in_ok-least.least c.bound-bound.result c.next_cut-upto.result c.next_cut-upto.ensures.end)
