use Rattle.mr_router.specs.Turns.{turn_read, turn_text}
use Rattle.mr_router.proofs.Listing.{text_step}
use Rattle.mr_router.proofs.outputs.Outputs.save.Goals as goal

pub loop-output-preserved : goal.loop-output-preserved
loop-output-preserved c = text_step turn_text c.args.self.now.turns c.loop-output.output (turn_read c.in_ok-turn.turn) c.args.out.now c.loop-output.out c.save.new.out c.in_ok-turn.ensures c.loop-output.invariant c.in_ok-save.ensures
