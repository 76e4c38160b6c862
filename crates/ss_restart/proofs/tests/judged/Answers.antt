use Rattle.ss_ckpt.specs.Views.{state_of}
use Rattle.ss_restart.specs.declared.tests.Blank.{Blank}
use Rattle.ss_restart.specs.declared.tests.Quiet.{Quiet}
use Rattle.ss_restart.proofs.Small.{small_spelled}
use Rattle.ss_restart.proofs.tests.judged.Goals as goal

pub sound-requires : goal.sound-requires
sound-requires c =
    let model = c.in_ok-model.model in
    let head = c.in_ok-head.head in
    let saved = c.in_ok-saved.saved in
    let made = c.in_ok-model.ensures in
    let read = c.in_ok-saved.ensures in
    small_spelled Blank (λ (q : Quiet). q.stats) model.wires model.elements.items saved.model.wires c.args.bytes.now head.graph.items head.time saved.time (state_of saved) made.stands made.few made.numbered read.found read.kept.0 read.kept.2
