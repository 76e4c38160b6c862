use Rattle.std.proofs.Common.{◌≡◌, ◌++◌, length}
use Rattle.ss_model.specs.Order.{insert_all}
use Rattle.ss_model.specs.Step.{made_all, printed}
use Rattle.ss_element.specs.Kind.{ActionsFit}
use Rattle.ss_worker.specs.Sorted.{kept, given}
use Rattle.ss_worker.proofs.mail.Mail.carry_out_all.Given as goal

-- what is done and what is left is what was asked for
abbrev pub invariant-loop-action : goal.invariant-loop-action
invariant-loop-action g l = record {
  fit : ActionsFit l.acts;
  pending : insert_all (kept l.wires l.owners l.part (made_all l.wires l.component l.key.time l.acts)) l.self.pending ≡ insert_all (kept l.wires l.owners l.part (made_all l.wires l.component l.key.time l.initial.acts)) l.initial.self.pending;
  out : l.self.out.items ++ given l.wires l.owners l.part (made_all l.wires l.component l.key.time l.acts) ≡ l.initial.self.out.items ++ given l.wires l.owners l.part (made_all l.wires l.component l.key.time l.initial.acts);
  told : l.self.lines.items ++ printed l.key l.acts ≡ l.initial.self.lines.items ++ printed l.key l.initial.acts;
}

abbrev pub decreases-loop-action : goal.decreases-loop-action
decreases-loop-action g l = length l.acts
