use Rattle.std.proofs.Common.{subst}
use Rattle.ss_model.specs.Step.{opening}
use Rattle.ss_library.specs.Kinds.{any_safe}
use Rattle.ss_library.specs.Make.{Made}
use Rattle.ss_library.specs.Order.{PacketsStayInOrder}
use Rattle.ss_top.proofs.Simulating.{text_refused, text_accepted, graph_unmade}
use Rattle.ss_top.proofs.simulate.accept.Goals as goal

pub returns-in-Err-clause-refused : goal.returns-in-Err-clause-refused
returns-in-Err-clause-refused c = text_refused c.args.text.now c.in-Err.fault c.refused.result c.in-Err.ensures.judged c.refused.ensures

pub returns-in-Ok-make-clause-accepted : goal.returns-in-Ok-make-clause-accepted
returns-in-Ok-make-clause-accepted c = record {
  judged = text_accepted c.args.text.now c.in-Ok.graph c.in-Ok.ensures.judged.0 c.in-Ok.ensures.judged.1 c.in-Ok-make.ensures.judged.0;
  is = c.in-Ok.ensures.judged.1;
  runs = record {
    fit = c.in-Ok.ensures.fit;
    checked = c.in-Ok-make.ensures.judged.0;
    made = c.in-Ok-make.ensures.judged.1;
    safe = subst (λ (m : Made). any_safe m.wires 0 (opening m.elements)) c.in-Ok-make.ensures.judged.1 c.in-Ok-make.ensures.safe;
    order = subst (PacketsStayInOrder c.in-Ok.graph) c.in-Ok-make.ensures.judged.1 c.in-Ok-make.ensures.order;
  };
}

pub returns-in-Err-make-clause-refused : goal.returns-in-Err-make-clause-refused
returns-in-Err-make-clause-refused c = graph_unmade c.args.text.now c.in-Ok.graph c.in-Err-make.fault c.unmade.result c.in-Ok.ensures.judged.0 c.in-Ok.ensures.judged.1 c.in-Err-make.ensures.judged c.unmade.ensures
