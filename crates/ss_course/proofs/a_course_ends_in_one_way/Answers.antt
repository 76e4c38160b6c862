use Rattle.ss_course.proofs.OneWay.{one_way}
use Rattle.ss_course.proofs.a_course_ends_in_one_way.Goals as goal

pub returns : goal.returns
returns g c = one_way g.E.Element.kind g.E.Element.saving g.E.Simulated.meaning
