use Rattle.std.proofs.Common.{◌+◌, ◌≤◌, length, arith, ap, sym, ◌∙◌, subst}
use Rattle.ss_worker.specs.Knowing.{since_of}
use Rattle.ss_worker.specs.Saves.{IsKnownSave}
use Rattle.ss_worker.proofs.Knowns.{known_most}
use Rattle.ss_worker.proofs.Dues.{AreBelow, one_more, length_more, many_found}
use Rattle.ss_worker.proofs.known.Known.saves.Goals as goal

pub loop-preserved : goal.loop-preserved
loop-preserved c =
    let i = c.loop.invariant in
    let first = c.in-Some.ensures in
    let after : c.loop.at ≤ c.in-Some.save = first.member.from in
    let below = first.member.below in
    let most = known_most c.args.cuts.now (since_of c.args.self.now) in
    let stop = c.requires.fits.stop in
    let is = c.in_ok-push.ensures.items in
    record {
      count = ap length is ∙ length_more c.loop.times.items c.in-Some.save ∙ ap (λ n. n + 1) i.count;
      from = omega (arith, i.from, after);
      early = omega (arith, below, most, stop);
      found = subst (AreBelow (IsKnownSave c.args.cuts.now c.args.self.now c.args.from) (c.in-Some.save + 1)) (sym is) (one_more c.args.cuts.now c.args.self.now c.args.from c.loop.at c.in-Some.save c.loop.times.items i.from first i.found);
    }

pub returns : goal.returns
returns c =
    let i = c.loop.invariant in
    many_found c.args.cuts.now c.args.self.now c.args.from c.loop.at c.loop.times.items (omega (arith, i.count, c.loop-test.false, c.loop.auto.counter-end)) i.found
