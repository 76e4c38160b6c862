use Rattle.std.proofs.Common.{◌≤◌, ◌^◌, length, take, arith}
use Rattle.mr_fattree.proofs.Numbers.{take_few}
use Rattle.mr_fattree.proofs.levels.members_of.Goals as goal

pub returns-clause-bound : goal.returns-clause-bound
returns-clause-bound c =
    let t : 256 ^ length (take c.args.level c.args.levels.now) ≤ 2 ^ 24 = take_few c.args.levels.now c.args.level c.requires.inside c.requires.few in
    omega (arith, t, c.ups_of.ensures.bound)
