use Rattle.std.proofs.Common.{arith, length, take, ◌-◌}
use Rattle.ss_pending.proofs.Stored.{last_within, rest_within, one_fewer, set_within, set_all_within, put_again}
use Rattle.ss_pending.proofs.loads.Loads.put.Goals as goal

pub index_mut-requires : goal.index_mut-requires
index_mut-requires g c =
    let h = last_within (length c.self.inside.loads.items) c.self.inside.places.items c.self.inside.free c.index-place.result.now c.if-self-gt0.true c.self.invariant.0 c.index-place.ensures c.self.invariant.2 in
    omega (arith, h, c.self.inside.loads.ok.0)

pub invariant_of-self : goal.invariant_of-self
invariant_of-self g c =
    (one_fewer c.self.inside.free (length c.self.inside.places.items) c.self.invariant.0, set_within c.self.inside.loads.items c.index-place.result.now c.args.load.now (length c.self.inside.places.items) c.self.invariant.1, set_all_within c.self.inside.loads.items c.index-place.result.now c.args.load.now (take (c.self.inside.free - 1) c.self.inside.places.items) (rest_within (length c.self.inside.loads.items) c.self.inside.places.items c.self.inside.free c.index-place.result.now c.if-self-gt0.true c.self.invariant.0 c.index-place.ensures c.self.invariant.2))

pub returns-then-self-gt0-clause-ok : goal.returns-then-self-gt0-clause-ok
returns-then-self-gt0-clause-ok g c = put_again c.index-place.result.now c.args.load.now c.args.self.now c.self.inside.loads.items c.self.inside.places.items c.self.inside.free c.self.view_is c.if-self-gt0.true c.self.invariant.0 c.index-place.ensures c.self.invariant.2
