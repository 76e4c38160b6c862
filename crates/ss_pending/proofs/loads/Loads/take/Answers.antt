use Rattle.std.proofs.Common.{arith}
use Rattle.ss_pending.proofs.Stored.{has_room, freed_within, load_there}
use Rattle.std.proofs.lemmas.List.{length-set}
use Rattle.ss_pending.proofs.loads.Loads.take.Goals as goal

pub invariant_of-self : goal.invariant_of-self
invariant_of-self g c =
    let h = has_room c.args.self.now c.self.inside.loads.items c.self.inside.places.items c.self.inside.free c.self.view_is c.self.invariant.0 c.self.invariant.1 c.requires.room in
    let e = length-set c.self.inside.places.items c.self.inside.free c.args.place in
    (omega (arith, h, e), omega (arith, c.self.invariant.1, e), freed_within c.args.self.now c.self.inside.loads.items c.self.inside.places.items c.self.inside.free c.args.place c.self.view_is h c.requires.there c.self.invariant.2)

pub returns-clause-load : goal.returns-clause-load
returns-clause-load g c = load_there c.args.self.now c.self.inside.loads.items c.self.inside.places.items c.self.inside.free c.args.place c.index-load.result.now c.self.view_is c.requires.there c.index-load.ensures
