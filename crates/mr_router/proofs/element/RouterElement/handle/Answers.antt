use Rattle.mr_router.specs.Kept.Keeping.{router_is_ready}
use Rattle.mr_router.proofs.element.RouterElement.handle.Goals as goal

pub react-requires-clause-ready : goal.react-requires-clause-ready
react-requires-clause-ready c = (router_is_ready c.args.self.now c.args.now c.args.cause.now c.requires.meets).0

pub react-requires-clause-room : goal.react-requires-clause-room
react-requires-clause-room c = (router_is_ready c.args.self.now c.args.now c.args.cause.now c.requires.meets).1
