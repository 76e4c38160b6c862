use Rattle.std.proofs.Common.{◌++◌, ap, ◌∙◌}
use Rattle.ss_wire.specs.Form.{big_bytes}
use Rattle.ss_wire.proofs.Loops.{wrote4}
use Rattle.ss_compose.proofs.composing.write_event.Goals as goal

pub returns : goal.returns
returns c =
    let e = c.args.event.now in
    wrote4 c.args.out.now c.u64.new.self c.u8.new.self c.u32.new.self c.bytes.new.self (big_bytes 8 e.0.time) (big_bytes 1 e.0.class) (big_bytes 4 e.0.line) e.1.items
    c.in_ok-u64.ensures.ok c.in_ok-u8.ensures.ok c.in_ok-u32.ensures.ok (c.in_ok-bytes.ensures.ok ∙ ap (λ l. c.u32.new.self ++ l) c.deref.ensures.value)
