use Rattle.std.proofs.Common.{length, [], ◌∷◌, ◌++◌}
use Rattle.ss_wire.specs.Form.{big_bytes}
use Rattle.ss_wire.proofs.Loops.{wrote5}
use Rattle.ss_ckpt.specs.Form.{magic}
use Rattle.ss_compose.proofs.composing.write_head.Goals as goal

pub returns : goal.returns
returns c =
    wrote5 c.args.out.now c.bytes.new.self c.u64.new.self c.u64-2.new.self c.u32.new.self c.bytes-2.new.self
    (magic ++ 49 ∷ []) (big_bytes 8 c.args.at) (big_bytes 8 c.args.last) (big_bytes 4 (length c.args.text.now)) c.args.text.now
    c.in_ok-bytes.ensures.ok c.in_ok-u64.ensures.ok c.in_ok-u64-2.ensures.ok c.in_ok-u32.ensures.ok c.in_ok-bytes-2.ensures.ok
