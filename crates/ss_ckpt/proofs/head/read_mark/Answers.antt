use Rattle.std.proofs.Common.{◌≡◌, ◌+◌, Ok, Err, ◌∙◌, sym, ap, drop, arith}
use Rattle.ss_wire.specs.Form.{◌>>=◌}
use Rattle.ss_ckpt.specs.declared.fault.CkptFault.TheVariants as fault
use Rattle.ss_ckpt.specs.Form.{magic, marked}
use Rattle.ss_ckpt.proofs.Marks.{a_byte, no_byte, letter_same, letter_other, letter_none}
use Rattle.ss_ckpt.proofs.head.read_mark.Goals as goal

pub returns-in-Ok-2 : goal.returns-in-Ok-2
returns-in-Ok-2 c =
    let i = c.loop-letter.letter-index in
    let k = a_byte c.loop-letter.bytes c.u8.new.self c.in-Ok.byte c.in-Ok.ensures in
    let all : marked magic c.args.bytes.now.rest ≡ Err fault.Magic
    = sym c.loop-letter.invariant.same ∙ ap (marked (drop i magic)) k.0 ∙ letter_other i c.in-Ok.byte c.u8.new.self.rest c.loop-letter-test.true c.if-byte-letter.false in
    ap (λ r. r >>= λ rest. Ok (1, record { rest = rest; at = c.args.bytes.now.at + 8 })) all

pub returns-in-Err : goal.returns-in-Err
returns-in-Err c =
    let i = c.loop-letter.letter-index in
    let k = no_byte c.loop-letter.bytes c.in-Err.field-0.at c.in-Err.ensures.0 in
    let all : marked magic c.args.bytes.now.rest ≡ Err (fault.Short 0)
    = sym c.loop-letter.invariant.same ∙ ap (marked (drop i magic)) k ∙ letter_none i c.loop-letter-test.true in
    ap (λ r. r >>= λ rest. Ok (1, record { rest = rest; at = c.args.bytes.now.at + 8 })) all

pub loop-letter-preserved : goal.loop-letter-preserved
loop-letter-preserved c =
    let i = c.loop-letter.letter-index in
    let k = a_byte c.loop-letter.bytes c.u8.new.self c.in-Ok.byte c.in-Ok.ensures in
    record {
      same = sym (letter_same i c.in-Ok.byte c.u8.new.self.rest c.loop-letter-test.true c.if-byte-letter.true) ∙ ap (marked (drop i magic)) (sym k.0) ∙ c.loop-letter.invariant.same;
      at = omega (arith, k.1, c.loop-letter.invariant.at);
    }
