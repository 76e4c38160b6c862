use Rattle.std.proofs.Common.{◌≡◌, ◌∙◌, List, ℕ, sym, ap, arith, false, Some}
use Rattle.std.specs.Prelude.{◌++◌, codes, decimal}
use Rattle.std.specs.Str.{bytes_eq}
use Rattle.std.proofs.lemmas.Bool.Decides.{Decides-eqb}
use Rattle.std.proofs.lemmas.Slice.Eq.{strip_prefix_is}
use Rattle.ss_network.proofs.Numbers.{count-most}
use Rattle.ss_network.proofs.Decimals.{no_count, no_text}
use Rattle.ss_network.proofs.names.port_in.Goals as goal

pub returns-in-None : goal.returns-in-None
returns-in-None c =
    let e : c.args.text.now ≡ codes "port" ++ c.in-Some.digits.now = sym c.as_bytes.ensures.value ∙ strip_prefix_is Decides-eqb c.as_bytes.result.now (codes "port") (Some c.in-Some.digits) c.in-Some.ensures.cases in
    no_count c.args.text.now c.in-Some.digits.now e (sym c.in-None.ensures)

pub overflow_cast-result : goal.overflow_cast-result
overflow_cast-result c = let h = count-most 65535 c.in-Some.digits.now c.in-Some-count_of.port (sym c.in-Some-count_of.ensures) in omega (arith, h)

pub returns-else-eq : goal.returns-else-eq
returns-else-eq c =
    let e : c.args.text.now ≡ codes "port" ++ c.in-Some.digits.now = sym c.as_bytes.ensures.value ∙ strip_prefix_is Decides-eqb c.as_bytes.result.now (codes "port") (Some c.in-Some.digits) c.in-Some.ensures.cases in
    let t : c.as_bytes-in-Some-count_of.result.now ≡ decimal c.in-Some-count_of.port = c.as_bytes-in-Some-count_of.ensures.value ∙ c.format.ensures.text in
    let f : bytes_eq (decimal c.in-Some-count_of.port) c.in-Some.digits.now ≡ false = ap (λ (xs : List ℕ). bytes_eq xs c.in-Some.digits.now) (sym t) ∙ sym c.eq.ensures ∙ c.if-eq.false in
    no_text c.args.text.now c.in-Some.digits.now c.in-Some-count_of.port e (sym c.in-Some-count_of.ensures) f
