use Rattle.std.proofs.Common.{◌≡◌, ◌∙◌, arith, ap, sym}
use Rattle.std.proofs.lemmas.Grind.{common_steps}
use Rattle.ss_units.specs.Units.{number, unspaced, whole, fraction}
use Rattle.ss_units.proofs.Digits.{number-append}
use Rattle.ss_units.proofs.units.Quantity.read.Goals as goal

pub returns-clause-read : goal.returns-clause-read
returns-clause-read c =
    let front : c.digits_at-end.result.1 ≡ number 0 (whole c.args.text.now) = grind (arith, common_steps) in
    record {
      some = λ e. omega (arith, c.digits_at-end.ensures.end, e);
      value_is = c.decimal_at-decimal.ensures.value ∙ ap (λ n. number n (fraction c.args.text.now)) front ∙ sym (number-append 0 (whole c.args.text.now) (fraction c.args.text.now));
      places_is = c.decimal_at-decimal.ensures.places;
      unit_is = c.spaces_at.ensures.rest ∙ ap unspaced c.decimal_at-decimal.ensures.rest;
      within = c.spaces_at.ensures.fits;
    }
