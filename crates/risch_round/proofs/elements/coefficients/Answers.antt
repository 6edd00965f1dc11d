use Rattle.std.specs.Prelude.{map}
use Rattle.std.proofs.Common.{sym, ◌∙◌, ap, subst}
use Rattle.risch_level.specs.Parts.{levels, denominator}
use Rattle.risch_round.specs.Elements.{fraction_of}
use Rattle.risch_round.specs.Meaning.{IsPolynomialInX}
use Rattle.risch_round.proofs.ElementsInX.{parts-one, parts-other, parts-stand, stands-degree, stands-weight}
use Rattle.risch_round.proofs.elements.coefficients.Goals as goal

-- The denominator is not 1.
pub returns-then-not-is_one-clause-value : goal.returns-then-not-is_one-clause-value
returns-then-not-is_one-clause-value c =
    sym (parts-other c.args.element.now c.in_ok-denominator.field-0 (c.in_ok-denominator.ensures ∙ ap (denominator 5 4) c.nest-nest.ensures.value)
    (sym c.is_one-2.ensures ∙ c.if-not-is_one.true))

-- The denominator is 1.
pub trimmed-requires-clause-degree : goal.trimmed-requires-clause-degree
trimmed-requires-clause-degree c =
    stands-degree c.args.element.now c.in_ok-fractions.fractions.items
    (parts-stand c.args.element.now c.in_ok-denominator.field-0 c.in_ok-numerator.numerator c.in_ok-fractions.fractions.items c.nest-nest.ensures.normal c.requires
    (c.in_ok-denominator.ensures ∙ ap (denominator 5 4) c.nest-nest.ensures.value) (sym c.is_one-2.ensures ∙ c.if-not-is_one.false)
    (c.in_ok-numerator.ensures ∙ ap ((levels 5).numerator 4) c.nest-nest.ensures.value) (c.in_ok-fractions.ensures ∙ ap (map fraction_of) c.coefficients.ensures.value))

pub trimmed-requires-clause-weight : goal.trimmed-requires-clause-weight
trimmed-requires-clause-weight c =
    stands-weight c.args.element.now c.in_ok-fractions.fractions.items
    (parts-stand c.args.element.now c.in_ok-denominator.field-0 c.in_ok-numerator.numerator c.in_ok-fractions.fractions.items c.nest-nest.ensures.normal c.requires
    (c.in_ok-denominator.ensures ∙ ap (denominator 5 4) c.nest-nest.ensures.value) (sym c.is_one-2.ensures ∙ c.if-not-is_one.false)
    (c.in_ok-numerator.ensures ∙ ap ((levels 5).numerator 4) c.nest-nest.ensures.value) (c.in_ok-fractions.ensures ∙ ap (map fraction_of) c.coefficients.ensures.value))

pub returns-clause-value : goal.returns-clause-value
returns-clause-value c =
    let s = parts-stand c.args.element.now c.in_ok-denominator.field-0 c.in_ok-numerator.numerator c.in_ok-fractions.fractions.items c.nest-nest.ensures.normal c.requires
    (c.in_ok-denominator.ensures ∙ ap (denominator 5 4) c.nest-nest.ensures.value) (sym c.is_one-2.ensures ∙ c.if-not-is_one.false)
    (c.in_ok-numerator.ensures ∙ ap ((levels 5).numerator 4) c.nest-nest.ensures.value) (c.in_ok-fractions.ensures ∙ ap (map fraction_of) c.coefficients.ensures.value) in
    sym (parts-one c.args.element.now c.in_ok-denominator.field-0 c.in_ok-numerator.numerator c.trimmed.result
    (c.in_ok-denominator.ensures ∙ ap (denominator 5 4) c.nest-nest.ensures.value) (sym c.is_one-2.ensures ∙ c.if-not-is_one.false)
    (c.in_ok-numerator.ensures ∙ ap ((levels 5).numerator 4) c.nest-nest.ensures.value)
    (c.trimmed.ensures ∙ s.ends_not_zero ∙ c.in_ok-fractions.ensures ∙ ap (map fraction_of) c.coefficients.ensures.value))

pub returns-clause-stands : goal.returns-clause-stands
returns-clause-stands c =
    let s = parts-stand c.args.element.now c.in_ok-denominator.field-0 c.in_ok-numerator.numerator c.in_ok-fractions.fractions.items c.nest-nest.ensures.normal c.requires
    (c.in_ok-denominator.ensures ∙ ap (denominator 5 4) c.nest-nest.ensures.value) (sym c.is_one-2.ensures ∙ c.if-not-is_one.false)
    (c.in_ok-numerator.ensures ∙ ap ((levels 5).numerator 4) c.nest-nest.ensures.value) (c.in_ok-fractions.ensures ∙ ap (map fraction_of) c.coefficients.ensures.value) in
    subst (IsPolynomialInX c.args.element.now) (sym (c.trimmed.ensures ∙ s.ends_not_zero)) s
