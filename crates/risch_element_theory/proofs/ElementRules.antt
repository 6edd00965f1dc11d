-- The laws of each rule of the elements of the whole tower together: it keeps them in normal form, is the operation of the field, and leads to no new variable.
use Rattle.risch_element_theory.proofs.ElementLaws.{zero-is_element, one-is_element, whole-is_element, negative-is_element, negative-stands, sum-is_element, sum-stands, product-is_element, product-stands, quotient-is_element, quotient-stands, quotient-is_ratio, zero-told, same-told}
use Rattle.risch_element_theory.proofs.ElementWithin.{negative-element-within, sum-element-within, product-element-within, quotient-element-within}
use Rattle.risch_element_theory.proofs.ElementParts.{number-is_element, number-stands, number-element-within, as_number-stands, variable-is_element, variable-stands, variable-element-within}

pub ruleset constants = (zero-is_element, one-is_element, whole-is_element)

pub ruleset negatives = (negative-is_element, negative-stands, negative-element-within)

pub ruleset sums = (sum-is_element, sum-stands, sum-element-within)

pub ruleset products = (product-is_element, product-stands, product-element-within)

pub ruleset quotients = (quotient-is_element, quotient-stands, quotient-is_ratio, quotient-element-within)

pub ruleset tests = (zero-told, same-told)

pub ruleset numbers = (number-is_element, number-stands, number-element-within, as_number-stands)

pub ruleset variables = (variable-is_element, variable-stands, variable-element-within)
