-- The derivation of elements in which variable i has the derivative vs[i], and all variables past the list are constants.
use Rattle.std.specs.Prelude.{List}
use mathlib.Core.Quot.Quotient
use Rattle.risch_mean.specs.PolynomialLaws.{polynomials}
use Rattle.risch_mean.specs.PolynomialDomain.{domain}
use Rattle.risch_mean.specs.Fractions
use Rattle.risch_mean.specs.Element.{Element}
use Rattle.risch_mean.specs.ElementFieldLaws.{is_set}
use Rattle.risch_mean.specs.QuotientRule.{quotient_rule}
use Rattle.risch_mean.specs.QuotientRuleLaws.{quotient_rule_same}

-- D(N/M) by the quotient rule, which gives the same for each pair N, M
unfoldable pub derive : List Element → Element → Element
unfolding Element
derive vs = Quotient.lift (Fractions.pairs polynomials domain) is_set (λ a. quotient_rule vs a.num a.den) (quotient_rule_same vs)
