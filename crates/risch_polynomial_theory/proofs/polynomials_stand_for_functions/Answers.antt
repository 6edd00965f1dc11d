use Rattle.risch_polynomial_theory.proofs.PolynomialValues.{sum-means, product-means, scaled-means, negatives-means, monomial-means, partial-means}
use Rattle.risch_polynomial_theory.proofs.FractionValues.{ground_means}
use Rattle.risch_polynomial_theory.proofs.polynomials_stand_for_functions.Goals as goal

pub returns : goal.returns
returns c = record {
  sum = sum-means ground_means;
  product = product-means ground_means;
  multiple = scaled-means ground_means;
  negative = negatives-means ground_means;
  monomial = monomial-means ground_means;
  derivative = partial-means ground_means;
}
