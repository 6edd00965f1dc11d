-- The rules of the level over a field are those of the field K(t): each element stands for one of them, and the operations for the sum, the product and so on.
use Rattle.risch_ring.specs.CommRing.{Field}
use Rattle.risch_field.specs.Ops.{Ops}
use Rattle.risch_level.specs.Over.{over}
use Rattle.risch_polynomial_theory.specs.Meaning.{Interprets}
use Rattle.risch_element_theory.specs.ElementMeaning.{IsBelow, valid_over, meaning_over}
use Rattle.risch_element_theory.proofs.ElementsSums.{sum-gets}
use Rattle.risch_element_theory.proofs.ElementsProducts.{negative-gets, product-gets, quotient-is_quotient}
use Rattle.risch_element_theory.proofs.ElementsUniqueness.{zero_is, zero_if, same_is, same_if, injective}

-- where each element of the field below stands for one over which t is transcendental, the operations of the level are those of the field that contains t
pub over_means : {E A : Type 0} (F : Field A) {o : Ops E} {valid : E → Type 0} {meaning : E → A} {P : A → Type 0} {t : A} → IsBelow F o valid meaning P t →
    Interprets (over o) F.ring (valid_over F o valid meaning) (meaning_over F meaning t)
over_means F b = record {
  zero-valid = b.interprets.zero-valid;
  one-valid = b.interprets.one-valid;
  whole-valid = b.interprets.whole-valid;
  negative-valid = λ e v. (negative-gets F b e v).is_valid;
  sum-valid = λ p q e v w is. (sum-gets F b p q e v w is).is_valid;
  product-valid = λ p q e v w is. (product-gets F b p q e v w is).is_valid;
  quotient-valid = λ p q e v w z is. (quotient-is_quotient F b p q e v w z is).is_valid;
  zero-means = b.interprets.zero-means;
  one-means = b.interprets.one-means;
  whole-means = b.interprets.whole-means;
  negative-means = λ e v. (negative-gets F b e v).is;
  sum-means = λ p q e v w is. (sum-gets F b p q e v w is).is;
  product-means = λ p q e v w is. (product-gets F b p q e v w is).is;
  quotient-means = λ p q e v w z is. (quotient-is_quotient F b p q e v w z is).is;
  zero_is = zero_is F b;
  zero_if = zero_if F b;
  same_is = same_is F b;
  same_if = same_if F b;
  injective = injective F b;
}
