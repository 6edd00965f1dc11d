-- The laws of a field, for the elements.
use Rattle.std.specs.Prelude.{◌≡◌}
use Rattle.risch_mean.specs.FractionLaws
use Rattle.risch_mean.specs.PolynomialLaws.{polynomials}
use Rattle.risch_mean.specs.Element.{Element, add, inverse, mul, neg, one, zero}
use Rattle.risch_mean.specs.PolynomialDomain.{domain}

-- ---- the laws of a field
pub is_set : IsSet Element
unfolding Element
is_set = FractionLaws.Fraction-set polynomials domain

pub add_assoc : (f g h : Element) → add (add f g) h ≡ add f (add g h)
unfolding Element add
add_assoc = FractionLaws.add_assoc polynomials domain

pub add_comm : (f g : Element) → add f g ≡ add g f
unfolding Element add
add_comm = FractionLaws.add_comm polynomials domain

pub add-zero : (f : Element) → add f zero ≡ f
unfolding Element zero add
add-zero = FractionLaws.add-zero polynomials domain

pub add-neg : (f : Element) → add f (neg f) ≡ zero
unfolding Element zero add neg
add-neg = FractionLaws.add-neg polynomials domain

pub mul_assoc : (f g h : Element) → mul (mul f g) h ≡ mul f (mul g h)
unfolding Element mul
mul_assoc = FractionLaws.mul_assoc polynomials domain

pub mul_comm : (f g : Element) → mul f g ≡ mul g f
unfolding Element mul
mul_comm = FractionLaws.mul_comm polynomials domain

pub mul-one : (f : Element) → mul f one ≡ f
unfolding Element one mul
mul-one = FractionLaws.mul-one polynomials domain

pub mul-add : (f g h : Element) → mul f (add g h) ≡ add (mul f g) (mul f h)
unfolding Element add mul
mul-add = FractionLaws.mul-add polynomials domain

pub is_zero : (f : Element) → Dec (f ≡ zero)
unfolding Element zero
is_zero = FractionLaws.is_zero polynomials domain

pub one-ne-zero : ¬ (one ≡ zero)
unfolding Element zero one
one-ne-zero = FractionLaws.one-ne-zero polynomials domain

pub mul-inverse : (f : Element) → ¬ (f ≡ zero) → mul f (inverse f) ≡ one
unfolding Element zero one mul inverse
mul-inverse = FractionLaws.mul-inverse polynomials domain
