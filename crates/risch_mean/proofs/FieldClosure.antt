-- The field of the first n variables is closed under the operations, and lies in each larger one.
use Rattle.std.specs.Prelude.{◌≡◌, ℕ, ◌<◌, ℤ, ◌≤◌}
use Rattle.std.proofs.Common.{sym, ap, ap₂, ◌∙◌, subst}
use Rattle.risch_mean.specs.Polynomial
use Rattle.risch_mean.proofs.PolynomialVariables
use Rattle.risch_mean.specs.PolynomialLaws
use Rattle.risch_mean.specs.FractionLaws
use Rattle.risch_mean.specs.Polynomial.{Polynomial, Within}
use Rattle.risch_mean.specs.PolynomialLaws.{polynomials}
use Rattle.risch_mean.specs.Element.{Element, InField, add, integer, inverse, mul, neg, one, polynomial, variable, zero, minus, over}
use Rattle.risch_mean.specs.ElementLaws.{inverse-mul, is_of_pair, of_pair-add, of_pair-mul, of_pair-mul-den, of_pair-neg, of_pair-zero, polynomial-ne-zero, polynomial-one, polynomial-zero, product_ne_zero, zero-mul}
use Rattle.risch_mean.specs.PolynomialDomain.{domain}
use Rattle.risch_mean.specs.ElementFieldLaws.{mul-one, mul_assoc, mul_comm}

pub InField-add : (n : ℕ) (f g : Element) → InField n f → InField n g → InField n (add f g)
InField-add n f g a b = record {
  num = Polynomial.add (Polynomial.mul a.num b.den) (Polynomial.mul b.num a.den);
  den = Polynomial.mul a.den b.den;
  den-ne-zero = product_ne_zero a.den b.den a.den-ne-zero b.den-ne-zero;
  is = ap₂ add a.is b.is ∙ of_pair-add a.num a.den b.num b.den a.den-ne-zero b.den-ne-zero;
  num-within = PolynomialVariables.Within-add n _ _ (PolynomialVariables.Within-mul n _ _ a.num-within b.den-within) (PolynomialVariables.Within-mul n _ _ b.num-within a.den-within);
  den-within = PolynomialVariables.Within-mul n _ _ a.den-within b.den-within;
}

pub InField-mul : (n : ℕ) (f g : Element) → InField n f → InField n g → InField n (mul f g)
InField-mul n f g a b = record {
  num = Polynomial.mul a.num b.num;
  den = Polynomial.mul a.den b.den;
  den-ne-zero = product_ne_zero a.den b.den a.den-ne-zero b.den-ne-zero;
  is = ap₂ mul a.is b.is ∙ of_pair-mul a.num a.den b.num b.den a.den-ne-zero b.den-ne-zero;
  num-within = PolynomialVariables.Within-mul n _ _ a.num-within b.num-within;
  den-within = PolynomialVariables.Within-mul n _ _ a.den-within b.den-within;
}

pub InField-neg : (n : ℕ) (f : Element) → InField n f → InField n (neg f)
InField-neg n f a = record {
  num = Polynomial.neg a.num;
  den = a.den;
  den-ne-zero = a.den-ne-zero;
  is = ap neg a.is ∙ of_pair-neg a.num a.den a.den-ne-zero;
  num-within = PolynomialVariables.Within-neg n _ a.num-within;
  den-within = a.den-within;
}

pub InField-polynomial : (n : ℕ) (p : Polynomial) → Within n p → InField n (polynomial p)
InField-polynomial n p w = record {
  num = p;
  den = Polynomial.one;
  den-ne-zero = PolynomialLaws.one_nonzero;
  is = is_of_pair (polynomial p) p Polynomial.one PolynomialLaws.one_nonzero (ap (mul (polynomial p)) polynomial-one ∙ mul-one (polynomial p));
  num-within = w;
  den-within = PolynomialVariables.Within-one n;
}

pub InField-zero : (n : ℕ) → InField n zero
InField-zero n = subst (InField n) polynomial-zero (InField-polynomial n Polynomial.zero (PolynomialVariables.Within-zero n))

pub InField-one : (n : ℕ) → InField n one
InField-one n = subst (InField n) polynomial-one (InField-polynomial n Polynomial.one (PolynomialVariables.Within-one n))

pub InField-integer : (n : ℕ) (c : ℤ) → InField n (integer c)
InField-integer n c = InField-polynomial n (Polynomial.constant c) (PolynomialVariables.Within-constant n c)

pub InField-variable : (n i : ℕ) → i < n → InField n (variable i)
InField-variable n i h = InField-polynomial n (Polynomial.variable i) (PolynomialVariables.Within-variable n i h)

inverse-zero : inverse zero ≡ zero
unfolding Element inverse zero
inverse-zero = FractionLaws.inverse-zero polynomials domain

-- where the numerator is not 0, the inverse turns the pair round
inverse-of_pair : (f : Element) (n m : Polynomial) → ¬ (n ≡ Polynomial.zero) → mul f (polynomial m) ≡ polynomial n → mul (inverse f) (polynomial n) ≡ polynomial m
inverse-of_pair f n m k e =
    let f-ne-zero : ¬ (f ≡ zero) = λ h. polynomial-ne-zero n k (sym e ∙ ap (λ g. mul g (polynomial m)) h ∙ zero-mul (polynomial m)) in
    ap (mul (inverse f)) (sym e) ∙ sym (mul_assoc (inverse f) f (polynomial m)) ∙ ap (λ g. mul g (polynomial m)) (inverse-mul f f-ne-zero)
    ∙ mul_comm one (polynomial m) ∙ mul-one (polynomial m)

pub InField-inverse : (n : ℕ) (f : Element) → InField n f → InField n (inverse f)
InField-inverse n f a =
    elim (PolynomialLaws.discrete a.num Polynomial.zero) [
      | yes p ↦ subst (InField n) (sym (ap inverse (a.is ∙ of_pair-zero a.num a.den a.den-ne-zero p) ∙ inverse-zero)) (InField-zero n)
      | no k ↦ record {
        num = a.den;
        den = a.num;
        den-ne-zero = k;
        is = is_of_pair (inverse f) a.den a.num k (inverse-of_pair f a.num a.den k (ap (λ g. mul g (polynomial a.den)) a.is ∙ of_pair-mul-den a.num a.den a.den-ne-zero));
        num-within = a.den-within;
        den-within = a.num-within;
      }
    ]

pub InField_more : (n m : ℕ) (f : Element) → n ≤ m → InField n f → InField m f
InField_more n m f h a = record {
  num = a.num;
  den = a.den;
  den-ne-zero = a.den-ne-zero;
  is = a.is;
  num-within = PolynomialVariables.Within_more n m a.num h a.num-within;
  den-within = PolynomialVariables.Within_more n m a.den h a.den-within;
}

pub InField-minus : (n : ℕ) (f g : Element) → InField n f → InField n g → InField n (minus f g)
InField-minus n f g a b = InField-add n f (neg g) a (InField-neg n g b)

pub InField-over : (n : ℕ) (f g : Element) → InField n f → InField n g → InField n (over f g)
InField-over n f g a b = InField-mul n f (inverse g) a (InField-inverse n g b)
