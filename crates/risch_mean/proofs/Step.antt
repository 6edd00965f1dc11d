-- From one field of a tower to the next: K(t) is the field of quotients of polynomials in t over K.
--     coefficients n p      a polynomial in the first n + 1 variables as one in variable n: its coefficients lie in the field of the first n
--     AsQuotient, as_quotient      each element of the field of the first n + 1 variables is a quotient of two such polynomials
use Rattle.std.specs.Prelude.{◌≡◌, refl, ℕ, zero as nat_zero, suc, T, List, [], ◌∷◌, ℤ}
use Rattle.std.proofs.Common.{sym, ap, ap₂, ◌∙◌, arith}
use Rattle.risch_ring.proofs.Expression.{reading}
use Rattle.risch_ring.proofs.Solver.{ring}
use Rattle.risch_mean.specs.Polynomial
use Rattle.risch_mean.specs.Exponents
use Rattle.risch_mean.specs.ExponentLaws
use Rattle.risch_mean.proofs.PolynomialVariables
use Rattle.risch_mean.proofs.FieldClosure
use Rattle.risch_mean.specs.ElementLaws
use Rattle.risch_mean.specs.Exponents.{Exponents}
use Rattle.risch_mean.specs.Terms.{Term}
use Rattle.risch_mean.specs.TermLaws.{first, second}
use Rattle.risch_mean.specs.Polynomial.{Polynomial, Within, all_below}
use Rattle.risch_mean.specs.Element.{Element, zero, add, mul, over, polynomial, variable, InField, AllInField}
use Rattle.risch_mean.specs.ElementField.{elements}
use Rattle.risch_mean.specs.ElementLaws.{polynomial-add, polynomial-mul, polynomial-zero, polynomial-ne-zero}
use Rattle.risch_mean.specs.Univariate.{value_at, add_lists}
use Rattle.risch_mean.proofs.UnivariateLaws.{value-add}

module _ (n : ℕ) where
  -- c·(monomial of e), where variable n has exponent j
  abbrev pub term_list : ℤ → ℕ → Exponents → List Element
  term_list c nat_zero e = polynomial (Polynomial.monomial e c) ∷ []
  term_list c (suc j) e = zero ∷ term_list c j (Exponents.lower n e)

  abbrev pub coefficients : List Term → List Element
  coefficients [] = []
  coefficients (t ∷ r) = add_lists elements.ring (term_list t.1 (Exponents.exponent n t.0) t.0) (coefficients r)

  value-term : (c : ℤ) (j : ℕ) (e : Exponents) → Exponents.exponent n e ≡ j → value_at elements.ring (variable n) (term_list c j e) ≡ polynomial (Polynomial.monomial e c)
  value-term c nat_zero e h = only (polynomial (Polynomial.monomial e c)) (variable n)
    where
      only : (a t : Element) → add a (mul t zero) ≡ a
      only a t = ring elements.ring (a ∷ t ∷ []) (search reading depth 20) refl
  value-term c (suc j) e h =
      ap (λ v. add zero (mul (variable n) v)) (value-term c j (Exponents.lower n e) (ExponentLaws.exponent-lower n e j h)) ∙ without (mul (variable n) (polynomial (Polynomial.monomial (Exponents.lower n e) c)))
      ∙ sym (ap polynomial (PolynomialVariables.monomial-lower n e c (λ k. omega arith)) ∙ polynomial-mul (Polynomial.variable n) (Polynomial.monomial (Exponents.lower n e) c))
    where
      without : (a : Element) → add zero a ≡ a
      without a = ring elements.ring (a ∷ []) (search reading depth 20) refl

  value-coefficients : (r : List Term) → value_at elements.ring (variable n) (coefficients r) ≡ polynomial (Polynomial.of_terms r)
  value-coefficients [] = sym (ap polynomial PolynomialVariables.of_terms-nil ∙ polynomial-zero)
  value-coefficients (t ∷ r) =
      value-add elements.ring (variable n) (term_list t.1 (Exponents.exponent n t.0) t.0) (coefficients r)
      ∙ ap₂ add (value-term t.1 (Exponents.exponent n t.0) t.0 refl) (value-coefficients r)
      ∙ sym (ap polynomial (PolynomialVariables.of_terms-cons t r) ∙ polynomial-add (Polynomial.monomial t.0 t.1) (Polynomial.of_terms r))

  -- ---- the coefficients lie in the field below
  below_lower : (e : Exponents) → T (Exponents.below (suc n) e) → T (Exponents.below (suc n) (Exponents.lower n e))
  below_lower e h = ExponentLaws.below-lower (suc n) n e h

  in_field-term : (c : ℤ) (j : ℕ) (e : Exponents) → Exponents.exponent n e ≡ j → T (Exponents.below (suc n) e) → AllInField n (term_list c j e)
  in_field-term c nat_zero e h k = (FieldClosure.InField-polynomial n _ (PolynomialVariables.Within-monomial n e c (ExponentLaws.below_less n e k h)), tt)
  in_field-term c (suc j) e h k = (FieldClosure.InField-zero n, in_field-term c j (Exponents.lower n e) (ExponentLaws.exponent-lower n e j h) (below_lower e k))

  pub in_field-add_lists : (cs ds : List Element) → AllInField n cs → AllInField n ds → AllInField n (add_lists elements.ring cs ds)
  in_field-add_lists [] ds h k = k
  in_field-add_lists (c ∷ cs) [] h k = h
  in_field-add_lists (c ∷ cs) (d ∷ ds) h k = (FieldClosure.InField-add n c d h.0 k.0, in_field-add_lists cs ds h.1 k.1)

  in_field-coefficients : (r : List Term) → T (all_below (suc n) r) → AllInField n (coefficients r)
  in_field-coefficients [] h = tt
  in_field-coefficients (t ∷ r) h = in_field-add_lists _ _ (in_field-term t.1 (Exponents.exponent n t.0) t.0 refl (first _ _ h)) (in_field-coefficients r (second _ _ h))

  -- a polynomial in the first n + 1 variables
  pub polynomial_value : (p : Polynomial) → value_at elements.ring (variable n) (coefficients p.terms) ≡ polynomial p
  polynomial_value p = value-coefficients p.terms ∙ ap polynomial (PolynomialVariables.of_own_terms p)

  pub polynomial_in_field : (p : Polynomial) → Within (suc n) p → AllInField n (coefficients p.terms)
  polynomial_in_field p w = in_field-coefficients p.terms w.within

  -- f is a quotient of polynomials in variable n over the field below
  pub record AsQuotient (f : Element) : Type 0 where
    pub num : List Element
    pub den : List Element
    pub num-in_field : AllInField n num
    pub den-in_field : AllInField n den
    pub den-ne-zero : ¬ (value_at elements.ring (variable n) den ≡ zero)
    pub is : f ≡ over (value_at elements.ring (variable n) num) (value_at elements.ring (variable n) den)

  pub as_quotient : (f : Element) → InField (suc n) f → AsQuotient f
  as_quotient f a = record {
    num = coefficients a.num.terms;
    den = coefficients a.den.terms;
    num-in_field = polynomial_in_field a.num a.num-within;
    den-in_field = polynomial_in_field a.den a.den-within;
    den-ne-zero = λ h. polynomial-ne-zero a.den a.den-ne-zero (sym (polynomial_value a.den) ∙ h);
    is = a.is ∙ ElementLaws.of_pair-is a.num a.den a.den-ne-zero ∙ sym (ap₂ over (polynomial_value a.num) (polynomial_value a.den));
  }
