-- The rule of division gives the quotient and the remainder in K[t].
use Rattle.std.proofs.Common.{◌≡◌, List, [], Ok, refl, sym, ap, ap₂, subst, ◌∙◌, arith}
use Rattle.risch_ring.specs.CommRing.{Field}
use Rattle.risch_univariate.specs.Polynomial.{Polynomial, variable}
use Rattle.risch_univariate.specs.Division.{IsDivision, Divides}
use Rattle.risch_univariate.specs.PolynomialRing.{polynomials}
use Rattle.risch_univariate.proofs.Degree as Degree
use Rattle.risch_univariate.proofs.Division as Division
use Rattle.risch_field.specs.Ops.{Ops}
use Rattle.risch_polynomial.specs.Poly as poly
use Rattle.risch_polynomial_theory.specs.Meaning.{Interprets}
use Rattle.risch_field.proofs.CheckedSteps.{and_then-ok}
use Rattle.risch_element_theory.specs.PolynomialMeaning.{polynomial_of, IsKept, KeepsDivision, KeepsQuotient}
use Rattle.risch_element_theory.proofs.DivisionValues as DivisionValues
use Rattle.risch_element_theory.proofs.PolynomialRules as Rules

module _ {E A : Type 0} {o : Ops E} (F : Field A) {valid : E → Type 0} {meaning : E → A} (h : Interprets o F.ring valid meaning) where
  -- ⟦p⟧
  abbrev of : List E → Polynomial F
  of p = polynomial_of F meaning p

  -- the division of p by q ≠ 0
  pub division-is_division : (p q a r : List E) → IsKept o valid p → IsKept o valid q → ¬ (q ≡ []) → poly.division o p q ≡ Ok (a, r) → KeepsDivision o F valid meaning p q a r
  division-is_division p q a r k l n e =
      let d = DivisionValues.division-divided (Rules.over_polynomials F h) (variable F) p q a r k l n e in
      let smaller = d.smaller in
      let r-size = Rules.size-polynomial_of F h r d.remainder_kept in
      let q-size = Rules.size-polynomial_of F h q l in
      record {
        quotient_kept = d.quotient_kept;
        remainder_kept = d.remainder_kept;
        is_division = record {
          equation =
              sym (Rules.value-polynomial_of F h p) ∙ d.equation
              ∙ ap₂ (polynomials F).add (ap₂ (polynomials F).mul (Rules.value-polynomial_of F h a) (Rules.value-polynomial_of F h q)) (Rules.value-polynomial_of F h r);
          smaller = omega (arith, smaller, r-size, q-size);
        };
      }

  -- only the list [] stands for 0
  pub polynomial_of-nonzero : (p : List E) → IsKept o valid p → ¬ (p ≡ []) → ¬ (of p ≡ (polynomials F).zero)
  polynomial_of-nonzero p k n e =
      n (Rules.polynomial_of-injective F h p [] k (record { all_valid = tt; ends_not_zero = refl; degree_small = omega arith }) (e ∙ sym (Rules.polynomial_of-nil F h)))

  -- the remainder by a divisor is 0
  remainder-zero : (p d a r : Polynomial F) → IsDivision F p d a r → ¬ (d ≡ (polynomials F).zero) → Divides F d p → r ≡ (polynomials F).zero
  remainder-zero p d a r is n divides = (Division.division_unique F p d a r divides.cofactor (polynomials F).zero is (record {
    equation = divides.equation ∙ sym ((polynomials F).add-zero ((polynomials F).mul divides.cofactor d));
    smaller = let z = Degree.size-zero F in let l = Degree.size_of_nonzero F d n in omega (arith, z, l);
  })).1

  -- the quotient of p by a divisor d ≠ 0 is exact
  pub quo-exact : (p d q : List E) → IsKept o valid p → IsKept o valid d → ¬ (d ≡ []) → Divides F (of d) (of p) → poly.quo o p d ≡ Ok q → KeepsQuotient o F valid meaning p d q
  unfolding poly.quo
  quo-exact p d q k l n divides e =
      let first = and_then-ok (poly.division o p d) (λ s. Ok s.0) q e in
      let s = first.value in
      let x = division-is_division p d s.0 s.1 k l n first.is in
      let none = remainder-zero (of p) (of d) (of s.0) (of s.1) x.is_division (polynomial_of-nonzero d l n) divides in
      let same : s.0 ≡ q = cc first.next in
      subst (λ q. KeepsQuotient o F valid meaning p d q) same
      (record {
        kept = x.quotient_kept;
        equation = x.is_division.equation ∙ ap (λ z. (polynomials F).add ((polynomials F).mul (of s.0) (of d)) z) none ∙ (polynomials F).add-zero ((polynomials F).mul (of s.0) (of d));
      })
