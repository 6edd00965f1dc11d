-- The bound on the pole at t, for Dt = η·t: where q has a pole of order k + 1 at t and a·D(q) + b·q has one of order ν (and ν = 0 where it has none).
use Rattle.std.specs.Prelude.{◌≡◌, ℕ, suc, ◌+◌, ◌≤◌, ◌⊎◌}
use Rattle.std.proofs.Common.{refl, sym, ap, subst, ◌∙◌, arith, inl, inr}
use Rattle.risch_ring.specs.CommRing.{CommRing, Field, Derivation, power, of_nat, quotient, HasCharacteristicZero}
use Rattle.risch_univariate.specs.Polynomial.{Polynomial, coefficient, constant, variable}
use Rattle.risch_univariate.specs.Division.{Divides, IsMultiplicity}
use Rattle.risch_univariate.proofs.Derivation as Derivation
use Rattle.risch_univariate.proofs.Divides as Divides
use Rattle.risch_univariate.proofs.Evaluation as Evaluation
use Rattle.risch_univariate.proofs.Irreducible as Irreducible
use Rattle.risch_univariate.proofs.Multiplicity as Multiplicity
use Rattle.risch_fraction_field.specs.Fraction.{Fraction, Represents}
use Rattle.risch_equation_theory.proofs.Poles as Poles
use Rattle.risch_equation_theory.proofs.SpecialOrder as SpecialOrder
use Rattle.risch_ring.proofs.Laws as Laws
use Rattle.risch_univariate.specs.PolynomialRing.{polynomials, horner}
use Rattle.risch_univariate.proofs.PolynomialInduction.{polynomial_induction}
use Rattle.risch_univariate.proofs.Coefficients.{coefficient-horner-zero}
use Rattle.risch_equation_theory.specs.Equation.{reduced_left_side}
use Rattle.risch_equation_theory.specs.Constants.{IsSoundExponential}

module _ {A : Type 0} (F : Field A) (char : HasCharacteristicZero F.ring) (D : Derivation F.ring) (η : A) where
  abbrev R : CommRing (Polynomial F)
  R = polynomials F

  abbrev t : Polynomial F
  t = variable F

  abbrev E : Derivation R
  E = Derivation.derivation F D (R.mul (constant F η) (variable F))

  infixr 90 ◌^◌
  abbrev ◌^◌ : Polynomial F → ℕ → Polynomial F
  p ^ n = power R p n

  -- p_0 = 0 gives t | p
  pub variable-divides : (p : Polynomial F) → coefficient F p 0 ≡ F.zero → Divides F t p
  variable-divides = polynomial_induction F (λ p. coefficient F p 0 ≡ F.zero → Divides F t p) (λ e. Divides.divides-zero F t)
      (λ a p ih e. subst (λ z. Divides F t z) (sym (ap (λ x. horner F x p) (sym (coefficient-horner-zero F a p) ∙ e) ∙ Evaluation.horner-zero F p)) (Divides.divides-mul_right F t p))

  -- a fraction with a pole at t has a numerator that is not 0 there
  numerator-at_zero : (f : Fraction F) (k : ℕ) (W : Polynomial F) → f.denominator ≡ R.mul (t ^ suc k) W → ¬ (coefficient F f.numerator 0 ≡ F.zero)
  numerator-at_zero f k W e z = Poles.numerator-not_divides F t (SpecialOrder.variable-irreducible F) f
      (subst (Divides F t) (sym e) (Divides.divides_trans F t (t ^ suc k) _ (subst (Divides F t) (sym (Laws.power-suc R t k)) (Divides.divides-mul_right F t (t ^ k))) (Divides.divides-mul_right F (t ^ suc k) W)))
      (variable-divides f.numerator z)

  module _ (a : Polynomial F) (b q : Fraction F) (W : Polynomial F) (k ν : ℕ) (na : ¬ (coefficient F a 0 ≡ F.zero)) (nW : ¬ (coefficient F W 0 ≡ F.zero)) (pole : q.denominator ≡ t ^ suc k) where
    nq : ¬ (coefficient F q.numerator 0 ≡ F.zero)
    nq = numerator-at_zero q k R.one (pole ∙ sym (R.mul-one (t ^ suc k)))

    hq : Represents F q q.numerator (t ^ suc k)
    hq = ap (R.mul q.numerator) (sym pole)

    hb : (l : ℕ) → b.denominator ≡ R.mul (t ^ l) W → Represents F b b.numerator (R.mul (t ^ l) W)
    hb l e = ap (R.mul b.numerator) (sym e)

    -- b has a pole of order l + 1 at t: k + 1 ≤ ν - (l + 1)
    pub bound-below : (l : ℕ) (e : b.denominator ≡ R.mul (t ^ suc l) W)
        → IsMultiplicity F t (reduced_left_side F E a b q).denominator ν → suc k + suc l ≤ ν
    bound-below l e m = Multiplicity.le_of_power-divides F t _ ν (suc k + suc l) (Irreducible.irreducible-nonzero F t (SpecialOrder.variable-irreducible F)) m
        (SpecialOrder.order-below F char D η a q.numerator b.numerator W b q (suc k) (suc l) hq (hb (suc l) e) nW l refl (numerator-at_zero b l W e) nq)

    -- b has no pole at t: k + 1 ≤ ν, or -b(0)/a(0) = D(y)/y - (k + 1)·η with y = num(q)(0)
    pub bound-at : (e : b.denominator ≡ R.mul (t ^ 0) W)
        → IsMultiplicity F t (reduced_left_side F E a b q).denominator ν
        → (suc k ≤ ν) ⊎ (F.neg (quotient F (quotient F (coefficient F b.numerator 0) (coefficient F W 0)) (coefficient F a 0))
        ≡ F.add (quotient F (D.derive (coefficient F q.numerator 0)) (coefficient F q.numerator 0)) (F.neg (F.mul (of_nat F.ring (suc k)) η)))
    bound-at e m = from (SpecialOrder.order-at F char D η a q.numerator b.numerator W b q (suc k) 0 hq (hb 0 e) nW refl na nq)
      where
        from : {Q : Type 0} → Divides F (t ^ (suc k + 0)) (reduced_left_side F E a b q).denominator ⊎ Q → (suc k ≤ ν) ⊎ Q
        from (inl d) = inl (let l = Multiplicity.le_of_power-divides F t _ ν (suc k + 0) (Irreducible.irreducible-nonzero F t (SpecialOrder.variable-irreducible F)) m d in omega (arith, l))
        from (inr x) = inr x

    -- b is 0 at t = 0: k + 1 ≤ ν
    pub bound-above : IsSoundExponential F D η → (e : b.denominator ≡ R.mul (t ^ 0) W) → coefficient F b.numerator 0 ≡ F.zero
        → IsMultiplicity F t (reduced_left_side F E a b q).denominator ν → suc k ≤ ν
    bound-above sound e z m =
        let l = Multiplicity.le_of_power-divides F t _ ν (suc k + 0) (Irreducible.irreducible-nonzero F t (SpecialOrder.variable-irreducible F)) m
        (SpecialOrder.order-above F char D η a q.numerator b.numerator W b q (suc k) 0 hq (hb 0 e) nW sound refl k refl z na nq) in
        omega (arith, l)
