-- Division with remainder in K[t]: existence and uniqueness; divisibility and that it is decidable.
use Rattle.std.specs.Prelude.{◌≡◌, ℕ, zero, suc, pred, ◌≤◌}
use Rattle.std.proofs.Common.{sym, ap, ap₂, ◌∙◌, arith}
use native.Mathlib.Decide.{ℕ_discrete}
use Rattle.risch_ring.specs.CommRing.{CommRing, Field}
use Rattle.risch_ring.proofs.Laws as Laws
use Rattle.risch_univariate.specs.Polynomial.{Polynomial, coefficient, constant, variable}
use Rattle.risch_univariate.specs.Degree.{size, degree}
use Rattle.risch_univariate.specs.Division.{IsDivision}
use Rattle.risch_ring.proofs.FieldLaws as FieldLaws
use Rattle.risch_univariate.proofs.Degree as Degree
use Rattle.risch_univariate.specs.PolynomialRing.{polynomials, horner}
use Rattle.risch_univariate.proofs.PolynomialInduction.{polynomial_induction}
use Rattle.risch_univariate.proofs.Coefficients.{coefficient-add, coefficient-neg, coefficient-constant_mul, coefficient-horner-suc}

module _ {A : Type 0} (F : Field A) where
  abbrev R : CommRing (Polynomial F)
  R = polynomials F

  -- p divided by d
  pub record Division (p d : Polynomial F) : Type 0 where
    pub quotient : Polynomial F
    pub remainder : Polynomial F
    pub is_division : IsDivision F p d quotient remainder

  -- a + t·(q·d + r) = (t·q + c)·d + (a + t·r - c·d)
  step_identity : (a t p q d r c : Polynomial F) → p ≡ R.add (R.mul q d) r
      → R.add a (R.mul t p) ≡ R.add (R.mul (R.add (R.mul t q) c) d) (R.add (R.add a (R.mul t r)) (R.neg (R.mul c d)))
  step_identity a t p q d r c e =
      ap (λ z. R.add a (R.mul t z)) e ∙ ap (R.add a) (R.mul-add t (R.mul q d) r ∙ ap (λ z. R.add z (R.mul t r)) (sym (R.mul_assoc t q d)))
      ∙ Laws.add_left_comm R a (R.mul (R.mul t q) d) (R.mul t r)
      ∙ sym (Laws.add_sub_exchange R (R.mul (R.mul t q) d) (R.mul c d) (R.add a (R.mul t r)))
      ∙ ap (λ z. R.add z (R.add (R.add a (R.mul t r)) (R.neg (R.mul c d)))) (sym (Laws.add-mul R (R.mul t q) c d))

  -- division of p by d ≠ 0, with size d = m + 1
  pub divide : (d : Polynomial F) → ¬ (d ≡ R.zero) → (p : Polynomial F) → Division p d
  divide d h = polynomial_induction F (λ p. Division p d)
      (record {
        quotient = R.zero;
        remainder = R.zero;
        is_division = record {
          equation = sym (ap (λ z. R.add z R.zero) (Laws.zero-mul R d) ∙ R.add-zero R.zero);
          smaller = let z = Degree.size-zero F in omega (arith, z, size_d);
        };
      })
      step
    where
      m : ℕ
      m = degree F d

      size_d : size F d ≡ suc m
      size_d = Degree.size_of_nonzero F d h

      step : (a : A) (p : Polynomial F) → Division p d → Division (horner F a p) d
      step a p s = record {
        quotient = R.add (R.mul (variable F) s.quotient) (constant F c);
        remainder = R.add next (R.neg (R.mul (constant F c) d));
        is_division = record {
          equation = step_identity (constant F a) (variable F) p s.quotient d s.remainder (constant F c) s.is_division.equation;
          smaller = let l = Degree.size-le F (R.add next (R.neg (R.mul (constant F c) d))) m vanishing in omega (arith, l, size_d);
        };
      }
        where
          next : Polynomial F
          next = horner F a s.remainder

          c : A
          c = F.mul (coefficient F next m) (F.inverse (coefficient F d m))

          beyond : (i : ℕ) → suc m ≤ i → coefficient F next i ≡ F.zero
          beyond zero l = absurd (omega (arith, l))
          beyond (suc i) l = coefficient-horner-suc F a s.remainder i ∙ Degree.below_size F s.remainder i (let k = s.is_division.smaller in omega (arith, k, l, size_d))

          reads : (i : ℕ) → coefficient F (R.add next (R.neg (R.mul (constant F c) d))) i ≡ F.add (coefficient F next i) (F.neg (F.mul c (coefficient F d i)))
          reads i =
              coefficient-add F next (R.neg (R.mul (constant F c) d)) i
              ∙ ap (F.add (coefficient F next i)) (coefficient-neg F (R.mul (constant F c) d) i ∙ ap F.neg (coefficient-constant_mul F c d i))

          vanishing : (i : ℕ) → m ≤ i → coefficient F (R.add next (R.neg (R.mul (constant F c) d))) i ≡ F.zero
          vanishing i l = elim (ℕ_discrete m i) [
            | yes e ↦
                reads i ∙ ap (λ j. F.add (coefficient F next j) (F.neg (F.mul c (coefficient F d j)))) (sym e)
                ∙ ap (λ z. F.add (coefficient F next m) (F.neg z))
                (F.mul_assoc (coefficient F next m) (F.inverse (coefficient F d m)) (coefficient F d m)
                ∙ ap (F.mul (coefficient F next m)) (FieldLaws.inverse-mul F (coefficient F d m) (Degree.leading_coefficient-nonzero F d h))
                ∙ F.mul-one (coefficient F next m))
                ∙ F.add-neg (coefficient F next m)
            | no n ↦
                let k : suc m ≤ i = omega (arith, n, l) in
                reads i
                ∙ ap₂ (λ x y. F.add x (F.neg (F.mul c y))) (beyond i k) (Degree.below_size F d i (omega (arith, k, size_d)))
                ∙ ap (λ z. F.add F.zero (F.neg z)) (Laws.mul-zero F.ring c) ∙ F.add-neg F.zero
          ]

  -- the quotient and the remainder are unique
  pub division_unique : (p d q r q' r' : Polynomial F) → IsDivision F p d q r → IsDivision F p d q' r' → (q ≡ q') × (r ≡ r')
  division_unique p d q r q' r' s s' = (same, Laws.add_right_cancel R r r' (R.mul q' d) (R.add_comm r (R.mul q' d) ∙ ap (λ z. R.add (R.mul z d) r) (sym same) ∙ both ∙ R.add_comm (R.mul q' d) r'))
    where
      both : R.add (R.mul q d) r ≡ R.add (R.mul q' d) r'
      both = sym s.equation ∙ s'.equation

      difference : R.mul (R.add q (R.neg q')) d ≡ R.add r' (R.neg r)
      difference = Laws.sub-mul R q q' d ∙ Laws.sub_exchange R (R.mul q d) (R.mul q' d) r r' both

      d_nonzero : ¬ (d ≡ R.zero)
      d_nonzero = Degree.nonzero_of_size F d (let l = s.smaller in omega (arith, l))

      same : q ≡ q'
      same = elim (Degree.dec_zero F (R.add q (R.neg q'))) [
        | yes e ↦ Laws.eq_of_sub R q q' e
        | no n ↦
            let g = Degree.size-mul-nonzero F (R.add q (R.neg q')) d n d_nonzero in
            let e = ap (size F) difference in
            let l = s.smaller in
            let l' = s'.smaller in
            let k = Degree.size-sub-le F r' r (pred (size F d)) (omega (arith, l')) (omega (arith, l)) in
            let o = Degree.size_of_nonzero F (R.add q (R.neg q')) n in
            absurd (omega (arith, g, e, k, l, o))
      ]
