-- A member divided by its content is primitive: if c_j = γ·q_j for all j, where γ ≠ 0 is the content of the c_j, then the content of the q_j is 1.
use Rattle.std.specs.Prelude.{◌≡◌, ℕ, zero, suc, List, [], ◌∷◌}
use Rattle.std.proofs.Common.{refl, sym, subst, arith}
use Rattle.risch_ring.specs.CommRing.{CommRing, Field}
use Rattle.risch_univariate.specs.Polynomial.{Polynomial}
use Rattle.risch_univariate.specs.Degree.{IsMonic}
use Rattle.risch_univariate.specs.Division.{Divides}
use Rattle.risch_univariate.proofs.Degree as Degree
use Rattle.risch_univariate.proofs.Divides as Divides
use Rattle.risch_univariate.proofs.Gcd as Gcd
use Rattle.risch_univariate.specs.PolynomialRing.{polynomials}
use Rattle.risch_residue_theory.specs.BivariatePolynomial.{coefficient_at, content}

module _ {A : Type 0} (F : Field A) where
  abbrev R : CommRing (Polynomial F)
  R = polynomials F

  -- the content divides each coefficient
  pub content-divides : (cs : List (Polynomial F)) (j : ℕ) → Divides F (content F cs) (coefficient_at F cs j)
  unfolding content
  content-divides [] j = Divides.divides-zero F R.zero
  content-divides (c ∷ cs) zero = Gcd.gcd-divides_left F c (content F cs)
  content-divides (c ∷ cs) (suc j) = Divides.divides_trans F _ (content F cs) _ (Gcd.gcd-divides_right F c (content F cs)) (content-divides cs j)

  -- what divides each coefficient divides the content
  pub content-greatest : (cs : List (Polynomial F)) (d : Polynomial F) → ((j : ℕ) → Divides F d (coefficient_at F cs j)) → Divides F d (content F cs)
  unfolding content
  content-greatest [] d h = Divides.divides-zero F d
  content-greatest (c ∷ cs) d h = Gcd.gcd-greatest F c (content F cs) d (h 0) (content-greatest cs d (λ j. h (suc j)))

  content-is_monic : (cs : List (Polynomial F)) → ¬ (content F cs ≡ R.zero) → IsMonic F (content F cs)
  unfolding content
  content-is_monic [] n = absurd (n refl)
  content-is_monic (c ∷ cs) n = Gcd.gcd-is_monic F c (content F cs) n

  -- c_j = γ·q_j with the content γ ≠ 0 of the c_j: the q_j have the content 1
  pub content-quotient : (cs qs : List (Polynomial F)) → ¬ (content F cs ≡ (polynomials F).zero)
      → ((j : ℕ) → coefficient_at F cs j ≡ (polynomials F).mul (content F cs) (coefficient_at F qs j)) → content F qs ≡ (polynomials F).one
  content-quotient cs qs n e = Gcd.one_of_monic F (content F qs) (content-is_monic qs nonzero) (let s = Gcd.size_of_unit F (content F qs) unit in omega (arith, s))
    where
      unit : Divides F (content F qs) (polynomials F).one
      unit = Divides.divides_cancel F (content F cs) (content F qs) R.one n
          (subst (Divides F (R.mul (content F cs) (content F qs))) (sym (R.mul-one (content F cs)))
          (content-greatest cs (R.mul (content F cs) (content F qs))
          (λ j. subst (Divides F (R.mul (content F cs) (content F qs))) (sym (e j))
          (Divides.divides-mul_mul F (content F cs) (content F qs) (content F cs) (coefficient_at F qs j) (Divides.divides_refl F (content F cs)) (content-divides qs j)))))

      nonzero : ¬ (content F qs ≡ (polynomials F).zero)
      nonzero = Divides.divisor-nonzero F (content F qs) R.one unit (Degree.one-ne-zero F)
