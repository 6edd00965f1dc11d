-- The characteristic polynomial of ρ modulo d by power traces and Newton's rule.
use Rattle.std.specs.Prelude.{◌≡◌, ℕ, suc, ◌+◌, ◌≤◌}
use Rattle.risch_ring.specs.CommRing.{Field, power, of_nat}
use Rattle.risch_univariate.specs.Polynomial.{Polynomial, coefficient}
use Rattle.risch_univariate.specs.PolynomialRing.{polynomials}
use Rattle.risch_univariate.specs.Degree.{size}
use Rattle.risch_extension.specs.Trace.{trace}
use Rattle.risch_extension.specs.SymmetricFunctions.{alternating, signed}

module _ {A : Type 0} (F : Field A) (d : Polynomial F) (nonzero : ¬ (d ≡ (polynomials F).zero)) (ρ : Polynomial F) where
  -- p_j, the trace of ρ^j modulo d
  abbrev pub power_trace : ℕ → A
  power_trace j = trace F d nonzero (power (polynomials F) ρ j)

  -- C = Σ (-1)^i·e_i·z^(m - i) with m = deg d, where e_0 = 1 and i·e_i = Σ over j from 1 to i of (-1)^(j - 1)·e_(i - j)·p_j
  pub record IsNewtonPolynomial (C : Polynomial F) : Type 0 where
    pub e : ℕ → A
    pub e-zero : e 0 ≡ F.one
    pub e-suc : (i : ℕ) → F.mul (of_nat F.ring (suc i)) (e (suc i)) ≡ alternating F.ring e (λ j. power_trace (suc j)) i
    pub coefficients : (k i : ℕ) → suc (k + i) ≡ size F d → coefficient F C k ≡ signed F.ring i (e i)
    pub size-le : size F C ≤ size F d
