-- The characteristic polynomial by Newton's identities: from power traces that are the power sums of the values of ρ at the roots of d.
use Rattle.std.specs.Prelude.{◌≡◌, ℕ, suc, ◌+◌, ◌≤◌, List, map}
use Rattle.std.proofs.Common.{sym, ap, ◌∙◌, arith}
use Rattle.risch_ring.specs.CommRing.{Field, Derivation, of_nat, HasCharacteristicZero}
use Rattle.risch_univariate.specs.Polynomial.{Polynomial, coefficient}
use Rattle.risch_univariate.specs.Degree.{size, degree, IsMonic}
use Rattle.risch_univariate.proofs.Degree as Degree
use Rattle.risch_univariate.specs.PolynomialRing.{polynomials}
use Rattle.risch_extension.specs.Extension.{Splitting}
use Rattle.risch_extension.specs.PolynomialMap.{map_polynomial}
use Rattle.risch_extension.specs.LinearFactors.{value_at}
use Rattle.risch_extension.proofs.PolynomialMaps.{value-map_polynomial}
use Rattle.risch_extension.specs.SymmetricFunctions.{power_sum, alternating, signed}
use Rattle.risch_ring.proofs.Lists.{length-map, map-ext_members}
use Rattle.risch_equation_theory.specs.CharacteristicPolynomial.{IsCharacteristicPolynomial}
use Rattle.risch_extension.specs.NewtonPolynomial.{power_trace, IsNewtonPolynomial}
use Rattle.risch_extension.proofs.NewtonPolynomial.{power_trace-sum, newton_polynomial-splits}
use Rattle.risch_extension.proofs.SplittingField.{splitting-size, splitting-distinct, monic-splitting}
use Rattle.risch_univariate.specs.Division.{IsCoprime}
use Rattle.risch_univariate.proofs.Gcd as Gcd
use Rattle.risch_univariate.proofs.FormalDerivative as FormalDerivative

module _ {A : Type 0} (F : Field A) (char : HasCharacteristicZero F.ring) (D : Derivation F.ring) (C ρ d : Polynomial F) where
  -- ρ at the roots of d
  abbrev pub values : (S : Splitting F D d) → List S.extension.carrier
  values S = map (λ x. value_at S.extension.field x (map_polynomial F S.extension.field S.extension.map ρ)) S.roots

  -- C = Σ (-1)^i·e_i·z^(m - i) with m = deg d, e_0 = 1 and (i + 1)·e_(i + 1) = Σ over j ≤ i of (-1)^j·e_(i - j)·P_(j + 1), where the P_j are the power sums of ρ at the roots of d
  pub characteristic_of_power_sums : (m : ℕ) (P e : ℕ → A) → size F d ≡ suc m → size F C ≤ suc m → e 0 ≡ F.one
      → ((i : ℕ) → F.mul (of_nat F.ring (suc i)) (e (suc i)) ≡ alternating F.ring e (λ j. P (suc j)) i)
      → ((k i : ℕ) → k + i ≡ m → coefficient F C k ≡ signed F.ring i (e i))
      → ((S : Splitting F D d) (j : ℕ) → S.extension.map.apply (P (suc j)) ≡ power_sum S.extension.field.ring (suc j) (values S))
      → IsCharacteristicPolynomial F D C ρ d
  characteristic_of_power_sums m P e sd sC e0 newton coefficients traces S =
      newton_polynomial-splits F S.extension.field S.extension.map char C m P e (values S)
      (let s = splitting-size F D d S (Degree.nonzero_of_size F d (omega (arith, sd))) in let l = length-map (λ x. value_at S.extension.field x (map_polynomial F S.extension.field S.extension.map ρ)) S.roots in omega (arith, s, l, sd))
      sC e0 newton coefficients (traces S)

  -- the same with the traces P_j of ρ^j modulo d, for a monic d with gcd(d, ∂d) = 1
  pub characteristic_of_traces : (is_monic : IsMonic F d) → IsCoprime F d (FormalDerivative.formal_derivative F d)
      → IsNewtonPolynomial F d (Gcd.monic-nonzero F d is_monic) ρ C → IsCharacteristicPolynomial F D C ρ d
  characteristic_of_traces is_monic coprime c =
      characteristic_of_power_sums (degree F d) (power_trace F d nonzero ρ) c.e size-d (let s = c.size-le in let q = size-d in omega (arith, s, q)) c.e-zero c.e-suc
      (λ k i q. c.coefficients k i (ap suc q ∙ sym size-d))
      (λ S j.
      power_trace-sum F S.extension.field S.extension.map d nonzero ρ S.roots (monic-splitting F D d S is_monic) (splitting-distinct F D d S coprime) (suc j)
      ∙ ap (power_sum S.extension.field.ring (suc j)) (map-ext_members _ _ S.roots (λ x m. sym (value-map_polynomial F S.extension.field S.extension.map x ρ))))
    where
      nonzero : ¬ (d ≡ (polynomials F).zero)
      nonzero = Gcd.monic-nonzero F d is_monic

      size-d : size F d ≡ suc (degree F d)
      size-d = Degree.size_of_nonzero F d nonzero
