-- Weakly normalized coefficients f of Dy + f·y = g, and the weak normalizer.
use Rattle.std.specs.Prelude.{◌≡◌, ◌⊎◌, ⊤, ℕ, suc, List, [], ◌∷◌}
use Rattle.risch_ring.specs.CommRing.{of_nat, sub, quotient}
use Rattle.risch_ring.specs.CommRing.{CommRing, Field, Derivation}
use Rattle.risch_univariate.specs.Polynomial.{Polynomial}
use Rattle.risch_univariate.specs.PolynomialRing.{polynomials}
use Rattle.risch_fraction_field.specs.Fraction.{Fraction, Represents, of_polynomial}
use Rattle.risch_fraction_field.specs.FractionField.{fractions}
use Rattle.risch_fraction_field.specs.FractionDerivation.{fraction_derivation}
use Rattle.risch_univariate.specs.Degree.{IsMonic}
use Rattle.risch_univariate.specs.Division.{Divides, IsIrreducible, IsMultiplicity}
use Rattle.risch_univariate.specs.PolynomialOperators.{polynomial_operators}
use Rattle.risch_univariate.proofs.Gcd.{gcd}

module _ {A : Type 0} (F : Field A) (D : Derivation (polynomials F)) where
  abbrev R : CommRing (Polynomial F)
  R = polynomials F

  abbrev K : Field (Fraction F)
  K = fractions F

  open (polynomial_operators F) use {𝟙, ◌*◌, ◌^◌, ◌∣◌}

  -- p is monic and irreducible, and does not divide D(p)
  pub record IsNormalPrime (p : Polynomial F) : Type 0 where
    pub irreducible : IsIrreducible F p
    pub is_monic : IsMonic F p
    pub normal : ¬ Divides F p (D.derive p)

  -- f = u/(p·v) with p ∤ v, and the residue of f at p is l: p divides u - l·v·D(p)
  pub record HasResidue (p : Polynomial F) (f : Fraction F) (l : ℕ) : Type 0 where
    pub left : Polynomial F
    pub right : Polynomial F
    pub represents : Represents F f left (p * right)
    pub not_divides_right : ¬ (p ∣ right)
    pub residue : p ∣ sub R left (of_nat R l * (right * D.derive p))

  -- f is weakly normalized: where f = u/(p·v) with p ∤ v, the residue u/(v·D(p)) modulo p is no whole number above 0
  abbrev pub IsWeaklyNormalized : Fraction F → Type 0
  IsWeaklyNormalized f = (p : Polynomial F) → IsNormalPrime p → (u v : Polynomial F) → ¬ Divides F p v → Represents F f u (R.mul p v)
      → (i : ℕ) → ¬ Divides F p (sub R u (R.mul (of_nat R (suc i)) (R.mul v (D.derive p))))

  -- f - D(q)/q
  abbrev pub normalized : Fraction F → Polynomial F → Fraction F
  normalized f q = sub K.ring f (quotient K ((fraction_derivation F D).derive (of_polynomial F q)) (of_polynomial F q))

  -- d holds just the normal irreducible factors of multiplicity 1 of M, and r is M/d
  pub record IsSimplePart (M d r : Polynomial F) : Type 0 where
    pub equation : M ≡ d * r
    pub contains : (p : Polynomial F) → IsNormalPrime p → IsMultiplicity F p M 1 → p ∣ d
    pub simple : (p : Polynomial F) → IsNormalPrime p → p ∣ d → IsMultiplicity F p M 1

  -- gcd(α - i·D(d), d)
  abbrev pub common : (d α : Polynomial F) → ℕ → Polynomial F
  common d α i = gcd F (sub R α (of_nat R i * D.derive d)) d

  -- Π gcd(α - i·D(d), d)^i over a list of numbers i
  unfoldable pub weak_normalizer : (d α : Polynomial F) → List ℕ → Polynomial F
  weak_normalizer d α [] = 𝟙
  weak_normalizer d α (i ∷ is) = common d α i ^ i * weak_normalizer d α is

-- l does not stand in the list
abbrev pub IsAbsent : ℕ → List ℕ → Type 0
IsAbsent l [] = ⊤
IsAbsent l (i ∷ is) = (¬ (i ≡ l)) × IsAbsent l is

-- l stands in the list just once
abbrev pub IsOnce : ℕ → List ℕ → Type 0
IsOnce l [] = ⊥
IsOnce l (i ∷ is) = ((i ≡ l) × IsAbsent l is) ⊎ ((¬ (i ≡ l)) × IsOnce l is)
