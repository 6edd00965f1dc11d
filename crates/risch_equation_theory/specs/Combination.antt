-- Combinations Σ κ_j·g(c_j) of columns c_j with constants κ_j.
use Rattle.std.specs.Prelude.{◌≡◌, List, [], ◌∷◌}
use Rattle.risch_ring.specs.CommRing.{Field, Derivation}
use Rattle.risch_univariate.specs.Polynomial.{Polynomial}
use Rattle.risch_univariate.specs.PolynomialRing.{polynomials}
use Rattle.risch_univariate.specs.Polynomial.{constant}
use Rattle.risch_univariate.specs.PolynomialOperators.{polynomial_operators}

module _ {A : Type 0} (F : Field A) where
  open (polynomial_operators F) use {𝟘, ◌+◌ as ◌+ₚ◌, ◌*◌}

  -- the factors are constants
  abbrev pub AreConstants : Derivation (polynomials F) → List A → Type 0
  AreConstants D [] = Unit
  AreConstants D (k ∷ ks) = (D.derive (constant F k) ≡ 𝟘) × AreConstants D ks

  module _ {C : Type 0} where
    -- Σ κ_j·g(c_j) in K[t]
    unfoldable pub total : (C → Polynomial F) → List A → List C → Polynomial F
    total g [] cs = 𝟘
    total g (k ∷ ks) [] = 𝟘
    total g (k ∷ ks) (c ∷ cs) = constant F k * g c +ₚ total g ks cs

    -- Σ κ_j·g(c_j) in K
    unfoldable pub total_element : (C → A) → List A → List C → A
    total_element g [] cs = F.zero
    total_element g (k ∷ ks) [] = F.zero
    total_element g (k ∷ ks) (c ∷ cs) = F.add (F.mul k (g c)) (total_element g ks cs)
