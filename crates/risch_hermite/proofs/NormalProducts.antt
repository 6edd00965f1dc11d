-- Normal polynomials for a derivation D of K[t]: the product of coprime normal polynomials is normal, and so is 1.
use Rattle.std.proofs.Common.{◌≡◌, refl, sym, ◌∙◌, ap, [], ◌∷◌, subst}
use Rattle.risch_ring.specs.CommRing.{CommRing, Field, Derivation}
use Rattle.risch_ring.specs.Operators.{operators}
use Rattle.risch_ring.proofs.Expression.{reading}
use Rattle.risch_ring.proofs.Laws as Laws
use Rattle.risch_ring.proofs.Solver.{ring, linear}
use Rattle.risch_univariate.specs.Polynomial.{Polynomial}
use Rattle.risch_univariate.specs.PolynomialRing.{polynomials}
use Rattle.risch_univariate.specs.Division.{Divides, IsCoprime}
use Rattle.risch_univariate.specs.SplittingFactorization.{IsNormal}
use Rattle.risch_univariate.proofs.Gcd as Gcd

module _ {A : Type 0} (R : CommRing A) where
  open (operators R) use {𝟙, ◌+◌, ◌-◌, ◌*◌, -◌}

  -- x·a + y·c = 1 gives (x - y·k)·a + y·(c + a·k) = 1
  shifted_identity : (x y a c k : A) → x * a + y * c ≡ 𝟙 → (x - y * k) * a + y * (c + a * k) ≡ 𝟙
  shifted_identity x y a c k e = linear R 𝟙 e (ring R (x ∷ y ∷ a ∷ c ∷ k ∷ []) (search reading depth 30 fits 9000) refl)

  -- with w = c·d and Dw = c'·d + c·d', x·d + y·Dw = 1 gives (x + y·c')·d + (y·c)·d' = 1
  divisor_identity : (x y d d' c c' w' : A) → w' ≡ c' * d + c * d' → x * d + y * w' ≡ 𝟙 → (x + y * c') * d + y * c * d' ≡ 𝟙
  divisor_identity x y d d' c c' w' h e = linear R (- y) h (linear R 𝟙 e (ring R (x ∷ y ∷ d ∷ d' ∷ c ∷ c' ∷ w' ∷ []) (search reading depth 30 fits 9000) refl))

module _ {A : Type 0} (F : Field A) where
  abbrev R : CommRing (Polynomial F)
  R = polynomials F

  open (operators R) use {𝟙, ◌+◌, ◌-◌, ◌*◌, -◌}

  -- gcd(a, c) = 1 gives gcd(a, c + a·k) = 1
  coprime-shifted : (a c k : Polynomial F) → IsCoprime F a c → IsCoprime F a (c + a * k)
  coprime-shifted a c k h = record { left = h.left - h.right * k; right = h.right; equation = shifted_identity R h.left h.right a c k h.equation }

  pub coprime-mul_right : (a b c : Polynomial F) → IsCoprime F a b → IsCoprime F a c → IsCoprime F a (b * c)
  coprime-mul_right a b c h k = Gcd.coprime_sym F (b * c) a (Gcd.coprime-mul F b c a (Gcd.coprime_sym F a b h) (Gcd.coprime_sym F a c k))

  pub coprime_one-right : (p : Polynomial F) → IsCoprime F p 𝟙
  coprime_one-right p = record { left = (polynomials F).zero; right = 𝟙; equation = ap (λ z. z + 𝟙 * 𝟙) (Laws.zero-mul R p) ∙ Laws.zero-add R (𝟙 * 𝟙) ∙ R.mul-one 𝟙 }

  module _ (D : Derivation (polynomials F)) where
    pub normal-one : IsNormal F D 𝟙
    normal-one = Gcd.coprime_sym F (D.derive 𝟙) 𝟙 (coprime_one-right (D.derive 𝟙))

    -- D(a·b) = Da·b + a·Db is Da·b modulo a
    one_side : (a b : Polynomial F) → IsNormal F D a → IsCoprime F a b → IsCoprime F a (D.derive (a * b))
    one_side a b n c = subst (IsCoprime F a) (sym (D.derive-mul a b)) (coprime-shifted a (D.derive a * b) (D.derive b) (coprime-mul_right a (D.derive a) b n c))

    pub normal-mul : (a b : Polynomial F) → IsNormal F D a → IsNormal F D b → IsCoprime F a b → IsNormal F D (a * b)
    normal-mul a b na nb c =
        Gcd.coprime-mul F a b (D.derive (a * b)) (one_side a b na c)
        (subst (λ p. IsCoprime F b (D.derive p)) (R.mul_comm b a) (one_side b a nb (Gcd.coprime_sym F a b c)))

    -- a divisor of a normal polynomial is normal
    pub normal-divisor : (d w : Polynomial F) → Divides F d w → IsNormal F D w → IsNormal F D d
    normal-divisor d w h n =
        let c = h.cofactor in
        let half = Gcd.coprime_of_divides F d w (D.derive w) h n in
        record {
          left = half.left + half.right * D.derive c;
          right = half.right * c;
          equation = divisor_identity R half.left half.right d (D.derive d) c (D.derive c) (D.derive w) (ap D.derive h.equation ∙ D.derive-mul c d) half.equation;
        }
