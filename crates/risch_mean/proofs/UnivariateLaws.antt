-- The values of sums, products and derivatives of polynomials in one variable.
--     value-add, value-scale, value-mul      the value of a sum, a multiple, a product
--     derive-value      D(p(t)) is the value of the derivative of p, where Dt is the value of dt
use Rattle.std.specs.Prelude.{◌≡◌, refl, ℕ, suc, List, [], ◌∷◌, map}
use Rattle.std.proofs.Common.{sym, ap, ap₂, ◌∙◌}
use Rattle.risch_ring.specs.CommRing.{CommRing, Derivation, of_nat}
use Rattle.risch_ring.proofs.Expression.{reading}
use Rattle.risch_ring.proofs.Solver.{ring}
use Rattle.risch_ring.proofs.Derivations as Derivations
use Rattle.risch_mean.specs.Univariate.{value_at, add_lists, scale, mul_lists, numbered, formal_derivative, derivative_of_list}

module _ {A : Type 0} (R : CommRing A) where
  open R use {zero as 𝟘, one as 𝟙, add as ◌+◌, mul as ◌*◌, neg as -◌}

  infixl 60 ◌+◌
  infixl 70 ◌*◌
  infix 80 -◌
  -- ---- the values
  pub value-add : (t : A) (cs ds : List A) → value_at R t (add_lists R cs ds) ≡ value_at R t cs + value_at R t ds
  value-add t [] ds = zero_left (value_at R t ds)
    where
      zero_left : (x : A) → x ≡ 𝟘 + x
      zero_left x = ring R (x ∷ []) (search reading depth 20) refl
  value-add t (c ∷ cs) [] = zero_right (c + t * value_at R t cs)
    where
      zero_right : (x : A) → x ≡ x + 𝟘
      zero_right x = ring R (x ∷ []) (search reading depth 20) refl
  value-add t (c ∷ cs) (d ∷ ds) = ap (λ v. c + d + t * v) (value-add t cs ds) ∙ spread c d t (value_at R t cs) (value_at R t ds)
    where
      spread : (c d t x y : A) → c + d + t * (x + y) ≡ c + t * x + (d + t * y)
      spread c d t x y = ring R (c ∷ d ∷ t ∷ x ∷ y ∷ []) (search reading depth 30 fits 4000) refl

  pub value-scale : (t a : A) (cs : List A) → value_at R t (scale R a cs) ≡ a * value_at R t cs
  value-scale t a [] = nothing a
    where
      nothing : (x : A) → 𝟘 ≡ x * 𝟘
      nothing x = ring R (x ∷ []) (search reading depth 20) refl
  value-scale t a (c ∷ cs) = ap (λ v. a * c + t * v) (value-scale t a cs) ∙ spread a c t (value_at R t cs)
    where
      spread : (a c t x : A) → a * c + t * (a * x) ≡ a * (c + t * x)
      spread a c t x = ring R (a ∷ c ∷ t ∷ x ∷ []) (search reading depth 30 fits 4000) refl

  pub value-mul : (t : A) (cs ds : List A) → value_at R t (mul_lists R cs ds) ≡ value_at R t cs * value_at R t ds
  value-mul t [] ds = nothing (value_at R t ds)
    where
      nothing : (x : A) → 𝟘 ≡ 𝟘 * x
      nothing x = ring R (x ∷ []) (search reading depth 20) refl
  value-mul t (c ∷ cs) ds =
      value-add t (scale R c ds) (𝟘 ∷ mul_lists R cs ds) ∙ ap₂ (λ v w. v + (𝟘 + t * w)) (value-scale t c ds) (value-mul t cs ds) ∙ spread c t (value_at R t cs) (value_at R t ds)
    where
      spread : (c t x y : A) → c * y + (𝟘 + t * (x * y)) ≡ (c + t * x) * y
      spread c t x y = ring R (c ∷ t ∷ x ∷ y ∷ []) (search reading depth 30 fits 4000) refl

  -- (n + 1)·c_0 + (n + 2)·c_1·t + .. is n·c_0 + (n + 1)·c_1·t + .. and once the list
  value-numbered : (t : A) (n : ℕ) (cs : List A) → value_at R t (numbered R (suc n) cs) ≡ value_at R t cs + value_at R t (numbered R n cs)
  unfolding of_nat
  value-numbered t n [] = nothing
    where
      nothing : 𝟘 ≡ 𝟘 + 𝟘
      nothing = ring R [] (search reading depth 20) refl
  value-numbered t n (c ∷ cs) = ap (λ v. (𝟙 + of_nat R n) * c + t * v) (value-numbered t (suc n) cs) ∙ spread (of_nat R n) c t (value_at R t cs) (value_at R t (numbered R (suc n) cs))
    where
      spread : (n c t x y : A) → (𝟙 + n) * c + t * (x + y) ≡ c + t * x + (n * c + t * y)
      spread n c t x y = ring R (n ∷ c ∷ t ∷ x ∷ y ∷ []) (search reading depth 30 fits 4000) refl

  -- the derivative of c + t·v is that of v times t, and once v
  value-formal_derivative : (t c : A) (cs : List A) → value_at R t (formal_derivative R (c ∷ cs)) ≡ value_at R t cs + t * value_at R t (formal_derivative R cs)
  unfolding of_nat
  value-formal_derivative t c [] = nothing t
    where
      nothing : (x : A) → 𝟘 ≡ 𝟘 + x * 𝟘
      nothing x = ring R (x ∷ []) (search reading depth 20) refl
  value-formal_derivative t c (d ∷ ds) = value-numbered t 0 (d ∷ ds) ∙ drop_first d t (value_at R t ds) (value_at R t (numbered R 1 ds))
    where
      drop_first : (d t x y : A) → d + t * x + (𝟘 * d + t * y) ≡ d + t * x + t * y
      drop_first d t x y = ring R (d ∷ t ∷ x ∷ y ∷ []) (search reading depth 30 fits 4000) refl

  module _ (D : Derivation R) where
    -- the derivative of the value is the value of the derivative
    pub derive-value : (t : A) (dt : List A) → D.derive t ≡ value_at R t dt → (cs : List A) → D.derive (value_at R t cs) ≡ value_at R t (derivative_of_list R D.derive dt cs)
    derive-value t dt h [] = Derivations.derive-zero D ∙ sym (value-mul t dt [] ∙ nothing (value_at R t dt))
      where
        nothing : (x : A) → x * 𝟘 ≡ 𝟘
        nothing x = ring R (x ∷ []) (search reading depth 20) refl
    derive-value t dt h (c ∷ cs) =
        D.derive-add c (t * value_at R t cs) ∙ ap (λ v. D.derive c + v) (D.derive-mul t (value_at R t cs) ∙ ap₂ (λ v w. v * value_at R t cs + t * w) h (derive-value t dt h cs ∙ split cs))
        ∙ spread (D.derive c) t (value_at R t cs) (value_at R t dt) (value_at R t (map D.derive cs)) (value_at R t (formal_derivative R cs))
        ∙ ap (λ v. D.derive c + t * value_at R t (map D.derive cs) + value_at R t dt * v) (sym (value-formal_derivative t c cs))
        ∙ sym (split (c ∷ cs))
      where
        split : (cs : List A) → value_at R t (derivative_of_list R D.derive dt cs) ≡ value_at R t (map D.derive cs) + value_at R t dt * value_at R t (formal_derivative R cs)
        split cs = value-add t (map D.derive cs) (mul_lists R dt (formal_derivative R cs)) ∙ ap (λ v. value_at R t (map D.derive cs) + v) (value-mul t dt (formal_derivative R cs))

        spread : (c t v s m f : A) → c + (s * v + t * (m + s * f)) ≡ c + t * m + s * (v + t * f)
        spread c t v s m f = ring R (c ∷ t ∷ v ∷ s ∷ m ∷ f ∷ []) (search reading depth 40 fits 8000) refl
