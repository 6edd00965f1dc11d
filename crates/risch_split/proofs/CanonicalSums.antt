-- The sum of canonical parts over a field: q + r/(n·s) = (q·s + r')/s + z/n for n·r' + s·z = r, and the degree of z.
use Rattle.std.proofs.Common.{◌≡◌, ℕ, ◌+◌, ◌-◌, ◌≤◌, ◌<◌, [], ◌∷◌, refl, sym, ◌∙◌, ap, ap₂, arith}
use Rattle.risch_ring.specs.CommRing.{CommRing, Field}
use Rattle.risch_ring.proofs.Expression.{reading}
use Rattle.risch_ring.proofs.Laws as Laws
use Rattle.risch_ring.proofs.Solver.{ring}
use Rattle.risch_univariate.specs.Polynomial.{Polynomial}
use Rattle.risch_univariate.specs.PolynomialRing.{polynomials}
use Rattle.risch_univariate.specs.Degree.{size}
use Rattle.risch_univariate.proofs.Degree as Degree

module _ {A : Type 0} (R : CommRing A) where
  open R use {add as ◌⊕◌, mul as ◌⊗◌}

  infixl 60 ◌⊕◌
  infixl 70 ◌⊗◌
  spread : (x y n s : A) → (x ⊕ y) ⊗ (n ⊗ s) ≡ x ⊗ s ⊗ n ⊕ y ⊗ n ⊗ s
  spread x y n s = ring R (x ∷ y ∷ n ∷ s ∷ []) (search reading depth 30 fits 4000) refl

  gathered : (q s r' n z : A) → (q ⊗ s ⊕ r') ⊗ n ⊕ z ⊗ s ≡ q ⊗ (n ⊗ s) ⊕ (n ⊗ r' ⊕ s ⊗ z)
  gathered q s r' n z = ring R (q ∷ s ∷ r' ∷ n ∷ z ∷ []) (search reading depth 30 fits 4000) refl

  -- (x + y)·(n·s) = q·(n·s) + r for x·s = q·s + r', y·n = z and n·r' + s·z = r
  pub sum-of_parts : (x y q n s r r' z : A) → x ⊗ s ≡ q ⊗ s ⊕ r' → y ⊗ n ≡ z → n ⊗ r' ⊕ s ⊗ z ≡ r → (x ⊕ y) ⊗ (n ⊗ s) ≡ q ⊗ (n ⊗ s) ⊕ r
  sum-of_parts x y q n s r r' z ex ey er =
      spread x y n s ∙ ap₂ (λ a b. a ⊗ n ⊕ b ⊗ s) ex ey ∙ gathered q s r' n z ∙ ap (λ a. q ⊗ (n ⊗ s) ⊕ a) er

  -- x = q + y with y·s = r' gives x·s = q·s + r'
  pub product-of_sum : (x q y s r' : A) → x ≡ q ⊕ y → y ⊗ s ≡ r' → x ⊗ s ≡ q ⊗ s ⊕ r'
  product-of_sum x q y s r' e f = ap (λ a. a ⊗ s) e ∙ Laws.add-mul R q y s ∙ ap (λ a. q ⊗ s ⊕ a) f

module _ {A : Type 0} (F : Field A) where
  abbrev P : CommRing (Polynomial F)
  P = polynomials F

  -- deg z < deg n for n·r' + s·z = r with deg r' < deg s and deg r < deg (n·s)
  pub smaller-of_solution : (n s r r' z : Polynomial F) → ¬ (n ≡ P.zero) → ¬ (s ≡ P.zero) → P.add (P.mul n r') (P.mul s z) ≡ r → size F r' < size F s → size F r < size F (P.mul n s) → size F z < size F n
  smaller-of_solution n s r r' z some_n some_s e small_r' small_r = by (Degree.dec_zero F z) (Degree.dec_zero F r')
    where
      whole : P.mul s z ≡ P.add r (P.neg (P.mul n r'))
      whole = Laws.sub_of_add P r (P.mul n r') (P.mul s z) (sym e)

      -- deg (s·z) ≤ m where deg (n·r') ≤ m and deg r ≤ m
      bounded : (m : ℕ) → size F r ≤ m → size F (P.mul n r') ≤ m → size F (P.mul s z) ≤ m
      bounded m a b = let l = Degree.size-sub-le F r (P.mul n r') m a b in let same = ap (size F) whole in omega (arith, l, same)

      by : Dec (z ≡ P.zero) → Dec (r' ≡ P.zero) → size F z < size F n
      by (yes zero_z) d =
          let none = ap (size F) zero_z in
          let nothing = Degree.size-zero F in
          let sized = Degree.size_of_nonzero F n some_n in
          omega (arith, none, nothing, sized)
      by (no some_z) (yes zero_r') =
          let product = Degree.size-mul-nonzero F s z some_s some_z in
          let all = Degree.size-mul-nonzero F n s some_n some_s in
          let nothing = ap (size F) (ap (P.mul n) zero_r' ∙ Laws.mul-zero P n) ∙ Degree.size-zero F in
          let few = bounded (size F r) (omega arith) (omega (arith, nothing)) in
          omega (arith, product, all, few, small_r)
      by (no some_z) (no some_r') =
          let product = Degree.size-mul-nonzero F s z some_s some_z in
          let all = Degree.size-mul-nonzero F n s some_n some_s in
          let other = Degree.size-mul-nonzero F n r' some_n some_r' in
          let sized = Degree.size_of_nonzero F s some_s in
          let sized_n = Degree.size_of_nonzero F n some_n in
          let few = bounded (size F n + size F s - 2) (omega (arith, all, small_r, sized, sized_n)) (omega (arith, other, small_r', sized, sized_n)) in
          omega (arith, product, few, sized, sized_n)
