-- Every whole residue is a root of the characteristic polynomial of ρ = α·D(d1)⁻¹ modulo d1.
use Rattle.std.specs.Prelude.{◌≡◌, ℕ, zero, suc, ◌≤◌, List, [], ◌∷◌, map}
use Rattle.std.proofs.Common.{refl, sym, ap, ap₂, subst, ◌∙◌, arith, inl, inr}
use native.Mathlib.Decide.{dec_le}
use Rattle.risch_ring.specs.CommRing.{CommRing, Field, Derivation, of_nat, sub, HasCharacteristicZero}
use Rattle.risch_ring.proofs.Laws as Laws
use Rattle.risch_ring.proofs.Expression.{reading_symbolic}
use Rattle.risch_ring.proofs.Solver.{ring, linear}
use Rattle.risch_univariate.specs.Polynomial.{Polynomial, constant}
use Rattle.risch_univariate.specs.Degree.{size}
use Rattle.risch_univariate.specs.Division.{Divides, IsCoprime}
use Rattle.risch_ring.proofs.FieldLaws as FieldLaws
use Rattle.risch_univariate.proofs.Degree as Degree
use Rattle.risch_univariate.proofs.Divides as Divides
use Rattle.risch_univariate.proofs.Gcd as Gcd
use Rattle.risch_univariate.proofs.Evaluation as Evaluation
use Rattle.risch_extension.proofs.Roots as Roots
use Rattle.risch_extension.proofs.GcdAtRoots as GcdAtRoots
use Rattle.risch_extension.proofs.SplittingField.{by_splitting}
use Rattle.risch_ring.proofs.RingMaps as RingMaps
use Rattle.risch_univariate.specs.PolynomialRing.{polynomials}
use Rattle.risch_univariate.proofs.PolynomialInduction.{polynomial_induction}
use Rattle.risch_extension.specs.Extension.{Splitting}
use Rattle.risch_ring.specs.Lists.{Member}
use Rattle.risch_extension.specs.PolynomialMap.{map_polynomial}
use Rattle.risch_extension.specs.LinearFactors.{value_at, linear as linear_factor, product_of_linear}
use Rattle.risch_extension.proofs.PolynomialMaps.{map_polynomial-zero, map_polynomial-horner, map_polynomial-constant, map_polynomial-mul, map_polynomial-add, size-map_polynomial, map_polynomial-nonzero}
use Rattle.risch_extension.proofs.LinearFactors.{product_of_linear-cons, product_of_linear-nil}
use Rattle.risch_ring.proofs.Lists.{member-map}
use Rattle.risch_equation_theory.specs.CharacteristicPolynomial.{IsCharacteristicPolynomial}

-- a divisor of degree at least 1 of Π (t - x_i) is 0 at some x_i
module _ {A : Type 0} (F : Field A) where
  abbrev R : CommRing (Polynomial F)
  R = polynomials F

  -- an x_i with p(x_i) = 0
  pub record Root (p : Polynomial F) (xs : List A) : Type 0 where
    pub root : A
    pub member : Member root xs
    pub vanishes : value_at F root p ≡ F.zero

  -- p | Π (t - x_i) of degree at least 1 is 0 at some x_i
  pub root_of_divisor : (p : Polynomial F) (xs : List A) → 2 ≤ size F p → Divides F p (product_of_linear F xs) → Root p xs
  root_of_divisor p [] l d = let s = Gcd.size_of_unit F p (subst (Divides F p) (product_of_linear-nil F) d) in absurd (omega (arith, s, l))
  root_of_divisor p (x ∷ xs) l d = elim (F.is_zero (value_at F x p)) [
    | yes e ↦ record { root = x; member = inl refl; vanishes = e }
    | no n ↦ later (root_of_divisor p xs l (Gcd.coprime-divides_of_mul F p (linear_factor F x) (product_of_linear F xs) (Gcd.coprime_sym F (linear_factor F x) p (GcdAtRoots.linear-coprime F p x n))
        (subst (Divides F p) (product_of_linear-cons F x xs) d)))
  ]
    where
      later : Root p xs → Root p (x ∷ xs)
      later r = record { root = r.root; member = inr r.member; vanishes = r.vanishes }

  -- Π (z - g(x_i)) is 0 at g(y) for a y among the x_i
  pub image-root : (g : A → A) (y : A) (xs : List A) → Member y xs → value_at F (g y) (product_of_linear F (map g xs)) ≡ F.zero
  image-root g y xs m = Roots.value_at-product_member F (g y) (map g xs) (member-map g y xs m)

module _ {A : Type 0} (F : Field A) (char : HasCharacteristicZero F.ring) (D : Derivation F.ring) where
  abbrev P : CommRing (Polynomial F)
  P = polynomials F

  module _ (C ρ d α d' : Polynomial F) (l : ℕ) (nd : ¬ (d ≡ P.zero)) (normal : IsCoprime F d d') (inverse : Divides F d (sub P (P.mul ρ d') α))
      (common : ¬ IsCoprime F (sub P α (P.mul (of_nat P l) d')) d) where
    module _ (S : Splitting F D d) where
      abbrev G : Field S.extension.carrier
      G = S.extension.field

      abbrev Q : CommRing (Polynomial S.extension.field)
      Q = polynomials S.extension.field

      -- the value of a polynomial over K at x
      abbrev at : S.extension.carrier → Polynomial F → S.extension.carrier
      at x p = value_at S.extension.field x (map_polynomial F S.extension.field S.extension.map p)

      at-mul : (x : S.extension.carrier) (p q : Polynomial F) → at x (P.mul p q) ≡ G.mul (at x p) (at x q)
      at-mul x p q = ap (value_at G x) (map_polynomial-mul F G S.extension.map p q) ∙ Evaluation.value-mul G G.ring (RingMaps.identity_map G.ring) x _ _

      at-add : (x : S.extension.carrier) (p q : Polynomial F) → at x (P.add p q) ≡ G.add (at x p) (at x q)
      at-add x p q = ap (value_at G x) (map_polynomial-add F G S.extension.map p q) ∙ Evaluation.value-add G G.ring (RingMaps.identity_map G.ring) x _ _

      at-constant : (x : S.extension.carrier) (a : A) → at x (constant F a) ≡ S.extension.map.apply a
      at-constant x a = ap (value_at G x) (map_polynomial-constant F G S.extension.map a) ∙ Evaluation.value-constant G G.ring (RingMaps.identity_map G.ring) x (S.extension.map.apply a)

      at-zero : (x : S.extension.carrier) → at x P.zero ≡ G.zero
      at-zero x = ap (value_at G x) (map_polynomial-zero F G S.extension.map) ∙ Evaluation.value-zero G G.ring (RingMaps.identity_map G.ring) x

      at-one : (x : S.extension.carrier) → at x P.one ≡ G.one
      at-one x = ap (at x) (sym (Degree.constant-one F)) ∙ at-constant x F.one ∙ S.extension.map.apply-one

      at-sub : (x : S.extension.carrier) (p q : Polynomial F) → at x (sub P p q) ≡ sub G.ring (at x p) (at x q)
      at-sub x p q = Laws.add_right_cancel G.ring _ _ (at x q)
          (sym (at-add x (sub P p q) q) ∙ ap (at x) (Laws.neg-add_cancel P p q) ∙ sym (Laws.neg-add_cancel G.ring (at x p) (at x q)))

      at-nat : (x : S.extension.carrier) (n : ℕ) → at x (of_nat P n) ≡ of_nat G.ring n
      unfolding of_nat
      at-nat x zero = at-zero x
      at-nat x (suc n) = at-add x P.one (of_nat P n) ∙ ap₂ G.add (at-one x) (at-nat x n)

      at-divides : (x : S.extension.carrier) (p q : Polynomial F) → Divides F p q → at x p ≡ G.zero → at x q ≡ G.zero
      at-divides x p q h e = ap (at x) h.equation ∙ at-mul x h.cofactor p ∙ ap (G.mul (at x h.cofactor)) e ∙ Laws.mul-zero G.ring _

      -- gcd(α - l·d', d)
      g : Polynomial F
      g = Gcd.gcd F (sub P α (P.mul (of_nat P l) d')) d

      large : 2 ≤ size G (map_polynomial F G S.extension.map g)
      unfolding g
      large = let s = size-map_polynomial F G S.extension.map g in elim (dec_le 2 (size F g)) [
        | yes k ↦ omega (arith, s, k)
        | no k ↦ absurd (common (Gcd.coprime_of_size F _ d (let o = Degree.size_of_nonzero F g (Gcd.gcd-nonzero_right F _ d nd) in omega (arith, k, o))))
      ]

      -- d = c·Π (t - x_i) ≠ 0 gives c ≠ 0
      pub nonzero-unit : ¬ (S.unit ≡ G.zero)
      nonzero-unit e = map_polynomial-nonzero F G S.extension.map d nd
          (S.equation ∙ ap (λ z. Q.mul (constant G z) (product_of_linear G S.roots)) e ∙ ap (λ z. Q.mul z (product_of_linear G S.roots)) (Degree.constant-zero G) ∙ Laws.zero-mul Q _)

      divides : Divides G (map_polynomial F G S.extension.map g) (product_of_linear G S.roots)
      unfolding g
      divides =
          let h = Gcd.gcd-divides_right F (sub P α (P.mul (of_nat P l) d')) d in
          Divides.divides_trans G _ (map_polynomial F G S.extension.map d) _
          (record { cofactor = map_polynomial F G S.extension.map h.cofactor; equation = ap (map_polynomial F G S.extension.map) h.equation ∙ map_polynomial-mul F G S.extension.map h.cofactor g })
          (record {
            cofactor = constant G (G.inverse S.unit);
            equation = sym (ap (Q.mul (constant G (G.inverse S.unit))) S.equation ∙ sym (Q.mul_assoc _ _ _)
                ∙ ap (λ z. Q.mul z (product_of_linear G S.roots)) (sym (Degree.constant-mul G (G.inverse S.unit) S.unit) ∙ ap (constant G) (FieldLaws.inverse-mul G S.unit nonzero-unit) ∙ Degree.constant-one G) ∙ Laws.one-mul Q _);
          })

      found : Root G (map_polynomial F G S.extension.map g) S.roots
      found = root_of_divisor G (map_polynomial F G S.extension.map g) S.roots large divides

      x : S.extension.carrier
      x = found.root

      at_d : at x d ≡ G.zero
      unfolding g x
      at_d = at-divides x g d (Gcd.gcd-divides_right F _ d) found.vanishes

      at_difference : sub G.ring (at x α) (G.mul (of_nat G.ring l) (at x d')) ≡ G.zero
      unfolding g x
      at_difference = sym (at-sub x α (P.mul (of_nat P l) d') ∙ ap (λ z. sub G.ring (at x α) z) (at-mul x (of_nat P l) d' ∙ ap (λ z. G.mul z (at x d')) (at-nat x l)))
          ∙ at-divides x g _ (Gcd.gcd-divides_left F _ d) found.vanishes

      at_inverse : sub G.ring (G.mul (at x ρ) (at x d')) (at x α) ≡ G.zero
      at_inverse = sym (at-sub x (P.mul ρ d') α ∙ ap (λ z. sub G.ring z (at x α)) (at-mul x ρ d')) ∙ at-divides x d _ inverse at_d

      derivative-nonzero : ¬ (at x d' ≡ G.zero)
      derivative-nonzero e = G.one-ne-zero (sym (at-one x) ∙ ap (at x) (sym normal.equation) ∙ at-add x _ _
          ∙ ap₂ G.add (at-mul x normal.left d ∙ ap (G.mul (at x normal.left)) at_d ∙ Laws.mul-zero G.ring _) (at-mul x normal.right d' ∙ ap (G.mul (at x normal.right)) e ∙ Laws.mul-zero G.ring _)
          ∙ G.add-zero G.zero)

      -- ρ(x) = l at a common root of α - l·d' and d
      residue : at x ρ ≡ of_nat G.ring l
      residue = FieldLaws.mul_left_cancel G (at x d') _ _ derivative-nonzero
          (solve (at x d') (at x ρ) (of_nat G.ring l) (at x α) at_inverse at_difference)
        where
          solve : (d' r n a : S.extension.carrier) → sub G.ring (G.mul r d') a ≡ G.zero → sub G.ring a (G.mul n d') ≡ G.zero → G.mul d' r ≡ G.mul d' n
          solve d' r n a h k = linear G.ring G.one h (linear G.ring G.one k (ring G.ring (d' ∷ r ∷ n ∷ a ∷ []) (search reading_symbolic depth 30 fits 9000) refl))

      root_in : map_polynomial F G S.extension.map C ≡ product_of_linear G (map (λ y. at y ρ) S.roots) → S.extension.map.apply (value_at F (of_nat F.ring l) C) ≡ G.zero
      unfolding x
      root_in e =
          mapped ∙ ap (λ z. value_at G z (map_polynomial F G S.extension.map C)) (sym residue) ∙ ap (value_at G (at x ρ)) e ∙ image-root G (λ y. at y ρ) x S.roots found.member
        where
          mapped : S.extension.map.apply (value_at F (of_nat F.ring l) C) ≡ value_at G (of_nat G.ring l) (map_polynomial F G S.extension.map C)
          mapped = map-value (of_nat F.ring l) C ∙ ap (λ z. value_at G z (map_polynomial F G S.extension.map C)) (RingMaps.apply-of_nat S.extension.map l)
            where
              map-value : (y : A) (p : Polynomial F) → S.extension.map.apply (value_at F y p) ≡ value_at G (S.extension.map.apply y) (map_polynomial F G S.extension.map p)
              map-value y = polynomial_induction F (λ p. S.extension.map.apply (value_at F y p) ≡ value_at G (S.extension.map.apply y) (map_polynomial F G S.extension.map p))
                  (ap S.extension.map.apply (Evaluation.value-zero F F.ring (RingMaps.identity_map F.ring) y) ∙ RingMaps.apply-zero S.extension.map ∙ sym (at-zero (S.extension.map.apply y)))
                  (λ a p ih. ap S.extension.map.apply (Evaluation.value-horner F F.ring (RingMaps.identity_map F.ring) y a p) ∙ S.extension.map.apply-add _ _
                  ∙ ap (G.add (S.extension.map.apply a)) (S.extension.map.apply-mul _ _ ∙ ap (G.mul (S.extension.map.apply y)) ih)
                  ∙ sym (ap (value_at G (S.extension.map.apply y)) (map_polynomial-horner F G S.extension.map a p) ∙ Evaluation.value-horner G G.ring (RingMaps.identity_map G.ring) (S.extension.map.apply y) (S.extension.map.apply a) _))

    -- if α - l·d' and d have a common factor, l is a root of the characteristic polynomial
    pub residue-is_root : IsCharacteristicPolynomial F D C ρ d → value_at F (of_nat F.ring l) C ≡ F.zero
    residue-is_root is_characteristic = elim (F.is_zero (value_at F (of_nat F.ring l) C)) [
      | yes e ↦ e
      | no n ↦ absurd (by_splitting (λ k. k (λ z. z)) F char D d nd
          (λ S. RingMaps.apply-nonzero F S.extension.field S.extension.map _ n (root_in S (is_characteristic S))))
    ]
