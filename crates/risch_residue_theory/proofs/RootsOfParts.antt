-- Polynomials over K and their roots in a field E above K: coprimality by values, linear factors of divisors, and multiplicities of roots in products of powers.
use Rattle.std.specs.Prelude.{◌≡◌, ℕ, zero, suc, ◌≤◌, ◌⊎◌, List, [], ◌∷◌}
use Rattle.std.proofs.Common.{refl, sym, ap, ap₂, subst, ◌∙◌, arith, inl, inr}
use native.Mathlib.Decide.{dec_le}
use Rattle.risch_ring.specs.CommRing.{CommRing, Field, RingMap, power, HasCharacteristicZero}
use Rattle.risch_ring.proofs.Laws as Laws
use Rattle.risch_univariate.specs.Polynomial.{Polynomial}
use Rattle.risch_univariate.specs.Degree.{size, IsMonic}
use Rattle.risch_univariate.specs.Division.{Divides, IsCoprime, IsIrreducible, IsSquareFree, IsMultiplicity}
use Rattle.risch_ring.proofs.FieldLaws as FieldLaws
use Rattle.risch_univariate.proofs.Divides as Divides
use Rattle.risch_univariate.proofs.Gcd as Gcd
use Rattle.risch_univariate.proofs.Evaluation as Evaluation
use Rattle.risch_univariate.proofs.Irreducible as Irreducible
use Rattle.risch_univariate.proofs.FormalDerivative as FormalDerivative
use Rattle.risch_univariate.proofs.SquareFree as SquareFree
use Rattle.risch_extension.proofs.Roots as Roots
use Rattle.risch_extension.proofs.GcdAtRoots as GcdAtRoots
use Rattle.risch_residue_theory.proofs.Place.{Some}
use Rattle.risch_residue_theory.proofs.PlaceAtPoint.{coprime-at}
use Rattle.risch_ring.proofs.RingMaps.{identity_map}
use Rattle.risch_univariate.specs.PolynomialRing.{polynomials}
use Rattle.risch_univariate.specs.SquareFreeParts.{product_of_powers, AreParts}
use Rattle.risch_ring.specs.Lists.{Each, Member}
use Rattle.risch_extension.specs.PolynomialMap.{map_polynomial}
use Rattle.risch_extension.specs.LinearFactors.{value_at, linear, product_of_linear}
use Rattle.risch_extension.proofs.PolynomialMaps.{map_polynomial-mul, map_polynomial-one, size-map_polynomial, value-map_polynomial}
use Rattle.risch_extension.proofs.LinearFactors.{size-linear, linear-divides, value_of_linear-divides, product_of_linear-nil, product_of_linear-cons, product_of_linear-is_monic, linear-nonzero}
use Rattle.risch_extension.proofs.Extensions.{map-formal_derivative}

-- ---- over E

module _ {B : Type 0} (G : Field B) where
  abbrev S : CommRing (Polynomial G)
  S = polynomials G

  -- a divisor of Π (z - x_i) is a product of linear factors
  pub splits_of_divides : (xs : List B) (q : Polynomial G) → IsMonic G q → Divides G q (product_of_linear G xs) → Some (λ ys. q ≡ product_of_linear G ys)
  splits_of_divides [] q m h = record {
    value = [];
    has_value =
        Gcd.one_of_monic G q m (let s = Gcd.size_of_unit G q (subst (Divides G q) (product_of_linear-nil G) h) in omega (arith, s))
        ∙ sym (product_of_linear-nil G);
  }
  splits_of_divides (x ∷ xs) q m h = go (G.is_zero (value_at G x q)) (λ c mc hc. splits_of_divides xs c mc hc)
    where
      go : Dec (value_at G x q ≡ G.zero) → ((c : Polynomial G) → IsMonic G c → Divides G c (product_of_linear G xs) → Some (λ ys. c ≡ product_of_linear G ys))
          → Some (λ ys. q ≡ product_of_linear G ys)
      go (yes e) ih =
          let d = linear-divides G x q e in
          let r = ih d.cofactor (Gcd.cofactor-is_monic G (linear G x) q d m linear-is_monic)
          (Divides.divides_cancel G (linear G x) d.cofactor (product_of_linear G xs) (linear-nonzero G x)
          (subst (Divides G (S.mul (linear G x) d.cofactor)) (product_of_linear-cons G x xs)
          (subst (λ z. Divides G z (product_of_linear G (x ∷ xs))) (d.equation ∙ S.mul_comm d.cofactor (linear G x)) h))) in
          record {
            value = x ∷ r.value;
            has_value = d.equation ∙ S.mul_comm d.cofactor (linear G x) ∙ ap (S.mul (linear G x)) r.has_value ∙ sym (product_of_linear-cons G x r.value);
          }
        where
          linear-is_monic : IsMonic G (linear G x)
          linear-is_monic = subst (IsMonic G) (product_of_linear-cons G x [] ∙ ap (S.mul (linear G x)) (product_of_linear-nil G) ∙ S.mul-one (linear G x)) (product_of_linear-is_monic G (x ∷ []))
      go (no n) ih = ih q m
          (Gcd.coprime-divides_of_mul G q (linear G x) (product_of_linear G xs) (Gcd.coprime_sym G (linear G x) q (GcdAtRoots.linear-coprime G q x n))
          (subst (Divides G q) (product_of_linear-cons G x xs) h))

  -- (z - x)(y) = 0 only for y = x
  same_of_linear : (y x : B) → value_at G y (linear G x) ≡ G.zero → y ≡ x
  same_of_linear y x e = Laws.eq_of_sub G.ring y x
      (G.add_comm y (G.neg x)
      ∙ sym (Evaluation.value-horner G G.ring (identity_map G.ring) y (G.neg x) S.one
      ∙ ap (λ z. G.add (G.neg x) (G.mul y z)) (Evaluation.evaluation G G.ring (identity_map G.ring) y).apply-one ∙ ap (G.add (G.neg x)) (G.mul-one y))
      ∙ e)

  -- the roots of Π (z - x_i) are the x_i
  pub member_of_root : (y : B) (xs : List B) → value_at G y (product_of_linear G xs) ≡ G.zero → Member y xs
  member_of_root y [] e = G.one-ne-zero (sym (Evaluation.evaluation G G.ring (identity_map G.ring) y).apply-one ∙ ap (value_at G y) (sym (product_of_linear-nil G)) ∙ e)
  member_of_root y (x ∷ xs) e = go (G.is_zero (value_at G y (linear G x))) (λ z. member_of_root y xs z)
    where
      go : Dec (value_at G y (linear G x) ≡ G.zero) → (value_at G y (product_of_linear G xs) ≡ G.zero → Member y xs) → Member y (x ∷ xs)
      go (yes z) ih = inl (same_of_linear y x z)
      go (no n) ih = inr (ih (FieldLaws.zero_of_mul G _ _ n
          (sym (Evaluation.value-mul G G.ring (identity_map G.ring) y (linear G x) (product_of_linear G xs)) ∙ ap (value_at G y) (sym (product_of_linear-cons G x xs)) ∙ e)))

  -- z - x is irreducible
  pub linear-irreducible : (x : B) → IsIrreducible G (linear G x)
  linear-irreducible x = record {
    not_constant = let s = size-linear G x in omega (arith, s);
    divisors = λ d h. elim (dec_le (size G d) 1) [
      | yes l ↦ inl l
      | no n ↦ inr (let s = Divides.size-divides G d (linear G x) h (linear-nonzero G x) in let t = size-linear G x in omega (arith, s, t, n))
    ];
  }

  -- multiplicity 0 where the value is not 0
  pub multiplicity_of_value : (x : B) (a : Polynomial G) → ¬ (value_at G x a ≡ G.zero) → IsMultiplicity G (linear G x) a 0
  multiplicity_of_value x a n = record {
    cofactor = a;
    equation = sym (ap (λ z. S.mul z a) (Laws.power-zero S (linear G x)) ∙ Laws.one-mul S a);
    not_divides = λ h. n (value_of_linear-divides G x a h);
  }

  -- multiplicity 1 at a root where ∂a is not 0
  pub multiplicity_of_simple : (x : B) (a : Polynomial G) → value_at G x a ≡ G.zero → ¬ (value_at G x (FormalDerivative.formal_derivative G a) ≡ G.zero) → IsMultiplicity G (linear G x) a 1
  multiplicity_of_simple x a e n =
      let d = linear-divides G x a e in
      record {
        cofactor = d.cofactor;
        equation = d.equation ∙ S.mul_comm d.cofactor (linear G x) ∙ ap (λ z. S.mul z d.cofactor) (sym (Laws.power-one S (linear G x)));
        not_divides = λ h. n
            (ap (λ z. value_at G x (FormalDerivative.formal_derivative G z)) (d.equation ∙ S.mul_comm d.cofactor (linear G x)) ∙ Roots.derivative-at G x d.cofactor
            ∙ value_of_linear-divides G x d.cofactor h);
      }

  -- multiplicity n in a^n, if it is 1 in a
  pub multiplicity-power : (x : B) (a : Polynomial G) → IsMultiplicity G (linear G x) a 1 → (n : ℕ) → IsMultiplicity G (linear G x) (power S a n) n
  multiplicity-power x a h zero = subst (λ z. IsMultiplicity G (linear G x) z 0) (sym (Laws.power-zero S a)) (record {
    cofactor = S.one;
    equation = sym (ap (λ z. S.mul z S.one) (Laws.power-zero S (linear G x)) ∙ S.mul-one S.one);
    not_divides = Irreducible.irreducible-not_unit G (linear G x) (linear-irreducible x);
  })
  multiplicity-power x a h (suc n) = subst (λ z. IsMultiplicity G (linear G x) z (suc n)) (sym (Laws.power-suc S a n))
      (subst (IsMultiplicity G (linear G x) (S.mul a (power S a n))) (omega arith)
      (Irreducible.multiplicity-mul G (linear G x) a (power S a n) 1 n (linear-irreducible x) h (multiplicity-power x a h n)))

-- ---- over K, with values in E

module _ {A B : Type 0} (F : Field A) (G : Field B) (f : RingMap F.ring G.ring) where
  abbrev R : CommRing (Polynomial F)
  R = polynomials F

  abbrev S' : CommRing (Polynomial G)
  S' = polynomials G

  abbrev m : Polynomial F → Polynomial G
  m = map_polynomial F G f

  -- p(x)
  abbrev pub value : B → Polynomial F → B
  value = λ x. Evaluation.value F G.ring f x

  -- p without a common root with P is coprime with P, if P is Π (z - x_i) over E
  pub coprime_of_values : (p P : Polynomial F) (xs : List B) → map_polynomial F G f P ≡ product_of_linear G xs → ((x : B) → Member x xs → ¬ (value x p ≡ G.zero)) → IsCoprime F p P
  coprime_of_values p P xs splits n = Gcd.coprime_of_size F p P
      (sym (size-map_polynomial F G f (Gcd.gcd F p P))
      ∙ Gcd.size_of_unit G (m (Gcd.gcd F p P)) (Gcd.coprime-common_divisor G (m p) (product_of_linear G xs) (m (Gcd.gcd F p P)) (Gcd.coprime_sym G _ (m p) (over xs n))
      (map-divides (Gcd.gcd F p P) p (Gcd.gcd-divides_left F p P)) (subst (Divides G (m (Gcd.gcd F p P))) splits (map-divides (Gcd.gcd F p P) P (Gcd.gcd-divides_right F p P)))))
    where
      map-divides : (d q : Polynomial F) → Divides F d q → Divides G (map_polynomial F G f d) (map_polynomial F G f q)
      map-divides d q h = record { cofactor = m h.cofactor; equation = ap m h.equation ∙ map_polynomial-mul F G f h.cofactor d }

      over : (ys : List B) → ((x : B) → Member x ys → ¬ (value x p ≡ G.zero)) → IsCoprime G (product_of_linear G ys) (map_polynomial F G f p)
      over [] k = record {
        left = S'.one;
        right = S'.zero;
        equation = ap₂ S'.add (ap (S'.mul S'.one) (product_of_linear-nil G) ∙ S'.mul-one S'.one) (Laws.zero-mul S' (m p)) ∙ S'.add-zero S'.one;
      }
      over (y ∷ ys) k = subst (λ z. IsCoprime G z (m p)) (sym (product_of_linear-cons G y ys))
          (Gcd.coprime-mul G (linear G y) (product_of_linear G ys) (m p)
          (GcdAtRoots.linear-coprime G (m p) y (λ e. k y (inl refl) (sym (value-map_polynomial F G f y p) ∙ e))) (over ys (λ x z. k x (inr z))))

  -- ∂P ≠ 0 at the roots of a square-free P
  pub simple_root : HasCharacteristicZero F.ring → (P : Polynomial F) → ¬ (P ≡ (polynomials F).zero) → IsSquareFree F P → (x : B) → value x P ≡ G.zero
      → ¬ (value_at G x (FormalDerivative.formal_derivative G (map_polynomial F G f P)) ≡ G.zero)
  simple_root char P n sf x e z = coprime-at F G f x P (FormalDerivative.formal_derivative F P) (SquareFree.coprime_of_square_free F char P n sf) e
      (sym (value-map_polynomial F G f x (FormalDerivative.formal_derivative F P)) ∙ ap (value_at G x) (map-formal_derivative F G f P) ∙ z)

  -- q is the part with number k, where the list begins with number i
  abbrev pub IsPart : ℕ → Polynomial F → ℕ → List (Polynomial F) → Type 0
  IsPart k q i [] = ⊥
  IsPart k q i (p ∷ ps) = ((k ≡ i) × (q ≡ p)) ⊎ IsPart k q (suc i) ps

  each_part : (P : Polynomial F → Type 0) (k : ℕ) (q : Polynomial F) (i : ℕ) (ps : List (Polynomial F)) → Each P ps → IsPart k q i ps → P q
  each_part P k q i [] h x = absurd x
  each_part P k q i (p ∷ ps) h (inl x) = subst P (sym x.1) h.0
  each_part P k q i (p ∷ ps) h (inr x) = each_part P k q (suc i) ps h.1 x

  -- q^n is not 0 where q is not 0
  pub value-power : (x : B) (q : Polynomial F) (n : ℕ) → ¬ (value x q ≡ G.zero) → ¬ (value x (power R q n) ≡ G.zero)
  value-power x q zero n e = G.one-ne-zero (sym (ap (value x) (Laws.power-zero R q) ∙ (Evaluation.evaluation F G.ring f x).apply-one) ∙ e)
  value-power x q (suc k) n e = FieldLaws.mul-nonzero G (value x q) (value x (power R q k)) n (value-power x q k n)
      (sym (ap (value x) (Laws.power-suc R q k) ∙ Evaluation.value-mul F G.ring f x q (power R q k)) ∙ e)

  -- no factor is 0 at x
  product-nonzero : (x : B) (i : ℕ) (ps : List (Polynomial F)) → Each (λ q. ¬ (value x q ≡ G.zero)) ps → ¬ (value x (product_of_powers F i ps) ≡ G.zero)
  unfolding product_of_powers
  product-nonzero x i [] h e = G.one-ne-zero (sym (Evaluation.evaluation F G.ring f x).apply-one ∙ e)
  product-nonzero x i (p ∷ ps) h e =
      FieldLaws.mul-nonzero G _ _ (value-power x p i h.0) (product-nonzero x (suc i) ps h.1) (sym (Evaluation.value-mul F G.ring f x _ _) ∙ e)

  map-power : (q : Polynomial F) (n : ℕ) → map_polynomial F G f (power R q n) ≡ power S' (map_polynomial F G f q) n
  map-power q zero = ap m (Laws.power-zero R q) ∙ map_polynomial-one F G f ∙ sym (Laws.power-zero S' (m q))
  map-power q (suc n) = ap m (Laws.power-suc R q n) ∙ map_polynomial-mul F G f q (power R q n) ∙ ap (S'.mul (m q)) (map-power q n) ∙ sym (Laws.power-suc S' (m q) n)

  coprime_nonzero : (x : B) (q : Polynomial F) → value x q ≡ G.zero → (ps : List (Polynomial F)) → Each (IsCoprime F q) ps → Each (λ p. ¬ (value x p ≡ G.zero)) ps
  coprime_nonzero x q e [] h = tt
  coprime_nonzero x q e (p ∷ ps) h = (λ z. coprime-at F G f x q p h.0 e z, coprime_nonzero x q e ps h.1)

  -- a root of the part with number k is a root of multiplicity k of the product of the powers
  pub multiplicity-part : HasCharacteristicZero F.ring → (x : B) (k : ℕ) (q : Polynomial F) (i : ℕ) (ps : List (Polynomial F)) → AreParts F ps → IsPart k q i ps → value x q ≡ G.zero
      → IsMultiplicity G (linear G x) (map_polynomial F G f (product_of_powers F i ps)) k
  unfolding product_of_powers
  multiplicity-part char x k q i [] a part e = absurd part
  multiplicity-part char x k q i (p ∷ ps) a (inl h) e =
      subst (IsMultiplicity G (linear G x) (m (R.mul (power R p i) (product_of_powers F (suc i) ps)))) (sym h.0)
      (subst (λ z. IsMultiplicity G (linear G x) z i) (sym (map_polynomial-mul F G f _ _ ∙ ap (λ z. S'.mul z (m (product_of_powers F (suc i) ps))) (map-power p i)))
      (subst (IsMultiplicity G (linear G x) (S'.mul (power S' (m p) i) (m (product_of_powers F (suc i) ps)))) (omega arith)
      (Irreducible.multiplicity-mul G (linear G x) _ _ i 0 (linear-irreducible G x)
      (multiplicity-power G x (m p) (multiplicity_of_simple G x (m p) (value-map_polynomial F G f x p ∙ ep) (simple_root char p (Gcd.monic-nonzero F p a.0) a.1 x ep)) i)
      (multiplicity_of_value G x _ (λ z. product-nonzero x (suc i) ps (coprime_nonzero x p ep ps a.2) (sym (value-map_polynomial F G f x _) ∙ z))))))
    where
      ep : value x p ≡ G.zero
      ep = ap (value x) (sym h.1) ∙ e
  multiplicity-part char x k q i (p ∷ ps) a (inr h) e =
      subst (λ z. IsMultiplicity G (linear G x) z k) (sym (map_polynomial-mul F G f (power R p i) (product_of_powers F (suc i) ps)))
      (subst (IsMultiplicity G (linear G x) (S'.mul (m (power R p i)) (m (product_of_powers F (suc i) ps)))) (omega arith)
      (Irreducible.multiplicity-mul G (linear G x) _ _ 0 k (linear-irreducible G x)
      (multiplicity_of_value G x (m (power R p i)) (λ z. value-power x p i p-nonzero (sym (value-map_polynomial F G f x (power R p i)) ∙ z)))
      (multiplicity-part char x k q (suc i) ps a.3 h e)))
    where
      p-nonzero : ¬ (value x p ≡ G.zero)
      p-nonzero z = coprime-at F G f x p q (each_part (IsCoprime F p) k q (suc i) ps a.2 h) z e

  -- the parts divide C
  pub parts_divide : (i : ℕ) (qs : List (Polynomial F)) (k : ℕ) (q : Polynomial F) → 1 ≤ i → IsPart k q i qs → Divides F q (product_of_powers F i qs)
  unfolding product_of_powers
  parts_divide i [] k q l x = absurd x
  parts_divide zero (r ∷ qs) k q l x = absurd (omega (arith, l))
  parts_divide (suc i) (r ∷ qs) k q l (inl x) = subst (λ y. Divides F y (R.mul (power R r (suc i)) (product_of_powers F (suc (suc i)) qs))) (sym x.1)
      (subst (Divides F r) (R.mul_comm (product_of_powers F (suc (suc i)) qs) (power R r (suc i)))
      (Divides.divides-mul_left F r (product_of_powers F (suc (suc i)) qs) (power R r (suc i)) (subst (Divides F r) (sym (Laws.power-suc R r i)) (Divides.divides-mul_right F r (power R r i)))))
  parts_divide (suc i) (r ∷ qs) k q l (inr x) = Divides.divides-mul_left F q _ _ (parts_divide (suc (suc i)) qs k q (omega arith) x)
