-- For d ≠ 0 over K (characteristic 0, with a derivation) there is, not-not, an extension of K with a derivation in which d is a product of linear factors.
use Rattle.std.specs.Prelude.{◌≡◌, ℕ, zero, suc, ◌≤◌, [], ◌∷◌, length, pred}
use Rattle.std.proofs.Common.{refl, sym, ap, ap₂, ◌∙◌, arith, subst}
use native.Mathlib.Decide.{dec_le}
use Rattle.risch_ring.specs.CommRing.{Field, Derivation, HasCharacteristicZero, CommRing}
use Rattle.risch_univariate.specs.Polynomial.{Polynomial, constant, variable, coefficient}
use Rattle.risch_univariate.specs.Degree.{size, IsMonic, leading_coefficient}
use Rattle.risch_univariate.specs.Division.{Divides, IsCoprime, IsIrreducible}
use Rattle.risch_univariate.proofs.Degree as Degree
use Rattle.risch_univariate.proofs.Divides as Divides
use Rattle.risch_univariate.proofs.Irreducible as Irreducible
use Rattle.risch_univariate.proofs.Evaluation as Evaluation
use Rattle.risch_extension.specs.ResidueRing.{ResidueClass}
use Rattle.risch_extension.specs.ResidueField as ResidueField
use Rattle.risch_ring.proofs.RingMaps.{identity_map, compose}
use Rattle.risch_ring.proofs.RingMaps as RingMaps
use Rattle.risch_univariate.specs.PolynomialRing.{polynomials}
use Rattle.risch_univariate.proofs.PolynomialInduction.{polynomial_induction}
use Rattle.risch_extension.specs.PolynomialMap.{map_polynomial}
use Rattle.risch_extension.specs.LinearFactors.{linear, product_of_linear}
use Rattle.risch_extension.proofs.PolynomialMaps.{map_polynomial-mul, map_polynomial-identity, map_polynomial-compose, map_polynomial-nonzero, size-map_polynomial, value-map_polynomial, coefficient-map_polynomial}
use Rattle.risch_extension.proofs.LinearFactors.{map_polynomial-linear, linear-divides, size-linear, product_of_linear-nil, product_of_linear-cons, size-product_of_linear, product_of_linear-is_monic}
use Rattle.risch_extension.specs.Extension.{Extension, Splitting}
use Rattle.risch_ring.specs.Lists.{Distinct}
use Rattle.risch_univariate.proofs.Coefficients.{coefficient-constant_mul}
use Rattle.risch_extension.proofs.Roots.{distinct_of_coprime}
use Rattle.risch_extension.proofs.Extensions.{map-formal_derivative, map-coprime}
use Rattle.risch_ring.proofs.Laws as Laws
use Rattle.risch_univariate.proofs.Gcd as Gcd
use Rattle.risch_univariate.proofs.FormalDerivative as FormalDerivative

-- K itself
trivial_extension : {A : Type 0} (F : Field A) (D : Derivation F.ring) → Extension F D
trivial_extension {A = A} F D = record { carrier = A; field = F; derivation = D; map = identity_map F.ring; map-derive = λ a. refl }

constant_splitting : {A : Type 0} (F : Field A) (D : Derivation F.ring) (d : Polynomial F) → size F d ≤ 1 → Splitting F D d
unfolding trivial_extension
constant_splitting F D d l = record {
  extension = trivial_extension F D;
  unit = coefficient F d 0;
  roots = [];
  equation =
      map_polynomial-identity F d ∙ Degree.constant_of_size F d l
      ∙ sym (ap ((polynomials F).mul (constant F (coefficient F d 0))) (product_of_linear-nil F) ∙ (polynomials F).mul-one (constant F (coefficient F d 0)));
}

module _ {A : Type 0} (F : Field A) (char : HasCharacteristicZero F.ring) (D : Derivation F.ring) (P : Polynomial F) (i : IsIrreducible F P) where
  abbrev E : Field (ResidueClass P)
  E = ResidueField.residue_field F P i

  -- K[z]/(P)
  residue_extension : Extension F D
  residue_extension = record {
    carrier = ResidueClass P;
    field = ResidueField.residue_field F P i;
    derivation = ResidueField.residue_derivation F P i char D;
    map = ResidueField.constant_map F P i;
    map-derive = λ a.
        ap (ResidueField.residue_derivation F P i char D).derive (ResidueField.constant_map-apply F P i a)
        ∙ ResidueField.residue_derivation-constant F P i char D a ∙ sym (ResidueField.constant_map-apply F P i (D.derive a));
  }

  -- the root z
  root : ResidueClass P
  root = ResidueField.class F P i (variable F)

  -- p(z) is the class of p
  value-root : (p : Polynomial F) → Evaluation.value F E.ring (ResidueField.constant_map F P i) root p ≡ ResidueField.class F P i p
  unfolding root
  value-root = polynomial_induction F (λ p. Evaluation.value F E.ring (ResidueField.constant_map F P i) root p ≡ ResidueField.class F P i p)
      (Evaluation.value-zero F E.ring (ResidueField.constant_map F P i) root ∙ sym (ResidueField.class_of_zero F P i))
      (λ a p ih.
      Evaluation.value-horner F E.ring (ResidueField.constant_map F P i) root a p
      ∙ ap₂ (λ y z. E.add y (E.mul (ResidueField.class F P i (variable F)) z)) (ResidueField.constant_map-apply F P i a) ih
      ∙ sym (ResidueField.class-add F P i (constant F a) ((polynomials F).mul (variable F) p)
      ∙ ap (E.add (ResidueField.class F P i (constant F a))) (ResidueField.class-mul F P i (variable F) p)))

  -- t - z | d in K[z]/(P)[t], if P | d
  root-divides : (d : Polynomial F) → Divides F P d → Divides E (linear E root) (map_polynomial F E (ResidueField.constant_map F P i) d)
  root-divides d h = linear-divides E root (map_polynomial F E (ResidueField.constant_map F P i) d)
      (value-map_polynomial F E (ResidueField.constant_map F P i) root d ∙ value-root d ∙ ResidueField.class-divides F P i d h)

-- from K to E to E'
compose_extension : {A : Type 0} (F : Field A) (D : Derivation F.ring) (X : Extension F D) → Extension X.field X.derivation → Extension F D
compose_extension F D X Y = record {
  carrier = Y.carrier;
  field = Y.field;
  derivation = Y.derivation;
  map = compose Y.map X.map;
  map-derive = λ a. Y.map-derive (X.map.apply a) ∙ ap Y.map.apply (X.map-derive a);
}

-- c·Π and one more factor
more_splitting : {A : Type 0} (F : Field A) (D : Derivation F.ring) (d : Polynomial F) (X : Extension F D) (x : X.carrier)
    → (h : Divides X.field (linear X.field x) (map_polynomial F X.field X.map d)) → Splitting X.field X.derivation h.cofactor → Splitting F D d
unfolding compose_extension
more_splitting F D d X x h s =
    let Y = s.extension in
    let S = polynomials Y.field in
    let rest = product_of_linear Y.field s.roots in
    record {
      extension = compose_extension F D X Y;
      unit = s.unit;
      roots = Y.map.apply x ∷ s.roots;
      equation =
          map_polynomial-compose F X.field Y.field X.map Y.map d ∙ ap (map_polynomial X.field Y.field Y.map) h.equation
          ∙ map_polynomial-mul X.field Y.field Y.map h.cofactor (linear X.field x)
          ∙ ap₂ S.mul s.equation (map_polynomial-linear X.field Y.field Y.map x)
          ∙ S.mul_assoc (constant Y.field s.unit) rest (linear Y.field (Y.map.apply x))
          ∙ ap (S.mul (constant Y.field s.unit)) (S.mul_comm rest (linear Y.field (Y.map.apply x)) ∙ sym (product_of_linear-cons Y.field (Y.map.apply x) s.roots));
    }

splitting_in : (n : ℕ) (A : Type 0) (F : Field A) → HasCharacteristicZero F.ring → (D : Derivation F.ring) (d : Polynomial F) → size F d ≤ n → ¬ (d ≡ (polynomials F).zero)
    → ¬ ¬ (Splitting F D d)
splitting_in zero A F char D d l n none = n (Degree.zero_of_size F d (omega (arith, l)))
splitting_in (suc m) A F char D d l n none = go (dec_le (size F d) 1) (λ B G c D' e le ne. splitting_in m B G c D' e le ne)
  where
    go : Dec (size F d ≤ 1)
        → ((B : Type 0) (G : Field B) → HasCharacteristicZero G.ring → (D' : Derivation G.ring) (e : Polynomial G) → size G e ≤ m → ¬ (e ≡ (polynomials G).zero) → ¬ ¬ (Splitting G D' e)) → ⊥
    go (yes small) ih = none (constant_splitting F D d small)
    go (no large) ih = Irreducible.irreducible_factor F d (omega (arith, large)) with_factor
      where
        with_factor : Irreducible.IrreducibleFactor F d → ⊥
        with_factor f = ih (ResidueClass P) E (RingMaps.apply-characteristic F E (ResidueField.constant_map F P f.irreducible) char) (ResidueField.residue_derivation F P f.irreducible char D) h.cofactor
            (let s = Divides.size-cofactor E (linear E x) mapped h nonzero in let t = size-map_polynomial F E (ResidueField.constant_map F P f.irreducible) d in
            let u = size-linear E x in omega (arith, s, t, u, l))
            (Divides.cofactor-nonzero E (linear E x) mapped h nonzero)
            (λ s. none (unfold residue_extension in more_splitting F D d (residue_extension F char D P f.irreducible) x h s))
          where
            P : Polynomial F
            P = f.factor

            E : Field (ResidueClass P)
            E = ResidueField.residue_field F P f.irreducible

            x : ResidueClass P
            x = root F char D P f.irreducible

            mapped : Polynomial E
            mapped = map_polynomial F E (ResidueField.constant_map F P f.irreducible) d

            nonzero : ¬ (mapped ≡ (polynomials E).zero)
            nonzero = map_polynomial-nonzero F E (ResidueField.constant_map F P f.irreducible) d n

            h : Divides E (linear E x) mapped
            h = root-divides F char D P f.irreducible d f.divides

-- d ≠ 0 splits, not-not, in an extension of K
pub splitting : {A : Type 0} (F : Field A) → HasCharacteristicZero F.ring → (D : Derivation F.ring) (d : Polynomial F) → ¬ (d ≡ (polynomials F).zero) → ¬ ¬ (Splitting F D d)
splitting {A = A} F char D d = splitting_in (size F d) A F char D d (omega arith)

-- what is stable and follows from a splitting of d holds
pub by_splitting : {Q : Type 0} → (¬ ¬ Q → Q) → {A : Type 0} (F : Field A) → HasCharacteristicZero F.ring → (D : Derivation F.ring) (d : Polynomial F) → ¬ (d ≡ (polynomials F).zero)
    → (Splitting F D d → Q) → Q
by_splitting stable F char D d n h = stable (λ k. splitting F char D d n (λ s. k (h s)))

-- ---- what a splitting d = c·Π (t - x_i) gives

module _ {A : Type 0} (F : Field A) (D : Derivation F.ring) (d : Polynomial F) (s : Splitting F D d) where
  abbrev G : Field s.extension.carrier
  G = s.extension.field

  abbrev S : CommRing (Polynomial s.extension.field)
  S = polynomials s.extension.field

  abbrev Π : Polynomial s.extension.field
  Π = product_of_linear s.extension.field s.roots

  -- c ≠ 0
  pub splitting-unit_nonzero : ¬ (d ≡ (polynomials F).zero) → ¬ (s.unit ≡ s.extension.field.zero)
  splitting-unit_nonzero n z = map_polynomial-nonzero F G s.extension.map d n
      (s.equation ∙ ap (λ y. S.mul (constant G y) Π) z ∙ ap (λ y. S.mul y Π) (Degree.constant-zero G) ∙ Laws.zero-mul S Π)

  -- deg d is the number of the roots
  pub splitting-size : ¬ (d ≡ (polynomials F).zero) → size F d ≡ suc (length s.roots)
  splitting-size n =
      sym (size-map_polynomial F G s.extension.map d) ∙ ap (size G) s.equation ∙ Degree.size-constant_mul G s.unit Π (splitting-unit_nonzero n)
      ∙ size-product_of_linear G s.roots

  -- a monic d is Π (t - x_i)
  pub monic-splitting : IsMonic F d → map_polynomial F s.extension.field s.extension.map d ≡ product_of_linear s.extension.field s.roots
  monic-splitting m = s.equation ∙ ap (λ z. S.mul (constant G z) Π) unit-one ∙ ap (λ z. S.mul z Π) (Degree.constant-one G) ∙ Laws.one-mul S Π
    where
      unit-one : s.unit ≡ s.extension.field.one
      unit-one =
          sym (G.mul-one s.unit)
          ∙ ap (G.mul s.unit) (sym (product_of_linear-is_monic G s.roots))
          ∙ ap (λ n. G.mul s.unit (coefficient G Π (pred n))) (sym (Degree.size-constant_mul G s.unit Π (splitting-unit_nonzero (Gcd.monic-nonzero F d m))))
          ∙ sym (coefficient-constant_mul G s.unit Π (pred (size G (S.mul (constant G s.unit) Π))))
          ∙ ap (leading_coefficient G) (sym s.equation)
          ∙ coefficient-map_polynomial F G s.extension.map d _
          ∙ ap (λ n. s.extension.map.apply (coefficient F d (pred n))) (size-map_polynomial F G s.extension.map d) ∙ ap s.extension.map.apply m ∙ s.extension.map.apply-one

  -- gcd(d, ∂d) = 1 makes the x_i distinct
  pub splitting-distinct : IsCoprime F d (FormalDerivative.formal_derivative F d) → Distinct s.roots
  splitting-distinct c = distinct_of_coprime G s.unit s.roots
      (subst (λ z. IsCoprime G z (FormalDerivative.formal_derivative G z)) s.equation
      (subst (IsCoprime G (map_polynomial F G s.extension.map d)) (map-formal_derivative F G s.extension.map d) (map-coprime F G s.extension.map d _ c)))
