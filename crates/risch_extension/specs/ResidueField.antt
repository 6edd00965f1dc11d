-- K[z]/(P) for an irreducible P: a field, and in characteristic 0 a derivation of K extends to it.
use Rattle.std.specs.Prelude.{◌≡◌, ◌⊎◌}
use Rattle.std.proofs.Common.{refl, sym, ap, ap₂, subst, ◌∙◌, arith, inl, inr}
use Rattle.risch_ring.specs.CommRing.{CommRing, Field, RingMap, Derivation, sub, HasCharacteristicZero}
use Rattle.risch_ring.proofs.Laws as Laws
use Rattle.risch_univariate.specs.Polynomial.{Polynomial, constant}
use Rattle.risch_univariate.specs.Division.{Divides, IsCoprime, IsIrreducible}
use Rattle.risch_univariate.proofs.Degree as Degree
use Rattle.risch_univariate.proofs.Divides as Divides
use Rattle.risch_univariate.proofs.Gcd as Gcd
use Rattle.risch_univariate.proofs.Irreducible as Irreducible
use Rattle.risch_univariate.proofs.SquareFree as SquareFree
use Rattle.risch_univariate.proofs.Derivation as Derivation
use Rattle.risch_univariate.proofs.FormalDerivative as FormalDerivative
use Rattle.risch_extension.specs.ResidueRing.{ResidueClass, reduce, residue_ring, reduce_same, reduce_representative, reduce-congruent, reduce-add, reduce-mul, reduce-zero, reduce-one}
use Rattle.risch_ring.proofs.Derivations as Derivations
use Rattle.risch_univariate.proofs.Identities as Identities
use Rattle.risch_univariate.specs.PolynomialRing.{polynomials}

module _ {A : Type 0} (F : Field A) (P : Polynomial F) (irreducible : IsIrreducible F P) where
  abbrev R : CommRing (Polynomial F)
  R = polynomials F

  nonzero : ¬ (P ≡ R.zero)
  nonzero = Irreducible.irreducible-nonzero F P irreducible

  abbrev E : CommRing (ResidueClass P)
  E = residue_ring F P nonzero

  -- the class of a
  pub class : Polynomial F → ResidueClass P
  class a = reduce F P nonzero a

  class-zero : class R.zero ≡ E.zero
  unfolding class
  class-zero = reduce-zero F P nonzero

  -- u = 0 iff its representative is 0
  zero_of_representative : (u : ResidueClass P) → u.representative ≡ R.zero → u ≡ E.zero
  zero_of_representative u e = sym (reduce_representative F P nonzero u) ∙ ap (reduce F P nonzero) e ∙ reduce-zero F P nonzero

  -- P | a iff the class of a is 0
  zero_of_divides : (a : Polynomial F) → Divides F P a → class a ≡ E.zero
  unfolding class
  zero_of_divides a h =
      reduce_same F P nonzero a R.zero (subst (Divides F P) (sym (ap (R.add a) (Laws.neg-zero R) ∙ R.add-zero a)) h) ∙ reduce-zero F P nonzero

  divides_of_class : (a b : Polynomial F) → class a ≡ class b → Divides F P (sub R a b)
  unfolding class
  divides_of_class a b e =
      subst (Divides F P) (Identities.sub_of_differences R (reduce F P nonzero a).representative a b)
      (Divides.divides-sub F P _ _
      (subst (λ z. Divides F P (sub R z.representative b)) (sym e) (reduce-congruent F P nonzero b)) (reduce-congruent F P nonzero a))

  representative_of_zero : (u : ResidueClass P) → u ≡ E.zero → u.representative ≡ R.zero
  representative_of_zero u e = elim (Degree.dec_zero F u.representative) [
    | yes z ↦ z
    | no n ↦
        let d = divides_of_class u.representative R.zero (unfold class in (reduce_representative F P nonzero u ∙ e ∙ sym (reduce-zero F P nonzero))) in
        let l = Divides.size-divides F P u.representative (subst (Divides F P) (ap (R.add u.representative) (Laws.neg-zero R) ∙ R.add-zero u.representative) d) n in
        let k = u.smaller in
        absurd (omega (arith, l, k))
  ]

  dec_residue_zero : (u : ResidueClass P) → Dec (u ≡ E.zero)
  dec_residue_zero u = go (Degree.dec_zero F u.representative)
    where
      go : Dec (u.representative ≡ R.zero) → Dec (u ≡ E.zero)
      go (yes e) = yes (zero_of_representative u e)
      go (no n) = no (λ e. n (representative_of_zero u e))

  -- the inverse by Bezout's identity
  invert : (u : ResidueClass P) → IsCoprime F P u.representative ⊎ Divides F P u.representative → ResidueClass P
  invert u (inl c) = class c.right
  invert u (inr d) = u

  mul-invert : (u : ResidueClass P) (h : IsCoprime F P u.representative ⊎ Divides F P u.representative) → ¬ (u ≡ E.zero) → E.mul u (invert u h) ≡ E.one
  unfolding invert class
  mul-invert u (inl c) n =
      ap (λ z. E.mul z (reduce F P nonzero c.right)) (sym (reduce_representative F P nonzero u)) ∙ sym (reduce-mul F P nonzero u.representative c.right)
      ∙ reduce_same F P nonzero (R.mul u.representative c.right) R.one
      (subst (λ z. Divides F P (sub R z R.one)) (R.mul_comm c.right u.representative)
      (Gcd.modular_inverse F u.representative P
      (record { left = c.right; right = c.left; equation = R.add_comm (R.mul c.right u.representative) (R.mul c.left P) ∙ c.equation })))
      ∙ reduce-one F P nonzero
  mul-invert u (inr d) n = absurd (n (sym (reduce_representative F P nonzero u) ∙ unfold class in zero_of_divides u.representative d))

  -- the field K[z]/(P)
  pub residue_field : Field (ResidueClass P)
  residue_field = record {
    ring = E;
    inverse = λ u. invert u (Irreducible.irreducible-coprime F P u.representative irreducible);
    is_zero = dec_residue_zero;
    one-ne-zero = λ e. Irreducible.irreducible-not_unit F P irreducible
        (subst (Divides F P) (ap (R.add R.one) (Laws.neg-zero R) ∙ R.add-zero R.one)
        (divides_of_class R.one R.zero (unfold class in (reduce-one F P nonzero ∙ e ∙ sym (reduce-zero F P nonzero)))));
    mul-inverse = λ u n. mul-invert u (Irreducible.irreducible-coprime F P u.representative irreducible) n;
  }

  -- the class of a + b is the sum of the classes
  pub class-add : (a b : Polynomial F) → class (R.add a b) ≡ residue_field.add (class a) (class b)
  unfolding class residue_field
  class-add = reduce-add F P nonzero

  -- the class of a·b is the product of the classes
  pub class-mul : (a b : Polynomial F) → class (R.mul a b) ≡ residue_field.mul (class a) (class b)
  unfolding class residue_field
  class-mul = reduce-mul F P nonzero

  -- the class of 1 is 1
  pub class-one : class R.one ≡ residue_field.one
  unfolding class residue_field
  class-one = reduce-one F P nonzero

  -- the class of 0 is 0
  pub class_of_zero : class R.zero ≡ residue_field.zero
  unfolding residue_field
  class_of_zero = class-zero

  -- P(z) = 0: the class of a multiple of P is 0
  pub class-divides : (a : Polynomial F) → Divides F P a → class a ≡ residue_field.zero
  unfolding residue_field
  class-divides = zero_of_divides

  -- the class of the representative of u is u
  pub class_representative : (u : ResidueClass P) → class u.representative ≡ u
  unfolding class
  class_representative = reduce_representative F P nonzero

  -- K[z] → K[z]/(P)
  pub class_map : RingMap R residue_field.ring
  class_map = record { apply = class; apply-one = class-one; apply-add = class-add; apply-mul = class-mul }

  -- K → K[z]/(P)
  pub constant_map : RingMap F.ring residue_field.ring
  constant_map = record {
    apply = λ a. class (constant F a);
    apply-one = ap class (Degree.constant-one F) ∙ class-one;
    apply-add = λ a b. ap class (Degree.constant-add F a b) ∙ class-add (constant F a) (constant F b);
    apply-mul = λ a b. ap class (Degree.constant-mul F a b) ∙ class-mul (constant F a) (constant F b);
  }

  -- a in K goes to the class of the constant a
  pub constant_map-apply : (a : A) → constant_map.apply a ≡ class (constant F a)
  unfolding constant_map
  constant_map-apply a = refl

  -- ---- the derivation

  module _ (char : HasCharacteristicZero F.ring) (D : Derivation F.ring) where
    ∂P : Polynomial F
    ∂P = FormalDerivative.formal_derivative F P

    κP : Polynomial F
    κP = FormalDerivative.coefficientwise F D P

    -- gcd(P, ∂P) = 1
    separable : IsCoprime F P (FormalDerivative.formal_derivative F P)
    separable = go (Irreducible.irreducible-coprime F P (FormalDerivative.formal_derivative F P) irreducible)
      where
        go : IsCoprime F P (FormalDerivative.formal_derivative F P) ⊎ Divides F P (FormalDerivative.formal_derivative F P) → IsCoprime F P (FormalDerivative.formal_derivative F P)
        go (inl c) = c
        go (inr d) = absurd (SquareFree.irreducible-not_divides-derivative F char P irreducible d)

    -- Dz = -κ_D(P)/∂P modulo P
    pub root_derivative : Polynomial F
    root_derivative = R.neg (R.mul (FormalDerivative.coefficientwise F D P) separable.right)

    -- the derivation of K[z] with this Dz
    lifted : Polynomial F → Polynomial F
    lifted = Derivation.derive_polynomial F D root_derivative

    lifted-add : (a b : Polynomial F) → lifted (R.add a b) ≡ R.add (lifted a) (lifted b)
    unfolding lifted
    lifted-add = Derivation.derive_polynomial-add F D root_derivative

    lifted-mul : (a b : Polynomial F) → lifted (R.mul a b) ≡ R.add (R.mul (lifted a) b) (R.mul a (lifted b))
    unfolding lifted
    lifted-mul = Derivation.derive_polynomial-mul F D root_derivative

    lifted-neg : (a : Polynomial F) → lifted (R.neg a) ≡ R.neg (lifted a)
    unfolding lifted
    lifted-neg = Derivations.derive-neg (Derivation.derivation F D root_derivative)

    -- P | D(P)
    divides-derivative : Divides F P (lifted P)
    unfolding lifted root_derivative
    divides-derivative = record {
      cofactor = R.mul (FormalDerivative.coefficientwise F D P) separable.left;
      equation =
          FormalDerivative.derive_polynomial-split F D root_derivative P
          ∙ Identities.root_derivative R (FormalDerivative.coefficientwise F D P) separable.left P separable.right (FormalDerivative.formal_derivative F P) separable.equation;
    }

    -- P | a gives P | D(a)
    divides-lifted : (a : Polynomial F) → Divides F P a → Divides F P (lifted a)
    divides-lifted a h = subst (λ z. Divides F P (lifted z)) (sym h.equation)
        (subst (Divides F P) (sym (lifted-mul h.cofactor P))
        (Divides.divides-add F P _ _ (Divides.divides-mul F (lifted h.cofactor) P) (Divides.divides-mul_left F P h.cofactor (lifted P) divides-derivative)))

    -- the class of D(a) depends on the class of a alone
    lifted_same : (a b : Polynomial F) → class a ≡ class b → class (lifted a) ≡ class (lifted b)
    unfolding class
    lifted_same a b e =
        reduce_same F P nonzero (lifted a) (lifted b)
        (subst (Divides F P) (lifted-add a (R.neg b) ∙ ap (R.add (lifted a)) (lifted-neg b)) (divides-lifted (sub R a b) (divides_of_class a b e)))

    derive_residue : ResidueClass P → ResidueClass P
    derive_residue u = class (lifted u.representative)

    derive_class : (a : Polynomial F) → derive_residue (class a) ≡ class (lifted a)
    unfolding derive_residue
    derive_class a = lifted_same (class a).representative a (class_representative (class a))

    -- the derivation of K[z]/(P)
    pub residue_derivation : Derivation residue_field.ring
    unfolding derive_residue
    residue_derivation = record {
      derive = derive_residue;
      derive-add = λ u v.
          ap derive_residue (ap₂ residue_field.add (sym (class_representative u)) (sym (class_representative v)) ∙ sym (class-add u.representative v.representative))
          ∙ derive_class (R.add u.representative v.representative)
          ∙ ap class (lifted-add u.representative v.representative)
          ∙ class-add (lifted u.representative) (lifted v.representative);
      derive-mul = λ u v.
          ap derive_residue (ap₂ residue_field.mul (sym (class_representative u)) (sym (class_representative v)) ∙ sym (class-mul u.representative v.representative))
          ∙ derive_class (R.mul u.representative v.representative)
          ∙ ap class (lifted-mul u.representative v.representative)
          ∙ class-add (R.mul (lifted u.representative) v.representative) (R.mul u.representative (lifted v.representative))
          ∙ ap₂ residue_field.add
          (class-mul (lifted u.representative) v.representative ∙ ap (residue_field.mul (class (lifted u.representative))) (class_representative v))
          (class-mul u.representative (lifted v.representative) ∙ ap (λ z. residue_field.mul z (class (lifted v.representative))) (class_representative u));
    }

    -- it is D on K
    pub residue_derivation-constant : (a : A) → residue_derivation.derive (class (constant F a)) ≡ class (constant F (D.derive a))
    unfolding residue_derivation lifted
    residue_derivation-constant a =
        derive_class (constant F a) ∙ ap class (Derivation.derive_polynomial-constant F D root_derivative a)
