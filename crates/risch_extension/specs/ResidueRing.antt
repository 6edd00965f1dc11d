-- The ring K[z]/(P) for a polynomial P ≠ 0: the remainders modulo P.
use Rattle.std.specs.Prelude.{◌≡◌, ◌<◌}
use Rattle.std.proofs.Common.{refl, sym, ap, ap₂, subst, ◌∙◌}
use mathlib.Core.HLevel.{is_prop→PathP}
use native.Mathlib.Bridge.{le_prop}
use Rattle.risch_ring.specs.CommRing.{CommRing, Field, RingMap}
use Rattle.risch_ring.proofs.Laws as Laws
use Rattle.risch_univariate.specs.Polynomial.{Polynomial}
use Rattle.risch_univariate.specs.Degree.{size}
use Rattle.risch_univariate.specs.Division.{Divides}
use Rattle.risch_univariate.proofs.Division as Division
use Rattle.risch_univariate.proofs.Divides as Divides
use Rattle.risch_univariate.proofs.Identities as Identities
use Rattle.risch_ring.specs.Operators.{operators}
use Rattle.risch_univariate.specs.PolynomialRing.{polynomials}
use Rattle.risch_univariate.specs.PolynomialLaws.{Polynomial-set}

-- a remainder modulo P
pub record ResidueClass {A : Type 0} {F : Field A} (P : Polynomial F) : Type 0 where
  pub representative : Polynomial F
  pub smaller : size F representative < size F P

module _ {A : Type 0} (F : Field A) (P : Polynomial F) where
  abbrev R : CommRing (Polynomial F)
  R = polynomials F

  open (operators R) use {𝟘, 𝟙, ◌+◌, ◌*◌, ◌-◌ as ◌−◌}

  -- remainders with the same polynomial are equal
  pub same_residue : (u v : ResidueClass P) → u.representative ≡ v.representative → u ≡ v
  same_residue u v e = λ i. record {
    representative = e i;
    smaller = is_prop→PathP (λ j. size F (e j) < size F P) (λ j. le_prop) u.smaller v.smaller i;
  }

  -- K[z]/(P) is a set
  pub ResidueClass-set : IsSet (ResidueClass P)
  ResidueClass-set = hlevel (Polynomial-set F, le_prop)

  module _ (nonzero : ¬ (P ≡ 𝟘)) where
    -- the residue class of a
    pub reduce : Polynomial F → ResidueClass P
    reduce a = record { representative = (Division.divide F P nonzero a).remainder; smaller = (Division.divide F P nonzero a).is_division.smaller }

    -- a and the remainder of a differ by a multiple of P
    pub reduce-congruent : (a : Polynomial F) → Divides F P ((reduce a).representative − a)
    unfolding reduce
    reduce-congruent a =
        let d = Division.divide F P nonzero a in
        record {
          cofactor = R.neg d.quotient;
          equation =
              ap (λ z. d.remainder − z) (d.is_division.equation ∙ R.add_comm (d.quotient * P) d.remainder)
              ∙ Identities.sub_add R d.remainder (d.quotient * P) ∙ sym (Laws.neg-mul R d.quotient P);
        }

    -- P | a - b gives that a and b are in one class
    pub reduce_same : (a b : Polynomial F) → Divides F P (a − b) → reduce a ≡ reduce b
    unfolding reduce
    reduce_same a b h =
        let d = Division.divide F P nonzero b in
        same_residue (reduce a) (reduce b)
        ((Division.division_unique F a P (Division.divide F P nonzero a).quotient (Division.divide F P nonzero a).remainder (d.quotient + h.cofactor) d.remainder
        (Division.divide F P nonzero a).is_division
        (record {
          equation =
              sym (Laws.neg-add_cancel R a b) ∙ ap₂ R.add h.equation d.is_division.equation
              ∙ sym (R.add_assoc (h.cofactor * P) (d.quotient * P) d.remainder)
              ∙ ap (λ z. z + d.remainder) (R.add_comm (h.cofactor * P) (d.quotient * P) ∙ sym (Laws.add-mul R d.quotient h.cofactor P));
          smaller = d.is_division.smaller;
        })).1)

    -- the class of the representative of u is u
    pub reduce_representative : (u : ResidueClass P) → reduce u.representative ≡ u
    unfolding reduce
    reduce_representative u = same_residue (reduce u.representative) u
        ((Division.division_unique F u.representative P (Division.divide F P nonzero u.representative).quotient (Division.divide F P nonzero u.representative).remainder 𝟘 u.representative
        (Division.divide F P nonzero u.representative).is_division
        (record { equation = sym (ap (λ z. z + u.representative) (Laws.zero-mul R P) ∙ Laws.zero-add R u.representative); smaller = u.smaller })).1)

    -- u + v
    add_residues : ResidueClass P → ResidueClass P → ResidueClass P
    add_residues u v = reduce (u.representative + v.representative)

    -- u·v
    mul_residues : ResidueClass P → ResidueClass P → ResidueClass P
    mul_residues u v = reduce (u.representative * v.representative)

    -- -u
    neg_residue : ResidueClass P → ResidueClass P
    neg_residue u = reduce (R.neg u.representative)

    -- the operations on classes are those on polynomials
    reduce_add : (a b : Polynomial F) → add_residues (reduce a) (reduce b) ≡ reduce (a + b)
    unfolding add_residues
    reduce_add a b = reduce_same _ _
        (subst (Divides F P) (Identities.add_of_differences R (reduce a).representative a (reduce b).representative b)
        (Divides.divides-add F P _ _ (reduce-congruent a) (reduce-congruent b)))

    reduce_mul : (a b : Polynomial F) → mul_residues (reduce a) (reduce b) ≡ reduce (a * b)
    unfolding mul_residues
    reduce_mul a b = reduce_same _ _
        (subst (Divides F P) (Identities.mul_of_differences R (reduce a).representative a (reduce b).representative b)
        (Divides.divides-add F P _ _
        (Divides.divides-mul_left F P (reduce b).representative _ (reduce-congruent a)) (Divides.divides-mul_left F P a _ (reduce-congruent b))))

    reduce_neg : (a : Polynomial F) → neg_residue (reduce a) ≡ reduce (R.neg a)
    unfolding neg_residue
    reduce_neg a = reduce_same _ _
        (subst (Divides F P) (Identities.neg_of_difference R (reduce a).representative a) (Divides.divides-neg F P _ (reduce-congruent a)))

    residue_add_assoc : (u v w : ResidueClass P) → add_residues (add_residues u v) w ≡ add_residues u (add_residues v w)
    unfolding add_residues
    residue_add_assoc u v w =
        ap (add_residues (add_residues u v)) (sym (reduce_representative w)) ∙ reduce_add (u.representative + v.representative) w.representative
        ∙ ap reduce (R.add_assoc u.representative v.representative w.representative)
        ∙ sym (ap (λ z. add_residues z (add_residues v w)) (sym (reduce_representative u)) ∙ reduce_add u.representative (v.representative + w.representative))

    residue_mul_assoc : (u v w : ResidueClass P) → mul_residues (mul_residues u v) w ≡ mul_residues u (mul_residues v w)
    unfolding mul_residues
    residue_mul_assoc u v w =
        ap (mul_residues (mul_residues u v)) (sym (reduce_representative w)) ∙ reduce_mul (u.representative * v.representative) w.representative
        ∙ ap reduce (R.mul_assoc u.representative v.representative w.representative)
        ∙ sym (ap (λ z. mul_residues z (mul_residues v w)) (sym (reduce_representative u)) ∙ reduce_mul u.representative (v.representative * w.representative))

    residue_mul-add : (u v w : ResidueClass P) → mul_residues u (add_residues v w) ≡ add_residues (mul_residues u v) (mul_residues u w)
    unfolding mul_residues add_residues
    residue_mul-add u v w =
        ap (λ z. mul_residues z (add_residues v w)) (sym (reduce_representative u)) ∙ reduce_mul u.representative (v.representative + w.representative)
        ∙ ap reduce (R.mul-add u.representative v.representative w.representative)
        ∙ sym (reduce_add (u.representative * v.representative) (u.representative * w.representative))

    -- K[z]/(P)
    pub residue_ring : CommRing (ResidueClass P)
    unfolding add_residues mul_residues neg_residue
    residue_ring = record {
      zero = reduce 𝟘;
      one = reduce 𝟙;
      add = add_residues;
      mul = mul_residues;
      neg = neg_residue;
      is_set = ResidueClass-set;
      add_assoc = residue_add_assoc;
      add_comm = λ u v. ap reduce (R.add_comm u.representative v.representative);
      add-zero = λ u.
          ap (λ z. add_residues z (reduce 𝟘)) (sym (reduce_representative u)) ∙ reduce_add u.representative 𝟘 ∙ ap reduce (R.add-zero u.representative) ∙ reduce_representative u;
      add-neg = λ u.
          ap (λ z. add_residues z (neg_residue u)) (sym (reduce_representative u)) ∙ reduce_add u.representative (R.neg u.representative) ∙ ap reduce (R.add-neg u.representative);
      mul_assoc = residue_mul_assoc;
      mul_comm = λ u v. ap reduce (R.mul_comm u.representative v.representative);
      mul-one = λ u.
          ap (λ z. mul_residues z (reduce 𝟙)) (sym (reduce_representative u)) ∙ reduce_mul u.representative 𝟙 ∙ ap reduce (R.mul-one u.representative) ∙ reduce_representative u;
      mul-add = residue_mul-add;
    }

    -- a ↦ the class of a
    pub residue_map : RingMap R residue_ring
    unfolding residue_ring
    residue_map = record {
      apply = reduce;
      apply-one = refl;
      apply-add = λ a b. sym (reduce_add a b);
      apply-mul = λ a b. sym (reduce_mul a b);
    }

    -- the homomorphism is the class
    pub residue_map-apply : (a : Polynomial F) → residue_map.apply a ≡ reduce a
    unfolding residue_map
    residue_map-apply a = refl

    -- the class of a + b is the sum of the classes
    pub reduce-add : (a b : Polynomial F) → reduce (a + b) ≡ residue_ring.add (reduce a) (reduce b)
    unfolding residue_ring
    reduce-add a b = sym (reduce_add a b)

    -- the class of a·b is the product of the classes
    pub reduce-mul : (a b : Polynomial F) → reduce (a * b) ≡ residue_ring.mul (reduce a) (reduce b)
    unfolding residue_ring
    reduce-mul a b = sym (reduce_mul a b)

    -- the class of 0 is 0
    pub reduce-zero : reduce 𝟘 ≡ residue_ring.zero
    unfolding residue_ring
    reduce-zero = refl

    -- the class of 1 is 1
    pub reduce-one : reduce 𝟙 ≡ residue_ring.one
    unfolding residue_ring
    reduce-one = refl

    -- u + v and u·v by representatives
    pub residue_ring-add : (u v : ResidueClass P) → residue_ring.add u v ≡ reduce (u.representative + v.representative)
    unfolding residue_ring add_residues
    residue_ring-add u v = refl

    -- u·v is the class of the product of the representatives
    pub residue_ring-mul : (u v : ResidueClass P) → residue_ring.mul u v ≡ reduce (u.representative * v.representative)
    unfolding residue_ring mul_residues
    residue_ring-mul u v = refl
