-- Roots grouped by their residues: for d = Π (t - τ_j) with distinct τ_j, gcd(d, p) is the product over the group of the τ_j with p(τ_j) = 0;
-- the logarithmic derivative of a product is the sum of those of the factors; and a sum over the groups is the sum over all τ_j.
use Rattle.std.specs.Prelude.{◌≡◌, List, [], ◌∷◌}
use Rattle.std.proofs.Common.{refl, sym, ap, ap₂, subst, ◌∙◌, inl, inr}
use Rattle.risch_ring.specs.CommRing.{CommRing, Field, Derivation}
use Rattle.risch_ring.specs.Sums.{sum_over}
use Rattle.risch_ring.proofs.Laws as Laws
use Rattle.risch_ring.proofs.Sums as RingSums
use Rattle.risch_ring.proofs.Derivations as Derivations
use Rattle.risch_univariate.specs.Polynomial.{Polynomial}
use Rattle.risch_fraction_field.specs.Fraction.{Fraction, of_polynomial}
use Rattle.risch_univariate.specs.PolynomialRing.{polynomials}
use Rattle.risch_fraction_field.specs.FractionField.{fractions}
use Rattle.risch_extension.specs.LinearFactors.{value_at, linear, product_of_linear}
use Rattle.risch_extension.proofs.LinearFactors.{product_of_linear-nil, product_of_linear-cons, linear-nonzero, product_of_linear-nonzero}
use Rattle.risch_ring.specs.Lists.{Each, Distinct, Member}
use Rattle.risch_ring.specs.LogarithmicDerivative.{logarithmic_derivative}
use Rattle.risch_fraction_field.specs.Representation.{of_polynomial-mul, of_polynomial-one, of_polynomial-nonzero}
use Rattle.risch_ring.proofs.QuotientRule as QuotientRule
use Rattle.risch_extension.proofs.GcdAtRoots.{roots_of}

module _ {A : Type 0} (F : Field A) where
  abbrev R : CommRing (Polynomial F)
  R = polynomials F

  abbrev K : Field (Fraction F)
  K = fractions F

  abbrev Π : List A → Polynomial F
  Π = product_of_linear F

  -- the logarithmic derivative of a product
  pub logarithmic_derivative-product : (D : Derivation (fractions F).ring) (xs : List A)
      → logarithmic_derivative (fractions F) D (of_polynomial F (product_of_linear F xs)) ≡ sum_over (fractions F).ring (λ x. logarithmic_derivative (fractions F) D (of_polynomial F (linear F x))) xs
  unfolding sum_over
  logarithmic_derivative-product D [] =
      ap (logarithmic_derivative K D) (ap (of_polynomial F) (product_of_linear-nil F) ∙ of_polynomial-one F)
      ∙ ap (λ z. K.mul z (K.inverse K.one)) (Derivations.derive-one D) ∙ Laws.zero-mul K.ring (K.inverse K.one)
  logarithmic_derivative-product D (x ∷ xs) =
      ap (logarithmic_derivative K D) (ap (of_polynomial F) (product_of_linear-cons F x xs) ∙ of_polynomial-mul F (linear F x) (Π xs))
      ∙ QuotientRule.logarithmic_derivative-mul K D (of_polynomial F (linear F x)) (of_polynomial F (Π xs)) (of_polynomial-nonzero F (linear F x) (linear-nonzero F x)) (of_polynomial-nonzero F (Π xs) (product_of_linear-nonzero F xs))
      ∙ ap (K.add (logarithmic_derivative K D (of_polynomial F (linear F x)))) (logarithmic_derivative-product D xs)

  -- ---- sums over groups

  module _ {B : Type 0} (S : CommRing B) (p : A → Polynomial F) (g : A → B) where
    -- g(τ) if p_β(τ) = 0, else 0
    part : A → A → B
    part τ β = elim (F.is_zero (value_at F τ (p β))) [ yes e ↦ g τ | no n ↦ S.zero ]

    sum-group-cons : (τ : A) (τs : List A) (β : A) → sum_over S g (roots_of F (p β) (τ ∷ τs)) ≡ S.add (part τ β) (sum_over S g (roots_of F (p β) τs))
    unfolding roots_of part sum_over
    sum-group-cons τ τs β = go (F.is_zero (value_at F τ (p β)))
      where
        go : (d : Dec (value_at F τ (p β) ≡ F.zero))
            → sum_over S g (elim d as (λ z. List A) [ yes e ↦ τ ∷ roots_of F (p β) τs | no n ↦ roots_of F (p β) τs ])
            ≡ S.add (elim d as (λ z. B) [ yes e ↦ g τ | no n ↦ S.zero ]) (sum_over S g (roots_of F (p β) τs))
        go (yes e) = refl
        go (no n) = sym (Laws.zero-add S _)

    part-yes : (τ β : A) → value_at F τ (p β) ≡ F.zero → part τ β ≡ g τ
    unfolding part
    part-yes τ β h = go (F.is_zero (value_at F τ (p β)))
      where
        go : (d : Dec (value_at F τ (p β) ≡ F.zero)) → elim d as (λ z. B) [ yes e ↦ g τ | no n ↦ S.zero ] ≡ g τ
        go (yes e) = refl
        go (no n) = absurd (n h)

    part-no : (τ β : A) → ¬ (value_at F τ (p β) ≡ F.zero) → part τ β ≡ S.zero
    unfolding part
    part-no τ β h = go (F.is_zero (value_at F τ (p β)))
      where
        go : (d : Dec (value_at F τ (p β) ≡ F.zero)) → elim d as (λ z. B) [ yes e ↦ g τ | no n ↦ S.zero ] ≡ S.zero
        go (yes e) = absurd (h e)
        go (no n) = refl

    -- no β in the list is b
    parts-zero : (τ b : A) → ((β : A) → value_at F τ (p β) ≡ F.zero → β ≡ b) → (βs : List A) → Each (λ β. ¬ (b ≡ β)) βs → sum_over S (part τ) βs ≡ S.zero
    unfolding sum_over
    parts-zero τ b u [] h = refl
    parts-zero τ b u (β ∷ βs) h = ap₂ S.add (part-no τ β (λ e. h.0 (sym (u β e)))) (parts-zero τ b u βs h.1) ∙ S.add-zero S.zero

    -- exactly one β in the list is b
    parts-one : (τ b : A) → value_at F τ (p b) ≡ F.zero → ((β : A) → value_at F τ (p β) ≡ F.zero → β ≡ b) → (βs : List A) → Distinct βs → Member b βs
        → sum_over S (part τ) βs ≡ g τ
    unfolding sum_over
    parts-one τ b z u [] d m = absurd m
    parts-one τ b z u (β ∷ βs) d (inl e) =
        ap₂ S.add (part-yes τ β (subst (λ x. value_at F τ (p x) ≡ F.zero) e z)) (parts-zero τ b u βs (subst (λ x. Each (λ y. ¬ (x ≡ y)) βs) (sym e) d.0))
        ∙ S.add-zero (g τ)
    parts-one τ b z u (β ∷ βs) d (inr m) =
        ap₂ S.add (part-no τ β (λ h. different β βs d.0 m (u β h))) (parts-one τ b z u βs d.1 m) ∙ Laws.zero-add S (g τ)
      where
        different : (β : A) (ys : List A) → Each (λ y. ¬ (β ≡ y)) ys → Member b ys → β ≡ b → ⊥
        different β [] h m' e = m'
        different β (y ∷ ys) h (inl k) e = h.0 (e ∙ k)
        different β (y ∷ ys) h (inr k) e = different β ys h.1 k e

    -- a sum over the groups of the β is the sum over all τ, if each τ belongs to exactly one β
    pub sum-groups : (ρ : A → A) (βs : List A) → Distinct βs → (τs : List A)
        → ((τ : A) → Member τ τs → Member (ρ τ) βs × ((value_at F τ (p (ρ τ)) ≡ F.zero) × ((β : A) → value_at F τ (p β) ≡ F.zero → β ≡ ρ τ)))
        → sum_over S (λ β. sum_over S g (roots_of F (p β) τs)) βs ≡ sum_over S g τs
    unfolding sum_over roots_of
    sum-groups ρ βs d [] h = RingSums.sum_over-zero S βs
    sum-groups ρ βs d (τ ∷ τs) h =
        RingSums.sum_over-ext S _ (λ β. S.add (part τ β) (sum_over S g (roots_of F (p β) τs))) (λ β. sum-group-cons τ τs β) βs
        ∙ RingSums.sum_over-add S (part τ) (λ β. sum_over S g (roots_of F (p β) τs)) βs
        ∙ ap₂ S.add (let k = h τ (inl refl) in parts-one τ (ρ τ) k.1.0 k.1.1 βs d k.0) (sum-groups ρ βs d τs (λ x m. h x (inr m)))
