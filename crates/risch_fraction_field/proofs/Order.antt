-- Laws of the order of a rational function at an irreducible p: products, sums and derivatives.
use Rattle.std.specs.Prelude.{◌≡◌, ℕ, suc, ◌+◌, ◌<◌, ◌-◌}
use Rattle.std.proofs.Common.{refl, sym, ap, ap₂, subst, ◌∙◌, arith}
use Rattle.risch_ring.specs.CommRing.{CommRing, Field, Derivation, of_nat, sub, HasCharacteristicZero}
use Rattle.risch_ring.proofs.Laws as Laws
use Rattle.risch_univariate.specs.Polynomial.{Polynomial}
use Rattle.risch_univariate.specs.Division.{IsIrreducible, IsMultiplicity}
use Rattle.risch_univariate.proofs.Degree as Degree
use Rattle.risch_univariate.proofs.Divides as Divides
use Rattle.risch_univariate.proofs.Irreducible as Irreducible
use Rattle.risch_univariate.proofs.Multiplicity as Multiplicity
use Rattle.risch_univariate.proofs.SplittingFactorization as SplittingFactorizations
use Rattle.risch_fraction_field.specs.Fraction.{Fraction, Represents, denominator-nonzero}
use Rattle.risch_fraction_field.specs.FractionDerivation.{fraction_derivation, represents-derive, quotient_numerator}
use Rattle.risch_univariate.proofs.QuotientIdentities as QuotientIdentities
use Rattle.risch_univariate.specs.PolynomialOperators.{polynomial_operators}
use Rattle.risch_univariate.specs.PolynomialRing.{polynomials}
use Rattle.risch_fraction_field.specs.Representation.{represents-add, represents-mul, numerator-nonzero}
use Rattle.risch_fraction_field.specs.FractionLaws.{represents_same}
use Rattle.risch_fraction_field.specs.FractionField.{fractions}
use Rattle.risch_fraction_field.specs.Order.{IsOrder, HasOrderAtLeast}

module _ {A : Type 0} (F : Field A) where
  abbrev R : CommRing (Polynomial F)
  R = polynomials F

  abbrev K : Field (Fraction F)
  K = fractions F

  open (polynomial_operators F) use {𝟘, 𝟙, ◌+◌ as ◌+ₚ◌, ◌*◌, ◌^◌, ◌∣◌}

  -- an order is a lower bound of the order
  pub at_least_of_order : (p : Polynomial F) (f : Fraction F) (m n : ℕ) → IsOrder F p f m n → HasOrderAtLeast F p f m n
  at_least_of_order p f m n h = record { left = h.left; right = h.right; represents = h.represents; not_divides_right = h.not_divides_right }

  -- f = a/b = c/d gives a·d = c·b
  represents_cross : (f : Fraction F) (a b c d : Polynomial F) → Represents F f a b → Represents F f c d → a * d ≡ c * b
  represents_cross f a b c d h k = Degree.mul_polynomials_cancel F f.denominator (a * d) (c * b) (denominator-nonzero F f)
      (QuotientIdentities.cross_of_both R f.numerator f.denominator a b c d h k)

  -- a/b = (p·a)/(p·b)
  represents_extend : (f : Fraction F) (p a b : Polynomial F) → ¬ (b ≡ 𝟘) → Represents F f a b → Represents F f (p * a) (p * b)
  represents_extend f p a b n h = represents_same F f a b (p * a) (p * b) n h (Laws.mul_swap R a p b)

  module _ (p : Polynomial F) (i : IsIrreducible F p) where
    nz : ¬ (p ≡ 𝟘)
    nz = Irreducible.irreducible-nonzero F p i

    -- every f ≠ 0 has an order at p
    pub record Order (f : Fraction F) : Type 0 where
      pub up : ℕ
      pub down : ℕ
      pub is_order : IsOrder F p f up down

    -- the order of f ≠ 0 at p by the multiplicities of numerator and denominator
    pub order_of : (f : Fraction F) → ¬ (f ≡ K.zero) → Order f
    order_of f h =
        let a = Irreducible.multiplicity_of F p f.numerator i.not_constant (numerator-nonzero F f h) in
        let b = Irreducible.multiplicity_of F p f.denominator i.not_constant (denominator-nonzero F f) in
        record {
          up = a.exponent;
          down = b.exponent;
          is_order = record {
            left = a.is_multiplicity.cofactor;
            right = b.is_multiplicity.cofactor;
            represents = ap₂ R.mul a.is_multiplicity.equation refl ∙ ap (R.mul (p ^ a.exponent * a.is_multiplicity.cofactor)) (sym b.is_multiplicity.equation);
            not_divides_left = a.is_multiplicity.not_divides;
            not_divides_right = b.is_multiplicity.not_divides;
          };
        }

    -- the order is unique
    pub order_unique : (f : Fraction F) (m n m' n' : ℕ) → IsOrder F p f m n → IsOrder F p f m' n' → m + n' ≡ m' + n
    order_unique f m n m' n' h k =
        Irreducible.multiplicity_unique F p (p ^ m * h.left * (p ^ n' * k.right)) (m + n') (m' + n) nz
        (Irreducible.multiplicity-mul F p _ _ m n' i (Multiplicity.multiplicity-power_mul F p m h.left h.not_divides_left) (Multiplicity.multiplicity-power_mul F p n' k.right k.not_divides_right))
        (subst (λ z. IsMultiplicity F p z (m' + n)) (sym (represents_cross f _ _ _ _ h.represents k.represents))
        (Irreducible.multiplicity-mul F p _ _ m' n i (Multiplicity.multiplicity-power_mul F p m' k.left k.not_divides_left) (Multiplicity.multiplicity-power_mul F p n h.right h.not_divides_right)))

    -- p^m·a·(p^n·b) = p^(m + n)·(a·b)
    powers-mul : (m n : ℕ) (a b : Polynomial F) → p ^ m * a * (p ^ n * b) ≡ p ^ (m + n) * (a * b)
    powers-mul m n a b = Laws.mul_exchange R (p ^ m) a (p ^ n) b ∙ ap (λ z. z * (a * b)) (sym (Laws.power-add R p m n))

    -- orders of a product add up
    pub order-mul : (f g : Fraction F) (m n m' n' : ℕ) → IsOrder F p f m n → IsOrder F p g m' n' → IsOrder F p (K.mul f g) (m + m') (n + n')
    order-mul f g m n m' n' h k = record {
      left = h.left * k.left;
      right = h.right * k.right;
      represents =
          subst (λ z. Represents F (K.mul f g) z (p ^ (n + n') * (h.right * k.right))) (powers-mul m m' h.left k.left)
          (subst (λ z. Represents F (K.mul f g) (p ^ m * h.left * (p ^ m' * k.left)) z) (powers-mul n n' h.right k.right)
          (represents-mul F f g _ _ _ _ h.represents k.represents));
      not_divides_left = Irreducible.not_divides-mul F p h.left k.left i h.not_divides_left k.not_divides_left;
      not_divides_right = Irreducible.not_divides-mul F p h.right k.right i h.not_divides_right k.not_divides_right;
    }

    -- the order of f + g is that of f, if that of g is larger
    pub order-add : (f g : Fraction F) (m n m' n' : ℕ) → IsOrder F p f m n → HasOrderAtLeast F p g m' n' → m + n' < m' + n → IsOrder F p (K.add f g) (m + n') (n + n')
    order-add f g m n m' n' h k l = record {
      left = h.left * k.right +ₚ p ^ gap * (k.left * h.right);
      right = h.right * k.right;
      represents =
          subst (λ z. Represents F (K.add f g) z (p ^ (n + n') * (h.right * k.right))) numerator
          (subst (λ z. Represents F (K.add f g) (p ^ m * h.left * (p ^ n' * k.right) +ₚ p ^ m' * k.left * (p ^ n * h.right)) z) (powers-mul n n' h.right k.right)
          (represents-add F f g _ _ _ _ h.represents k.represents));
      not_divides_left = λ d. Irreducible.not_divides-mul F p h.left k.right i h.not_divides_left k.not_divides_right
          (Divides.divides_of_add F p (p ^ gap * (k.left * h.right)) (h.left * k.right)
          (Divides.divides_trans F p (p ^ gap) (p ^ gap * (k.left * h.right)) gap-divides (Divides.divides-mul_right F (p ^ gap) (k.left * h.right)))
          (subst (λ z. p ∣ z) (R.add_comm (h.left * k.right) (p ^ gap * (k.left * h.right))) d));
      not_divides_right = Irreducible.not_divides-mul F p h.right k.right i h.not_divides_right k.not_divides_right;
    }
      where
        gap : ℕ
        gap = suc (m' + n - suc (m + n'))

        gap-divides : p ∣ p ^ gap
        gap-divides = subst (λ z. p ∣ z) (sym (Laws.power-suc R p (m' + n - suc (m + n')))) (Divides.divides-mul_right F p (p ^ (m' + n - suc (m + n'))))

        exponents : m' + n ≡ m + n' + gap
        exponents = omega (arith, l)

        powers : p ^ m' * p ^ n ≡ p ^ m * p ^ n' * p ^ gap
        powers =
            sym (Laws.power-add R p m' n) ∙ ap (λ e. p ^ e) exponents ∙ Laws.power-add R p (m + n') gap
            ∙ ap (λ z. z * p ^ gap) (Laws.power-add R p m n')

        numerator : p ^ m * h.left * (p ^ n' * k.right) +ₚ p ^ m' * k.left * (p ^ n * h.right) ≡ p ^ (m + n') * (h.left * k.right +ₚ p ^ gap * (k.left * h.right))
        numerator =
            QuotientIdentities.order_sum R (p ^ m) (p ^ n) (p ^ m') (p ^ n') h.left h.right k.left k.right (p ^ gap) powers
            ∙ ap (λ z. z * (h.left * k.right +ₚ p ^ gap * (k.left * h.right))) (sym (Laws.power-add R p m n'))

    -- ---- derivatives

    module _ (char : HasCharacteristicZero F.ring) (D : Derivation R) where
      -- D(f) = p^(m + n)·(..) / (p^(2·n + 1)·b²) for f = p^m·a / (p^n·b)
      derive_numerator : (m n : ℕ) (a b : Polynomial F) → Polynomial F
      derive_numerator m n a b = sub R ((of_nat R m * (D.derive p * a) +ₚ p * D.derive a) * b) (a * (of_nat R n * (D.derive p * b) +ₚ p * D.derive b))

      derive_represents : (f : Fraction F) (m n : ℕ) (a b : Polynomial F) → ¬ (b ≡ 𝟘) → Represents F f (p ^ m * a) (p ^ n * b)
          → Represents F ((fraction_derivation F D).derive f) (p ^ (m + n) * derive_numerator m n a b) (p ^ (n + n + 1) * (b * b))
      unfolding derive_numerator
      derive_represents f m n a b nb h =
          subst (λ z. Represents F ((fraction_derivation F D).derive f) z (p ^ (n + n + 1) * (b * b)))
          (QuotientIdentities.order_numerator R p (p ^ m) (p ^ n) a b (D.derive (p ^ m * a)) (D.derive (p ^ n * b)) _ _ (Multiplicity.mul-derive-power_mul F D p a m) (Multiplicity.mul-derive-power_mul F D p b n)
          ∙ ap (λ z. z * sub R ((of_nat R m * (D.derive p * a) +ₚ p * D.derive a) * b) (a * (of_nat R n * (D.derive p * b) +ₚ p * D.derive b))) (sym (Laws.power-add R p m n)))
          (subst (λ z. Represents F ((fraction_derivation F D).derive f) (p * quotient_numerator F D (p ^ m * a) (p ^ n * b)) z)
          (QuotientIdentities.order_denominator R p (p ^ n) b
          ∙ ap (λ z. z * (b * b)) (ap₂ R.mul (sym (Laws.power-add R p n n)) (sym (Laws.power-one R p)) ∙ sym (Laws.power-add R p (n + n) 1)))
          (represents_extend ((fraction_derivation F D).derive f) p (quotient_numerator F D (p ^ m * a) (p ^ n * b)) (p ^ n * b * (p ^ n * b)) denominator
          (represents-derive F D f (p ^ m * a) (p ^ n * b) h)))
        where
          factor : ¬ (p ^ n * b ≡ 𝟘)
          factor = Degree.mul_polynomials-nonzero F (p ^ n) b (Multiplicity.power-nonzero F p n nz) nb

          denominator : ¬ (p ^ n * b * (p ^ n * b) ≡ 𝟘)
          denominator = Degree.mul_polynomials-nonzero F (p ^ n * b) (p ^ n * b) factor factor

      -- the order of D(f) is at least that of f, less 1
      pub order-derive-le : (f : Fraction F) (m n : ℕ) → HasOrderAtLeast F p f m n → HasOrderAtLeast F p ((fraction_derivation F D).derive f) (m + n) (n + n + 1)
      order-derive-le f m n h = record {
        left = derive_numerator m n h.left h.right;
        right = h.right * h.right;
        represents = derive_represents f m n h.left h.right (Divides.nonzero_of_not_divides F p h.right h.not_divides_right) h.represents;
        not_divides_right = Irreducible.not_divides-mul F p h.right h.right i h.not_divides_right h.not_divides_right;
      }

      -- p ∤ D(p) and m ≠ n: the order of D(f) is that of f, less 1
      pub order-derive : (f : Fraction F) (m n : ℕ) → ¬ (p ∣ D.derive p) → ¬ (m ≡ n) → IsOrder F p f m n → IsOrder F p ((fraction_derivation F D).derive f) (m + n) (n + n + 1)
      unfolding derive_numerator
      order-derive f m n normal differ h = record {
        left = derive_numerator m n h.left h.right;
        right = h.right * h.right;
        represents = derive_represents f m n h.left h.right (Divides.nonzero_of_not_divides F p h.right h.not_divides_right) h.represents;
        not_divides_left = λ d. Irreducible.not_divides-mul F p (sub R (of_nat R m) (of_nat R n)) (D.derive p * (h.left * h.right)) i difference
            (Irreducible.not_divides-mul F p (D.derive p) (h.left * h.right) i normal (Irreducible.not_divides-mul F p h.left h.right i h.not_divides_left h.not_divides_right))
            (Divides.divides_of_add F p _ _
            (Divides.divides-mul_right F p (sub R (D.derive h.left * h.right) (h.left * D.derive h.right)))
            (subst (λ z. p ∣ z)
            (QuotientIdentities.order_leading R (of_nat R m) (of_nat R n) (D.derive p) h.left h.right p (D.derive h.left) (D.derive h.right) ∙ R.add_comm _ _) d));
        not_divides_right = Irreducible.not_divides-mul F p h.right h.right i h.not_divides_right h.not_divides_right;
      }
        where
          difference : ¬ (p ∣ sub R (of_nat R m) (of_nat R n))
          difference d = Irreducible.irreducible-not_unit F p i
              (Divides.divides_trans F p (sub R (of_nat R m) (of_nat R n)) 𝟙 d (Multiplicity.difference-unit F char m n differ))

      -- p | D(p): the order of D(f) is at least that of f
      pub order-derive_special : (f : Fraction F) (m n : ℕ) → p ∣ D.derive p → HasOrderAtLeast F p f m n → HasOrderAtLeast F p ((fraction_derivation F D).derive f) (m + n) (n + n)
      order-derive_special f m n s h =
          let x = SplittingFactorizations.special-power_derive F char D p (p ^ m * h.left) m s (Divides.divides-mul_right F (p ^ m) h.left) in
          let y = SplittingFactorizations.special-power_derive F char D p (p ^ n * h.right) n s (Divides.divides-mul_right F (p ^ n) h.right) in
          record {
            left = sub R (x.cofactor * h.right) (h.left * y.cofactor);
            right = h.right * h.right;
            represents =
                subst (λ z. Represents F ((fraction_derivation F D).derive f) z (p ^ (n + n) * (h.right * h.right)))
                (ap₂ (λ a b. sub R (a * (p ^ n * h.right)) (p ^ m * h.left * b)) x.equation y.equation
                ∙ QuotientIdentities.special_numerator R (p ^ m) (p ^ n) h.left h.right x.cofactor y.cofactor
                ∙ ap (λ z. z * sub R (x.cofactor * h.right) (h.left * y.cofactor)) (sym (Laws.power-add R p m n)))
                (subst (λ z. Represents F ((fraction_derivation F D).derive f) (quotient_numerator F D (p ^ m * h.left) (p ^ n * h.right)) z) (powers-mul n n h.right h.right)
                (represents-derive F D f (p ^ m * h.left) (p ^ n * h.right) h.represents));
            not_divides_right = Irreducible.not_divides-mul F p h.right h.right i h.not_divides_right h.not_divides_right;
          }
