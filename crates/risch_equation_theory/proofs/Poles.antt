-- Poles of rational functions at an irreducible polynomial p with p ∤ D(p): the pole of Dy + f·y where y has a pole.
use Rattle.std.specs.Prelude.{◌≡◌, ℕ, suc, ◌+◌, ◌⊎◌}
use Rattle.std.proofs.Common.{sym, ap, ap₂, subst, ◌∙◌, inl, inr}
use Rattle.risch_ring.specs.CommRing.{CommRing, Field, Derivation, of_nat, sub, HasCharacteristicZero}
use Rattle.risch_ring.proofs.Laws as Laws
use Rattle.risch_univariate.specs.Polynomial.{Polynomial}
use Rattle.risch_univariate.specs.Division.{IsCoprime, IsIrreducible}
use Rattle.risch_univariate.proofs.Degree as Degree
use Rattle.risch_univariate.proofs.Divides as Divides
use Rattle.risch_univariate.proofs.Gcd as Gcd
use Rattle.risch_univariate.proofs.Irreducible as Irreducible
use Rattle.risch_univariate.proofs.Multiplicity as Multiplicity
use Rattle.risch_fraction_field.specs.Fraction.{Fraction, Represents}
use Rattle.risch_fraction_field.specs.FractionDerivation.{fraction_derivation, represents-derive, quotient_numerator}
use Rattle.risch_equation_theory.proofs.Identities as Identities
use Rattle.risch_univariate.specs.PolynomialOperators.{polynomial_operators}
use Rattle.risch_univariate.specs.PolynomialRing.{polynomials}
use Rattle.risch_fraction_field.specs.Representation.{represents-add, represents-mul}
use Rattle.risch_fraction_field.specs.FractionLaws.{represents_same, fraction-coprime}
use Rattle.risch_fraction_field.specs.FractionField.{fractions}

module _ {A : Type 0} (F : Field A) where
  abbrev R : CommRing (Polynomial F)
  R = polynomials F

  abbrev K : Field (Fraction F)
  K = fractions F

  open (polynomial_operators F) use {𝟘, 𝟙, ◌+◌ as ◌+ₚ◌, ◌*◌, ◌^◌, ◌∣◌}

  -- f = a/b gives den(f) | b
  pub denominator-divides : (f : Fraction F) (a b : Polynomial F) → Represents F f a b → f.denominator ∣ b
  denominator-divides f a b h = Gcd.coprime-divides_of_mul F f.denominator f.numerator b
      (Gcd.coprime_sym F f.numerator f.denominator (fraction-coprime F f)) (record { cofactor = a; equation = h })

  -- f = a/(p^e·b) with p ∤ a gives p^e | den(f)
  pub power-divides-denominator : (p : Polynomial F) → IsIrreducible F p → (f : Fraction F) (a b : Polynomial F) (e : ℕ)
      → Represents F f a (p ^ e * b) → ¬ (p ∣ a) → p ^ e ∣ f.denominator
  power-divides-denominator p i f a b e h n = go (Irreducible.irreducible-coprime F p a i)
    where
      go : IsCoprime F p a ⊎ p ∣ a → p ^ e ∣ f.denominator
      go (inl c) = Gcd.coprime-divides_of_mul F (p ^ e) a f.denominator (Gcd.coprime-power F p a e c)
          (record { cofactor = f.numerator * b; equation = sym h ∙ ap (R.mul f.numerator) (R.mul_comm (p ^ e) b) ∙ sym (R.mul_assoc f.numerator b (p ^ e)) })
      go (inr d) = absurd (n d)

  -- p | den(f) gives p ∤ num(f)
  pub numerator-not_divides : (p : Polynomial F) → IsIrreducible F p → (f : Fraction F) → p ∣ f.denominator → ¬ (p ∣ f.numerator)
  numerator-not_divides p i f d n = Irreducible.irreducible-not_unit F p i (Gcd.coprime-common_divisor F f.numerator f.denominator p (fraction-coprime F f) n d)

  -- p ∤ n·1 for n > 0
  pub not_divides-of_nat : HasCharacteristicZero F.ring → (p : Polynomial F) → IsIrreducible F p → (n : ℕ) → ¬ (p ∣ of_nat R (suc n))
  not_divides-of_nat char p i n d = Irreducible.irreducible-not_unit F p i
      (Divides.divides_trans F p (of_nat R (suc n)) 𝟙 d
      (subst (λ z. z ∣ 𝟙) (Multiplicity.constant-of_nat F (suc n)) (Divides.constant-divides F _ 𝟙 (char n))))

  module _ (D : Derivation R) (p : Polynomial F) (i : IsIrreducible F p) where
    power_mul-nonzero : (n : ℕ) (a : Polynomial F) → ¬ (a ≡ 𝟘) → ¬ (p ^ n * a ≡ 𝟘)
    power_mul-nonzero n a h = Degree.mul_polynomials-nonzero F (p ^ n) a (Multiplicity.power-nonzero F p n (Irreducible.irreducible-nonzero F p i)) h

    -- the numerator of D(a/(p^s·c)) over p^(s + 1)·c²
    abbrev derived : (s : ℕ) (a c : Polynomial F) → Polynomial F
    derived s a c = sub R (p * sub R (D.derive a * c) (a * D.derive c)) (of_nat R s * (D.derive p * (a * c)))

    derive_represents : (r : ℕ) (y : Fraction F) (a c : Polynomial F) → ¬ (c ≡ 𝟘) → Represents F y a (p ^ suc r * c)
        → Represents F ((fraction_derivation F D).derive y) (derived (suc r) a c) (p * (p * p ^ r) * (c * c))
    derive_represents r y a c nc h =
        represents_same F ((fraction_derivation F D).derive y) (quotient_numerator F D a (p ^ suc r * c)) (p ^ suc r * c * (p ^ suc r * c)) _ _
        (Degree.mul_polynomials-nonzero F _ _ (power_mul-nonzero (suc r) c nc) (power_mul-nonzero (suc r) c nc))
        (represents-derive F D y a (p ^ suc r * c) h)
        (ap₂ (λ z w. sub R (D.derive a * (z * c)) (a * w) * (p * (p * p ^ r) * (c * c))) (Laws.power-suc R p r) (Multiplicity.derive-power_mul F D p c r)
        ∙ Identities.pole_derivative R p (p ^ r) c a (of_nat R (suc r)) (D.derive p) (D.derive c) (D.derive a)
        ∙ ap (λ z. derived (suc r) a c * (z * c * (z * c))) (sym (Laws.power-suc R p r)))

    -- y = a/(p^s·c) with s = r + 1, f = u/(p^(k + 1)·v), and p divides neither a nor c nor v nor u - s·v·D(p)·p^k: p^(s + k + 1) divides the denominator of Dy + f·y
    pub pole_of_equation : (r k : ℕ) (y f : Fraction F) (a c u v : Polynomial F) → ¬ (p ∣ a) → ¬ (p ∣ c) → ¬ (p ∣ v)
        → Represents F y a (p ^ suc r * c) → Represents F f u (p ^ suc k * v)
        → ¬ (p ∣ sub R u (of_nat R (suc r) * (v * (D.derive p * p ^ k))))
        → p ^ (suc k + suc r) ∣ (K.add ((fraction_derivation F D).derive y) (K.mul f y)).denominator
    pole_of_equation r k y f a c u v na nc nv hy hf residue =
        power-divides-denominator p i (K.add ((fraction_derivation F D).derive y) (K.mul f y)) (derived (suc r) a c * (p ^ k * v) +ₚ u * (a * c)) (v * (c * c)) (suc k + suc r)
        (subst (λ z. Represents F (K.add ((fraction_derivation F D).derive y) (K.mul f y)) (derived (suc r) a c * (p ^ k * v) +ₚ u * (a * c)) (z * (v * (c * c)))) powers
        (represents_same F (K.add ((fraction_derivation F D).derive y) (K.mul f y)) _ _ _ _ (Degree.mul_polynomials-nonzero F _ _ denominator (Degree.mul_polynomials-nonzero F _ _ (power_mul-nonzero (suc k) v zv) (power_mul-nonzero (suc r) c zc)))
        (represents-add F ((fraction_derivation F D).derive y) (K.mul f y) _ _ _ _ (derive_represents r y a c zc hy) (represents-mul F f y _ _ _ _ hf hy))
        sum))
        leading
      where
        zc : ¬ (c ≡ 𝟘)
        zc = Divides.nonzero_of_not_divides F p c nc

        zv : ¬ (v ≡ 𝟘)
        zv = Divides.nonzero_of_not_divides F p v nv

        denominator : ¬ (p * (p * p ^ r) * (c * c) ≡ 𝟘)
        denominator = Degree.mul_polynomials-nonzero F _ _
            (Degree.mul_polynomials-nonzero F _ _ (Irreducible.irreducible-nonzero F p i)
            (Degree.mul_polynomials-nonzero F _ _ (Irreducible.irreducible-nonzero F p i) (Multiplicity.power-nonzero F p r (Irreducible.irreducible-nonzero F p i))))
            (Degree.mul_polynomials-nonzero F _ _ zc zc)

        powers : p * p ^ k * (p * p ^ r) ≡ p ^ (suc k + suc r)
        powers = ap₂ R.mul (sym (Laws.power-suc R p k)) (sym (Laws.power-suc R p r)) ∙ sym (Laws.power-add R p (suc k) (suc r))

        sum : (derived (suc r) a c * (p ^ suc k * v * (p ^ suc r * c)) +ₚ u * a * (p * (p * p ^ r) * (c * c))) * (p * p ^ k * (p * p ^ r) * (v * (c * c)))
            ≡ (derived (suc r) a c * (p ^ k * v) +ₚ u * (a * c)) * (p * (p * p ^ r) * (c * c) * (p ^ suc k * v * (p ^ suc r * c)))
        sum =
            ap₂ (λ x z. (derived (suc r) a c * (x * v * (z * c)) +ₚ u * a * (p * (p * p ^ r) * (c * c))) * (p * p ^ k * (p * p ^ r) * (v * (c * c)))) (Laws.power-suc R p k) (Laws.power-suc R p r)
            ∙ Identities.pole_sum R p (p ^ r) c a (derived (suc r) a c) u (p ^ k) v
            ∙ ap₂ (λ x z. (derived (suc r) a c * (p ^ k * v) +ₚ u * (a * c)) * (p * (p * p ^ r) * (c * c) * (x * v * (z * c)))) (sym (Laws.power-suc R p k)) (sym (Laws.power-suc R p r))

        leading : ¬ (p ∣ derived (suc r) a c * (p ^ k * v) +ₚ u * (a * c))
        leading d = Irreducible.not_divides-mul F p (a * c) (sub R u (of_nat R (suc r) * (v * (D.derive p * p ^ k)))) i (Irreducible.not_divides-mul F p a c i na nc) residue
            (Divides.divides_of_add F p (p * (sub R (D.derive a * c) (a * D.derive c) * (p ^ k * v))) _ (Divides.divides-mul_right F p _)
            (subst (λ z. p ∣ z) (Identities.pole_leading R p c a u (p ^ k) v (of_nat R (suc r)) (D.derive p) (D.derive c) (D.derive a) ∙ R.add_comm _ _) d))
