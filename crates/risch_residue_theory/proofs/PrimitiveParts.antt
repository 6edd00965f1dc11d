-- Primitive parts of polynomials in t over K[z]: where c·q = g·p for primitive q and p, the one is a multiple of the other by an element of K[z]; and a remainder sequence of P and M is one of P and x·M, for x ≠ 0.
-- So a remainder sequence of d and b = a - z·e gives a primitive one, with the primitive part of b at its head.
use Rattle.std.specs.Prelude.{◌≡◌, ℕ, zero, suc, ◌≤◌, List, [], ◌∷◌, map}
use Rattle.std.proofs.Common.{refl, sym, ap, ap₂, subst, ◌∙◌, arith, inl, inr}
use Rattle.risch_ring.specs.CommRing.{CommRing, Field}
use Rattle.risch_ring.proofs.Laws as Laws
use Rattle.risch_ring.proofs.FieldLaws as FieldLaws
use Rattle.risch_ring.specs.Lists.{Member}
use Rattle.risch_ring.proofs.Lists.{each-member}
use Rattle.risch_univariate.specs.Polynomial.{Polynomial, constant, variable, coefficient}
use Rattle.risch_univariate.specs.PolynomialRing.{polynomials}
use Rattle.risch_univariate.specs.PolynomialLaws.{polynomial_ext}
use Rattle.risch_univariate.specs.Degree.{size}
use Rattle.risch_univariate.specs.Division.{Divides}
use Rattle.risch_univariate.proofs.Coefficients.{coefficient-add, coefficient-constant_mul, coefficient-zero}
use Rattle.risch_univariate.proofs.Degree as Degree
use Rattle.risch_univariate.proofs.Divides as Divides
use Rattle.risch_univariate.proofs.Gcd as Gcd
use Rattle.risch_fraction_field.specs.Fraction.{Fraction, of_polynomial}
use Rattle.risch_fraction_field.specs.FractionField.{fractions}
use Rattle.risch_fraction_field.specs.DifferentialField.{constant_fraction, constant_fraction-apply}
use Rattle.risch_fraction_field.specs.Representation.{of_polynomial-mul, of_polynomial-add, of_polynomial-zero, of_polynomial-nonzero}
use Rattle.risch_extension.proofs.PolynomialMaps.{coefficient-map_polynomial, size-map_polynomial}
use Rattle.risch_residue_theory.specs.BivariatePolynomial.{lift, bivariate, coefficient_at, content, residue_polynomial}
use Rattle.risch_residue_theory.specs.RemainderSequence.{IsNext, IsRemainderSequence, PrimitiveSequence}
use Rattle.risch_residue_theory.specs.RuleLogarithm.{IsRuleSequence}
use Rattle.risch_residue_theory.proofs.BivariatePolynomials.{coefficient-bivariate}
use Rattle.risch_residue_theory.proofs.Content.{content-divides, content-quotient}

-- ---- a remainder sequence with one member multiplied by x ≠ 0

module _ {B : Type 0} (L : Field B) (x : B) (nonzero : ¬ (x ≡ L.zero)) where
  abbrev T : CommRing (Polynomial L)
  T = polynomials L

  -- x⁻¹·(x·M) = M
  unscaled : (M : Polynomial L) → T.mul (constant L (L.inverse x)) (T.mul (constant L x) M) ≡ M
  unscaled M =
      sym (T.mul_assoc (constant L (L.inverse x)) (constant L x) M)
      ∙ ap (λ z. T.mul z M) (sym (Degree.constant-mul L (L.inverse x) x) ∙ ap (constant L) (FieldLaws.inverse-mul L x nonzero) ∙ Degree.constant-one L) ∙ Laws.one-mul T M

  size-scaled : (y : B) (M : Polynomial L) → size L (T.mul (constant L y) M) ≤ size L M
  size-scaled y M = Degree.size-le L (T.mul (constant L y) M) (size L M) (λ i l.
      coefficient-constant_mul L y M i ∙ ap (L.mul y) (Degree.below_size L M i l) ∙ Laws.mul-zero L.ring y)

  next_of_scaled_first : (P M N : Polynomial L) → IsNext L P M N → IsNext L (T.mul (constant L x) P) M N
  next_of_scaled_first P M N h = record {
    factor = L.mul h.factor (L.inverse x);
    factor-nonzero = FieldLaws.mul-nonzero L h.factor (L.inverse x) h.factor-nonzero (FieldLaws.inverse-nonzero L x nonzero);
    quotient = h.quotient;
    equation =
        h.equation
        ∙ ap (λ z. T.add z (T.mul h.quotient M))
        (ap (T.mul (constant L h.factor)) (sym (unscaled P)) ∙ sym (T.mul_assoc (constant L h.factor) (constant L (L.inverse x)) _)
        ∙ ap (λ z. T.mul z (T.mul (constant L x) P)) (sym (Degree.constant-mul L h.factor (L.inverse x))));
    size-quotient = let s = h.size-quotient in let e = Degree.size-constant_mul L x P nonzero in omega (arith, s, e);
    smaller = h.smaller;
  }

  next_of_scaled_second : (P M N : Polynomial L) → IsNext L P M N → IsNext L P (T.mul (constant L x) M) N
  next_of_scaled_second P M N h = record {
    factor = h.factor;
    factor-nonzero = h.factor-nonzero;
    quotient = T.mul (constant L (L.inverse x)) h.quotient;
    equation =
        h.equation
        ∙ ap (T.add (T.mul (constant L h.factor) P))
        (ap (T.mul h.quotient) (sym (unscaled M)) ∙ sym (T.mul_assoc h.quotient (constant L (L.inverse x)) (T.mul (constant L x) M))
        ∙ ap (λ z. T.mul z (T.mul (constant L x) M)) (T.mul_comm h.quotient (constant L (L.inverse x))));
    size-quotient =
        let s = h.size-quotient in let e = Degree.size-constant_mul L x M nonzero in let q = size-scaled (L.inverse x) h.quotient in omega (arith, s, e, q);
    smaller = let s = h.smaller in let e = Degree.size-constant_mul L x M nonzero in omega (arith, s, e);
  }

  sequence_of_scaled_first : (k : ℕ) (P M : Polynomial L) (Ns : List (Polynomial L)) → IsRemainderSequence L k P M Ns → IsRemainderSequence L k (T.mul (constant L x) P) M Ns
  sequence_of_scaled_first k P M [] (inl h) = inl h
  sequence_of_scaled_first k P M [] (inr h) = inr (Divides.divides-mul_left L M (constant L x) P h)
  sequence_of_scaled_first k P M (N ∷ Ns) h = (next_of_scaled_first P M N h.0, h.1)

  -- a remainder sequence of P and M is one of P and x·M
  pub sequence_of_scaled : (k : ℕ) (P M : Polynomial L) (Ns : List (Polynomial L)) → IsRemainderSequence L k P M Ns
      → IsRemainderSequence L k P ((polynomials L).mul (constant L x) M) Ns
  sequence_of_scaled k P M [] (inl h) = inl (let e = Degree.size-constant_mul L x M nonzero in omega (arith, h, e))
  sequence_of_scaled k P M [] (inr h) = inr (Divides.constant_mul-divides L x M P nonzero h)
  sequence_of_scaled k P M (N ∷ Ns) h = (next_of_scaled_second P M N h.0, sequence_of_scaled_first k M N Ns h.1)

module _ {A : Type 0} (F : Field A) where
  abbrev R : CommRing (Polynomial F)
  R = polynomials F

  -- ---- contents

  -- the quotients by a common divisor of the coefficients
  quotients : (γ : Polynomial F) (cs : List (Polynomial F)) → ((j : ℕ) → Divides F γ (coefficient_at F cs j)) → List (Polynomial F)
  quotients γ [] h = []
  quotients γ (c ∷ cs) h = (h 0).cofactor ∷ quotients γ cs (λ j. h (suc j))

  coefficient-quotients : (γ : Polynomial F) (cs : List (Polynomial F)) (h : (j : ℕ) → Divides F γ (coefficient_at F cs j)) (j : ℕ)
      → coefficient_at F cs j ≡ R.mul γ (coefficient_at F (quotients γ cs h) j)
  unfolding quotients
  coefficient-quotients γ [] h j = sym (Laws.mul-zero R γ)
  coefficient-quotients γ (c ∷ cs) h zero = (h 0).equation ∙ R.mul_comm _ γ
  coefficient-quotients γ (c ∷ cs) h (suc j) = coefficient-quotients γ cs (λ j. h (suc j)) j

  -- the primitive part of b
  pub primitive_part : List (Polynomial F) → List (Polynomial F)
  primitive_part b = quotients (content F b) b (content-divides F b)

  -- b_j is the content times the coefficient of the primitive part
  pub coefficient-primitive_part : (b : List (Polynomial F)) (j : ℕ) → coefficient_at F b j ≡ (polynomials F).mul (content F b) (coefficient_at F (primitive_part b) j)
  unfolding primitive_part
  coefficient-primitive_part b = coefficient-quotients (content F b) b (content-divides F b)

  -- its content is 1
  pub content-primitive_part : (b : List (Polynomial F)) → ¬ (content F b ≡ (polynomials F).zero) → content F (primitive_part b) ≡ (polynomials F).one
  content-primitive_part b n = content-quotient F b (primitive_part b) n (coefficient-primitive_part b)

  -- what divides each g·p_j divides g·content(p)
  scaled_content-greatest : (g x : Polynomial F) (ps : List (Polynomial F)) → ((j : ℕ) → Divides F x (R.mul g (coefficient_at F ps j))) → Divides F x (R.mul g (content F ps))
  unfolding content
  scaled_content-greatest g x [] h = h 0
  scaled_content-greatest g x (p ∷ ps) h =
      let b = Gcd.gcd-bezout F p (content F ps) in
      subst (Divides F x)
      (ap₂ R.add (Laws.mul_left_comm R b.left g p) (Laws.mul_left_comm R b.right g (content F ps)) ∙ sym (R.mul-add g (R.mul b.left p) (R.mul b.right (content F ps))) ∙ ap (R.mul g) (sym b.equation))
      (Divides.divides-add F x _ _ (Divides.divides-mul_left F x b.left (R.mul g p) (h 0))
      (Divides.divides-mul_left F x b.right (R.mul g (content F ps)) (scaled_content-greatest g x ps (λ j. h (suc j)))))

  -- the coefficients of q are v times those of p
  pub record IsMultipleOf (ps qs : List (Polynomial F)) : Type 0 where
    pub multiplier : Polynomial F
    pub equation : (j : ℕ) → coefficient_at F qs j ≡ (polynomials F).mul multiplier (coefficient_at F ps j)

  -- c·q = g·p with c ≠ 0, where the content of p is 1: q is a multiple of p
  pub multiple_of_primitive : (c g : Polynomial F) → ¬ (c ≡ (polynomials F).zero) → (qs ps : List (Polynomial F)) → content F ps ≡ (polynomials F).one
      → ((j : ℕ) → (polynomials F).mul c (coefficient_at F qs j) ≡ (polynomials F).mul g (coefficient_at F ps j)) → IsMultipleOf ps qs
  multiple_of_primitive c g n qs ps u e =
      let h = subst (Divides F c) (ap (R.mul g) u ∙ R.mul-one g)
      (scaled_content-greatest g c ps (λ j. subst (Divides F c) (e j) (Divides.divides-mul_right F c (coefficient_at F qs j)))) in
      record {
        multiplier = h.cofactor;
        equation = λ j. Degree.mul_polynomials_cancel F c _ _ n
            (e j ∙ ap (λ z. R.mul z (coefficient_at F ps j)) (h.equation ∙ R.mul_comm h.cofactor c) ∙ R.mul_assoc c h.cofactor (coefficient_at F ps j));
      }

  -- Σ c_j·t^j = g·Σ p_j·t^j
  pub bivariate-scaled : (g : Polynomial F) (cs ps : List (Polynomial F)) → ((j : ℕ) → coefficient_at F cs j ≡ (polynomials F).mul g (coefficient_at F ps j))
      → bivariate F cs ≡ (polynomials (fractions F)).mul (constant (fractions F) (of_polynomial F g)) (bivariate F ps)
  bivariate-scaled g cs ps e = polynomial_ext (fractions F) _ _ (λ j.
      coefficient-bivariate F cs j ∙ ap (of_polynomial F) (e j) ∙ of_polynomial-mul F g (coefficient_at F ps j)
      ∙ sym (coefficient-constant_mul (fractions F) (of_polynomial F g) (bivariate F ps) j ∙ ap ((fractions F).mul (of_polynomial F g)) (coefficient-bivariate F ps j)))

  -- a - z·e by its coefficients
  pub residue_polynomial_of_coefficients : (a e : Polynomial F) (b : List (Polynomial F))
      → ((j : ℕ) → coefficient_at F b j ≡ (polynomials F).add (constant F (coefficient F a j)) ((polynomials F).mul ((polynomials F).neg (variable F)) (constant F (coefficient F e j))))
      → bivariate F b ≡ residue_polynomial F a e
  unfolding residue_polynomial
  residue_polynomial_of_coefficients a e b h = polynomial_ext (fractions F) _ _ (λ j.
      coefficient-bivariate F b j ∙ ap (of_polynomial F) (h j) ∙ of_polynomial-add F _ _
      ∙ ap₂ (fractions F).add (sym (lifted a j)) (of_polynomial-mul F _ _ ∙ ap ((fractions F).mul (of_polynomial F (R.neg (variable F)))) (sym (lifted e j)))
      ∙ sym (coefficient-add (fractions F) (lift F a) _ j ∙ ap ((fractions F).add (coefficient (fractions F) (lift F a) j)) (coefficient-constant_mul (fractions F) _ (lift F e) j)))
    where
      lifted : (p : Polynomial F) (j : ℕ) → coefficient (fractions F) (lift F p) j ≡ of_polynomial F (constant F (coefficient F p j))
      lifted p j = coefficient-map_polynomial F (fractions F) (constant_fraction F) p j ∙ constant_fraction-apply F (coefficient F p j)

  -- ---- the primitive sequence

  size-residue_polynomial : (a e : Polynomial F) (n : ℕ) → size F a ≤ n → size F e ≤ n → size (fractions F) (residue_polynomial F a e) ≤ n
  unfolding residue_polynomial
  size-residue_polynomial a e n l k = Degree.size-add-le (fractions F) (lift F a) _ n
      (let s = size-map_polynomial F (fractions F) (constant_fraction F) a in omega (arith, s, l))
      (Degree.size-le (fractions F) _ n (λ i m.
      coefficient-constant_mul (fractions F) _ (lift F e) i
      ∙ ap ((fractions F).mul (of_polynomial F (R.neg (variable F)))) (Degree.below_size (fractions F) (lift F e) i (let s = size-map_polynomial F (fractions F) (constant_fraction F) e in omega (arith, s, k, m)))
      ∙ Laws.mul-zero (fractions F).ring _))

  -- where no member after b is asked for: b alone is a sequence down to the degree deg d
  pub rule_sequence-empty : (d a e : Polynomial F) → size F a ≤ size F d → size F e ≤ size F d → (b : List (Polynomial F)) → bivariate F b ≡ residue_polynomial F a e
      → IsRuleSequence F (size F d) d a e b []
  rule_sequence-empty d a e l k b h = record { first = h; is_sequence = inl (size-residue_polynomial a e (size F d) l k); is_primitive = tt }

  module _ (n : ℕ) (d a e : Polynomial F) (small_a : size F a ≤ size F d) (small_e : size F e ≤ size F d) (b : List (Polynomial F)) (ms : List (List (Polynomial F)))
      (sequence : IsRuleSequence F n d a e b ms) where
    -- the primitive part of b, and ms
    pub primitive_sequence : ¬ (content F b ≡ (polynomials F).zero) → PrimitiveSequence F n d a e (primitive_part b ∷ ms)
    primitive_sequence nonzero = record {
      first = primitive_part b;
      others = ms;
      all = refl;
      factor = (fractions F).inverse γ;
      factor-nonzero = FieldLaws.inverse-nonzero (fractions F) γ γ-nonzero;
      first-equation = equation;
      size-first = let s = ap (size (fractions F)) equation in
          let t = Degree.size-constant_mul (fractions F) ((fractions F).inverse γ) (residue_polynomial F a e) (FieldLaws.inverse-nonzero (fractions F) γ γ-nonzero) in
          let u = size-residue_polynomial a e (size F d) small_a small_e in omega (arith, s, t, u);
      is_sequence = subst (λ z. IsRemainderSequence (fractions F) n (lift F d) z (map (bivariate F) ms)) (sym equation)
          (sequence_of_scaled (fractions F) ((fractions F).inverse γ) (FieldLaws.inverse-nonzero (fractions F) γ γ-nonzero) n (lift F d) (residue_polynomial F a e) (map (bivariate F) ms) sequence.is_sequence);
      is_primitive = (content-primitive_part b nonzero, sequence.is_primitive);
    }
      where
        γ : Fraction F
        γ = of_polynomial F (content F b)

        γ-nonzero : ¬ (of_polynomial F (content F b) ≡ (fractions F).zero)
        γ-nonzero = of_polynomial-nonzero F (content F b) nonzero

        equation : bivariate F (primitive_part b)
            ≡ (polynomials (fractions F)).mul (constant (fractions F) ((fractions F).inverse (of_polynomial F (content F b)))) (residue_polynomial F a e)
        equation =
            sym (unscaled (fractions F) γ γ-nonzero (bivariate F (primitive_part b)))
            ∙ ap ((polynomials (fractions F)).mul (constant (fractions F) ((fractions F).inverse γ)))
            (sym (bivariate-scaled (content F b) b (primitive_part b) (coefficient-primitive_part b)) ∙ sequence.first)

    -- the primitive part of a member
    pub record HasPrimitivePart (m : List (Polynomial F)) : Type 0 where
      pub part : List (Polynomial F)
      pub among : Member part (primitive_part b ∷ ms)
      pub factor : Polynomial F
      pub factor-nonzero : ¬ (factor ≡ (polynomials F).zero)
      pub equation : (j : ℕ) → coefficient_at F m j ≡ (polynomials F).mul factor (coefficient_at F part j)
      pub is_primitive : content F part ≡ (polynomials F).one

    -- each member has one
    pub primitive_part_of : ¬ (content F b ≡ (polynomials F).zero) → (m : List (Polynomial F)) → Member m (b ∷ ms) → HasPrimitivePart m
    primitive_part_of nonzero m (inl h) = record {
      part = primitive_part b;
      among = inl refl;
      factor = content F b;
      factor-nonzero = nonzero;
      equation = λ j. ap (λ z. coefficient_at F z j) h ∙ coefficient-primitive_part b j;
      is_primitive = content-primitive_part b nonzero;
    }
    primitive_part_of nonzero m (inr h) = record {
      part = m;
      among = inr h;
      factor = R.one;
      factor-nonzero = Degree.one-ne-zero F;
      equation = λ j. sym (Laws.one-mul R _);
      is_primitive = each-member (λ z. content F z ≡ R.one) m ms sequence.is_primitive h;
    }

    -- content 0 is that of b = 0
    pub zero_of_content : content F b ≡ (polynomials F).zero → size (fractions F) (residue_polynomial F a e) ≡ 0
    zero_of_content z =
        ap (size (fractions F))
        (sym sequence.first
        ∙ polynomial_ext (fractions F) (bivariate F b) (polynomials (fractions F)).zero (λ j.
        coefficient-bivariate F b j
        ∙ ap (of_polynomial F) (Divides.zero_of_zero-divides F (coefficient_at F b j) (subst (λ x. Divides F x (coefficient_at F b j)) z (content-divides F b j)))
        ∙ of_polynomial-zero F ∙ sym (coefficient-zero (fractions F) j)))
        ∙ Degree.size-zero (fractions F)

    -- where there is a member other than 0, b is not 0
    pub content-nonzero : (m : List (Polynomial F)) (k : ℕ) → Member m (b ∷ ms) → size (fractions F) (bivariate F m) ≡ suc k → ¬ (content F b ≡ (polynomials F).zero)
    content-nonzero m k (inl h) q z =
        let s = ap (λ x. size (fractions F) (bivariate F x)) h in let t = zero_of_content z in let u = ap (size (fractions F)) sequence.first in omega (arith, q, s, t, u)
    content-nonzero m k (inr h) q z = none ms sequence.is_sequence h
      where
        none : (xs : List (List (Polynomial F))) → IsRemainderSequence (fractions F) n (lift F d) (residue_polynomial F a e) (map (bivariate F) xs) → Member m xs → ⊥
        none [] s x = x
        none (y ∷ xs) s x = let l = s.0.smaller in let t = zero_of_content z in omega (arith, l, t)
