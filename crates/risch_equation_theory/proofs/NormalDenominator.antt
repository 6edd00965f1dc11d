-- The normal denominator of the solutions: for a weakly normalized f and Dy + f·y = g the denominator of y·h has no normal irreducible factor.
use Rattle.std.specs.Prelude.{◌≡◌, ℕ, zero, suc, ◌+◌, ◌-◌, ◌⊎◌}
use Rattle.std.proofs.Common.{refl, sym, ap, subst, ◌∙◌, arith, inl, inr}
use Rattle.risch_ring.specs.CommRing.{CommRing, Field, Derivation, of_nat, sub, HasCharacteristicZero}
use Rattle.risch_ring.proofs.Laws as Laws
use Rattle.risch_univariate.specs.Polynomial.{Polynomial}
use Rattle.risch_univariate.specs.Degree.{IsMonic}
use Rattle.risch_univariate.specs.Division.{IsCoprime, IsIrreducible, IsMultiplicity}
use Rattle.risch_univariate.proofs.Degree as Degree
use Rattle.risch_univariate.proofs.Divides as Divides
use Rattle.risch_univariate.proofs.Gcd as Gcd
use Rattle.risch_univariate.proofs.Irreducible as Irreducible
use Rattle.risch_univariate.proofs.Multiplicity as Multiplicity
use Rattle.risch_univariate.proofs.FormalDerivative as FormalDerivative
use Rattle.risch_univariate.proofs.SquareFree as SquareFree
use Rattle.risch_univariate.proofs.SplittingFactorization as SplittingFactorizations
use Rattle.risch_fraction_field.specs.Fraction.{Fraction, Represents, of_polynomial, denominator-nonzero}
use Rattle.risch_equation_theory.proofs.Poles as Poles
use Rattle.risch_univariate.specs.PolynomialOperators.{polynomial_operators}
use Rattle.risch_univariate.specs.PolynomialRing.{polynomials}
use Rattle.risch_univariate.specs.SplittingFactorization.{SplittingFactorization}
use Rattle.risch_fraction_field.specs.Representation.{represents-mul}
use Rattle.risch_fraction_field.specs.FractionLaws.{represents_same, represents-polynomial}
use Rattle.risch_fraction_field.specs.FractionField.{fractions}
use Rattle.risch_equation_theory.specs.Equation.{left_side}
use Rattle.risch_equation_theory.specs.WeakNormalization.{IsNormalPrime, IsWeaklyNormalized}
use Rattle.risch_equation_theory.specs.NormalDenominator.{IsNormalDenominator}

module _ {A : Type 0} (F : Field A) (char : HasCharacteristicZero F.ring) (D : Derivation (polynomials F)) where
  abbrev R : CommRing (Polynomial F)
  R = polynomials F

  abbrev K : Field (Fraction F)
  K = fractions F

  open (polynomial_operators F) use {𝟘, 𝟙, ◌+◌ as ◌+ₚ◌, ◌*◌, ◌^◌, ◌∣◌}

  abbrev ∂ : Polynomial F → Polynomial F
  ∂ = FormalDerivative.formal_derivative F

  -- ν(gcd(e, ∂e)) = ν(e) - 1
  pub multiplicity-formal_gcd : (p e : Polynomial F) (m : ℕ) → IsIrreducible F p → IsMultiplicity F p e (suc m) → IsMultiplicity F p (Gcd.gcd F e (∂ e)) m
  multiplicity-formal_gcd p e m i v =
      let w = SquareFree.multiplicity-formal_derivative F char p e m i v in
      Multiplicity.multiplicity_of_bounds F p (Gcd.gcd F e (∂ e)) m
      (Gcd.gcd-greatest F e (∂ e) (p ^ m) (Multiplicity.power-divides_of_le F p e (suc m) m v (omega arith)) (Multiplicity.power-divides_of_le F p (∂ e) m m w (omega arith)))
      (λ k. let l = Multiplicity.le_of_power-divides F p (∂ e) m (suc m) (Irreducible.irreducible-nonzero F p i) w
      (Divides.divides_trans F (p ^ suc m) (Gcd.gcd F e (∂ e)) (∂ e) k (Gcd.gcd-divides_right F e (∂ e))) in absurd (omega (arith, l)))

  -- p^s | h for ν(h) + k = m and s + k ≤ m
  power-divides_cofactor : (p h c : Polynomial F) (m k s : ℕ) → IsIrreducible F p → ¬ (h ≡ 𝟘) → IsMultiplicity F p (h * c) (s + m + k) → IsMultiplicity F p c k → p ^ s ∣ h
  power-divides_cofactor p h c m k s i n v w = Multiplicity.power-divides_of_le F p h (s + m) s (Multiplicity.multiplicity-cofactor F p h c (s + m) k i n v w) (omega arith)

  -- h = gcd(e, ∂e)/gcd(q, ∂q) with q = gcd(d, e)
  pub normal_denominator : (d e h : Polynomial F) → ¬ (d ≡ 𝟘) → ¬ (e ≡ 𝟘)
      → Gcd.gcd F e (∂ e) ≡ h * Gcd.gcd F (Gcd.gcd F d e) (∂ (Gcd.gcd F d e)) → IsNormalDenominator F d e h
  normal_denominator d e h nd ne equation = record { at_pole = at_pole; elsewhere = elsewhere }
    where
      q : Polynomial F
      q = Gcd.gcd F d e

      nh : ¬ (h ≡ 𝟘)
      nh = Degree.nonzero_of_mul_left F h (Gcd.gcd F q (∂ q)) (λ z. Gcd.gcd-nonzero_left F e (∂ e) ne (equation ∙ z))

      at_pole : (p : Polynomial F) → IsIrreducible F p → (k s : ℕ) → IsMultiplicity F p d (suc k) → p ^ (suc k + s) ∣ e → p ^ s ∣ h
      at_pole p i k s v l = go (Irreducible.multiplicity_of F p e i.not_constant ne)
        where
          go : Irreducible.Multiplicity F p e → p ^ s ∣ h
          go m =
              let b = Multiplicity.le_of_power-divides F p e m.exponent (suc k + s) (Irreducible.irreducible-nonzero F p i) m.is_multiplicity l in
              let x : m.exponent ≡ suc (s + (m.exponent - (suc k + s)) + k) = omega (arith, b) in
              power-divides_cofactor p h (Gcd.gcd F q (∂ q)) (m.exponent - (suc k + s)) k s i nh
              (subst (λ z. IsMultiplicity F p z (s + (m.exponent - (suc k + s)) + k)) equation
              (multiplicity-formal_gcd p e _ i (subst (IsMultiplicity F p e) x m.is_multiplicity)))
              (multiplicity-formal_gcd p q k i (Multiplicity.multiplicity-gcd F p d e (suc k) m.exponent (Irreducible.irreducible-nonzero F p i) v m.is_multiplicity (omega (arith, b))))

      elsewhere : (p : Polynomial F) → IsIrreducible F p → (s : ℕ) → ¬ (p ∣ d) → p ^ (1 + s) ∣ e → p ^ s ∣ h
      elsewhere p i s n l = go (Irreducible.multiplicity_of F p e i.not_constant ne)
        where
          regular : ¬ (p ∣ Gcd.gcd F q (∂ q))
          regular x = n (Divides.divides_trans F p q d (Divides.divides_trans F p (Gcd.gcd F q (∂ q)) q x (Gcd.gcd-divides_left F q (∂ q))) (Gcd.gcd-divides_left F d e))

          go : Irreducible.Multiplicity F p e → p ^ s ∣ h
          go m =
              let b = Multiplicity.le_of_power-divides F p e m.exponent (1 + s) (Irreducible.irreducible-nonzero F p i) m.is_multiplicity l in
              let x : m.exponent ≡ suc (s + (m.exponent - (1 + s)) + 0) = omega (arith, b) in
              power-divides_cofactor p h (Gcd.gcd F q (∂ q)) (m.exponent - (1 + s)) 0 s i nh
              (subst (λ z. IsMultiplicity F p z (s + (m.exponent - (1 + s)) + 0)) equation
              (multiplicity-formal_gcd p e _ i (subst (IsMultiplicity F p e) x m.is_multiplicity)))
              (Multiplicity.multiplicity_zero F p (Gcd.gcd F q (∂ q)) regular)

  -- gcd(q, ∂q) divides gcd(e, ∂e) for q | e: the division is exact
  pub formal_gcd-divides : (q e : Polynomial F) → ¬ (q ≡ 𝟘) → ¬ (e ≡ 𝟘) → q ∣ e → Gcd.gcd F q (∂ q) ∣ Gcd.gcd F e (∂ e)
  formal_gcd-divides q e nq ne h = Multiplicity.divides_of_powers F (Gcd.gcd F q (∂ q)) (Gcd.gcd F e (∂ e)) (Gcd.gcd-nonzero_left F q (∂ q) nq) powers
    where
      powers : (p : Polynomial F) → IsIrreducible F p → IsMonic F p → (k : ℕ) → p ^ k ∣ Gcd.gcd F q (∂ q) → p ^ k ∣ Gcd.gcd F e (∂ e)
      powers p i m zero d = subst (λ z. z ∣ Gcd.gcd F e (∂ e)) (sym (Laws.power-zero R p)) (Divides.unit-divides F 𝟙 (Gcd.gcd F e (∂ e)) (Degree.size-one F))
      powers p i m (suc k) d = go (Irreducible.multiplicity_of F p q i.not_constant nq) (Irreducible.multiplicity_of F p e i.not_constant ne)
        where
          nz : ¬ (p ≡ 𝟘)
          nz = Irreducible.irreducible-nonzero F p i

          cases : (a b : ℕ) → IsMultiplicity F p q a → IsMultiplicity F p e b → p ^ suc k ∣ Gcd.gcd F e (∂ e)
          cases zero b u v =
              let l = Multiplicity.le_of_power-divides F p q 0 (suc k) nz u (Divides.divides_trans F (p ^ suc k) (Gcd.gcd F q (∂ q)) q d (Gcd.gcd-divides_left F q (∂ q))) in
              absurd (omega (arith, l))
          cases (suc a) zero u v =
              let l = Multiplicity.le_of_power-divides F p e 0 (suc a) nz v (Divides.divides_trans F (p ^ suc a) q e (Multiplicity.power-divides_of_le F p q (suc a) (suc a) u (omega arith)) h) in
              absurd (omega (arith, l))
          cases (suc a) (suc b) u v =
              let l = Multiplicity.le_of_power-divides F p (Gcd.gcd F q (∂ q)) a (suc k) nz (multiplicity-formal_gcd p q a i u) d in
              let g = Multiplicity.le_of_power-divides F p e (suc b) (suc a) nz v (Divides.divides_trans F (p ^ suc a) q e (Multiplicity.power-divides_of_le F p q (suc a) (suc a) u (omega arith)) h) in
              Multiplicity.power-divides_of_le F p (Gcd.gcd F e (∂ e)) b (suc k) (multiplicity-formal_gcd p e b i v) (omega (arith, l, g))

          go : Irreducible.Multiplicity F p q → Irreducible.Multiplicity F p e → p ^ suc k ∣ Gcd.gcd F e (∂ e)
          go u v = cases u.exponent v.exponent u.is_multiplicity v.is_multiplicity

  -- a special p divides neither d nor h, if it divides neither d nor e
  pub special-not_divides : (p d e h : Polynomial F) → IsIrreducible F p → ¬ (p ∣ d) → ¬ (p ∣ e) → Gcd.gcd F e (∂ e) ≡ h * Gcd.gcd F (Gcd.gcd F d e) (∂ (Gcd.gcd F d e)) → ¬ (p ∣ d * h)
  special-not_divides p d e h i nd ne equation = Irreducible.not_divides-mul F p d h i nd
      (λ k. ne (Divides.divides_trans F p (Gcd.gcd F e (∂ e)) e (subst (λ z. p ∣ z) (sym equation) (Divides.divides_trans F p h _ k (Divides.divides-mul_right F h _))) (Gcd.gcd-divides_left F e (∂ e))))

  -- a power of a normal p that divides a·b, where all irreducible factors of b are special, divides a
  power-divides_normal : (p a b : Polynomial F) (k : ℕ) → IsNormalPrime F D p → ((f : Polynomial F) → IsIrreducible F f → IsMonic F f → f ∣ b → f ∣ D.derive f) → p ^ k ∣ a * b → p ^ k ∣ a
  power-divides_normal p a b k np special d = go (Irreducible.irreducible-coprime F p b np.irreducible)
    where
      go : IsCoprime F p b ⊎ p ∣ b → p ^ k ∣ a
      go (inl c) = Gcd.coprime-divides_of_mul F (p ^ k) b a (Gcd.coprime-power F p b k c) (subst (λ z. p ^ k ∣ z) (R.mul_comm a b) d)
      go (inr x) = absurd (np.normal (special p np.irreducible np.is_monic x))

  -- e holds the normal part of the denominator of g: den(g) divides e·S, and the irreducible factors of S are special
  module _ (f g y : Fraction F) (e h S : Polynomial F) (sf : SplittingFactorization F D f.denominator)
      (special : (p : Polynomial F) → IsIrreducible F p → IsMonic F p → p ∣ S → p ∣ D.derive p) (to_e : g.denominator ∣ e * S)
      (weak : IsWeaklyNormalized F D f) (is_denominator : IsNormalDenominator F sf.normal e h) (solution : left_side F D f y ≡ g) where
    to_power : (p : Polynomial F) (n : ℕ) → IsNormalPrime F D p → p ^ n ∣ (left_side F D f y).denominator → p ^ n ∣ e
    to_power p n np d = power-divides_normal p e S n np special
        (Divides.divides_trans F (p ^ n) g.denominator (e * S) (subst (λ z. p ^ n ∣ z.denominator) solution d) to_e)

    -- p^s | h, where y has a pole of order s = r + 1 at p
    clears : (p : Polynomial F) → IsNormalPrime F D p → (r : ℕ) (c : Polynomial F) → ¬ (p ∣ c) → y.denominator ≡ p ^ suc r * c → p ^ suc r ∣ h
    clears p np r c nc ey = go (Irreducible.multiplicity_of F p sf.normal np.irreducible.not_constant (Gcd.monic-nonzero F sf.normal sf.normal_is_monic))
      where
        i : IsIrreducible F p
        i = np.irreducible

        zero_power : (a : Polynomial F) (v : IsMultiplicity F p a 0) → a ≡ v.cofactor
        zero_power a v = v.equation ∙ ap (λ z. z * v.cofactor) (Laws.power-zero R p) ∙ Laws.one-mul R v.cofactor

        no_special : ¬ (p ∣ sf.special)
        no_special x = np.normal (sf.special_factors p i np.is_monic x)

        to_y : p ∣ y.denominator
        to_y = subst (λ z. p ∣ z) (sym ey) (Divides.divides_trans F p (p ^ suc r) (p ^ suc r * c)
            (subst (λ z. p ∣ z) (sym (Laws.power-suc R p r)) (Divides.divides-mul_right F p (p ^ r))) (Divides.divides-mul_right F (p ^ suc r) c))

        hy : Represents F y y.numerator (p ^ suc r * c)
        hy = ap (R.mul y.numerator) (sym ey)

        -- p divides neither s nor v nor D(p)
        unit : (v : Polynomial F) → ¬ (p ∣ v) → ¬ (p ∣ of_nat R (suc r) * (v * (D.derive p * p ^ 0)))
        unit v nv =
            Irreducible.not_divides-mul F p (of_nat R (suc r)) (v * (D.derive p * p ^ 0)) i (Poles.not_divides-of_nat F char p i r) (Irreducible.not_divides-mul F p v (D.derive p * p ^ 0) i nv
            (λ z. np.normal (subst (λ w. p ∣ w) (ap (R.mul (D.derive p)) (Laws.power-zero R p) ∙ R.mul-one (D.derive p)) z)))

        pole : (k : ℕ) (u v : Polynomial F) → ¬ (p ∣ v) → Represents F f u (p ^ suc k * v) → ¬ (p ∣ sub R u (of_nat R (suc r) * (v * (D.derive p * p ^ k)))) → p ^ (suc k + suc r) ∣ e
        pole k u v nv hf residue = to_power p (suc k + suc r) np
            (Poles.pole_of_equation F D p i r k y f y.numerator c u v (Poles.numerator-not_divides F p i y to_y) nc nv hy hf residue)

        cases : (n : ℕ) → IsMultiplicity F p sf.normal n → p ^ suc r ∣ h
        cases zero v = is_denominator.elsewhere p i (suc r) regular (pole 0 (p * f.numerator) f.denominator no_pole represents residue)
          where
            regular : ¬ (p ∣ sf.normal)
            regular x = v.not_divides (subst (λ z. p ∣ z) (zero_power sf.normal v) x)

            no_pole : ¬ (p ∣ f.denominator)
            no_pole = subst (λ z. ¬ (p ∣ z)) (sym sf.equation) (Irreducible.not_divides-mul F p sf.normal sf.special i regular no_special)

            represents : Represents F f (p * f.numerator) (p ^ 1 * f.denominator)
            represents = ap (λ z. f.numerator * (z * f.denominator)) (Laws.power-one R p) ∙ Laws.mul_swap R f.numerator p f.denominator

            residue : ¬ (p ∣ sub R (p * f.numerator) (of_nat R (suc r) * (f.denominator * (D.derive p * p ^ 0))))
            residue d = unit f.denominator no_pole (of_difference _ _ (Divides.divides-mul_right F p f.numerator) d)
              where
                of_difference : (x z : Polynomial F) → p ∣ x → p ∣ sub R x z → p ∣ z
                of_difference x z a b = subst (λ w. p ∣ w) (Laws.neg-neg R z) (Divides.divides-neg F p (R.neg z) (Divides.divides_of_add F p x (R.neg z) a b))
        cases (suc k) v = is_denominator.at_pole p i k (suc r) v (pole k f.numerator (v.cofactor * sf.special) no_factor represents (residue k v represents))
          where
            no_factor : ¬ (p ∣ v.cofactor * sf.special)
            no_factor = Irreducible.not_divides-mul F p v.cofactor sf.special i v.not_divides no_special

            represents : Represents F f f.numerator (p ^ suc k * (v.cofactor * sf.special))
            represents = ap (R.mul f.numerator) (sym (R.mul_assoc (p ^ suc k) v.cofactor sf.special) ∙ ap (λ z. z * sf.special) (sym v.equation) ∙ sym sf.equation)

            residue : (k : ℕ) (v : IsMultiplicity F p sf.normal (suc k)) → Represents F f f.numerator (p ^ suc k * (v.cofactor * sf.special))
                → ¬ (p ∣ sub R f.numerator (of_nat R (suc r) * (v.cofactor * sf.special * (D.derive p * p ^ k))))
            residue zero v hf = subst (λ z. ¬ (p ∣ sub R f.numerator (of_nat R (suc r) * (v.cofactor * sf.special * z)))) (sym (ap (R.mul (D.derive p)) (Laws.power-zero R p) ∙ R.mul-one (D.derive p)))
                (weak p np f.numerator (v.cofactor * sf.special) (Irreducible.not_divides-mul F p v.cofactor sf.special i v.not_divides no_special)
                (subst (λ z. Represents F f f.numerator (z * (v.cofactor * sf.special))) (Laws.power-one R p) hf) r)
            residue (suc j) v hf = λ d. Poles.numerator-not_divides F p i f pole_at
                (Divides.divides_of_add F p (R.neg (of_nat R (suc r) * (v.cofactor * sf.special * (D.derive p * p ^ suc j)))) f.numerator
                (Divides.divides-neg F p _ (Divides.divides-mul_left F p _ _ (Divides.divides-mul_left F p _ _ (Divides.divides-mul_left F p (D.derive p) (p ^ suc j) first))))
                (subst (λ z. p ∣ z) (R.add_comm _ _) d))
              where
                first : p ∣ p ^ suc j
                first = subst (λ z. p ∣ z) (sym (Laws.power-suc R p j)) (Divides.divides-mul_right F p (p ^ j))

                pole_at : p ∣ f.denominator
                pole_at = subst (λ z. p ∣ z) (sym sf.equation) (Divides.divides_trans F p sf.normal (sf.normal * sf.special)
                    (subst (λ z. p ∣ z) (sym v.equation) (Divides.divides_trans F p (p ^ suc (suc j)) (p ^ suc (suc j) * v.cofactor)
                    (subst (λ z. p ∣ z) (sym (Laws.power-suc R p (suc j))) (Divides.divides-mul_right F p (p ^ suc j))) (Divides.divides-mul_right F (p ^ suc (suc j)) v.cofactor)))
                    (Divides.divides-mul_right F sf.normal sf.special))

        go : Irreducible.Multiplicity F p sf.normal → p ^ suc r ∣ h
        go m = cases m.exponent m.is_multiplicity

    -- no normal irreducible polynomial divides the denominator of y·h
    pub no_normal_pole : (p : Polynomial F) → IsNormalPrime F D p → ¬ (p ∣ (K.mul y (of_polynomial F h)).denominator)
    no_normal_pole p np d = go (Irreducible.multiplicity_of F p y.denominator np.irreducible.not_constant (denominator-nonzero F y))
      where
        product : Represents F (K.mul y (of_polynomial F h)) (y.numerator * h) (y.denominator * 𝟙)
        product = represents-mul F y (of_polynomial F h) y.numerator y.denominator h 𝟙 refl (represents-polynomial F h)

        to_y : p ∣ y.denominator
        to_y = Divides.divides_trans F p _ y.denominator d
            (subst (λ z. (K.mul y (of_polynomial F h)).denominator ∣ z) (R.mul-one y.denominator) (Poles.denominator-divides F (K.mul y (of_polynomial F h)) _ _ product))

        cases : (s : ℕ) → IsMultiplicity F p y.denominator s → ⊥
        cases zero v = v.not_divides (subst (λ z. p ∣ z) (zero_power y.denominator v) to_y)
          where
            zero_power : (a : Polynomial F) (v : IsMultiplicity F p a 0) → a ≡ v.cofactor
            zero_power a v = v.equation ∙ ap (λ z. z * v.cofactor) (Laws.power-zero R p) ∙ Laws.one-mul R v.cofactor
        cases (suc r) v = v.not_divides (Divides.divides_trans F p _ v.cofactor d
            (Poles.denominator-divides F (K.mul y (of_polynomial F h)) (y.numerator * cleared.cofactor) v.cofactor
            (represents_same F (K.mul y (of_polynomial F h)) (y.numerator * h) (y.denominator * 𝟙) (y.numerator * cleared.cofactor) v.cofactor
            (subst (λ z. ¬ (z ≡ 𝟘)) (sym (R.mul-one y.denominator)) (denominator-nonzero F y)) product cross)))
          where
            cleared : p ^ suc r ∣ h
            cleared = clears p np r v.cofactor v.not_divides v.equation

            cross : y.numerator * h * v.cofactor ≡ y.numerator * cleared.cofactor * (y.denominator * 𝟙)
            cross =
                ap (λ z. y.numerator * z * v.cofactor) cleared.equation ∙ ap (λ z. z * v.cofactor) (sym (R.mul_assoc y.numerator cleared.cofactor (p ^ suc r)))
                ∙ R.mul_assoc (y.numerator * cleared.cofactor) (p ^ suc r) v.cofactor
                ∙ ap (R.mul (y.numerator * cleared.cofactor)) (sym v.equation ∙ sym (R.mul-one y.denominator))

        go : Irreducible.Multiplicity F p y.denominator → ⊥
        go m = cases m.exponent m.is_multiplicity

    -- the denominator of y·h is special
    pub special_denominator : (K.mul y (of_polynomial F h)).denominator ∣ D.derive ((K.mul y (of_polynomial F h)).denominator)
    special_denominator = SplittingFactorizations.special_of_factors F char D (K.mul y (of_polynomial F h)).denominator (denominator-nonzero F (K.mul y (of_polynomial F h)))
        (λ p i m d. from p i m d (Irreducible.irreducible-coprime F p (D.derive p) i))
      where
        from : (p : Polynomial F) → IsIrreducible F p → IsMonic F p → p ∣ (K.mul y (of_polynomial F h)).denominator → IsCoprime F p (D.derive p) ⊎ p ∣ D.derive p → p ∣ D.derive p
        from p i m d (inl c) = absurd (no_normal_pole p (record { irreducible = i; is_monic = m; normal = SplittingFactorizations.normal-not_special F char D p i c }) d)
        from p i m d (inr x) = x
