-- What the traces are, of the ρ of an element a/d: the claims of the answers.
--     constant-means, not_constant-means, new_constant-means
use Rattle.std.specs.Prelude.{get_or}
use Rattle.std.proofs.Common.{◌≡◌, ℕ, zero, suc, ◌+◌, ◌≤◌, ◌<◌, List, [], ◌∷◌, ◌++◌, map, length, Ok, refl, sym, ◌∙◌, ap, arith, subst}
use Rattle.std.proofs.lemmas.List.{length-map, length_push, get_or_push, get_or_append_left}
use Rattle.risch_ring.specs.CommRing.{CommRing, sub}
use Rattle.risch_univariate.specs.Polynomial.{Polynomial, of_list}
use Rattle.risch_univariate.specs.PolynomialRing.{polynomials}
use Rattle.risch_univariate.specs.Degree.{IsMonic}
use Rattle.risch_univariate.specs.Division.{Divides, IsCoprime}
use Rattle.risch_univariate.proofs.Divides as DividesLaws
use Rattle.risch_univariate.proofs.Gcd as Gcd
use Rattle.risch_mean.specs.Element as mean
use Rattle.risch_mean.specs.Element.{AllInField}
use Rattle.risch_mean.specs.ElementField.{elements}
use Rattle.risch_mean.specs.ElementPolynomials.{polynomial_derivative, monic_polynomial, remainder_modulo, times_modulo, power_modulo, trace_modulo, IsInverseModulo}
use Rattle.risch_mean.specs.Constants as constants
use Rattle.risch_mean.specs.Constants.{IsRational}
use Rattle.risch_mean.specs.Residues as residues
use Rattle.risch_mean.specs.Tower.{derive_in}
use Rattle.risch_polynomial_theory.specs.Meaning.{AllValid}
use Rattle.risch_level.specs.Levels.{Element, element}
use Rattle.risch_element_theory.specs.PolynomialMeaning.{polynomial_of}
use Rattle.risch_element_theory.specs.WholeTower.{IsElement, IsPolynomial, meaning, polynomial, AllWithin}
use Rattle.risch_element_theory.specs.ElementPolynomials.{◌+ₚ◌, ◌*ₚ◌, negative}
use Rattle.risch_element_theory.proofs.ElementDerivation.{element-lies}
use Rattle.risch_trace.proofs.Remainders as Remainders
use Rattle.risch_trace.proofs.Remainders.{modulus_of}
use Rattle.risch_trace.proofs.TraceRules.{IsMonicWith, length-modulus, polynomial-modulus, remainder-polynomial}
use Rattle.risch_sub.specs.PowerTraces.{power_traces}
use Rattle.risch_sub.specs.PowerTracesMeaning.{ArePowerTraces}
use Rattle.risch_sub.proofs.PowerTraceRules.{power_traces-mean}
use Rattle.risch_tower.specs.declared.level.Level.{Level}
use Rattle.risch_tower.specs.TowerMeaning.{monomials}
use Rattle.risch_monomial.specs.LevelDerivation.{level_derivation, IsLevelOf}
use Rattle.risch_residue_traces.specs.TracesMeaning.{IsResidueOf}
use Rattle.risch_residue_traces.proofs.PolynomialDerivatives.{of_derivative}
use Rattle.risch_residue_traces.proofs.Rationals.{not_rational}
use Rattle.risch_residue_traces.proofs.ResidueMeaning.{residue-equation}
use Rattle.risch_residue_traces.proofs.ToldTraces.{IsNoFraction, AllFractions, fractions-rational}

abbrev R : CommRing (Polynomial elements)
R = polynomials elements

-- ---- inverses modulo d
module _ (r : List mean.Element) (some : 1 ≤ length r) where
  -- p·v for a polynomial v
  product-is : (p : List mean.Element) (v : Polynomial elements) → times_modulo r p (Remainders.remainder_of elements r some v) ≡ Remainders.remainder_of elements r some (R.mul v (of_list elements p))
  product-is p v =
      sym (Remainders.times_mod-remainder elements r some p (Remainders.remainder_of elements r some v) (Remainders.length-remainder_of elements r some v))
      ∙ ap (λ u. times_modulo r u (Remainders.remainder_of elements r some v)) (sym (Remainders.remainder_of-of_list elements r some p)) ∙ sym (Remainders.remainder_of-mul elements r some (of_list elements p) v)
      ∙ ap (Remainders.remainder_of elements r some) (R.mul_comm (of_list elements p) v)

  inverse-is : (p : List mean.Element) (v : Polynomial elements) → Divides elements (modulus_of elements r) (sub R (R.mul v (of_list elements p)) R.one) → IsInverseModulo r p (Remainders.remainder_of elements r some v)
  inverse-is p v h = record {
    member = Remainders.length-remainder_of elements r some v;
    is = product-is p v ∙ Remainders.same_of_divides elements r some (R.mul v (of_list elements p)) R.one h ∙ Remainders.remainder_of-one elements r some;
  }

  inverse-remainder : (p v : List mean.Element) → IsInverseModulo r p v → IsInverseModulo r (remainder_modulo r p) v
  inverse-remainder p v h = record { member = h.member; is = Remainders.times_mod-remainder elements r some p v h.member ∙ h.is }

-- ---- the field of the coefficients
all-in_field : (level : ℕ) (p : List Element) → AllValid IsElement p → AllWithin level p → AllInField level (map meaning p)
all-in_field level [] valid within = tt
all-in_field level (c ∷ p) valid within = (element-lies level c valid.0 within.0, all-in_field level p valid.1 within.1)

all-below : (level : ℕ) (r : List mean.Element) → AllInField level (monic_polynomial r) → AllInField level r
all-below level [] all = tt
all-below level (c ∷ r) all = (all.0, all-below level r all.1)

monic-from : (d : List Element) (r : List mean.Element) → IsPolynomial d → 2 ≤ length d → map meaning d ≡ monic_polynomial r → IsMonicWith d r
monic-from d r k large e = record {
  kept = k;
  some = let same : length d ≡ suc (length r) = sym (length-map d meaning) ∙ ap length e ∙ Remainders.length-with_leading_one elements r in omega (arith, same, large);
  means = e;
}

-- ---- of a/d and its ρ
module _ (tower : List Level) (level : ℕ) (l : IsLevelOf tower level) (a d rho : List Element) (kd : IsPolynomial d) (wd : AllWithin level d) (ka : IsPolynomial a) (wa : AllWithin level a)
    (monic : IsMonic elements (polynomial d)) (large : 2 ≤ length d) (proper : length a < length d) (coprime : IsCoprime elements (polynomial a) (polynomial d)) (residue : IsResidueOf tower level a d rho) where
  abbrev D : Polynomial elements
  D = (level_derivation (monomials tower) level).derive (polynomial d)

  -- d divides ρ·Dd - a
  pub residue-divides : Divides elements (polynomial d) ((polynomial rho *ₚ D) +ₚ negative (polynomial a))
  residue-divides =
      subst (Divides elements (polynomial d)) (residue-equation R (polynomial a) residue.inverse D (polynomial rho))
      (DividesLaws.divides-sub elements (polynomial d) (R.mul (polynomial a) (sub R (R.mul residue.inverse D) R.one)) (R.mul (sub R (R.mul (polynomial a) residue.inverse) (polynomial rho)) D)
      (DividesLaws.divides-mul_left elements (polynomial d) (polynomial a) (sub R (R.mul residue.inverse D) R.one) residue.is_inverse)
      (subst (Divides elements (polynomial d)) (R.mul_comm D (sub R (R.mul (polynomial a) residue.inverse) (polynomial rho)))
      (DividesLaws.divides-mul_left elements (polynomial d) D (sub R (R.mul (polynomial a) residue.inverse) (polynomial rho)) residue.residue)))

  -- ---- the definition of risch_mean
  module _ (r : List mean.Element) (modulus : map meaning d ≡ monic_polynomial r) where
    m : IsMonicWith d r
    m = monic-from d r kd large modulus

    some : 1 ≤ length r
    some = m.some

    divides-modulus : (p : Polynomial elements) → Divides elements (polynomial d) p → Divides elements (modulus_of elements r) p
    divides-modulus p h = subst (λ q. Divides elements q p) (polynomial-modulus d r m) h

    -- a is invertible
    abbrev a-inverse : Polynomial elements
    a-inverse = coprime.left

    a-inverse-divides : Divides elements (polynomial d) (sub R (R.mul a-inverse (polynomial a)) R.one)
    a-inverse-divides = Gcd.modular_inverse elements (polynomial a) (polynomial d) coprime

    is-inverse-a : IsInverseModulo r (map meaning a) (Remainders.remainder_of elements r some a-inverse)
    unfolding polynomial_of
    is-inverse-a = inverse-is r some (map meaning a) a-inverse (divides-modulus (sub R (R.mul a-inverse (polynomial a)) R.one) a-inverse-divides)

    -- the derivative of d, as a list
    abbrev derived : List mean.Element
    derived = polynomial_derivative (monomials tower) level (monic_polynomial r)

    derived-is : of_list elements derived ≡ D
    unfolding polynomial_of
    derived-is =
        of_derivative tower level l (monic_polynomial r) (subst (AllInField level) modulus (all-in_field level d kd.all_valid wd))
        ∙ ap (λ q. (level_derivation (monomials tower) level).derive (of_list elements q)) (sym modulus)

    abbrev inverse : List mean.Element
    inverse = Remainders.remainder_of elements r some residue.inverse

    is-inverse-derivative : IsInverseModulo r (remainder_modulo r derived) inverse
    is-inverse-derivative =
        inverse-remainder r some derived inverse
        (inverse-is r some derived residue.inverse (subst (λ q. Divides elements (modulus_of elements r) (sub R (R.mul residue.inverse q) R.one)) (sym derived-is)
        (divides-modulus (sub R (R.mul residue.inverse D) R.one) residue.is_inverse)))

    abbrev simple : residues.SimplePart (monomials tower) level (map meaning a) r
    simple = record {
      below_a = all-in_field level a ka.all_valid wa;
      below_d = all-below level r (subst (AllInField level) modulus (all-in_field level d kd.all_valid wd));
      degree = let whole = length-modulus d r m in omega (arith, whole, proper, length-map a meaning);
      positive = some;
      inverse_a = Remainders.remainder_of elements r some a-inverse;
      is_inverse_a = is-inverse-a;
      inverse_derivative = inverse;
      is_inverse_derivative = is-inverse-derivative;
    }

    -- ρ is the product of a and the inverse
    residue-is : times_modulo r (map meaning a) inverse ≡ remainder_modulo r (map meaning rho)
    unfolding polynomial_of
    residue-is =
        product-is r some (map meaning a) residue.inverse
        ∙ ap (Remainders.remainder_of elements r some) (R.mul_comm residue.inverse (polynomial a))
        ∙ Remainders.same_of_divides elements r some (R.mul (polynomial a) residue.inverse) (polynomial rho) (divides-modulus (sub R (R.mul (polynomial a) residue.inverse) (polynomial rho)) residue.residue)
        ∙ remainder-polynomial r some rho

  -- ---- the answers
  module _ (wrho : AllWithin level rho) (k : ℕ) (p : Element) (lower : List Element) (formed : power_traces d rho k ≡ Ok (lower ++ p ∷ [])) (count : k ≡ length lower + 1) (fractions : AllFractions lower)
      (moving : ¬ (derive_in (monomials tower) (meaning p) ≡ mean.zero)) where
    traces : ArePowerTraces d rho (lower ++ p ∷ [])
    traces = power_traces-mean d rho k (lower ++ p ∷ []) kd monic large residue.kept formed

    abbrev r : List mean.Element
    r = traces.below

    -- the trace of ρ^(i + 1)
    trace-at : (i : ℕ) → i < length lower + 1 → trace_modulo r (power_modulo r (times_modulo r (map meaning a) (inverse r traces.modulus)) (suc i)) ≡ meaning (get_or (lower ++ p ∷ []) i element.zero)
    trace-at i below =
        ap (λ u. trace_modulo r (power_modulo r u (suc i))) (residue-is r traces.modulus)
        ∙ sym (traces.are i (omega (arith, below, length_push lower p)))

    lower-rational : (j : ℕ) → 1 ≤ j → j < k → IsRational (trace_modulo r (power_modulo r (times_modulo r (map meaning a) (inverse r traces.modulus)) j))
    lower-rational zero some below = absurd (omega (arith, some))
    lower-rational (suc i) some below =
        let here : i < length lower = omega (arith, below, count) in
        subst IsRational (sym (trace-at i (omega (arith, here)) ∙ ap meaning (get_or_append_left lower (p ∷ []) element.zero i here))) (fractions-rational lower i fractions here)

    last-trace : trace_modulo r (power_modulo r (times_modulo r (map meaning a) (inverse r traces.modulus)) k) ≡ meaning p
    last-trace =
        let last : k ≡ suc (length lower) = omega (arith, count) in
        ap (λ (n : ℕ). trace_modulo r (power_modulo r (times_modulo r (map meaning a) (inverse r traces.modulus)) n)) last
        ∙ trace-at (length lower) (omega arith) ∙ ap meaning (get_or_push lower p element.zero (length lower) refl)

    are-not_constant : residues.NotConstant (monomials tower) level (map meaning a) r k (meaning p)
    are-not_constant = record {
      part = simple r traces.modulus;
      at_least_one = omega (arith, count);
      lower_traces = lower-rational;
      is_trace = last-trace;
      not_constant = moving;
    }

    pub below-of : (b : List mean.Element) × (map meaning d ≡ monic_polynomial b) × residues.NotConstant (monomials tower) level (map meaning a) b k (meaning p)
    below-of = (r, traces.modulus, are-not_constant)

-- a trace that is no fraction and has the derivative 0
pub new_constant-means : (tower : List Level) (level : ℕ) (p : Element) → IsNoFraction level p → derive_in (monomials tower) (meaning p) ≡ mean.zero → constants.IsNewConstant (monomials tower) level (meaning p)
new_constant-means tower level p h e = record {
  in_field = element-lies level p h.is_element h.within;
  constant = e;
  not_rational = not_rational p h.is_element h.none;
}
