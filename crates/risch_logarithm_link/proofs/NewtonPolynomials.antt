-- The characteristic polynomial of ρ from the traces of its powers modulo d by lists is that of the theory, where ρ·e = a modulo d.
--     newton-stands      the rule of the characteristic polynomial gives a polynomial of Newton's rule
--     traces-image      the traces of powers by lists
--     residue_below      ρ over K
use Rattle.std.proofs.Common.{◌≡◌, refl, sym, ap, ap₂, ◌∙◌, ℕ, zero, suc, ◌+◌, ◌-◌, ◌≤◌, ◌<◌, List, [], ◌∷◌, length, get_or, map, Ok, arith, subst}
use Rattle.std.proofs.lemmas.List.{length-map}
use Rattle.risch_ring.specs.CommRing.{CommRing, Field, RingMap, HasCharacteristicZero, power, sub}
use Rattle.risch_ring.proofs.Expression.{reading}
use Rattle.risch_ring.proofs.Laws as Laws
use Rattle.risch_ring.proofs.RingMaps as RingMaps
use Rattle.risch_ring.proofs.Solver.{ring}
use Rattle.risch_univariate.specs.Polynomial.{Polynomial}
use Rattle.risch_univariate.specs.PolynomialRing.{polynomials}
use Rattle.risch_univariate.specs.Degree.{size}
use Rattle.risch_univariate.specs.Division.{Divides, IsCoprime}
use Rattle.risch_univariate.proofs.Divides as Divides
use Rattle.risch_univariate.proofs.Gcd as Gcd
use Rattle.risch_extension.specs.NewtonPolynomial.{power_trace, IsNewtonPolynomial}
use Rattle.risch_extension.specs.PolynomialMap.{map_polynomial}
use Rattle.risch_extension.proofs.Extensions.{map-coprime}
use Rattle.risch_extension.proofs.PolynomialMaps as Maps
use Rattle.risch_mean.specs.Element as mean
use Rattle.risch_mean.specs.ElementField.{elements}
use Rattle.risch_mean.specs.ElementPolynomials.{power_modulo, trace_modulo, times_modulo, remainder_modulo}
use Rattle.risch_polynomial_theory.specs.Meaning.{AllValid}
use Rattle.risch_level.specs.Levels.{Element, element}
use Rattle.risch_element_theory.specs.WholeTower.{IsElement, IsPolynomial, meaning, polynomial}
use Rattle.risch_trace.proofs.Remainders as Remainders
use Rattle.risch_trace.proofs.TraceRules.{IsMonicWith, length-modulus, polynomial-modulus, remainder-polynomial}
use Rattle.risch_sub.specs.PowerTracesMeaning.{ArePowerTraces}
use Rattle.risch_logarithm_theory.proofs.MappedPolynomials as Mapped
use Rattle.risch_logarithm_theory.proofs.TracesByLists.{trace-by_list}
use Rattle.risch_logarithm_rules.specs.Newton.{characteristic_polynomial}
use Rattle.risch_logarithm_link.proofs.CharacteristicPolynomials.{IsStandingCharacteristic, characteristic_polynomial-stands}
use Rattle.risch_logarithm_link.proofs.NewtonCoefficients.{IsImage, symmetric, symmetric-zero, symmetric-newton}
use Rattle.risch_logarithm_link.proofs.StandingPolynomials as Standing
use Rattle.risch_logarithm_link.proofs.StandingPolynomials.{StandsFor}

-- the remainder of a power is the power of the remainder
remainder_of-power : (r : List mean.Element) (some : 1 ≤ length r) (p : Polynomial elements) (j : ℕ)
    → Remainders.remainder_of elements r some (power (polynomials elements) p j) ≡ power_modulo r (Remainders.remainder_of elements r some p) j
remainder_of-power r some p zero = ap (Remainders.remainder_of elements r some) (Laws.power-zero (polynomials elements) p) ∙ Remainders.remainder_of-one elements r some
remainder_of-power r some p (suc j) =
    ap (Remainders.remainder_of elements r some) (Laws.power-suc (polynomials elements) p j) ∙ Remainders.remainder_of-mul elements r some p (power (polynomials elements) p j)
    ∙ ap (times_modulo r (Remainders.remainder_of elements r some p)) (remainder_of-power r some p j)

valid-at : (ps : List Element) (i : ℕ) → AllValid IsElement ps → i < length ps → IsElement (get_or ps i element.zero)
valid-at [] i all l = absurd (omega (arith, l))
valid-at (p ∷ ps) zero all l = all.0
valid-at (p ∷ ps) (suc i) all l = valid-at ps i all.1 (omega (arith, l))

module _ {A : Type 0} (F : Field A) (f : RingMap F.ring elements.ring) where
  abbrev R : CommRing (Polynomial F)
  R = polynomials F

  abbrev S : CommRing (Polynomial elements)
  S = polynomials elements

  abbrev m : Polynomial F → Polynomial elements
  m = map_polynomial F elements f

  -- ---- Newton's rule
  pub record HasNewtonPolynomial (C : List Element) (d : Polynomial F) (n : ¬ (d ≡ (polynomials F).zero)) (ρ : Polynomial F) : Type 0 where
    pub polynomial_of : Polynomial F
    pub stands : StandsFor F f C polynomial_of
    pub is_newton : IsNewtonPolynomial F d n ρ polynomial_of

  pub newton-stands : HasCharacteristicZero F.ring → (d : Polynomial F) (n : ¬ (d ≡ (polynomials F).zero)) (ρ : Polynomial F) (traces C : List Element) → size F d ≡ suc (length traces) → length traces ≤ 255
      → ((i : ℕ) → i < length traces → IsImage F f (get_or traces i element.zero) (power_trace F d n ρ (suc i))) → characteristic_polynomial traces ≡ Ok C → HasNewtonPolynomial C d n ρ
  newton-stands char d n ρ traces C count small h is = of_standing (characteristic_polynomial-stands F f char (λ j. power_trace F d n ρ (suc j)) traces C small h is)
    where
      of_standing : IsStandingCharacteristic F f char (λ j. power_trace F d n ρ (suc j)) (length traces) C → HasNewtonPolynomial C d n ρ
      of_standing k = record {
        polynomial_of = k.polynomial_of;
        stands = k.stands;
        is_newton = record {
          e = symmetric F (λ j. power_trace F d n ρ (suc j));
          e-zero = symmetric-zero F (λ j. power_trace F d n ρ (suc j));
          e-suc = λ i. symmetric-newton F (λ j. power_trace F d n ρ (suc j)) char i;
          coefficients = λ j i e. k.coefficients j i (omega (arith, e, count));
          size-le = let l = k.size-le in omega (arith, l, count);
        };
      }

  -- ---- the traces
  -- p_(i+1) is the trace of ρ^(i+1), where ρ is congruent to the list modulo d
  pub traces-image : (denominator rho traces : List Element) (d ρ : Polynomial F) (n : ¬ (d ≡ (polynomials F).zero)) → StandsFor F f denominator d → AllValid IsElement traces → ArePowerTraces denominator rho traces
      → length traces ≡ length denominator - 1 → Divides elements (polynomial denominator) (sub (polynomials elements) (map_polynomial F elements f ρ) (polynomial rho))
      → (i : ℕ) → i < length traces → IsImage F f (get_or traces i element.zero) (power_trace F d n ρ (suc i))
  traces-image denominator rho traces d ρ n h valid t count congruent i l = record {
    normal = valid-at traces i valid l;
    image =
        Mapped.power_trace-map F elements f d n n' ρ (suc i)
        ∙ trace-by_list elements t.below some (m d) same n' (power S (m ρ) (suc i))
        ∙ ap (trace_modulo t.below)
        (remainder_of-power t.below some (m ρ) (suc i)
        ∙ ap (λ p. power_modulo t.below p (suc i))
        (Remainders.same_of_divides elements t.below some (m ρ) (polynomial rho) (subst (λ z. Divides elements z (sub S (m ρ) (polynomial rho))) (polynomial-modulus denominator t.below monic) congruent)
        ∙ remainder-polynomial t.below some rho))
        ∙ sym (t.are i l);
  }
    where
      n' : ¬ (map_polynomial F elements f d ≡ (polynomials elements).zero)
      n' = Maps.map_polynomial-nonzero F elements f d n

      some : 1 ≤ length t.below
      some = let a = ap length t.modulus in let b = length-map denominator meaning in let c = Remainders.length-with_leading_one elements t.below in omega (arith, a, b, c, count, l)

      monic : IsMonicWith denominator t.below
      monic = record { kept = h.kept; some = some; means = t.modulus }

      same : map_polynomial F elements f d ≡ Remainders.modulus_of elements t.below
      same = h.image ∙ polynomial-modulus denominator t.below monic

  -- ---- ρ over K
  -- ρ·e = a modulo d, and ρ is congruent modulo d to each list with this property
  pub record IsResidue (denominator rho : List Element) (d a e ρ : Polynomial F) : Type 0 where
    pub equation : Divides F d (sub (polynomials F) ((polynomials F).mul ρ e) a)
    pub congruent : Divides elements (polynomial denominator) (sub (polynomials elements) (map_polynomial F elements f ρ) (polynomial rho))

  pub residue_below : (denominator numerator rho : List Element) (d a e : Polynomial F) (E : Polynomial elements) → StandsFor F f denominator d → StandsFor F f numerator a → map_polynomial F elements f e ≡ E
      → (c : IsCoprime F d e) → Divides elements (polynomial denominator) (sub (polynomials elements) ((polynomials elements).mul (polynomial rho) E) (polynomial numerator))
      → IsResidue denominator rho d a e ((polynomials F).mul c.right a)
  residue_below denominator numerator rho d a e E h k image c given = record { equation = equation; congruent = Gcd.coprime-divides_of_mul elements (polynomial denominator) E _ coprime product }
    where
      ρ : Polynomial F
      ρ = (polynomials F).mul c.right a

      equation : Divides F d (sub (polynomials F) ((polynomials F).mul ((polynomials F).mul c.right a) e) a)
      equation = record {
        cofactor = R.neg (R.mul a c.left);
        equation = ap (sub R (R.mul ρ e)) (sym (R.mul-one a) ∙ ap (R.mul a) (sym c.equation)) ∙ expanded c.left c.right a d e;
      }
        where
          expanded : (l r a d e : Polynomial F) → sub (polynomials F) ((polynomials F).mul ((polynomials F).mul r a) e) ((polynomials F).mul a ((polynomials F).add ((polynomials F).mul l d) ((polynomials F).mul r e)))
              ≡ (polynomials F).mul ((polynomials F).neg ((polynomials F).mul a l)) d
          expanded l r a d e = ring R (l ∷ r ∷ a ∷ d ∷ e ∷ []) (search reading depth 40 fits 9000) refl

      coprime : IsCoprime elements (polynomial denominator) E
      coprime = subst (IsCoprime elements (polynomial denominator)) image (subst (λ z. IsCoprime elements z (m e)) h.image (map-coprime F elements f d e c))

      mapped : Divides elements (polynomial denominator) (sub (polynomials elements) ((polynomials elements).mul (m ρ) E) (polynomial numerator))
      mapped = subst (λ z. Divides elements z (sub S (S.mul (m ρ) E) (polynomial numerator))) h.image
          (subst (Divides elements (m d))
          (Maps.map_polynomial-add F elements f (R.mul ρ e) (R.neg a)
          ∙ ap₂ S.add (Maps.map_polynomial-mul F elements f ρ e ∙ ap (S.mul (m ρ)) image) (Standing.map-neg F f a ∙ ap S.neg k.image))
          (Mapped.divides-map F elements f d (sub R (R.mul ρ e) a) equation))

      product : Divides elements (polynomial denominator) ((polynomials elements).mul E (sub (polynomials elements) (m ρ) (polynomial rho)))
      product = subst (Divides elements (polynomial denominator)) (identity (m ρ) (polynomial rho) E (polynomial numerator))
          (Divides.divides-sub elements (polynomial denominator) (sub S (S.mul (m ρ) E) (polynomial numerator)) (sub S (S.mul (polynomial rho) E) (polynomial numerator)) mapped given)
        where
          identity : (x y e a : Polynomial elements) → sub (polynomials elements) (sub (polynomials elements) ((polynomials elements).mul x e) a) (sub (polynomials elements) ((polynomials elements).mul y e) a)
              ≡ (polynomials elements).mul e (sub (polynomials elements) x y)
          identity x y e a = ring S (x ∷ y ∷ e ∷ a ∷ []) (search reading depth 40 fits 9000) refl
