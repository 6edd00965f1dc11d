-- What the traces of an element h = a/d of a level say, by the rule.
--     denominator-large      deg d ≥ 1
--     constant-stands, not_constant-stands, not_sound-stands      the claims of the answers
use Rattle.std.specs.Prelude.{IfOk}
use Rattle.std.proofs.Common.{◌≡◌, ℕ, ◌+◌, ◌-◌, ◌≤◌, ◌<◌, inl, inr, false, List, [], ◌∷◌, map, length, Result, Ok, Err, refl, ◌∙◌, ap, arith, subst}
use Rattle.risch_ring.proofs.FieldLaws as FieldLaws
use Rattle.risch_ring.proofs.RingMaps.{identity_map}
use Rattle.risch_univariate.proofs.Evaluation as Evaluation
use Rattle.risch_mean.specs.Element as mean
use Rattle.risch_mean.specs.Element.{variable}
use Rattle.risch_mean.specs.ElementField.{elements}
use Rattle.risch_mean.specs.Constants as constants
use Rattle.risch_mean.specs.Tower.{derive_in}
use Rattle.risch_polynomial.specs.Poly as poly
use Rattle.risch_level.specs.Levels.{Element, element}
use Rattle.risch_elem.specs.declared.units.Stop.TheVariants as stops
use Rattle.risch_element_theory.specs.WholeTower.{IsElement, IsPolynomial, meaning, polynomial, Within, AllWithin}
use Rattle.risch_element_theory.proofs.ElementLaws.{nonzero-stands}
use Rattle.risch_element_theory.proofs.ElementPolynomials.{element_interprets}
use Rattle.risch_element_theory.proofs.PartsLaws as Parts
use Rattle.risch_element_theory.proofs.PolynomialRules as Rules
use Rattle.risch_run.specs.declared.Ended.{Ended}
use Rattle.risch_run.specs.declared.Ended.TheVariants as ended
use Rattle.risch_run.specs.Ruled.{Ruled, IfErrNotSound}
use Rattle.risch_run.specs.Counted.{IsCountedResult}
use Rattle.risch_sub.proofs.PowerTraceRules.{is_monic_with, power_traces-mean, power_traces-count}
use Rattle.risch_tower.specs.declared.level.Level.{Level}
use Rattle.risch_tower.specs.TowerMeaning.{monomials}
use Rattle.risch_monomial.specs.LevelDerivation.{IsLevelOf}
use Rattle.risch_monomial.specs.LevelElements.{at, numerator_at, denominator_at}
use Rattle.risch_monomial.proofs.LevelElements.{at-some}
use Rattle.risch_monomial.proofs.LowestTerms.{parts-coprime, parts-product, denominator-monic}
use Rattle.risch_residue_traces.specs.declared.traces.Traces.{Traces}
use Rattle.risch_residue_traces.specs.declared.traces.Traces.TheVariants.{Constant, NotConstant}
use Rattle.risch_residue_traces.specs.ResidueTraces.{traces_of}
use Rattle.risch_residue_traces.specs.TracesMeaning.{IsResidueOf, AreResidueTraces, AreNotConstant, IfConstant, IfNotConstant}
use Rattle.risch_residue_traces.proofs.ResidueClaims.{residue-divides, below-of, new_constant-means}
use Rattle.risch_residue_traces.proofs.ToldTraces.{Told, traces_of-told, fractions-within}

-- the numerator of an element other than 0
numerator-some : (level : ℕ) (h : Element) → level ≤ 4 → IsElement h → Within (level + 1) h → element.is_zero h ≡ false → ¬ (numerator_at level h ≡ [])
numerator-some level h low v w some none =
    let M = at level (polynomial (denominator_at level h)) in
    let nonzero : ¬ (M ≡ mean.zero) = at-some level (denominator_at level h) low (Parts.denominator-is_polynomial level h low v) (Parts.denominator-all_within level h low v w) (Parts.denominator-ne-nil level h low v) in
    nonzero-stands h v some
    (FieldLaws.zero_of_mul elements M (meaning h) nonzero
    (elements.ring.mul_comm M (meaning h) ∙ parts-product level h low v w ∙ ap (λ p. at level (polynomial p)) none
    ∙ ap (at level) (Rules.polynomial_of-nil elements element_interprets) ∙ Evaluation.value-zero elements elements.ring (identity_map elements.ring) (variable level)))

some-length : (p : List Element) → ¬ (p ≡ []) → 0 < length p
some-length [] some = absurd (some refl)
some-length (c ∷ p) some = omega arith

pub denominator-large : (level : ℕ) (h : Element) → level ≤ 4 → IsElement h → Within (level + 1) h → element.is_zero h ≡ false → length (numerator_at level h) < length (denominator_at level h) → 2 ≤ length (denominator_at level h)
denominator-large level h low v w some proper =
    let large = some-length (numerator_at level h) (numerator-some level h low v w some) in
    omega (arith, large, proper)

module _ (tower : List Level) (level : ℕ) (l : IsLevelOf tower level) (h : Element) (v : IsElement h) (w : Within (level + 1) h) (some : element.is_zero h ≡ false)
    (proper : length (numerator_at level h) < length (denominator_at level h)) (rho : List Element) (residue : IsResidueOf tower level (numerator_at level h) (denominator_at level h) rho) (wrho : AllWithin level rho) where
  abbrev a : List Element
  a = numerator_at level h

  abbrev d : List Element
  d = denominator_at level h

  kd : IsPolynomial (denominator_at level h)
  kd = Parts.denominator-is_polynomial level h l.low v

  wd : AllWithin level (denominator_at level h)
  wd = Parts.denominator-all_within level h l.low v w

  ka : IsPolynomial (numerator_at level h)
  ka = Parts.numerator-is_polynomial level h l.low v

  wa : AllWithin level (numerator_at level h)
  wa = Parts.numerator-all_within level h l.low v w

  large : 2 ≤ length (denominator_at level h)
  large = denominator-large level h l.low v w some proper

  -- what the rule gives
  abbrev TellsOf : Ruled Traces → Type 0
  TellsOf result = Told tower level d (map meaning (poly.front element d)) (is_monic_with d kd (denominator-monic level h l.low v) large) rho residue.kept wd wrho (length d - 1) result

  told-of : (result : Ruled Traces) → (traces_of tower d rho).result ≡ result → TellsOf result
  told-of result e = subst TellsOf e (traces_of-told tower level d (map meaning (poly.front element d)) (is_monic_with d kd (denominator-monic level h l.low v) large) rho residue.kept wd wrho large)

  pub constant-stands : (result : Result Traces Ended) (before after most : ℕ) → IsCountedResult result (traces_of tower d rho) before after most → IfOk result (λ it. IfConstant it (AreResidueTraces tower level h))
  constant-stands (Ok (Constant traces)) before after most rule =
      let t = told-of (Ok (Constant traces)) rule.0 in
      record {
        rho = rho;
        kept = residue.kept;
        equation = residue-divides tower level l a d rho kd wd ka wa (denominator-monic level h l.low v) large proper (parts-coprime level h v) residue;
        are = power_traces-mean d rho (length d - 1) traces kd (denominator-monic level h l.low v) large residue.kept t.0;
        count = power_traces-count d rho (length d - 1) traces t.0;
        fractions = fractions-within traces t.1;
      }
  constant-stands (Ok (NotConstant k p)) before after most rule = tt
  constant-stands (Err end) before after most rule = tt

  pub not_constant-stands : (result : Result Traces Ended) (before after most : ℕ) → IsCountedResult result (traces_of tower d rho) before after most →
      IfOk result (λ it. IfNotConstant it (λ k p. ¬ (derive_in (monomials tower) (meaning p) ≡ mean.zero))) → IfOk result (λ it. IfNotConstant it (λ k p. AreNotConstant tower level h k p × Within level p))
  not_constant-stands (Ok (Constant traces)) before after most rule moving = tt
  not_constant-stands (Ok (NotConstant k p)) before after most rule moving =
      let f = told-of (Ok (NotConstant k p)) rule.0 in
      let b = below-of tower level l a d rho kd wd ka wa (denominator-monic level h l.low v) large proper (parts-coprime level h v) residue wrho k p f.lower f.formed_lower f.count f.fractions moving in
      (record { below = b.0; denominator = b.1; are = b.2 }, f.no_fraction.within)
  not_constant-stands (Err end) before after most rule moving = tt

  pub not_sound-stands : (result : Result Traces Ended) (before after most : ℕ) → IsCountedResult result (traces_of tower d rho) before after most →
      IfErrNotSound result (λ p. derive_in (monomials tower) (meaning p) ≡ mean.zero) → IfErrNotSound result (λ p. constants.IsNewConstant (monomials tower) level (meaning p))
  not_sound-stands (Ok traces) before after most rule constant = tt
  not_sound-stands (Err (ended.Stopped (stops.Overflow op))) before after most rule constant = tt
  not_sound-stands (Err (ended.Stopped stops.Size)) before after most rule constant = tt
  not_sound-stands (Err (ended.Stopped (stops.Case case))) before after most rule constant = tt
  not_sound-stands (Err (ended.Stopped (stops.NotSound p))) before after most (inl natural) constant = new_constant-means tower level p (told-of (Err (stops.NotSound p)) natural.result) constant
  not_sound-stands (Err (ended.Stopped (stops.NotSound p))) before after most (inr out) constant = let budget = out.budget in cc
  not_sound-stands (Err (ended.Stopped stops.Budget)) before after most rule constant = tt
  not_sound-stands (Err ended.Left) before after most rule constant = tt
  not_sound-stands (Err ended.Memory) before after most rule constant = tt
