-- The rule of one part and of the parts, and the parts so far.
use Rattle.std.proofs.Common.{◌≡◌, ℕ, suc, ◌+◌, ◌-◌, ◌≤◌, ◌<◌, true, false, List, [], ◌∷◌, drop, length, get_or, map, Result, Ok, Err, refl, sym, ◌∙◌, ap, subst, arith}
use Rattle.std.proofs.Math.Seq.{drop-cons}
use Rattle.std.proofs.lemmas.List.{drop_all}
use Rattle.risch_ring.specs.CommRing.{power}
use Rattle.risch_univariate.specs.Degree.{IsMonic}
use Rattle.risch_univariate.specs.PolynomialRing.{polynomials}
use Rattle.risch_univariate.specs.SplittingFactorization.{IsNormal}
use Rattle.risch_mean.specs.Element as mean
use Rattle.risch_mean.specs.ElementField.{elements}
use Rattle.risch_field.specs.Checked.{IsStopOf}
use Rattle.risch_field.specs.declared.Fail.{Fail}
use Rattle.risch_polynomial.specs.Poly as poly
use Rattle.risch_level.specs.Levels.{Element, element}
use Rattle.risch_element_theory.specs.ElementPolynomials.{◌*ₚ◌}
use Rattle.risch_element_theory.specs.WholeTower.{polynomial, Within, AllWithin}
use Rattle.risch_run.specs.declared.Ended.{Ended}
use Rattle.risch_run.specs.Ruled.{formed, ended_by}
use Rattle.risch_run.specs.Counted.{Counted, free, and_counted, IsCountedResult}
use Rattle.risch_run.proofs.CountedSteps.{end_passes, result_passes, value_goes_on, stop_ends}
use Rattle.risch_tower.specs.declared.level.Level.{Level}
use Rattle.risch_tower.specs.TowerMeaning.{monomials}
use Rattle.risch_monomial.specs.LevelDerivation.{level_derivation}
use Rattle.risch_hermite.specs.declared.partial.Partial.{Partial}
use Rattle.risch_hermite.specs.HermiteReduction.{cofactor, steps, with_cofactor, with_part, with_parts}
use Rattle.risch_hermite.specs.HermiteMeaning.{IsReducedTo, HasPart, ArePartsOf}
use Rattle.risch_hermite.proofs.PartsOf.{has-part, after-part, none-left}

abbrev State : Type 0
State = Partial × List Element

-- ---- the steps of a part, and the denominator that they leave
module _ (tower : List Level) (level count : ℕ) (u v : List Element) (before : Partial) where
  abbrev last : Partial → List Element → Counted State
  last partial w = free (Ok (partial, w))

  abbrev product : Partial → Counted State
  product partial = and_counted (free (formed (poly.product element u v))) (last partial)

  pub steps-end : (end : Ended) (n after most : ℕ) → IsCountedResult {A = Partial} (Err end) (steps tower level u v count before) n after most → IsCountedResult {A = State} (Err end) (with_cofactor tower level u v count before) n after most
  steps-end end n after most h = end_passes {B = State} end (steps tower level u v count before) product n after most h

  module _ (partial : Partial) (n after most : ℕ) (stepped : IsCountedResult (Ok partial) (steps tower level u v count before) n after most) where
    pub product-stops : (end : Ended) (stop : Fail) → end ≡ ended_by stop → IsStopOf stop (poly.product element u v) → IsCountedResult {A = State} (Err end) (with_cofactor tower level u v count before) n after most
    product-stops end stop e h =
        result_passes (Err end) (steps tower level u v count before) product partial n after after most stepped (stop_ends {B = State} end stop (poly.product element u v) (last partial) after most e h)

    pub cofactor-found : (w : List Element) → poly.product element u v ≡ Ok w → IsCountedResult (Ok (partial, w)) (with_cofactor tower level u v count before) n after most
    cofactor-found w h =
        result_passes (Ok (partial, w)) (steps tower level u v count before) product partial n after after most stepped
        (value_goes_on (Ok (partial, w)) (poly.product element u v) (last partial) w after after most h (refl, omega arith))

-- ---- one part
module _ (tower : List Level) (level i : ℕ) (v : List Element) (before : State) where
  pub part-one : (n most : ℕ) → poly.is_one element v ≡ true → IsCountedResult (Ok before) (with_part tower level i v before) n n most
  part-one n most one = rw one (refl, omega arith)

  module _ (other : poly.is_one element v ≡ false) where
    abbrev rest : List Element → Counted State
    rest u = with_cofactor tower level u v (i - 1) before.0

    pub part-cofactor_stops : (end : Ended) (stop : Fail) (n most : ℕ) → end ≡ ended_by stop → IsStopOf stop (cofactor v i before.1) → IsCountedResult {A = State} (Err end) (with_part tower level i v before) n n most
    part-cofactor_stops end stop n most e h = rw other (stop_ends {B = State} end stop (cofactor v i before.1) rest n most e h)

    pub part-with : (u : List Element) → cofactor v i before.1 ≡ Ok u → (result : Result State Ended) (n after most : ℕ) → IsCountedResult result (rest u) n after most → IsCountedResult result (with_part tower level i v before) n after most
    part-with u divided result n after most h = rw other (value_goes_on result (cofactor v i before.1) rest u n after most divided h)

-- ---- the parts
module _ (tower : List Level) (level : ℕ) (parts : List (List Element)) (start : State) (before most : ℕ) where
  -- what the parts from n_(index + 1) on give, all parts give
  pub record PartsSoFar (index : ℕ) (now : State) (middle : ℕ) : Type 0 where
    pub rule : (result : Result State Ended) (after : ℕ) → IsCountedResult result (with_parts tower level (suc index) (drop index parts) now) middle after most → IsCountedResult result (with_parts tower level 2 (drop 1 parts) start) before after most
    pub meaning : (f : mean.Element) → IsReducedTo tower level f (polynomial start.1) start.0 → IsReducedTo tower level f (polynomial now.1) now.0
    pub are_parts : ArePartsOf tower level (suc index) (map polynomial (drop index parts)) (polynomial now.1)
    pub denominator_within : AllWithin level now.1
    pub numerator_within : AllWithin level now.0.numerator
    pub sum_within : Within (level + 1) now.0.sum

  pub parts-begin : ArePartsOf tower level 2 (map polynomial (drop 1 parts)) (polynomial start.1) → AllWithin level start.1 → AllWithin level start.0.numerator → Within (level + 1) start.0.sum → PartsSoFar 1 start before
  parts-begin are wd wn ws = record { rule = λ result after h. h; meaning = λ f h. h; are_parts = are; denominator_within = wd; numerator_within = wn; sum_within = ws }

  module _ (index : ℕ) (now : State) (middle : ℕ) (h : PartsSoFar index now middle) where
    module _ (i : ℕ) (v : List Element) (next : i ≡ suc index) (inside : index < length parts) (is : v ≡ get_or parts index v) where
      split : drop index parts ≡ v ∷ drop (suc index) parts
      split = drop-cons parts index v inside ∙ ap (λ p. p ∷ drop (suc index) parts) (sym is)

      here : ArePartsOf tower level i (polynomial v ∷ map polynomial (drop (suc index) parts)) (polynomial now.1)
      here = rw next (subst (λ ps. ArePartsOf tower level (suc index) (map polynomial ps) (polynomial now.1)) split h.are_parts)

      pub part-has : HasPart (polynomial v) i (polynomial now.1)
      part-has = has-part tower level i (polynomial v) (polynomial now.1) (map polynomial (drop (suc index) parts)) here

      pub part-monic : IsMonic elements (polynomial v)
      part-monic = here.are_parts.0

      pub part-normal : IsNormal elements (level_derivation (monomials tower) level) (polynomial v)
      part-normal = here.are_normal.0

      -- what the part and the later ones give
      with-rule : (result : Result State Ended) (after : ℕ) → IsCountedResult result (and_counted (with_part tower level i v now) (with_parts tower level (suc i) (drop (suc index) parts))) middle after most →
          IsCountedResult result (with_parts tower level 2 (drop 1 parts) start) before after most
      with-rule result after k = h.rule result after (subst (λ ps. IsCountedResult result (with_parts tower level (suc index) ps now) middle after most) (sym split) (rw next at k))

      pub parts-end_in : (end : Ended) (after : ℕ) → IsCountedResult {A = State} (Err end) (with_part tower level i v now) middle after most → IsCountedResult {A = State} (Err end) (with_parts tower level 2 (drop 1 parts) start) before after most
      parts-end_in end after k = with-rule (Err end) after (end_passes {B = State} end (with_part tower level i v now) (with_parts tower level (suc i) (drop (suc index) parts)) middle after most k)

      pub parts-next : (later : State) (after : ℕ) → IsCountedResult (Ok later) (with_part tower level i v now) middle after most →
          ((f : mean.Element) → IsReducedTo tower level f (polynomial now.1) now.0 → IsReducedTo tower level f (polynomial later.1) later.0) →
          polynomial later.1 *ₚ power (polynomials elements) (polynomial v) i ≡ polynomial now.1 *ₚ polynomial v →
          AllWithin level later.1 → AllWithin level later.0.numerator → Within (level + 1) later.0.sum → PartsSoFar (index + 1) later after
      parts-next later after k reduces e wd wn ws =
          let one : index + 1 ≡ suc index = omega arith in
          let left = after-part tower level i (polynomial v) (polynomial now.1) (polynomial later.1) (map polynomial (drop (suc index) parts)) here e in
          rw one (record {
            rule = λ result last m. with-rule result last (result_passes result (with_part tower level i v now) (with_parts tower level (suc i) (drop (suc index) parts)) later middle after last most k (rw next m));
            meaning = λ f m. reduces f (h.meaning f m);
            are_parts = rw next at left;
            denominator_within = wd;
            numerator_within = wn;
            sum_within = ws;
          })

    module _ (all : length parts ≤ index) where
      none : drop index parts ≡ []
      none = drop_all index parts all

      pub parts-done : IsCountedResult (Ok now) (with_parts tower level 2 (drop 1 parts) start) before middle most
      parts-done = h.rule (Ok now) middle (subst (λ ps. IsCountedResult (Ok now) (with_parts tower level (suc index) ps now) middle middle most) (sym none) (refl, omega arith))

      pub parts-normal : IsMonic elements (polynomial now.1) × IsNormal elements (level_derivation (monomials tower) level) (polynomial now.1)
      parts-normal = none-left tower level (suc index) (polynomial now.1) (subst (λ ps. ArePartsOf tower level (suc index) (map polynomial ps) (polynomial now.1)) none h.are_parts)
