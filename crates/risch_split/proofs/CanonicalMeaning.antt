-- What the rule of the canonical parts gives: the parts of f = q + r/(n·s), for the numerator and the denominator n·s of f at the level.
--     ratio-stands, reduced_part-stands      p/q and q + r/s
--     parts_by-solved      the parts, in each of the three cases
--     parts_by-means      they are canonical parts
use Rattle.std.specs.Prelude.{if◌then◌else◌}
use Rattle.std.proofs.Common.{◌≡◌, ℕ, ◌+◌, ◌≤◌, ◌<◌, Bool, true, false, List, [], Option, None, Some, Ok, refl, sym, ◌∙◌, ap, ap₂, arith, subst}
use Rattle.risch_ring.specs.CommRing.{CommRing}
use Rattle.risch_ring.proofs.FieldLaws as FieldLaws
use Rattle.risch_ring.proofs.Laws as Laws
use Rattle.risch_univariate.specs.Polynomial.{Polynomial}
use Rattle.risch_univariate.specs.PolynomialRing.{polynomials}
use Rattle.risch_univariate.specs.Degree.{size, IsMonic}
use Rattle.risch_univariate.specs.Division.{Divides, IsCoprime}
use Rattle.risch_univariate.proofs.Degree as Degree
use Rattle.risch_univariate.proofs.Divides as Divides
use Rattle.risch_univariate.proofs.Evaluation as Evaluation
use Rattle.risch_univariate.proofs.Gcd as Gcd
use Rattle.risch_ring.proofs.RingMaps.{identity_map}
use Rattle.risch_mean.specs.Element as mean
use Rattle.risch_mean.specs.Element.{variable, ◌+ₑ◌, ◌*ₑ◌}
use Rattle.risch_mean.specs.ElementField.{elements}
use Rattle.risch_mean.proofs.FieldClosure as FieldClosure
use Rattle.risch_field.specs.Checked.{Checked, and_then}
use Rattle.risch_field.proofs.CheckedSteps.{and_then-ok}
use Rattle.risch_polynomial.specs.Poly as poly
use Rattle.risch_polynomial.specs.Modular as modular
use Rattle.risch_level.specs.Levels.{Element, element}
use Rattle.risch_derivation.specs.declared.rate.Kind.{Kind}
use Rattle.risch_derivation.specs.declared.rate.Kind.TheVariants.{Primitive, Exponential}
use Rattle.risch_element_theory.specs.WholeTower.{IsElement, IsPolynomial, meaning, polynomial, Within, AllWithin}
use Rattle.risch_element_theory.specs.ElementPolynomials.{IsDivisionOf, IsSolution}
use Rattle.risch_element_theory.proofs.ElementLaws.{zero-is_element, sum-is_element, sum-stands}
use Rattle.risch_element_theory.proofs.ElementPolynomials.{element_interprets, solve-stands, solution_exists}
use Rattle.risch_element_theory.proofs.ElementWithin.{zero-element-within, sum-element-within}
use Rattle.risch_element_theory.proofs.ElementsTranscendence as Transcendence
use Rattle.risch_element_theory.proofs.PartsLaws as Parts
use Rattle.risch_element_theory.proofs.PolynomialsWithin.{left_solution-within, right_solution-within}
use Rattle.risch_tower.specs.declared.level.Level.{Level}
use Rattle.risch_tower.specs.Tower.{rate_at}
use Rattle.risch_split.specs.declared.splitting.Split.{Split}
use Rattle.risch_split.specs.declared.canonical_parts.Canonical.{Canonical}
use Rattle.risch_monomial.specs.LevelElements.{of_polynomial}
use Rattle.risch_monomial.specs.LevelElements.{numerator_at, denominator_at, ratio}
use Rattle.risch_split.specs.Canonical.{reduced_part, without_special, without_normal, parts_of, parts_by}
use Rattle.risch_monomial.specs.NormalPolynomials.{IsSpecialAt}
use Rattle.risch_split.specs.SplittingMeaning.{IsSplitting, AreCanonicalParts}
use Rattle.risch_split.proofs.CanonicalSums.{sum-of_parts, product-of_sum, smaller-of_solution}
use Rattle.risch_monomial.proofs.LevelElements.{of_polynomial-stands, ratio-stands}
use Rattle.risch_monomial.proofs.LevelPolynomials.{at, at-polynomial, Over, Over-add, Over-mul, Over-constant, Over-polynomial}
use Rattle.risch_monomial.proofs.LowestTerms.{denominator-monic, parts-product, lowest-terms, lowest-proper}
use Rattle.risch_monomial.proofs.MonicPolynomials as Monic
use Rattle.risch_split.proofs.PowersOfVariable as Powers

abbrev R : CommRing (Polynomial elements)
R = polynomials elements

-- ---- the elements that are formed
-- an element e of the level with e·q(t) = p(t)
pub record IsFraction (level : ℕ) (p q : Polynomial elements) (e : Element) : Type 0 where
  pub is_element : IsElement e
  pub within : Within (level + 1) e
  pub product : meaning e *ₑ at level q ≡ at level p

-- q + r/s
pub reduced_part-stands : (level : ℕ) (q r s : List Element) (e : Element) → level ≤ 4 → IsPolynomial q → AllWithin level q → IsPolynomial r → AllWithin level r → IsPolynomial s → AllWithin level s → ¬ (s ≡ []) →
    reduced_part level q r s ≡ Ok e → IsFraction level (R.add (R.mul (polynomial q) (polynomial s)) (polynomial r)) (polynomial s) e
unfolding reduced_part
reduced_part-stands level q r s e low kq wq kr wr ks ws some is =
    let whole = and_then-ok (of_polynomial level q) (λ whole. and_then (ratio level r s) (λ proper. element.sum whole proper)) e is in
    let proper = and_then-ok (ratio level r s) (λ proper. element.sum whole.value proper) e whole.next in
    let v = of_polynomial-stands level q whole.value low kq wq whole.is in
    let x = ratio-stands level r s proper.value low kr wr ks ws some proper.is in
    record {
      is_element = sum-is_element whole.value proper.value e v.is_element x.is_element proper.next;
      within = sum-element-within (level + 1) whole.value proper.value e v.within x.within proper.next;
      product =
          product-of_sum elements.ring (meaning e) (at level (polynomial q)) (meaning proper.value) (at level (polynomial s)) (at level (polynomial r))
          (sum-stands whole.value proper.value e v.is_element x.is_element proper.next ∙ ap (λ a. a +ₑ meaning proper.value) v.value) x.product
          ∙ sym (Transcendence.at-add elements (variable level) (R.mul (polynomial q) (polynomial s)) (polynomial r)
          ∙ ap (λ a. a +ₑ at level (polynomial r)) (Transcendence.at-mul elements (variable level) (polynomial q) (polynomial s)));
    }

-- ---- the parts
-- n·r' + s·z = r and deg z < deg n; the reduced part is (q·s + r')/s and the normal part z/n
pub record IsSolved (level : ℕ) (q r n s : Polynomial elements) (parts : Canonical) : Type 0 where
  pub top : Polynomial elements
  pub other : Polynomial elements
  pub top_over : Over level top
  pub other_over : Over level other
  pub equation : R.add (R.mul n top) (R.mul s other) ≡ r
  pub smaller : size elements other < size elements n
  pub reduced : IsFraction level (R.add (R.mul q s) top) s parts.reduced
  pub normal : IsFraction level other n parts.normal

Over-zero : (level : ℕ) → Over level R.zero
Over-zero level = subst (Over level) (Degree.constant-zero elements) (Over-constant level mean.zero (FieldClosure.InField-zero level))

at-zero : (level : ℕ) → at level R.zero ≡ mean.zero
at-zero level = Evaluation.value-zero elements elements.ring (identity_map elements.ring) (variable level)

-- the parts that are formed
abbrev formed : Element → Element → Checked Canonical
formed a b = Ok (record { reduced = a; normal = b })

same_parts : (a b : Element) (parts : Canonical) → formed a b ≡ Ok parts → (a ≡ parts.reduced) × (b ≡ parts.normal)
same_parts a b parts h =
    let both : Canonical = record { reduced = a; normal = b } in
    let e : both ≡ parts = cc in
    (ap (λ (p : Canonical). p.reduced) e, ap (λ (p : Canonical). p.normal) e)

module _ (level : ℕ) (low : level ≤ 4) (q r : List Element) (split : Split) (kq : IsPolynomial q) (wq : AllWithin level q) (kr : IsPolynomial r) (wr : AllWithin level r)
    (kn : IsPolynomial split.normal) (wn : AllWithin level split.normal) (ks : IsPolynomial split.special) (ws : AllWithin level split.special)
    (mn : IsMonic elements (polynomial split.normal)) (ms : IsMonic elements (polynomial split.special))
    (small : size elements (polynomial r) < size elements (R.mul (polynomial split.normal) (polynomial split.special))) where
  abbrev n : Polynomial elements
  n = polynomial split.normal

  abbrev s : Polynomial elements
  s = polynomial split.special

  abbrev Solved : Canonical → Type 0
  Solved parts = IsSolved level (polynomial q) (polynomial r) n s parts

  -- s = 1
  special_one : (parts : Canonical) → s ≡ R.one → without_special level q r split.normal ≡ Ok parts → Solved parts
  unfolding without_special
  special_one parts unit is =
      let whole = and_then-ok (of_polynomial level q) (λ whole. and_then (ratio level r split.normal) (λ normal. Ok (record { reduced = whole; normal = normal }))) parts is in
      let proper = and_then-ok (ratio level r split.normal) (λ normal. Ok (record { reduced = whole.value; normal = normal })) parts whole.next in
      let v = of_polynomial-stands level q whole.value low kq wq whole.is in
      let x = ratio-stands level r split.normal proper.value low kr wr kn wn (Monic.monic-some split.normal mn) proper.is in
      let same = same_parts whole.value proper.value parts proper.next in
      record {
        top = R.zero;
        other = polynomial r;
        top_over = Over-zero level;
        other_over = Over-polynomial level r kr wr;
        equation = ap₂ R.add (Laws.mul-zero R n) (ap (λ k. R.mul k (polynomial r)) unit ∙ Laws.one-mul R (polynomial r)) ∙ Laws.zero-add R (polynomial r);
        smaller = subst (λ k. size elements (polynomial r) < size elements k) (ap (R.mul n) unit ∙ R.mul-one n) small;
        reduced = subst (IsFraction level (R.add (R.mul (polynomial q) s) R.zero) s) same.0 (record {
          is_element = v.is_element;
          within = v.within;
          product =
              ap (mean.mul (meaning whole.value)) (ap (at level) unit ∙ Transcendence.at-one elements (variable level)) ∙ elements.ring.mul-one (meaning whole.value) ∙ v.value
              ∙ sym (ap (at level) (R.add-zero (R.mul (polynomial q) s) ∙ ap (R.mul (polynomial q)) unit ∙ R.mul-one (polynomial q)));
        });
        normal = subst (IsFraction level (polynomial r) n) same.1 (record { is_element = x.is_element; within = x.within; product = x.product });
      }

  -- n = 1
  normal_one : (parts : Canonical) → n ≡ R.one → without_normal level q r split.special ≡ Ok parts → Solved parts
  unfolding without_normal
  normal_one parts unit is =
      let whole = and_then-ok (reduced_part level q r split.special) (λ reduced. Ok (record { reduced = reduced; normal = element.zero })) parts is in
      let same = same_parts whole.value element.zero parts whole.next in
      let nothing = Degree.size-zero elements in
      let single = Degree.size-one elements in
      let unit_size = ap (size elements) unit in
      record {
        top = polynomial r;
        other = R.zero;
        top_over = Over-polynomial level r kr wr;
        other_over = Over-zero level;
        equation = ap₂ R.add (ap (λ k. R.mul k (polynomial r)) unit ∙ Laws.one-mul R (polynomial r)) (Laws.mul-zero R s) ∙ R.add-zero (polynomial r);
        smaller = omega (arith, nothing, single, unit_size);
        reduced = subst (IsFraction level (R.add (R.mul (polynomial q) s) (polynomial r)) s) same.0
            (reduced_part-stands level q r split.special whole.value low kq wq kr wr ks ws (Monic.monic-some split.special ms) whole.is);
        normal = subst (IsFraction level R.zero n) same.1 (record {
          is_element = zero-is_element;
          within = zero-element-within (level + 1);
          product = ap (λ k. k *ₑ at level n) element_interprets.zero-means ∙ Laws.zero-mul elements.ring (at level n) ∙ sym (at-zero level);
        });
      }

  -- a solution r', z
  by_solution : (parts : Canonical) (r' z : List Element) → IsSolution split.special split.normal r (r', z) → AllWithin level r' → AllWithin level z → parts_of level q split (Some (r', z)) ≡ Ok parts → Solved parts
  by_solution parts r' z solution wr' wz is =
      let whole = and_then-ok (reduced_part level q r' split.special) (λ reduced. and_then (ratio level z split.normal) (λ normal. Ok (record { reduced = reduced; normal = normal }))) parts is in
      let proper = and_then-ok (ratio level z split.normal) (λ normal. Ok (record { reduced = whole.value; normal = normal })) parts whole.next in
      let same = same_parts whole.value proper.value parts proper.next in
      let x = ratio-stands level z split.normal proper.value low solution.right_kept wz kn wn (Monic.monic-some split.normal mn) proper.is in
      record {
        top = polynomial r';
        other = polynomial z;
        top_over = Over-polynomial level r' solution.left_kept wr';
        other_over = Over-polynomial level z solution.right_kept wz;
        equation = solution.equation;
        smaller = smaller-of_solution elements n s (polynomial r) (polynomial r') (polynomial z) (Gcd.monic-nonzero elements n mn) (Gcd.monic-nonzero elements s ms) solution.equation solution.smaller small;
        reduced = subst (IsFraction level (R.add (R.mul (polynomial q) s) (polynomial r')) s) same.0
            (reduced_part-stands level q r' split.special whole.value low kq wq solution.left_kept wr' ks ws (Monic.monic-some split.special ms) whole.is);
        normal = subst (IsFraction level (polynomial z) n) same.1 (record { is_element = x.is_element; within = x.within; product = x.product });
      }

  -- the solution of coprime polynomials
  by_solve : (parts : Canonical) (x : Option (List Element × List Element)) → IsCoprime elements n s → poly.is_one element split.special ≡ false → modular.solve element split.special split.normal r ≡ Ok x →
      parts_of level q split x ≡ Ok parts → Solved parts
  by_solve parts None coprime other e is =
      absurd (solution_exists split.special split.normal r ks kn kr (Monic.not_one-length split.special ks ms other) (Gcd.coprime_sym elements n s coprime) e)
  by_solve parts (Some x) coprime other e is =
      let large = Monic.not_one-length split.special ks ms other in
      by_solution parts x.0 x.1 (solve-stands split.special split.normal r x.0 x.1 ks kn kr large e)
      (left_solution-within level split.special split.normal r x.0 x.1 ws wn wr e) (right_solution-within level split.special split.normal r x.0 x.1 ws wn wr e) is

  pub parts_by-solved : (parts : Canonical) → IsCoprime elements n s → parts_by level q r split ≡ Ok parts → Solved parts
  unfolding parts_by
  parts_by-solved parts coprime is = by (poly.is_one element split.special) refl (poly.is_one element split.normal) refl is
    where
      by : (a : Bool) → poly.is_one element split.special ≡ a → (b : Bool) → poly.is_one element split.normal ≡ b →
          (if a then without_special level q r split.normal else if b then without_normal level q r split.special else and_then (modular.solve element split.special split.normal r) (parts_of level q split)) ≡ Ok parts →
          Solved parts
      by true ea b eb e = special_one parts (Monic.is_one-stands split.special ks ms ea) e
      by false ea true eb e = normal_one parts (Monic.is_one-stands split.normal kn mn eb) e
      by false ea false eb e =
          let x = and_then-ok (modular.solve element split.special split.normal r) (parts_of level q split) parts e in
          by_solve parts x.value coprime ea x.is x.next

-- ---- canonical parts
-- a monic divisor of what is special in a sound tower
special-divisor : (k : Kind) (s m : Polynomial elements) → IsMonic elements m → Divides elements m s → IsSpecialAt k s → IsSpecialAt k m
special-divisor Primitive s m monic h e =
    let sized = Gcd.size_of_unit elements m (subst (Divides elements m) e h) in
    Gcd.one_of_monic elements m monic (omega (arith, sized))
special-divisor Exponential s m monic h e =
    let p = Powers.divisor-of_power elements e.0 m monic (subst (Divides elements m) e.1 h) in
    (p.exponent, p.is)

module _ (tower : List Level) (level : ℕ) (low : level ≤ 4) (f : Element) (v : IsElement f) (w : Within (level + 1) f) (q r : List Element) (split : Split) (parts : Canonical)
    (kq : IsPolynomial q) (wq : AllWithin level q) (kr : IsPolynomial r) (wr : AllWithin level r)
    (kn : IsPolynomial split.normal) (wn : AllWithin level split.normal) (ks : IsPolynomial split.special) (ws : AllWithin level split.special)
    (division : IsDivisionOf (numerator_at level f) (denominator_at level f) (q, r)) (splits : IsSplitting tower level (denominator_at level f) split) where
  abbrev top : Polynomial elements
  top = polynomial (numerator_at level f)

  abbrev bottom : Polynomial elements
  bottom = polynomial (denominator_at level f)

  solved : parts_by level q r split ≡ Ok parts → IsSolved level (polynomial q) (polynomial r) (polynomial split.normal) (polynomial split.special) parts
  solved is =
      parts_by-solved level low q r split kq wq kr wr kn wn ks ws splits.normal_is_monic splits.special_is_monic (subst (λ k. size elements (polynomial r) < size elements k) splits.product division.smaller) parts
      splits.coprime is

  module _ (x : IsSolved level (polynomial q) (polynomial r) (polynomial split.normal) (polynomial split.special) parts) where
    -- (reduced + normal)·M(t) = N(t)
    whole : (meaning parts.reduced +ₑ meaning parts.normal) *ₑ at level bottom ≡ at level top
    whole =
        let t = variable level in
        let at_product = ap (at level) splits.product ∙ Transcendence.at-mul elements t (polynomial split.normal) (polynomial split.special) in
        ap (mean.mul (meaning parts.reduced +ₑ meaning parts.normal)) at_product
        ∙ sum-of_parts elements.ring (meaning parts.reduced) (meaning parts.normal) (at level (polynomial q)) (at level (polynomial split.normal)) (at level (polynomial split.special)) (at level (polynomial r)) (at level x.top) (at level x.other)
        (x.reduced.product ∙ Transcendence.at-add elements t (R.mul (polynomial q) (polynomial split.special)) x.top
        ∙ ap (λ a. a +ₑ at level x.top) (Transcendence.at-mul elements t (polynomial q) (polynomial split.special)))
        x.normal.product
        (sym (ap (at level) (sym x.equation) ∙ Transcendence.at-add elements t (R.mul (polynomial split.normal) x.top) (R.mul (polynomial split.special) x.other)
        ∙ ap₂ mean.add (Transcendence.at-mul elements t (polynomial split.normal) x.top) (Transcendence.at-mul elements t (polynomial split.special) x.other)))
        ∙ ap (λ m. at level (polynomial q) *ₑ m +ₑ at level (polynomial r)) (sym at_product)
        ∙ ap (λ a. a +ₑ at level (polynomial r)) (sym (Transcendence.at-mul elements t (polynomial q) bottom))
        ∙ sym (Transcendence.at-add elements t (R.mul (polynomial q) bottom) (polynomial r)) ∙ ap (at level) (sym division.equation)

    bottom_some : ¬ (at level bottom ≡ mean.zero)
    bottom_some z = Parts.denominator-value-ne-zero level f low v (sym (at-polynomial level (denominator_at level f)) ∙ z)

    sum-is : meaning f ≡ meaning parts.reduced +ₑ meaning parts.normal
    sum-is =
        FieldLaws.mul_left_cancel elements (at level bottom) (meaning f) (meaning parts.reduced +ₑ meaning parts.normal) bottom_some
        (elements.ring.mul_comm (at level bottom) (meaning f) ∙ parts-product level f low v w ∙ sym whole ∙ elements.ring.mul_comm (meaning parts.reduced +ₑ meaning parts.normal) (at level bottom))

    over_n : Over level (polynomial split.normal)
    over_n = Over-polynomial level split.normal kn wn

    over_s : Over level (polynomial split.special)
    over_s = Over-polynomial level split.special ks ws

    -- the denominator of the reduced part divides s, that of the normal part n
    reduced-divides : Divides elements (polynomial (denominator_at level parts.reduced)) (polynomial split.special)
    reduced-divides =
        lowest-terms level parts.reduced low x.reduced.is_element x.reduced.within (R.add (R.mul (polynomial q) (polynomial split.special)) x.top) (polynomial split.special)
        (Over-add level (R.mul (polynomial q) (polynomial split.special)) x.top (Over-mul level (polynomial q) (polynomial split.special) (Over-polynomial level q kq wq) over_s) x.top_over) over_s x.reduced.product

    normal-divides : Divides elements (polynomial (denominator_at level parts.normal)) (polynomial split.normal)
    normal-divides = lowest-terms level parts.normal low x.normal.is_element x.normal.within x.other (polynomial split.normal) x.other_over over_n x.normal.product

    special-in : Divides elements (polynomial split.special) bottom
    special-in = record { cofactor = polynomial split.normal; equation = splits.product }

    normal-in : Divides elements (polynomial split.normal) bottom
    normal-in = record { cofactor = polynomial split.special; equation = splits.product ∙ R.mul_comm (polynomial split.normal) (polynomial split.special) }

    canonical-of : AreCanonicalParts tower level f parts
    canonical-of = record {
      sum = sum-is;
      reduced = special-divisor (rate_at tower level).kind (polynomial split.special) (polynomial (denominator_at level parts.reduced)) (denominator-monic level parts.reduced low x.reduced.is_element) reduced-divides splits.special_is;
      proper = lowest-proper level parts.normal low x.normal.is_element x.normal.within x.other (polynomial split.normal) x.other_over over_n x.normal.product x.smaller;
      normal = λ p free h. splits.normal p free (Divides.divides_trans elements p (polynomial (denominator_at level parts.normal)) (polynomial split.normal) h normal-divides);
      reduced_divides = Divides.divides_trans elements (polynomial (denominator_at level parts.reduced)) (polynomial split.special) bottom reduced-divides special-in;
      normal_divides = Divides.divides_trans elements (polynomial (denominator_at level parts.normal)) (polynomial split.normal) bottom normal-divides normal-in;
    }

  pub parts_by-means : parts_by level q r split ≡ Ok parts → AreCanonicalParts tower level f parts
  parts_by-means is = canonical-of (solved is)
