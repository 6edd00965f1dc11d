-- What is printed of an element, and of a polynomial in z over the elements, is read as what it stands for.
use Rattle.std.specs.Prelude.{◌==◌, ◌-◌, ◌&&◌, ◌||◌, option_map, nat_le, cond, if◌then◌else◌, unwrap_or, codes, decimal, ◌⊎◌}
use Rattle.std.proofs.Common.{◌≡◌, ℕ, zero, suc, ◌+◌, ◌≤◌, ◌<◌, List, [], ◌∷◌, ◌++◌, length, Bool, true, false, Option, None, Some, refl, sym, ap, subst, ◌∙◌, arith, inl, inr, ne_eqb, eqb-true}
use Rattle.std.proofs.lemmas.Bool.{le-leb, eqb-false}
use Rattle.std.proofs.lemmas.Fmt.{decimal_digit}
use Rattle.std.proofs.lemmas.List.{length-map}
use Rattle.std.proofs.Math.Numerals.{add-one}
use Rattle.risch_mean.specs.Element as mean
use Rattle.risch_mean.specs.Element.{InField, ◌/ₑ◌}
use Rattle.risch_mean.proofs.FieldClosure.{InField-zero, InField-add, InField-mul, InField-variable}
use Rattle.risch_frac.specs.Fraction.{Fraction, IsLowest}
use Rattle.risch_field.specs.Ground.{ground}
use Rattle.risch_polynomial.specs.Poly as poly
use Rattle.risch_polynomial_theory.specs.Meaning.{AllValid}
use Rattle.risch_polynomial_theory.specs.FractionMeaning.{fraction_meaning}
use Rattle.risch_level.specs.Levels.{Field, field, Element, element}
use Rattle.risch_level.specs.Accessors.{level, as_number}
use Rattle.risch_level.specs.Tower.{lifted, lowered_element, own_numerator}
use Rattle.risch_level.specs.Parts.{levels, denominator, own_denominator}
use Rattle.risch_level.specs.declared.over.Over.TheVariants.{Below, Quotient}
use Rattle.risch_element_theory.specs.LevelMeaning.{valid_at}
use Rattle.risch_element_theory.specs.WholeTower.{IsElement, meaning, IsPolynomial, value_of, WithinAt, Within, AllWithin}
use Rattle.risch_element_theory.proofs.ElementDerivation.{element-lies}
use Rattle.risch_element_theory.proofs.ElementWithin.{element-within}
use Rattle.risch_element_theory.proofs.ElementParts.{as_number-stands}
use Rattle.risch_element_theory.proofs.PartsMeaning.{level_below_is}
use Rattle.risch_element_theory.proofs.PartsLaws.{numerator-is_polynomial, denominator-is_polynomial, numerator-all_within, denominator-all_within, denominator-value-ne-zero, parts-stand}
use Rattle.risch_cert.specs.Printing.{print_fraction, variable_name, print_ratio, is_level, print_below, print_element, print_in_z}
use Rattle.risch_expression.specs.Words.{after_blanks, is_digit, is_letter, is_letter_or_digit}
use Rattle.risch_expression.specs.Tree.{variable, root}
use Rattle.risch_expression.specs.Grammar.{variable_named, named, sum_in}
use Rattle.risch_expression.specs.declared.names.Names.{Names}
use Rattle.risch_round_trip.proofs.Fronts.{AfterSum, digit-is, name-one, name-two}
use Rattle.risch_round_trip.proofs.Chained.{Reads}
use Rattle.risch_round_trip.proofs.WrittenTexts.{unsigned-of, IsAtom, IsSum, named-is_atom, sum-reads}
use Rattle.risch_round_trip.proofs.ShortTexts.{no_numeral}
use Rattle.risch_round_trip.proofs.PrintedTerms.{IsPrinted, fraction-printed}
use Rattle.risch_round_trip.proofs.PrintedPolynomials.{polynomial-printed, ratio-printed}

-- ---- elements by their level
-- an element without variables is a fraction
record IsFractionAt (height : ℕ) (e : Field height) : Type 0 where
  q : Fraction
  is : as_number height e ≡ Some q
  lowest : IsLowest q

fraction_at : (height : ℕ) (e : Field height) → valid_at height e → WithinAt height 0 e → IsFractionAt height e
fraction_at zero e v w = record { q = e; is = refl; lowest = v }
fraction_at (suc height) (Below e) v w = let f = fraction_at height e v w in record { q = f.q; is = f.is; lowest = f.lowest }
fraction_at (suc height) (Quotient r) v w = absurd (omega arith)

level_small : (height l : ℕ) (e : Field height) → level height e ≡ Some l → l < height
level_small zero l e h = absurd (cc)
level_small (suc height) l (Below e) h = let less = level_small height l e h in omega arith
level_small (suc height) l (Quotient r) h = let same : height ≡ l = cc in omega arith

-- an element of no higher level
within-below : (height n : ℕ) (e : Field height) → WithinAt height (suc n) e → is_level n (level height e) ≡ false → WithinAt height n e
within-below zero n e w h = tt
within-below (suc height) n (Below e) w h = within-below height n e w h
within-below (suc height) n (Quotient r) w h = let other = eqb-false height n h in omega arith

other_level : (height n l : ℕ) (e : Field height) → WithinAt height n e → n ≤ l → is_level l (level height e) ≡ false
other_level zero n l e w h = refl
other_level (suc height) n l (Below e) w h = other_level height n l e w h
other_level (suc height) n l (Quotient r) w h = ne_eqb height l (λ e. omega arith)

level_is : (height n : ℕ) (e : Field height) → is_level n (level height e) ≡ true → level height e ≡ Some n
level_is height n e h = by_found (level height e) h
  where
    by_found : (found : Option ℕ) → is_level n found ≡ true → found ≡ Some n
    by_found None k = absurd (cc)
    by_found (Some l) k = ap Some (eqb-true l n k)

-- at its own level the variable occurs
numerator_below : (height down : ℕ) (e : Field (suc height)) → (levels (suc height)).numerator (suc down) e ≡ lifted (field height) ((levels height).numerator down (lowered_element (field height) e))
numerator_below height down e = level_below_is down (own_numerator (field height) e) (λ d. lifted (field height) ((levels height).numerator d (lowered_element (field height) e)))

denominator_below : (height down : ℕ) (e : Field (suc height)) → denominator (suc height) (suc down) e ≡ lifted (field height) (denominator height down (lowered_element (field height) e))
denominator_below height down e = level_below_is down (own_denominator (field height) e) (λ d. lifted (field height) (denominator height d (lowered_element (field height) e)))

longer : (height : ℕ) (p : List (Field (suc height))) (q : List (Field height)) → p ≡ lifted (field height) q → 1 < length q → 1 < length p
longer height p q e h = let same : length p ≡ length q = ap length e ∙ length-map q Below in omega (arith, same, h)

occurs_at : (height l down : ℕ) (e : Field height) → l + down + 1 ≡ height → valid_at height e → level height e ≡ Some l →
    (1 < length ((levels height).numerator down e)) ⊎ (1 < length (denominator height down e))
occurs_at zero l down e at v h = absurd (omega arith)
occurs_at (suc height) l zero (Below e) at v h = let less = level_small height l e h in absurd (omega arith)
occurs_at (suc height) l zero (Quotient r) at v h = either v.variable_occurs
  where
    either : (1 < length r.0) ⊎ (1 < length r.1) → (1 < length (lifted (field height) r.0)) ⊎ (1 < length (lifted (field height) r.1))
    either (inl some) = inl (longer height (lifted (field height) r.0) r.0 refl some)
    either (inr some) = inr (longer height (lifted (field height) r.1) r.1 refl some)
occurs_at (suc height) l (suc down) (Below e) at v h = either (occurs_at height l down e (omega arith) v h)
  where
    either : (1 < length ((levels height).numerator down e)) ⊎ (1 < length (denominator height down e)) →
        (1 < length ((levels (suc height)).numerator (suc down) (Below e))) ⊎ (1 < length (denominator (suc height) (suc down) (Below e)))
    either (inl some) = inl (longer height ((levels (suc height)).numerator (suc down) (Below e)) ((levels height).numerator down e) (numerator_below height down (Below e)) some)
    either (inr some) = inr (longer height (denominator (suc height) (suc down) (Below e)) (denominator height down e) (denominator_below height down (Below e)) some)
occurs_at (suc height) l (suc down) (Quotient r) at v h = let same : height ≡ l = cc in absurd (omega arith)

one_alone : (m : List Element) → poly.is_one element m ≡ true → length m ≡ 1
one_alone [] h = absurd (cc)
one_alone (c ∷ []) h = refl
one_alone (c ∷ (d ∷ m)) h = absurd (cc)

numerator_long : (n : ℕ) (e : Element) → n ≤ 4 → IsElement e → level 5 e ≡ Some n → poly.is_one element (denominator 5 (4 - n) e) ≡ true → 1 < length ((levels 5).numerator (4 - n) e)
unfolding IsElement
numerator_long n e low v h one = either (occurs_at 5 n (4 - n) e (omega arith) v h)
  where
    either : (1 < length ((levels 5).numerator (4 - n) e)) ⊎ (1 < length (denominator 5 (4 - n) e)) → 1 < length ((levels 5).numerator (4 - n) e)
    either (inl some) = some
    either (inr some) = let alone = one_alone (denominator 5 (4 - n) e) one in absurd (omega (arith, alone, some))

-- the value of a polynomial over the elements at an element of the tower lies in the tower
value-lies : (t : mean.Element) → InField 5 t → (p : List Element) → AllValid IsElement p → InField 5 (value_of p t)
value-lies t h [] valid = InField-zero 5
value-lies t h (c ∷ p) valid =
    InField-add 5 (meaning c) (mean.mul t (value_of p t)) (element-lies 5 c valid.0 (element-within 5 (omega arith) c)) (InField-mul 5 t (value_of p t) h (value-lies t h p valid.1))

-- ---- names
pub or_digit : (b : ℕ) → is_digit b ≡ true → is_letter_or_digit b ≡ true
or_digit b h = either (is_letter b) (is_digit b) h
  where
    either : (l d : Bool) → d ≡ true → (l || d) ≡ true
    either true d e = refl
    either false d e = e

module _ (names : Names) where
  x-known : named names (120 ∷ []) ≡ Some (variable 0)
  unfolding named
  x-known = by_test names.with_z
    where
      by_test : (z : Bool) → cond (z && false) (Some root) (Some (variable 0)) ≡ Some (variable 0)
      by_test true = refl
      by_test false = refl

  z-known : names.with_z ≡ true → named names (122 ∷ []) ≡ Some root
  unfolding named
  z-known h = rw h refl

  pub t-found : (l : ℕ) → 1 ≤ l → l ≤ 4 → l ≤ names.monomials → variable_named names.monomials (116 ∷ ((48 + l) ∷ [])) ≡ Some l
  t-found l some low known =
      let same : 48 + l - 48 ≡ l = omega arith in
      let least : nat_le 49 (48 + l) ≡ true = le-leb 49 (48 + l) (omega arith) in
      let most : nat_le (48 + l) 57 ≡ true = le-leb (48 + l) 57 (omega arith) in
      let there : nat_le (48 + l - 48) names.monomials ≡ true = le-leb (48 + l - 48) names.monomials (omega arith) in
      let tests : ((nat_le 49 (48 + l) && nat_le (48 + l) 57) && nat_le (48 + l - 48) names.monomials) ≡ true = rw (least, most, there) refl in
      ap (λ b. cond b (Some (48 + l - 48)) None) tests ∙ ap Some same

  t-known : (l : ℕ) → 1 ≤ l → l ≤ 4 → l ≤ names.monomials → named names (116 ∷ ((48 + l) ∷ [])) ≡ Some (variable l)
  unfolding named
  t-known l some low known = by_test names.with_z ∙ ap (option_map variable) (t-found l some low known)
    where
      by_test : (z : Bool) → cond (z && false) (Some root) (option_map variable (variable_named names.monomials (116 ∷ ((48 + l) ∷ [])))) ≡ option_map variable (variable_named names.monomials (116 ∷ ((48 + l) ∷ [])))
      by_test true = refl
      by_test false = refl

  -- the variable of a level
  pub variable_name-is_atom : (l : ℕ) → l ≤ 4 → l ≤ names.monomials → (k : ℕ) → IsAtom names k (variable_name l) (mean.variable l)
  unfolding variable_name
  variable_name-is_atom l low known k = by_test (l == 0) refl
    where
      by_test : (b : Bool) → (l == 0) ≡ b → IsAtom names k (if b then codes "x" else codes "t" ++ decimal l) (mean.variable l)
      by_test true e =
          subst (λ i. IsAtom names k (120 ∷ []) (mean.variable i)) (sym (eqb-true l 0 e))
          (named-is_atom names k (120 ∷ []) (variable 0) (mean.variable 0) (unsigned-of 120 [] (omega arith) refl) (λ rest. no_numeral 120 rest refl) (λ rest after. name-one 120 rest refl after) x-known
          (record { written = refl; over = omega arith; plain = tt }))
      by_test false e =
          let other = eqb-false l 0 e in
          let digit : is_digit (48 + l) ≡ true = digit-is (48 + l) (omega arith) (omega arith) in
          subst (λ text. IsAtom names k (116 ∷ text) (mean.variable l)) (sym (decimal_digit l (omega arith)))
          (named-is_atom names k (116 ∷ ((48 + l) ∷ [])) (variable l) (mean.variable l) (unsigned-of 116 ((48 + l) ∷ []) (omega arith) refl) (λ rest. no_numeral 116 ((48 + l) ∷ rest) refl)
          (λ rest after. name-two 116 (48 + l) rest refl (or_digit (48 + l) digit) after) (t-known l (omega arith) low known) (record { written = refl; over = omega arith; plain = tt }))

  -- z
  pub z-is_atom : names.with_z ≡ true → (k : ℕ) → IsAtom names k (codes "z") (mean.variable 10)
  z-is_atom some k =
      named-is_atom names k (122 ∷ []) root (mean.variable 10) (unsigned-of 122 [] (omega arith) refl) (λ rest. no_numeral 122 rest refl) (λ rest after. name-one 122 rest refl after) (z-known some)
      (record { written = refl; over = some; plain = tt })

  -- ---- elements
  -- An element in which only the first n variables occur is read as what it stands for.
  pub below-printed : (n : ℕ) → n ≤ 5 → n ≤ suc names.monomials → (e : Element) → IsElement e → Within n e → (k : ℕ) → n + n ≤ k → IsPrinted names k (print_below n e) (meaning e)
  unfolding print_below IsElement Within
  below-printed zero most known e v w k low =
      let f = fraction_at 5 e v w in
      subst (λ value. IsPrinted names k (record { text = print_fraction (unwrap_or (as_number 5 e) ground.zero); long = false }) value) (sym (as_number-stands e f.q f.is))
      (subst (λ found. IsPrinted names k (record { text = print_fraction (unwrap_or found ground.zero); long = false }) (fraction_meaning f.q)) (sym f.is) (fraction-printed names k f.q f.lowest))
  below-printed (suc n) most known e v w zero low = absurd (omega arith)
  below-printed (suc n) most known e v w (suc zero) low = absurd (omega arith)
  below-printed (suc n) most known e v w (suc (suc k)) low =
      by_test (λ c vc wc j least. below-printed n (omega arith) (omega arith) c vc wc j least) (is_level n (level 5 e)) refl
    where
      by_test : ((c : Element) → IsElement c → Within n c → (j : ℕ) → n + n ≤ j → IsPrinted names j (print_below n c) (meaning c)) → (b : Bool) → is_level n (level 5 e) ≡ b →
          IsPrinted names (suc (suc k)) (if b then print_ratio (print_below n) (variable_name n) ((levels 5).numerator (4 - n) e) (denominator 5 (4 - n) e) else print_below n e) (meaning e)
      by_test printed true h =
          let there : n ≤ 4 = omega arith in
          let up : Within (n + 1) e = subst (λ m. Within m e) (sym (add-one n)) w in
          subst (λ value. IsPrinted names (suc (suc k)) (print_ratio (print_below n) (variable_name n) ((levels 5).numerator (4 - n) e) (denominator 5 (4 - n) e)) value) (sym (parts-stand n e there v up))
          (ratio-printed names (print_below n) n (n + n) printed (variable_name n) (mean.variable n) (λ j. variable_name-is_atom n there (omega arith) j) k
          ((levels 5).numerator (4 - n) e) (denominator 5 (4 - n) e) (omega arith) (numerator-is_polynomial n e there v) (denominator-is_polynomial n e there v)
          (numerator-all_within n e there v up) (denominator-all_within n e there v up) (denominator-value-ne-zero n e there v)
          (value-lies (mean.variable n) (InField-variable 5 n (omega arith)) (denominator 5 (4 - n) e) (denominator-is_polynomial n e there v).all_valid) (numerator_long n e there v (level_is 5 n e h)))
      by_test printed false h = printed e v (within-below 5 n e w h) (suc (suc k)) (omega arith)

  skipped : (m : ℕ) (e : Element) → is_level m (level 5 e) ≡ false → print_below (suc m) e ≡ print_below m e
  unfolding print_below
  skipped m e h = ap (λ (b : Bool). if b then print_ratio (print_below m) (variable_name m) ((levels 5).numerator (4 - m) e) (denominator 5 (4 - m) e) else print_below m e) h

  -- printed as an element of more variables it is the same text
  print_below-more : (d n : ℕ) (e : Element) → Within n e → print_below (n + d) e ≡ print_below n e
  unfolding Within
  print_below-more zero n e w = ap (λ m. print_below m e) (nothing n)
    where
      nothing : (n : ℕ) → n + 0 ≡ n
      nothing n = omega arith
  print_below-more (suc d) n e w = ap (λ m. print_below m e) (one_more n d) ∙ step (other_level 5 n (n + d) e w (omega arith)) ∙ print_below-more d n e w
    where
      one_more : (n d : ℕ) → n + suc d ≡ suc (n + d)
      one_more n d = omega arith

      step : is_level (n + d) (level 5 e) ≡ false → print_below (suc (n + d)) e ≡ print_below (n + d) e
      step h = skipped (n + d) e h

  -- ---- the texts of elements and of polynomials in z
  pub element-printed : (n : ℕ) → n ≤ 5 → n ≤ suc names.monomials → (e : Element) → IsElement e → Within n e → (k : ℕ) → n + n ≤ k → IsPrinted names k (print_below 5 e) (meaning e)
  element-printed n most known e v w k low =
      let same : print_below 5 e ≡ print_below n e = ap (λ m. print_below m e) (whole n most) ∙ print_below-more (5 - n) n e w in
      subst (λ printed. IsPrinted names k printed (meaning e)) (sym same) (below-printed n most known e v w k low)
    where
      whole : (n : ℕ) → n ≤ 5 → 5 ≡ n + (5 - n)
      whole n h = omega arith

  pub element-is_sum : (n : ℕ) → n ≤ 5 → n ≤ suc names.monomials → (e : Element) → IsElement e → Within n e → (k : ℕ) → n + n ≤ k → IsSum names k (print_element e) (meaning e)
  unfolding print_element
  element-is_sum n most known e v w k low = (element-printed n most known e v w k low).is_sum

  pub in_z-is_sum : names.with_z ≡ true → (n : ℕ) → n ≤ 5 → n ≤ suc names.monomials → (p : List Element) → IsPolynomial p → AllWithin n p → (k : ℕ) → n + n ≤ k →
      IsSum names (suc k) (print_in_z p) (value_of p (mean.variable 10))
  unfolding print_in_z
  in_z-is_sum some n most known p kept within k low =
      polynomial-printed names (print_below 5) n (n + n) (λ c v w j least. element-printed n most known c v w j least) (codes "z") (mean.variable 10) (λ j. z-is_atom some j) k p low kept within

  -- ---- reading what is printed
  -- a printed element is read as an expression whose value is what it stands for, and what follows is at hand
  pub element-read : (n : ℕ) → n ≤ 5 → n ≤ suc names.monomials → (e : Element) → IsElement e → Within n e → (k : ℕ) → n + n ≤ k → (rest : List ℕ) → AfterSum rest →
      Reads names (sum_in names k (print_element e ++ rest)) (after_blanks rest) (meaning e)
  element-read n most known e v w k low rest after = sum-reads names k (print_element e) rest (meaning e) (element-is_sum n most known e v w k low) after

  -- the same of a polynomial in z
  pub in_z-read : names.with_z ≡ true → (n : ℕ) → n ≤ 5 → n ≤ suc names.monomials → (p : List Element) → IsPolynomial p → AllWithin n p → (k : ℕ) → n + n ≤ k → (rest : List ℕ) → AfterSum rest →
      Reads names (sum_in names (suc k) (print_in_z p ++ rest)) (after_blanks rest) (value_of p (mean.variable 10))
  in_z-read some n most known p kept within k low rest after = sum-reads names (suc k) (print_in_z p) rest (value_of p (mean.variable 10)) (in_z-is_sum some n most known p kept within k low) after
