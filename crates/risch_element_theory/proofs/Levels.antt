-- Each level of the tower is a field of elements: its rules are those of the field, each valid element stands for one of the field of its variables, and the tests tell the truth.
--     level_means      the rules of the field of each height
--     level_lies      an element of height h stands for one of the field of the first h variables
--     level_variable      the variable of each level
--     level_same      the test of equality decides whether two elements stand for the same
use Rattle.std.specs.Prelude.{nat_eq}
use Rattle.std.specs.Ordering.{int_eq}
use Rattle.std.specs.Cmp.{signed_Decides}
use Rattle.std.proofs.Common.{◌≡◌, ℕ, zero, suc, Bool, true, false, ◌&&◌, List, [], ◌∷◌, refl, sym, ◌∙◌, ap, ap₂, arith, subst, pos, eqb-true}
use Rattle.risch_ring.specs.Lists.{Each}
use Rattle.risch_frac.specs.Fraction as fraction
use Rattle.risch_frac.specs.Fraction.{Fraction, IsLowest}
use Rattle.risch_mean.specs.Element.{Element, InField, AllInField, variable}
use Rattle.risch_mean.specs.Element as Element
use Rattle.risch_mean.specs.ElementField.{elements}
use Rattle.risch_mean.specs.Vectors.{AllZero}
use Rattle.risch_mean.proofs.FieldClosure as FieldClosure
use Rattle.risch_mean.proofs.Levels.{transcendental}
use Rattle.risch_polynomial_theory.specs.FractionMeaning.{fraction_meaning}
use Rattle.risch_field.specs.Ground.{ground}
use Rattle.risch_level.specs.Levels.{Field, field, element}
use Rattle.risch_polynomial_theory.specs.Meaning.{Interprets, AllValid, value}
use Rattle.risch_level.specs.declared.over.Over.TheVariants.{Below, Quotient}
use Rattle.risch_polynomial_theory.proofs.FractionValues.{ground_means}
use Rattle.risch_element_theory.specs.ElementMeaning.{IsBelow, IsClosed, IsTranscendental, TellsOne}
use Rattle.risch_element_theory.specs.LevelMeaning.{valid_at, meaning_at}
use Rattle.risch_element_theory.proofs.ElementsSums.{Means, variable-gets}
use Rattle.risch_element_theory.proofs.Elements.{over_means}
use Rattle.risch_element_theory.proofs.ElementsUniqueness.{over_tells_one}

-- ---- the fields of the first n variables
closed : (n : ℕ) → IsClosed elements (InField n)
closed n = record { zero_in = FieldClosure.InField-zero n; add_in = FieldClosure.InField-add n; mul_in = FieldClosure.InField-mul n; neg_in = FieldClosure.InField-neg n }

all_in_field : (n : ℕ) (cs : List Element) → Each (InField n) cs → AllInField n cs
all_in_field n [] h = tt
all_in_field n (c ∷ cs) h = (h.0, all_in_field n cs h.1)

each_zero : (cs : List Element) → AllZero cs → Each (λ x. x ≡ Element.zero) cs
each_zero [] h = tt
each_zero (c ∷ cs) h = (h.0, each_zero cs h.1)

variable_transcendental : (n : ℕ) → IsTranscendental elements (InField n) (variable n)
variable_transcendental n cs h e = each_zero cs (transcendental n cs (all_in_field n cs h) e)

-- ---- the test of 1 at the fractions
and-true : (x y : Bool) → (x && y) ≡ true → (x ≡ true) × (y ≡ true)
and-true true y e = (refl, e)
and-true false y e = cc

ground_one_is : (p : Fraction) → fraction.is_one p ≡ true → p ≡ ground.one
ground_one_is p e =
    let both = and-true (int_eq p.num (pos 1)) (nat_eq p.den 1) e in
    ap₂ (λ n d. record { num = n; den = d }) ((signed_Decides p.num (pos 1)).0 both.0) (eqb-true p.den 1 both.1)

ground_tells_one : TellsOne elements ground IsLowest fraction_meaning
ground_tells_one = record {
  one_is = λ p l e. ap fraction_meaning (ground_one_is p e) ∙ ground_means.one-means;
  one_if = λ p l e. subst (λ q. fraction.is_one q ≡ true) (sym (ground_means.injective p ground.one l ground_means.one-valid (e ∙ sym ground_means.one-means))) refl;
}

-- ---- each element lies in the field of its variables
value-lies : (n : ℕ) → ((e : Field n) → valid_at n e → InField n (meaning_at n e)) → (p : List (Field n)) → AllValid (valid_at n) p → InField (suc n) (value elements.ring (meaning_at n) (variable n) p)
value-lies n h [] all = FieldClosure.InField-zero (suc n)
value-lies n h (c ∷ p) all =
    FieldClosure.InField-add (suc n) (meaning_at n c) (Element.mul (variable n) (value elements.ring (meaning_at n) (variable n) p))
    (FieldClosure.InField_more n (suc n) (meaning_at n c) (omega arith) (h c all.0))
    (FieldClosure.InField-mul (suc n) (variable n) (value elements.ring (meaning_at n) (variable n) p) (FieldClosure.InField-variable (suc n) n (omega arith)) (value-lies n h p all.1))

-- ⟦e⟧ lies in the field of the first h variables
pub level_lies : (height : ℕ) (e : Field height) → valid_at height e → InField height (meaning_at height e)
level_lies zero p l = FieldClosure.InField-over 0 (Element.integer p.num) (Element.integer (pos p.den)) (FieldClosure.InField-integer 0 p.num) (FieldClosure.InField-integer 0 (pos p.den))
level_lies (suc n) (Below e) v = FieldClosure.InField_more n (suc n) (meaning_at n e) (omega arith) (level_lies n e v)
level_lies (suc n) (Quotient r) v =
    FieldClosure.InField-over (suc n) (value elements.ring (meaning_at n) (variable n) r.0) (value elements.ring (meaning_at n) (variable n) r.1)
    (value-lies n (level_lies n) r.0 v.is_reduced.numerator_kept.all_valid) (value-lies n (level_lies n) r.1 v.is_reduced.denominator_kept.all_valid)

-- ---- all levels
below : (height : ℕ) → Interprets (field height) elements.ring (valid_at height) (meaning_at height) → TellsOne elements (field height) (valid_at height) (meaning_at height) →
    IsBelow elements (field height) (valid_at height) (meaning_at height) (InField height) (variable height)
below height h one = record { interprets = h; tells_one = one; is_closed = closed height; lies = level_lies height; transcendental = variable_transcendental height }

-- each level is one over which the next can stand: its variable is transcendental over what its elements stand for
pub level_below : (height : ℕ) → IsBelow elements (field height) (valid_at height) (meaning_at height) (InField height) (variable height)
level_below zero = below zero ground_means ground_tells_one
level_below (suc height) = let b = level_below height in below (suc height) (over_means elements b) (over_tells_one elements b)

-- the rules of each level are those of the field
pub level_means : (height : ℕ) → Interprets (field height) elements.ring (valid_at height) (meaning_at height)
level_means height = (level_below height).interprets

-- the test of 1 tells the truth
pub level_tells_one : (height : ℕ) → TellsOne elements (field height) (valid_at height) (meaning_at height)
level_tells_one height = (level_below height).tells_one

-- the test of equality decides whether two elements stand for the same
pub level_same : (height : ℕ) (p q : Field height) → valid_at height p → valid_at height q →
    ((field height).same p q ≡ true → meaning_at height p ≡ meaning_at height q) × (meaning_at height p ≡ meaning_at height q → (field height).same p q ≡ true)
level_same height p q v w =
    let h = level_means height in
    (λ e. ap (meaning_at height) (h.same_is p q v w e), λ e. h.same_if p q v w (h.injective p q v w e))

-- (0 + 1·t)/1 at height h + 1 stands for the variable h
pub level_variable : (height : ℕ) →
    Means elements (field height) (valid_at height) (meaning_at height) (variable height) (Quotient ((field height).zero ∷ ((field height).one ∷ []), (field height).one ∷ [])) (variable height)
level_variable height = variable-gets elements (level_below height)

-- the elements of the whole tower
pub element_means : Interprets element elements.ring (valid_at 5) (meaning_at 5)
unfolding element
element_means = level_means 5
