-- A value does not depend on the places of the divisions.
use Rattle.std.specs.Prelude.{nat_le, if◌then◌else◌, slice_get}
use Rattle.std.proofs.Common.{◌≡◌, ℕ, List, length, Bool, true, false, Option, None, Some, Ok, Err, refl, ap, subst, ◌∙◌}
use Rattle.risch_polynomial.specs.Poly as poly
use Rattle.risch_level.specs.Levels.{Element, element}
use Rattle.risch_expression.specs.Results.{and_next, map_value}
use Rattle.risch_expression.specs.Tree.{Tree, number, variable, root, negated, sum, difference, product, quotient, power}
use Rattle.risch_expression.specs.Evaluation.{Valued, valued, constant_term, divided_by, ratio, operate, power_of, evaluate, element_value}
use Rattle.risch_expression.specs.declared.fault.ValueFault.TheVariants.{Shape}
use Rattle.risch_expression.specs.declared.program.Operation.TheVariants.{Sum, Difference, Product, Quotient}
use Rattle.risch_round_trip.proofs.FurtherGrammar.{unplaced}

-- what the one gives the other gives
abbrev pub Gives : {A : Type 0} → Valued A → Valued A → Type 0
Gives {A = A} one other = (a : A) → one ≡ Ok a → other ≡ Ok a

two-give : (va vb wa wb : Valued (List Element)) (one other : List Element → List Element → Valued (List Element)) → Gives va wa → Gives vb wb → ((p q : List Element) → Gives (one p q) (other p q)) →
    Gives (and_next va (λ p. and_next vb (one p))) (and_next wa (λ p. and_next wb (other p)))
two-give (Ok p) (Ok q) wa wb one other f g h r e = ap (λ w. and_next w (λ p. and_next wb (other p))) (f p refl) ∙ ap (λ w. and_next w (other p)) (g q refl) ∙ h p q r e
two-give (Ok p) (Err fault) wa wb one other f g h r e = absurd (cc)
two-give (Err fault) vb wa wb one other f g h r e = absurd (cc)

one-gives : {B : Type 0} (va wa : Valued (List Element)) (next : List Element → Valued B) → Gives va wa → Gives (and_next va next) (and_next wa next)
one-gives (Ok p) wa next f r e = ap (λ w. and_next w next) (f p refl) ∙ e
one-gives (Err fault) wa next f r e = absurd (cc)

pub mapped-gives : {B : Type 0} (f : List Element → B) (va wa : Valued (List Element)) → Gives va wa → Gives (map_value f va) (map_value f wa)
mapped-gives f (Ok p) wa g r e = ap (map_value f) (g p refl) ∙ e
mapped-gives f (Err fault) wa g r e = absurd (cc)

same-gives : {A : Type 0} (value : Valued A) → Gives value value
same-gives value a e = e

ratio-gives : (left other : ℕ) (p q : List Element) → Gives (ratio left p q) (ratio other p q)
unfolding ratio
ratio-gives left other p q = by_test (nat_le (length q) 1) (poly.nonzero element (slice_get q 0))
  where
    by_test : (t : Bool) (c : Option Element) → Gives (if t then divided_by left p c else Err Shape) (if t then divided_by other p c else Err Shape)
    by_test true None r e = absurd (cc)
    by_test true (Some c) r e = e
    by_test false c r e = absurd (cc)

quotient-gives : (left other : ℕ) (p q : List Element) → Gives (operate (Quotient left) p q) (operate (Quotient other) p q)
unfolding operate
quotient-gives left other p q = ratio-gives left other p q

-- without places, and with them
unplaced-gives : (a : Tree) → Gives (evaluate a) (evaluate (unplaced a))
unplaced-gives (number n) = same-gives _
unplaced-gives (variable i) = same-gives _
unplaced-gives root = same-gives _
unplaced-gives (negated a) = mapped-gives (poly.negatives element) (evaluate a) (evaluate (unplaced a)) (unplaced-gives a)
unplaced-gives (sum a b) =
    two-give (evaluate a) (evaluate b) (evaluate (unplaced a)) (evaluate (unplaced b)) (operate Sum) (operate Sum) (unplaced-gives a) (unplaced-gives b) (λ p q. same-gives (operate Sum p q))
unplaced-gives (difference a b) =
    two-give (evaluate a) (evaluate b) (evaluate (unplaced a)) (evaluate (unplaced b)) (operate Difference) (operate Difference) (unplaced-gives a) (unplaced-gives b)
    (λ p q. same-gives (operate Difference p q))
unplaced-gives (product a b) =
    two-give (evaluate a) (evaluate b) (evaluate (unplaced a)) (evaluate (unplaced b)) (operate Product) (operate Product) (unplaced-gives a) (unplaced-gives b)
    (λ p q. same-gives (operate Product p q))
unplaced-gives (quotient left a b) =
    two-give (evaluate a) (evaluate b) (evaluate (unplaced a)) (evaluate (unplaced b)) (operate (Quotient left)) (operate (Quotient 0)) (unplaced-gives a) (unplaced-gives b)
    (λ p q. quotient-gives left 0 p q)
unplaced-gives (power a n) = one-gives (evaluate a) (evaluate (unplaced a)) (λ p. valued (power_of p n)) (unplaced-gives a)

placed-gives : (a : Tree) → Gives (evaluate (unplaced a)) (evaluate a)
placed-gives (number n) = same-gives _
placed-gives (variable i) = same-gives _
placed-gives root = same-gives _
placed-gives (negated a) = mapped-gives (poly.negatives element) (evaluate (unplaced a)) (evaluate a) (placed-gives a)
placed-gives (sum a b) =
    two-give (evaluate (unplaced a)) (evaluate (unplaced b)) (evaluate a) (evaluate b) (operate Sum) (operate Sum) (placed-gives a) (placed-gives b) (λ p q. same-gives (operate Sum p q))
placed-gives (difference a b) =
    two-give (evaluate (unplaced a)) (evaluate (unplaced b)) (evaluate a) (evaluate b) (operate Difference) (operate Difference) (placed-gives a) (placed-gives b)
    (λ p q. same-gives (operate Difference p q))
placed-gives (product a b) =
    two-give (evaluate (unplaced a)) (evaluate (unplaced b)) (evaluate a) (evaluate b) (operate Product) (operate Product) (placed-gives a) (placed-gives b) (λ p q. same-gives (operate Product p q))
placed-gives (quotient left a b) =
    two-give (evaluate (unplaced a)) (evaluate (unplaced b)) (evaluate a) (evaluate b) (operate (Quotient 0)) (operate (Quotient left)) (placed-gives a) (placed-gives b)
    (λ p q. quotient-gives 0 left p q)
placed-gives (power a n) = one-gives (evaluate (unplaced a)) (evaluate a) (λ p. valued (power_of p n)) (placed-gives a)

-- Two trees that differ in the places of their divisions at most have the same value, where one of them has a value.
pub same_value-unplaced : (a b : Tree) (p : List Element) → unplaced a ≡ unplaced b → evaluate a ≡ Ok p → evaluate b ≡ Ok p
same_value-unplaced a b p e h = placed-gives b p (subst (λ t. evaluate t ≡ Ok p) e (unplaced-gives a p h))

pub same_element-unplaced : (a b : Tree) (f : Element) → unplaced a ≡ unplaced b → element_value a ≡ Ok f → element_value b ≡ Ok f
same_element-unplaced a b f e h = mapped-gives constant_term (evaluate a) (evaluate b) (λ p k. same_value-unplaced a b p e k) f h
