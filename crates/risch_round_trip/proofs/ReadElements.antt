-- A printed element is read as the same element, or its evaluation stops: a number overflows, or a size is met.
use Rattle.std.specs.Prelude.{cond, if◌then◌else◌, slice_get, unwrap_or}
use Rattle.std.proofs.Common.{◌≡◌, ℕ, zero, suc, ◌+◌, ◌≤◌, ◌<◌, List, [], ◌∷◌, ◌++◌, length, Bool, true, false, Option, None, Some, Ok, Err, refl, sym, ap, subst, ◌∙◌, arith}
use Rattle.std.proofs.lemmas.Bool.{le-leb}
use Rattle.risch_ring.proofs.Expression.{reading}
use Rattle.risch_ring.proofs.Solver.{ring}
use Rattle.risch_mean.specs.Element as mean
use Rattle.risch_mean.specs.Element.{InField, is_zero_test, same, ◌+ₑ◌, ◌-ₑ◌, ◌*ₑ◌, ◌/ₑ◌}
use Rattle.risch_mean.specs.ElementField.{elements, ◌^ₑ◌}
use Rattle.risch_mean.specs.ElementLaws.{same_if}
use Rattle.risch_mean.specs.Written.{written_value, of_one, of_two}
use Rattle.risch_field.specs.Checked.{Checked}
use Rattle.risch_field.specs.declared.Fail.TheVariants as fail
use Rattle.risch_polynomial.specs.Poly as poly
use Rattle.risch_level.specs.Levels.{Element, element}
use Rattle.risch_element_theory.specs.WholeTower.{IsElement, meaning, IsPolynomial, Within, AllWithin}
use Rattle.risch_element_theory.proofs.ElementPolynomials.{element_interprets}
use Rattle.risch_cert.specs.Printing.{print_element, print_in_z}
use Rattle.risch_expression.specs.Results.{and_next, map_value}
use Rattle.risch_expression.specs.Words.{after_blanks}
use Rattle.risch_expression.specs.Tree.{Tree, number, variable, root, negated, sum, difference, product, quotient, power, expression_of, IsOver}
use Rattle.risch_expression.specs.Grammar.{Read, Parsed, parsed, sum_in, expression}
use Rattle.risch_expression.specs.Evaluation.{Valued, valued, constant_term, divided, divided_by, ratio, operate, power_of, evaluate, element_value}
use Rattle.risch_expression.specs.declared.names.Names.{Names}
use Rattle.risch_expression.specs.declared.fault.ValueFault.{ValueFault}
use Rattle.risch_expression.specs.declared.fault.ValueFault.TheVariants.{DivisionByZero, Shape, Overflow, Size, Memory}
use Rattle.risch_expression.specs.declared.program.Operation.TheVariants.{Sum, Difference, Product, Quotient}
use Rattle.risch_expression.proofs.Standing.{constant_term-is_element, constant_term-means}
use Rattle.risch_expression.proofs.EvaluationMeaning.{evaluate-means}
use Rattle.risch_round_trip.proofs.Fronts.{AfterSum}
use Rattle.risch_round_trip.proofs.Limits.{IsLimited, element_limited, sum-limited, product-limited, divided-by-limited, power-limited}
use Rattle.risch_round_trip.proofs.Chained.{PlainDivisors}
use Rattle.risch_round_trip.proofs.PrintedElements.{element-read, in_z-read}
use Rattle.risch_round_trip.proofs.RootValues.{at_z, same_at_z, short_at_z, constant_term-at, evaluate-at}

-- ---- what ends an evaluation
-- no division by 0, no wrong shape, and no want of memory
abbrev pub IsStop : ValueFault → Type 0
IsStop (DivisionByZero left) = ⊥
IsStop Shape = ⊥
IsStop (Overflow op) = Unit {0}
IsStop Size = Unit {0}
IsStop Memory = ⊥

-- a value, or a stop
abbrev pub IsFormedOrStopped : {A : Type 0} → Valued A → Type 0
IsFormedOrStopped (Ok a) = Unit {0}
IsFormedOrStopped (Err fault) = IsStop fault

pub valued-stops : {A : Type 0} (rule : Checked A) → IsLimited rule → IsFormedOrStopped (valued rule)
valued-stops (Ok a) l = tt
valued-stops (Err (fail.Overflow op)) l = tt
valued-stops (Err fail.Size) l = tt
valued-stops (Err fail.Memory) l = l

two-stop : (va vb : Valued (List Element)) (operation : List Element → List Element → Valued (List Element)) → IsFormedOrStopped va → IsFormedOrStopped vb →
    ((p q : List Element) → va ≡ Ok p → vb ≡ Ok q → IsFormedOrStopped (operation p q)) → IsFormedOrStopped (and_next va (λ p. and_next vb (operation p)))
two-stop (Ok p) (Ok q) operation l m h = h p q refl refl
two-stop (Ok p) (Err fault) operation l m h = m
two-stop (Err fault) vb operation l m h = l

one-stops : (va : Valued (List Element)) (operation : List Element → Valued (List Element)) → IsFormedOrStopped va → ((p : List Element) → IsFormedOrStopped (operation p)) →
    IsFormedOrStopped (and_next va operation)
one-stops (Ok p) operation l h = h p
one-stops (Err fault) operation l h = l

pub mapped-stops : {A B : Type 0} (f : A → B) (va : Valued A) → IsFormedOrStopped va → IsFormedOrStopped (map_value f va)
mapped-stops f (Ok p) l = tt
mapped-stops f (Err fault) l = l

-- ---- the values of the operands
record BothWritten (h : mean.Element → mean.Element → Option mean.Element) (a b : Option mean.Element) (v : mean.Element) : Type 0 where
  f : mean.Element
  g : mean.Element
  left_is : a ≡ Some f
  right_is : b ≡ Some g
  is : h f g ≡ Some v

both_written : (h : mean.Element → mean.Element → Option mean.Element) (a b : Option mean.Element) (v : mean.Element) → of_two h a b ≡ Some v → BothWritten h a b v
both_written h None b v e = absurd (cc)
both_written h (Some f) None v e = absurd (cc)
both_written h (Some f) (Some g) v e = record { f = f; g = g; left_is = refl; right_is = refl; is = e }

record OneWritten (h : mean.Element → mean.Element) (a : Option mean.Element) : Type 0 where
  f : mean.Element
  is : a ≡ Some f

one_written : (h : mean.Element → mean.Element) (a : Option mean.Element) (v : mean.Element) → of_one h a ≡ Some v → OneWritten h a
one_written h None v e = absurd (cc)
one_written h (Some f) v e = record { f = f; is = refl }

-- ---- divisors
zero-is_zero : is_zero_test mean.zero ≡ true
unfolding same
zero-is_zero = ap is_zero_test (nothing mean.zero) ∙ same_if mean.zero mean.zero refl
  where
    nothing : (f : mean.Element) → f ≡ mean.minus f mean.zero
    nothing f = ring elements.ring (f ∷ []) (search reading depth 20) refl

-- a divisor in the tower that has a value other than 0 is an element other than 0
ratio-stops : (n left : ℕ) (with_z : Bool) (b : Tree) (p q : List Element) (g : mean.Element) → n ≤ 5 → IsOver n with_z b → InField 5 g → written_value (expression_of b) ≡ Some g →
    is_zero_test g ≡ false → evaluate b ≡ Ok q → IsFormedOrStopped (ratio left p q)
unfolding ratio
ratio-stops n left with_z b p q g most over inside written some is =
    let kept = (evaluate-means n with_z b q over is).lies.kept in
    let value_is : at_z q ≡ g = evaluate-at n with_z most b q g over is written in
    let short : length q ≤ 1 = short_at_z q g kept inside value_is in
    subst (λ (t : Bool). IsFormedOrStopped (if t then divided_by left p (poly.nonzero element (slice_get q 0)) else Err Shape)) (sym (le-leb (length q) 1 short))
    (by_divisor (poly.nonzero element (slice_get q 0)) refl (constant_term-at q kept short ∙ value_is))
  where
    true_false : true ≡ false → ⊥
    true_false h = cc

    by_divisor : (c : Option Element) → poly.nonzero element (slice_get q 0) ≡ c → meaning (constant_term q) ≡ g → IsFormedOrStopped (divided_by left p c)
    by_divisor None found e =
        let nothing : mean.zero ≡ g = sym (ap (λ c. meaning (unwrap_or c element.zero)) found ∙ element_interprets.zero-means) ∙ e in
        absurd (true_false (sym zero-is_zero ∙ ap is_zero_test nothing ∙ some))
    by_divisor (Some c) found e = valued-stops (divided p c) (divided-by-limited p c)

some_divisor : (f g v : mean.Element) → cond (is_zero_test g) None (Some (f /ₑ g)) ≡ Some v → is_zero_test g ≡ false
some_divisor f g v h = by_test (is_zero_test g) h
  where
    by_test : (t : Bool) → cond t None (Some (f /ₑ g)) ≡ Some v → t ≡ false
    by_test true e = absurd (cc)
    by_test false e = refl

-- An expression that has a written value, and whose divisors lie in the tower, has a value or its evaluation stops.
pub evaluate-stops : (n : ℕ) (with_z : Bool) (a : Tree) (v : mean.Element) → n ≤ 5 → IsOver n with_z a → PlainDivisors a → written_value (expression_of a) ≡ Some v → IsFormedOrStopped (evaluate a)
unfolding operate
evaluate-stops n with_z (number k) v most over plain h = tt
evaluate-stops n with_z (variable i) v most over plain h = tt
evaluate-stops n with_z root v most over plain h = tt
evaluate-stops n with_z (negated a) v most over plain h =
    let w = one_written mean.neg (written_value (expression_of a)) v h in mapped-stops (poly.negatives element) (evaluate a) (evaluate-stops n with_z a w.f most over plain w.is)
evaluate-stops n with_z (sum a b) v most over plain h =
    let w = both_written (λ f g. Some (f +ₑ g)) (written_value (expression_of a)) (written_value (expression_of b)) v h in
    two-stop (evaluate a) (evaluate b) (operate Sum) (evaluate-stops n with_z a w.f most over.0 plain.0 w.left_is) (evaluate-stops n with_z b w.g most over.1 plain.1 w.right_is)
    (λ p q d e. valued-stops (poly.sum element p q) (sum-limited element element_limited p q))
evaluate-stops n with_z (difference a b) v most over plain h =
    let w = both_written (λ f g. Some (f -ₑ g)) (written_value (expression_of a)) (written_value (expression_of b)) v h in
    two-stop (evaluate a) (evaluate b) (operate Difference) (evaluate-stops n with_z a w.f most over.0 plain.0 w.left_is) (evaluate-stops n with_z b w.g most over.1 plain.1 w.right_is)
    (λ p q d e. valued-stops (poly.sum element p (poly.negatives element q)) (sum-limited element element_limited p (poly.negatives element q)))
evaluate-stops n with_z (product a b) v most over plain h =
    let w = both_written (λ f g. Some (f *ₑ g)) (written_value (expression_of a)) (written_value (expression_of b)) v h in
    two-stop (evaluate a) (evaluate b) (operate Product) (evaluate-stops n with_z a w.f most over.0 plain.0 w.left_is) (evaluate-stops n with_z b w.g most over.1 plain.1 w.right_is)
    (λ p q d e. valued-stops (poly.product element p q) (product-limited element element_limited p q))
evaluate-stops n with_z (quotient left a b) v most over plain h =
    let w = both_written (λ f g. cond (is_zero_test g) None (Some (f /ₑ g))) (written_value (expression_of a)) (written_value (expression_of b)) v h in
    two-stop (evaluate a) (evaluate b) (operate (Quotient left)) (evaluate-stops n with_z a w.f most over.0 plain.0 w.left_is) (evaluate-stops n with_z b w.g most over.1 plain.1 w.right_is)
    (λ p q d e. ratio-stops n left with_z b p q w.g most over.1 (plain.2 w.g w.right_is) w.right_is (some_divisor w.f w.g v w.is) e)
evaluate-stops n with_z (power a k) v most over plain h =
    let w = one_written (λ f. f ^ₑ k) (written_value (expression_of a)) v h in
    one-stops (evaluate a) (λ p. valued (power_of p k)) (evaluate-stops n with_z a w.f most over plain w.is) (λ p. valued-stops (power_of p k) (power-limited p k))

-- ---- elements
-- the term of a value
record IsTermOf (value : Valued (List Element)) (e : Element) : Type 0 where
  p : List Element
  is : value ≡ Ok p
  term : constant_term p ≡ e

term_of : (value : Valued (List Element)) (e : Element) → map_value constant_term value ≡ Ok e → IsTermOf value e
term_of (Ok p) e h = record { p = p; is = refl; term = cc }
term_of (Err fault) e h = absurd (cc)

-- an expression has no other value than its written one
pub same_polynomial : (n : ℕ) (with_z : Bool) (a : Tree) (p q : List Element) → n ≤ 5 → IsOver n with_z a → IsPolynomial q → written_value (expression_of a) ≡ Some (at_z q) → evaluate a ≡ Ok p → p ≡ q
same_polynomial n with_z a p q most over kept written h =
    same_at_z p q (evaluate-means n with_z a p over h).lies.kept kept (evaluate-at n with_z most a p (at_z q) over h written)

-- an expression without z whose written value is what e stands for has no other value than e
pub same_element : (n : ℕ) (a : Tree) (e f : Element) → n ≤ 5 → IsOver n false a → IsElement e → written_value (expression_of a) ≡ Some (meaning e) → element_value a ≡ Ok f → f ≡ e
same_element n a e f most over v written h =
    let t = term_of (evaluate a) f h in
    let m = evaluate-means n false a t.p over t.is in
    let s = m.element_is refl most in
    element_interprets.injective f e (subst IsElement t.term (constant_term-is_element t.p m.lies.kept)) v
    (ap meaning (sym t.term) ∙ constant_term-means t.p s.value m.lies.kept s.stands ∙ same_some s.value (meaning e) (sym s.written ∙ written))
  where
    same_some : (x y : mean.Element) → Some x ≡ Some y → x ≡ y
    same_some x y e = cc

-- The rule reads an expression, and the rest is at hand. Its value is the element e, or its evaluation stops.
pub record ReadsElement (rule : Read Parsed) (rest : List ℕ) (e : Element) : Type 0 where
  pub tree : Tree
  pub is : rule ≡ parsed tree rest
  pub only : (f : Element) → element_value tree ≡ Ok f → f ≡ e
  pub stops : IsFormedOrStopped (element_value tree)

pub printed_element_is_read : (names : Names) → names.with_z ≡ false → names.monomials ≤ 4 → (n : ℕ) → n ≤ suc names.monomials → (e : Element) → IsElement e → Within n e →
    (k : ℕ) → n + n ≤ k → (rest : List ℕ) → AfterSum rest → ReadsElement (sum_in names k (print_element e ++ rest)) (after_blanks rest) e
printed_element_is_read names no_z low n known e v w k deep rest after =
    let r = element-read names n (omega arith) known e v w k deep rest after in
    let over : IsOver (names.monomials + 1) false r.tree = subst (λ z. IsOver (names.monomials + 1) z r.tree) no_z r.holds.over in
    record {
      tree = r.tree;
      is = r.is;
      only = λ f h. same_element (names.monomials + 1) r.tree e f (omega arith) over v r.holds.written h;
      stops = mapped-stops constant_term (evaluate r.tree) (evaluate-stops (names.monomials + 1) false r.tree (meaning e) (omega arith) over r.holds.plain r.holds.written);
    }

-- the same of a whole expression, in which at most 64 parentheses are open
pub printed_expression_is_read : (names : Names) → names.with_z ≡ false → names.monomials ≤ 4 → (n : ℕ) → n ≤ suc names.monomials → (e : Element) → IsElement e → Within n e →
    (rest : List ℕ) → AfterSum rest → ReadsElement (expression names (print_element e ++ rest)) (after_blanks rest) e
unfolding expression
printed_expression_is_read names no_z low n known e v w rest after = printed_element_is_read names no_z low n known e v w 64 (omega arith) rest after

-- ---- polynomials in z
-- The rule reads an expression, and the rest is at hand. Its value is the polynomial p in z, or its evaluation stops.
pub record ReadsPolynomial (rule : Read Parsed) (rest : List ℕ) (p : List Element) : Type 0 where
  pub tree : Tree
  pub is : rule ≡ parsed tree rest
  pub only : (q : List Element) → evaluate tree ≡ Ok q → q ≡ p
  pub stops : IsFormedOrStopped (evaluate tree)

pub printed_polynomial_is_read : (names : Names) → names.with_z ≡ true → names.monomials ≤ 4 → (n : ℕ) → n ≤ suc names.monomials → (p : List Element) → IsPolynomial p → AllWithin n p →
    (k : ℕ) → n + n < k → (rest : List ℕ) → AfterSum rest → ReadsPolynomial (sum_in names k (print_in_z p ++ rest)) (after_blanks rest) p
printed_polynomial_is_read names some_z low n known p kept within zero deep rest after = absurd (omega arith)
printed_polynomial_is_read names some_z low n known p kept within (suc k) deep rest after =
    let r = in_z-read names some_z n (omega arith) known p kept within k (omega arith) rest after in
    record {
      tree = r.tree;
      is = r.is;
      only = λ q h. same_polynomial (names.monomials + 1) names.with_z r.tree q p (omega arith) r.holds.over kept r.holds.written h;
      stops = evaluate-stops (names.monomials + 1) names.with_z r.tree (at_z p) (omega arith) r.holds.over r.holds.plain r.holds.written;
    }

-- the same of a whole expression, in which at most 64 parentheses are open
pub printed_expression_in_z_is_read : (names : Names) → names.with_z ≡ true → names.monomials ≤ 4 → (n : ℕ) → n ≤ suc names.monomials → (p : List Element) → IsPolynomial p → AllWithin n p →
    (rest : List ℕ) → AfterSum rest → ReadsPolynomial (expression names (print_in_z p ++ rest)) (after_blanks rest) p
unfolding expression
printed_expression_in_z_is_read names some_z low n known p kept within rest after = printed_polynomial_is_read names some_z low n known p kept within 64 (omega arith) rest after
