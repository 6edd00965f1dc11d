-- The value of an expression without z stands for its written value, and only the variables of the expression occur in a value.
use Rattle.std.proofs.Common.{◌≡◌, ℕ, ◌+◌, ◌≤◌, ◌<◌, ◌^◌, List, [], ◌∷◌, Bool, true, false, None, Some, Result, Ok, Err, refl, sym, ◌∙◌, ap, subst, arith, pos}
use Rattle.std.specs.Prelude.{IfOk}
use Rattle.std.proofs.lemmas.Bool.{cond-false}
use Rattle.risch_ring.proofs.Expression.{reading}
use Rattle.risch_ring.proofs.Solver.{ring}
use Rattle.risch_frac.specs.Fraction.{whole}
use Rattle.risch_frac.proofs.Units.{whole-is_lowest}
use Rattle.risch_mean.specs.Element as mean
use Rattle.risch_mean.specs.Element.{zero, one, minus, neg, over, integer, ◌+ₑ◌, ◌-ₑ◌, ◌*ₑ◌, ◌/ₑ◌, is_zero_test, same}
use Rattle.risch_mean.specs.ElementField.{elements, ◌^ₑ◌}
use Rattle.risch_mean.specs.ElementFieldLaws.{mul-one, one-ne-zero}
use Rattle.risch_mean.specs.ElementLaws.{same_is, over-mul}
use Rattle.risch_mean.specs.Written.{written_value}
use Rattle.risch_mean.proofs.IntegerLaws.{integer-one}
use Rattle.risch_polynomial.specs.Poly as poly
use Rattle.risch_polynomial_theory.specs.FractionMeaning.{fraction_meaning}
use Rattle.risch_level.specs.Levels.{Element, element}
use Rattle.risch_level.specs.Accessors as part
use Rattle.risch_element_theory.specs.WholeTower.{IsElement, meaning, Within, AllWithin}
use Rattle.risch_element_theory.proofs.ElementLaws.{zero-is_element, one-is_element, nonzero-stands}
use Rattle.risch_element_theory.proofs.ElementWithin.{zero-element-within, one-element-within, more-element-within}
use Rattle.risch_element_theory.proofs.ElementParts.{number-is_element, number-stands, number-element-within, variable-is_element, variable-stands, variable-element-within}
use Rattle.risch_element_theory.proofs.ElementPolynomials as Polynomials
use Rattle.risch_expression.specs.Results.{and_next, map_value}
use Rattle.risch_expression.specs.Tree.{Tree, number, variable, root, negated, sum, difference, product, quotient, power, expression_of, IsOver}
use Rattle.risch_expression.specs.Program.{steps}
use Rattle.risch_expression.specs.Evaluation.{Valued, valued, constant, constant_term, number_value, variable_value, root_value, operate, power_of, evaluate, element_value, result_of, Answers}
use Rattle.risch_expression.specs.declared.fault.ValueFault.{ValueFault}
use Rattle.risch_expression.specs.declared.program.Operation.TheVariants.{Sum, Difference, Product, Quotient}
use Rattle.risch_expression.specs.declared.program.Step.{Step}
use Rattle.risch_expression.proofs.Constants.{root_trimmed, root_short}
use Rattle.risch_expression.proofs.Evaluations.{result_of-steps}
use Rattle.risch_expression.proofs.Standing.{Lies, Stands, sum-lies, sum-stands, product-lies, product-stands, negatives-lie, negatives-stand, constant-lies, constant-stands, constant_term-is_element, constant_term-within, constant_term-means, valued-ok, ratio-formed, divisor-found, divided-lies, divided-stands, power-lies, power-stands}

-- ---- the test for 0 tells the truth
zero_of_test : (f : mean.Element) → is_zero_test f ≡ true → f ≡ zero
unfolding same
zero_of_test f t = same_is f zero (ap is_zero_test (less_nothing f) ∙ t)
  where
    less_nothing : (f : mean.Element) → minus f zero ≡ f
    less_nothing f = ring elements.ring (f ∷ []) (search reading depth 20) refl

not-true : (b : Bool) → (b ≡ true → ⊥) → b ≡ false
not-true true h = absurd (h refl)
not-true false h = refl

-- ---- n/1 is n
one-den : ¬ (integer (pos 1) ≡ zero)
one-den h = one-ne-zero (sym integer-one ∙ h)

whole-meaning : (n : ℕ) → fraction_meaning (whole n) ≡ integer (pos n)
whole-meaning n =
    sym (mul-one (over (integer (pos n)) (integer (pos 1)))) ∙ ap (mean.mul (over (integer (pos n)) (integer (pos 1)))) (sym integer-one)
    ∙ over-mul (integer (pos n)) (integer (pos 1)) one-den

-- the value of the expression is the element p, its written value
pub record HasElement (a : Tree) (p : List Element) : Type 0 where
  pub value : mean.Element
  pub written : written_value (expression_of a) ≡ Some value
  pub stands : Stands p value

-- the value of the expression is p; where z may not occur, it is an element
pub record Means (n : ℕ) (with_z : Bool) (a : Tree) (p : List Element) : Type 0 where
  pub lies : Lies n p
  pub element_is : with_z ≡ false → n ≤ 5 → HasElement a p

module _ (n : ℕ) (with_z : Bool) where
  -- ---- the rules one by one
  number-means : (k : ℕ) → k < 2 ^ 127 → Means n with_z (number k) (number_value (whole k))
  unfolding number_value
  number-means k small =
      let valid = number-is_element (whole k) (whole-is_lowest k small) in
      record {
        lies = constant-lies n (part.number 5 (whole k)) valid (number-element-within n (whole k));
        element_is = λ no_z low. record {
          value = integer (pos k);
          written = refl;
          stands = subst (Stands (constant (part.number 5 (whole k)))) (number-stands (whole k) ∙ whole-meaning k) (constant-stands (part.number 5 (whole k)) valid);
        };
      }

  variable-means : (i : ℕ) → i < n → Means n with_z (variable i) (variable_value i)
  unfolding variable_value
  variable-means i below =
      record {
        lies = constant-lies n (part.variable 5 i) (variable-is_element i) (more-element-within (i + 1) n (omega arith) (part.variable 5 i) (variable-element-within i));
        element_is = λ no_z low. record {
          value = mean.variable i;
          written = refl;
          stands = subst (Stands (constant (part.variable 5 i))) (variable-stands i (omega arith)) (constant-stands (part.variable 5 i) (variable-is_element i));
        };
      }

  root-means : with_z ≡ true → Means n with_z root root_value
  root-means some_z =
      record {
        lies = record {
          kept = Polynomials.trimmed-is_polynomial root_value root_value (zero-is_element, (one-is_element, tt)) (root_short root_value refl) (sym (root_trimmed root_value refl));
          within = (zero-element-within n, (one-element-within n, tt));
        };
        element_is = λ no_z low. absurd (cc);
      }

  negated-means : (a : Tree) (p r : List Element) → Means n with_z a p → poly.negatives element p ≡ r → Means n with_z (negated a) r
  negated-means a p r m h =
      subst (Means n with_z (negated a)) h
      (record {
        lies = negatives-lie n p m.lies;
        element_is = λ no_z low. let e = m.element_is no_z low in record { value = neg e.value; written = rw e.written refl; stands = negatives-stand p e.value m.lies.kept e.stands };
      })

  sum-means : (a b : Tree) (p q r : List Element) → Means n with_z a p → Means n with_z b q → operate Sum p q ≡ Ok r → Means n with_z (sum a b) r
  unfolding operate
  sum-means a b p q r l m h =
      let formed = valued-ok (poly.sum element p q) r h in
      record {
        lies = sum-lies n p q r l.lies m.lies formed;
        element_is = λ no_z low. let e = l.element_is no_z low in let f = m.element_is no_z low in
            record { value = e.value +ₑ f.value; written = rw (e.written, f.written) refl; stands = sum-stands p q r e.value f.value l.lies.kept m.lies.kept e.stands f.stands formed };
      }

  difference-means : (a b : Tree) (p q r : List Element) → Means n with_z a p → Means n with_z b q → operate Difference p q ≡ Ok r → Means n with_z (difference a b) r
  unfolding operate
  difference-means a b p q r l m h =
      let formed = valued-ok (poly.sum element p (poly.negatives element q)) r h in
      let negative = negatives-lie n q m.lies in
      record {
        lies = sum-lies n p (poly.negatives element q) r l.lies negative formed;
        element_is = λ no_z low. let e = l.element_is no_z low in let f = m.element_is no_z low in
            record {
              value = e.value -ₑ f.value;
              written = rw (e.written, f.written) refl;
              stands = sum-stands p (poly.negatives element q) r e.value (neg f.value) l.lies.kept negative.kept e.stands (negatives-stand q f.value m.lies.kept f.stands) formed;
            };
      }

  product-means : (a b : Tree) (p q r : List Element) → Means n with_z a p → Means n with_z b q → operate Product p q ≡ Ok r → Means n with_z (product a b) r
  unfolding operate
  product-means a b p q r l m h =
      let formed = valued-ok (poly.product element p q) r h in
      record {
        lies = product-lies n p q r l.lies m.lies formed;
        element_is = λ no_z low. let e = l.element_is no_z low in let f = m.element_is no_z low in
            record { value = e.value *ₑ f.value; written = rw (e.written, f.written) refl; stands = product-stands p q r e.value f.value l.lies.kept m.lies.kept e.stands f.stands formed };
      }

  quotient-means : (left : ℕ) (a b : Tree) (p q r : List Element) → Means n with_z a p → Means n with_z b q → operate (Quotient left) p q ≡ Ok r → Means n with_z (quotient left a b) r
  unfolding operate
  quotient-means left a b p q r l m h =
      let formed = ratio-formed left p q r h in
      let c = formed.divisor in
      let found = divisor-found q c formed.found in
      let valid : IsElement c = subst IsElement found.is (constant_term-is_element q m.lies.kept) in
      let inside : Within n c = subst (Within n) found.is (constant_term-within n q m.lies.within) in
      record {
        lies = divided-lies n p r c l.lies valid inside found.not_zero formed.formed;
        element_is = λ no_z low. let e = l.element_is no_z low in let f = m.element_is no_z low in
            let divisor_is : meaning c ≡ f.value = ap meaning (sym found.is) ∙ constant_term-means q f.value m.lies.kept f.stands in
            let some : is_zero_test f.value ≡ false = not-true (is_zero_test f.value) (λ t. nonzero-stands c valid found.not_zero (divisor_is ∙ zero_of_test f.value t)) in
            record {
              value = e.value /ₑ f.value;
              written = rw (e.written, f.written) (cond-false (is_zero_test f.value) None (Some (e.value /ₑ f.value)) some);
              stands = subst (λ (g : mean.Element). Stands r (e.value /ₑ g)) divisor_is (divided-stands p r c e.value l.lies.kept e.stands valid found.not_zero formed.formed);
            };
      }

  power-means : (a : Tree) (k : ℕ) (p r : List Element) → Means n with_z a p → valued (power_of p k) ≡ Ok r → Means n with_z (power a k) r
  power-means a k p r m h =
      let formed = valued-ok (power_of p k) r h in
      record {
        lies = power-lies n p r k m.lies formed;
        element_is = λ no_z low. let e = m.element_is no_z low in
            record { value = e.value ^ₑ k; written = rw e.written refl; stands = power-stands p r e.value k m.lies.kept e.stands formed };
      }

  -- ---- all of them
  two-mean : {a b c : Tree} (va vb : Valued (List Element)) (operation : List Element → List Element → Valued (List Element)) (r : List Element) →
      ((p : List Element) → va ≡ Ok p → Means n with_z a p) → ((q : List Element) → vb ≡ Ok q → Means n with_z b q) →
      ((p q : List Element) → Means n with_z a p → Means n with_z b q → operation p q ≡ Ok r → Means n with_z c r) →
      and_next va (λ p. and_next vb (operation p)) ≡ Ok r → Means n with_z c r
  two-mean (Ok p) (Ok q) operation r left right both h = both p q (left p refl) (right q refl) h
  two-mean (Ok p) (Err fault) operation r left right both h = absurd (cc)
  two-mean (Err fault) vb operation r left right both h = absurd (cc)

  one-means : {a c : Tree} (va : Valued (List Element)) (operation : List Element → Valued (List Element)) (r : List Element) →
      ((p : List Element) → va ≡ Ok p → Means n with_z a p) → ((p : List Element) → Means n with_z a p → operation p ≡ Ok r → Means n with_z c r) →
      and_next va operation ≡ Ok r → Means n with_z c r
  one-means (Ok p) operation r h k e = k p (h p refl) e
  one-means (Err fault) operation r h k e = absurd (cc)

  mapped-means : {a c : Tree} (va : Valued (List Element)) (f : List Element → List Element) (r : List Element) →
      ((p : List Element) → va ≡ Ok p → Means n with_z a p) → ((p : List Element) → Means n with_z a p → f p ≡ r → Means n with_z c r) → map_value f va ≡ Ok r → Means n with_z c r
  mapped-means (Ok p) f r h k e = k p (h p refl) (cc)
  mapped-means (Err fault) f r h k e = absurd (cc)

  -- What the value of an expression over the first n variables means.
  pub evaluate-means : (a : Tree) (p : List Element) → IsOver n with_z a → evaluate a ≡ Ok p → Means n with_z a p
  evaluate-means (number k) p fit h = let is : number_value (whole k) ≡ p = cc in subst (Means n with_z (number k)) is (number-means k fit)
  evaluate-means (variable i) p fit h = let is : variable_value i ≡ p = cc in subst (Means n with_z (variable i)) is (variable-means i fit)
  evaluate-means root p fit h = let is : root_value ≡ p = cc in subst (Means n with_z root) is (root-means fit)
  evaluate-means (negated a) p fit h =
      mapped-means {a = a} (evaluate a) (poly.negatives element) p (λ q e. evaluate-means a q fit e) (λ q m e. negated-means a q p m e) h
  evaluate-means (sum a b) p fit h =
      two-mean {a = a} {b = b} (evaluate a) (evaluate b) (operate Sum) p (λ q e. evaluate-means a q fit.0 e) (λ q e. evaluate-means b q fit.1 e) (λ q r l m e. sum-means a b q r p l m e) h
  evaluate-means (difference a b) p fit h =
      two-mean {a = a} {b = b} (evaluate a) (evaluate b) (operate Difference) p (λ q e. evaluate-means a q fit.0 e) (λ q e. evaluate-means b q fit.1 e) (λ q r l m e. difference-means a b q r p l m e) h
  evaluate-means (product a b) p fit h =
      two-mean {a = a} {b = b} (evaluate a) (evaluate b) (operate Product) p (λ q e. evaluate-means a q fit.0 e) (λ q e. evaluate-means b q fit.1 e) (λ q r l m e. product-means a b q r p l m e) h
  evaluate-means (quotient left a b) p fit h =
      two-mean {a = a} {b = b} (evaluate a) (evaluate b) (operate (Quotient left)) p (λ q e. evaluate-means a q fit.0 e) (λ q e. evaluate-means b q fit.1 e) (λ q r l m e. quotient-means left a b q r p l m e) h
  evaluate-means (power a k) p fit h =
      one-means {a = a} (evaluate a) (λ q. valued (power_of q k)) p (λ q e. evaluate-means a q fit e) (λ q m e. power-means a k q p m e) h

-- ---- of answers
pub answer_steps : (result : Result (List Element) ValueFault) (all : List Step) (tree : Tree) → Answers result (result_of all) → all ≡ steps tree → Answers result (evaluate tree)
answer_steps result all tree h e = subst (Answers result) (ap result_of e ∙ result_of-steps tree) h

pub answer_within : (result : Result (List Element) ValueFault) (tree : Tree) (n : ℕ) (with_z : Bool) → Answers result (evaluate tree) → IsOver n with_z tree → IfOk result (λ it. AllWithin n it)
answer_within (Ok p) tree n with_z h fit = (evaluate-means n with_z tree p fit h).lies.within
answer_within (Err fault) tree n with_z h fit = tt

pub element_answer_steps : (result : Result Element ValueFault) (all : List Step) (tree : Tree) → Answers result (map_value constant_term (result_of all)) → all ≡ steps tree → Answers result (element_value tree)
element_answer_steps result all tree h e = subst (λ (rule : Valued (List Element)). Answers result (map_value constant_term rule)) (ap result_of e ∙ result_of-steps tree) h

-- the polynomial whose constant term is the answer
record IsTermOf (value : Valued (List Element)) (e : Element) : Type 0 where
  p : List Element
  is : value ≡ Ok p
  term : constant_term p ≡ e

term_of : (value : Valued (List Element)) (e : Element) → map_value constant_term value ≡ Ok e → IsTermOf value e
term_of (Ok p) e h = record { p = p; is = refl; term = cc }
term_of (Err fault) e h = absurd (cc)

pub element_answer_written : (result : Result Element ValueFault) (tree : Tree) (n : ℕ) → Answers result (element_value tree) → n ≤ 5 → IsOver n false tree →
    IfOk result (λ it. written_value (expression_of tree) ≡ Some (meaning it))
element_answer_written (Ok e) tree n h low fit =
    let t = term_of (evaluate tree) e h in
    let m = evaluate-means n false tree t.p fit t.is in
    let f = m.element_is refl low in
    f.written ∙ ap Some (sym (ap meaning (sym t.term) ∙ constant_term-means t.p f.value m.lies.kept f.stands))
element_answer_written (Err fault) tree n h low fit = tt

pub element_answer_within : (result : Result Element ValueFault) (tree : Tree) (n : ℕ) → Answers result (element_value tree) → IsOver n false tree → IfOk result (λ it. Within n it)
element_answer_within (Ok e) tree n h fit =
    let t = term_of (evaluate tree) e h in
    subst (Within n) t.term (constant_term-within n t.p (evaluate-means n false tree t.p fit t.is).lies.within)
element_answer_within (Err fault) tree n h fit = tt
