-- The steps of an expression leave its value on the stack.
use Rattle.std.proofs.Common.{◌≡◌, ℕ, List, [], ◌∷◌, ◌++◌, refl, sym, ap, ◌∙◌, append_assoc, append-nil, Ok, Err}
use Rattle.risch_polynomial.specs.Poly as poly
use Rattle.risch_level.specs.Levels.{Element, element}
use Rattle.risch_expression.specs.Results.{and_next, map_value}
use Rattle.risch_expression.specs.Tree.{Tree, number, variable, root, negated, sum, difference, product, quotient, power}
use Rattle.risch_expression.specs.Program.{steps}
use Rattle.risch_expression.specs.Evaluation.{Valued, valued, evaluate, operate, power_of, put, run, top, result_of}
use Rattle.risch_expression.specs.declared.program.Operation.{Operation}
use Rattle.risch_expression.specs.declared.program.Operation.TheVariants.{Sum, Difference, Product, Quotient}
use Rattle.risch_expression.specs.declared.program.Step.{Step}
use Rattle.risch_expression.specs.declared.program.Step.TheVariants.{Negated, Joined, Raised}

abbrev Stack : Type 0
Stack = List (List Element)

-- what is run after a value is on the stack
abbrev onto : Stack → List Step → List Element → Valued Stack
onto stack more p = run more (p ∷ stack)

-- the rule's value put on the stack, and then the further steps
then-put : (rule : Valued (List Element)) (stack : Stack) (more : List Step) →
    and_next (map_value (put stack) rule) (run more) ≡ and_next rule (onto stack more)
then-put (Ok p) stack more = refl
then-put (Err fault) stack more = refl

then-negated : (rule : Valued (List Element)) (stack : Stack) (more : List Step) →
    and_next rule (onto stack (Negated ∷ more)) ≡ and_next (map_value (poly.negatives element) rule) (onto stack more)
then-negated (Ok p) stack more = refl
then-negated (Err fault) stack more = refl

then-raised : (rule : Valued (List Element)) (n : ℕ) (stack : Stack) (more : List Step) →
    and_next rule (onto stack (Raised n ∷ more)) ≡ and_next (and_next rule (λ p. valued (power_of p n))) (onto stack more)
then-raised (Ok p) n stack more = then-put (valued (power_of p n)) stack more
then-raised (Err fault) n stack more = refl

then-right : (p : List Element) (b : Valued (List Element)) (o : Operation) (stack : Stack) (more : List Step) →
    and_next b (onto (p ∷ stack) (Joined o ∷ more)) ≡ and_next (and_next b (operate o p)) (onto stack more)
then-right p (Ok q) o stack more = then-put (operate o p q) stack more
then-right p (Err fault) o stack more = refl

then-joined : (a b : Valued (List Element)) (o : Operation) (stack : Stack) (more : List Step) →
    and_next a (λ p. and_next b (onto (p ∷ stack) (Joined o ∷ more))) ≡ and_next (and_next a (λ p. and_next b (operate o p))) (onto stack more)
then-joined (Ok p) b o stack more = then-right p b o stack more
then-joined (Err fault) b o stack more = refl

-- and_next in equal continuations
and_next-equal : (a : Valued (List Element)) (f g : List Element → Valued Stack) → ((p : List Element) → f p ≡ g p) → and_next a f ≡ and_next a g
and_next-equal (Ok p) f g e = e p
and_next-equal (Err fault) f g e = refl

regroup : (a b : List Step) (last : Step) (more : List Step) → ((a ++ b) ++ (last ∷ [])) ++ more ≡ a ++ (b ++ (last ∷ more))
regroup a b last more = append_assoc (a ++ b) (last ∷ []) more ∙ append_assoc a b (last ∷ more)

joined-steps : (a b : Tree) (o : Operation) (more : List Step) (stack : Stack) →
    ((more : List Step) (stack : Stack) → run (steps a ++ more) stack ≡ and_next (evaluate a) (onto stack more)) →
    ((more : List Step) (stack : Stack) → run (steps b ++ more) stack ≡ and_next (evaluate b) (onto stack more)) →
    run (((steps a ++ steps b) ++ (Joined o ∷ [])) ++ more) stack ≡ and_next (and_next (evaluate a) (λ p. and_next (evaluate b) (operate o p))) (onto stack more)
joined-steps a b o more stack left right =
    ap (λ s. run s stack) (regroup (steps a) (steps b) (Joined o) more)
    ∙ left (steps b ++ (Joined o ∷ more)) stack
    ∙ and_next-equal (evaluate a) _ _ (λ p. right (Joined o ∷ more) (p ∷ stack))
    ∙ then-joined (evaluate a) (evaluate b) o stack more

-- The steps of an expression put its value on the stack, or stop as it does.
pub run-steps : (e : Tree) (more : List Step) (stack : Stack) → run (steps e ++ more) stack ≡ and_next (evaluate e) (onto stack more)
run-steps (number n) more stack = refl
run-steps (variable i) more stack = refl
run-steps root more stack = refl
run-steps (negated a) more stack =
    ap (λ s. run s stack) (append_assoc (steps a) (Negated ∷ []) more) ∙ run-steps a (Negated ∷ more) stack ∙ then-negated (evaluate a) stack more
run-steps (sum a b) more stack = joined-steps a b Sum more stack (run-steps a) (run-steps b)
run-steps (difference a b) more stack = joined-steps a b Difference more stack (run-steps a) (run-steps b)
run-steps (product a b) more stack = joined-steps a b Product more stack (run-steps a) (run-steps b)
run-steps (quotient left a b) more stack = joined-steps a b (Quotient left) more stack (run-steps a) (run-steps b)
run-steps (power a n) more stack =
    ap (λ s. run s stack) (append_assoc (steps a) (Raised n ∷ []) more) ∙ run-steps a (Raised n ∷ more) stack ∙ then-raised (evaluate a) n stack more

-- the value of the rule, taken from the stack
top-alone : (rule : Valued (List Element)) → map_value top (and_next rule (onto [] [])) ≡ rule
top-alone (Ok p) = refl
top-alone (Err fault) = refl

-- The steps of an expression give its value.
pub result_of-steps : (e : Tree) → result_of (steps e) ≡ evaluate e
unfolding result_of
result_of-steps e =
    ap (map_value top) (ap (λ s. run s []) (sym (append-nil (steps e))) ∙ run-steps e [] []) ∙ top-alone (evaluate e)
