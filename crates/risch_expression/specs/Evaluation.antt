-- The value of an expression: the values that are formed, in their order, or the fault of the first that cannot be formed. A value is a polynomial in z over the elements of the tower, the list of its
-- coefficients from exponent 0; an element is a constant.
use Rattle.std.specs.Prelude.{◌≡◌, ℕ, zero, suc, nat_le, if◌then◌else◌, List, [], ◌∷◌, length, slice_get, Option, None, Some, unwrap_or, ⊤, Result, Ok, Err}
use Rattle.risch_frac.specs.Fraction.{Fraction, whole}
use Rattle.risch_field.specs.Checked.{Checked, and_then, map_ok}
use Rattle.risch_field.specs.declared.Fail.{Fail}
use Rattle.risch_field.specs.declared.Fail.TheVariants as fail
use Rattle.risch_polynomial.specs.Poly as poly
use Rattle.risch_level.specs.Levels.{Element, element}
use Rattle.risch_level.specs.Accessors as part
use Rattle.risch_expression.specs.Results.{and_next, map_value}
use Rattle.risch_expression.specs.Tree.{Tree, number, variable, root, negated, sum, difference, product, quotient, power}
use Rattle.risch_expression.specs.declared.fault.ValueFault.{ValueFault}
use Rattle.risch_expression.specs.declared.fault.ValueFault.TheVariants.{DivisionByZero, Shape, Overflow, Size, Memory}
use Rattle.risch_expression.specs.declared.program.Operation.{Operation}
use Rattle.risch_expression.specs.declared.program.Operation.TheVariants.{Sum, Difference, Product, Quotient}
use Rattle.risch_expression.specs.declared.program.Step.{Step}
use Rattle.risch_expression.specs.declared.program.Step.TheVariants.{Number, Variable, Root, Negated, Joined, Raised}

-- a value, or the fault of the first that cannot be formed
abbrev pub Valued : Type 0 → Type 0
Valued A = Result A ValueFault

-- a stop as a fault
abbrev pub fault_of : Fail → ValueFault
fault_of (fail.Overflow op) = Overflow op
fault_of fail.Size = Size
fault_of fail.Memory = Memory

-- the value of a rule, or its stop
abbrev pub valued : {A : Type 0} → Checked A → Valued A
valued (Ok a) = Ok a
valued (Err stop) = Err (fault_of stop)

-- e as a polynomial in z
abbrev pub constant : Element → List Element
constant e = if element.is_zero e then [] else e ∷ []

-- the coefficient at exponent 0, and 0 where there is none
abbrev pub constant_term : List Element → Element
constant_term p = unwrap_or (poly.nonzero element (slice_get p 0)) element.zero

-- ---- numbers and names
unfoldable pub number_value : Fraction → List Element
number_value c = constant (part.number 5 c)

-- a variable of the tower; one that the tower has not is 0
unfoldable pub variable_value : ℕ → List Element
variable_value i = constant (part.variable 5 i)

-- z
abbrev pub root_value : List Element
root_value = element.zero ∷ element.one ∷ []

-- ---- operations
-- p/c for an element c: the quotient of two elements, or p scaled by 1/c
abbrev pub by_inverse : List Element → Element → Checked (List Element)
by_inverse p c = and_then (element.quotient element.one c) (λ u. poly.scaled element u p)

unfoldable pub divided : List Element → Element → Checked (List Element)
divided p c = if nat_le (length p) 1 then map_ok constant (element.quotient (constant_term p) c) else by_inverse p c

-- p/q for the constant term of q, at a sign `/` where so many bytes are left
abbrev pub divided_by : ℕ → List Element → Option Element → Valued (List Element)
divided_by left p None = Err (DivisionByZero left)
divided_by left p (Some c) = valued (divided p c)

-- p/q, where q is an element other than 0
unfoldable pub ratio : ℕ → List Element → List Element → Valued (List Element)
ratio left p q = if nat_le (length q) 1 then divided_by left p (poly.nonzero element (slice_get q 0)) else Err Shape

-- the value of an operation
unfoldable pub operate : Operation → List Element → List Element → Valued (List Element)
operate Sum p q = valued (poly.sum element p q)
operate Difference p q = valued (poly.sum element p (poly.negatives element q))
operate Product p q = valued (poly.product element p q)
operate (Quotient left) p q = ratio left p q

-- what is formed, multiplied by p on the right n times
abbrev pub multiplied : List Element → List Element → ℕ → Checked (List Element)
multiplied formed p zero = Ok formed
multiplied formed p (suc n) = and_then (poly.product element formed p) (λ q. multiplied q p n)

-- p^0 is 1; p^n begins with p and multiplies by p on the right n - 1 times
unfoldable pub power_of : List Element → ℕ → Checked (List Element)
power_of p zero = Ok (constant element.one)
power_of p (suc n) = multiplied p p n

-- ---- operands from the left, before the operation
abbrev pub evaluate : Tree → Valued (List Element)
evaluate (number n) = Ok (number_value (whole n))
evaluate (variable i) = Ok (variable_value i)
evaluate root = Ok root_value
evaluate (negated a) = map_value (poly.negatives element) (evaluate a)
evaluate (sum a b) = and_next (evaluate a) (λ p. and_next (evaluate b) (operate Sum p))
evaluate (difference a b) = and_next (evaluate a) (λ p. and_next (evaluate b) (operate Difference p))
evaluate (product a b) = and_next (evaluate a) (λ p. and_next (evaluate b) (operate Product p))
evaluate (quotient left a b) = and_next (evaluate a) (λ p. and_next (evaluate b) (operate (Quotient left) p))
evaluate (power a n) = and_next (evaluate a) (λ p. valued (power_of p n))

-- the element that is the value of an expression in which z does not occur
abbrev pub element_value : Tree → Valued Element
element_value a = map_value constant_term (evaluate a)

-- ---- the same by the steps of an expression, over a stack of values
abbrev pub put : List (List Element) → List Element → List (List Element)
put stack p = p ∷ stack

-- a step takes its operands from the stack and puts its value there. Where they are missing, which no expression's steps meet, the stack is empty afterwards
abbrev pub apply : Step → List (List Element) → Valued (List (List Element))
apply (Number c) stack = Ok (number_value c ∷ stack)
apply (Variable i) stack = Ok (variable_value i ∷ stack)
apply Root stack = Ok (root_value ∷ stack)
apply Negated [] = Ok []
apply Negated (p ∷ stack) = Ok (poly.negatives element p ∷ stack)
apply (Joined operation) [] = Ok []
apply (Joined operation) (q ∷ []) = Ok []
apply (Joined operation) (q ∷ (p ∷ stack)) = map_value (put stack) (operate operation p q)
apply (Raised n) [] = Ok []
apply (Raised n) (p ∷ stack) = map_value (put stack) (valued (power_of p n))

abbrev pub run : List Step → List (List Element) → Valued (List (List Element))
run [] stack = Ok stack
run (step ∷ more) stack = and_next (apply step stack) (run more)

-- the value on the top, 0 where there is none
abbrev pub top : List (List Element) → List Element
top [] = []
top (p ∷ stack) = p

unfoldable pub result_of : List Step → Valued (List Element)
result_of steps = map_value top (run steps [])

-- ---- what the code answers
-- a fault that is not want of memory is the rule's
abbrev pub IsValueFaultOf : {A : Type 0} → ValueFault → Valued A → Type 0
IsValueFaultOf (DivisionByZero left) rule = rule ≡ Err (DivisionByZero left)
IsValueFaultOf Shape rule = rule ≡ Err Shape
IsValueFaultOf (Overflow op) rule = rule ≡ Err (Overflow op)
IsValueFaultOf Size rule = rule ≡ Err Size
IsValueFaultOf Memory rule = Unit {0}

-- the answer is the rule's, or want of memory
abbrev pub Answers : {A : Type 0} → Result A ValueFault → Valued A → Type 0
Answers (Ok a) rule = rule ≡ Ok a
Answers (Err fault) rule = IsValueFaultOf fault rule

-- the same of a call that writes its value: on Ok, `written` is what stands there
abbrev pub AnswersWith : {A : Type 0} → Result ⊤ ValueFault → A → Valued A → Type 0
AnswersWith (Ok u) written rule = rule ≡ Ok written
AnswersWith (Err fault) written rule = IsValueFaultOf fault rule
