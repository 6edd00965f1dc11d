-- The integral of a polynomial f in x: the round of the procedure at x, where f has no simple part. x is primitive with the derivative 1, so the equation that is asked for a coefficient c
-- is Dy = c - λ on the ground, whose first solution is λ = c, y = 0.
use Rattle.std.specs.Prelude.{◌≡◌, ℕ, zero, suc, ◌+◌, ◌-◌, nat_lt, if◌then◌else◌, List, [], length, Result, Ok, Err}
use Rattle.risch_frac.specs.Fraction.{Fraction, is_zero}
use Rattle.risch_field.specs.Checked.{Checked, and_then}
use Rattle.risch_field.specs.Ground.{ground}
use Rattle.risch_field.specs.declared.Fail.{Fail}
use Rattle.risch_field.specs.declared.Fail.TheVariants as fail
use Rattle.risch_polynomial.specs.Poly as poly
use Rattle.risch_elem.specs.declared.units.Stop.{Stop}
use Rattle.risch_elem.specs.declared.units.Stop.TheVariants.{Overflow, Size, Budget}
use Rattle.risch_rootsum.specs.declared.integral.Integral.{Integral}
use Rattle.risch_cert.specs.declared.answer.Place.{Place}
use Rattle.risch_cert.specs.declared.answer.Place.TheVariants.{Branch, Checking}
use Rattle.risch_cert.specs.declared.answer.Answer.{Answer}
use Rattle.risch_cert.specs.declared.answer.Answer.TheVariants.{Integral as Found, Stopped, Disagree}
use Rattle.risch_round.specs.Elements.{element_of}

-- a value, or the stop of a run
abbrev pub Limited : Type 0 → Type 0
Limited A = Result A Stop

-- the first value, and then the second from it
abbrev pub and_next : {A B : Type 0} → Limited A → (A → Limited B) → Limited B
and_next (Ok a) next = next a
and_next (Err stop) next = Err stop

-- the stop of a rule; no rule gives want of memory
abbrev pub stop_of : Fail → Stop
stop_of (fail.Overflow op) = Overflow op
stop_of fail.Size = Size
stop_of fail.Memory = Size

-- the value of a rule, or its stop
abbrev pub limited : {A : Type 0} → Checked A → Limited A
limited (Ok a) = Ok a
limited (Err stop) = Err (stop_of stop)

-- c/(e + 1)·x^(e + 1), whose derivative is c·x^e
unfoldable pub integral_of_term : Fraction → ℕ → Checked (List Fraction)
integral_of_term c e = and_then (ground.quotient c (ground.whole (e + 1))) (λ b. poly.monomial ground b (e + 1))

-- the piece with the integral of c·x^e
unfoldable pub with_term : Fraction → ℕ → List Fraction → Checked (List Fraction)
with_term c e piece = and_then (integral_of_term c e) (poly.sum ground piece)

-- The piece with the integrals of f's terms of the exponents below n, from the highest down; a coefficient 0 is passed over. Each other term costs two of the units that are left, one for the step and one
-- for the equation, before anything of it is formed.
abbrev pub with_terms : ℕ → List Fraction → ℕ → List Fraction → Limited (List Fraction)
with_terms units f zero piece = Ok piece
with_terms units f (suc e) piece =
    if is_zero (poly.coefficient ground f e) then with_terms units f e piece else
    if nat_lt units 2 then Err Budget else
    and_next (limited (with_term (poly.coefficient ground f e) e piece)) (with_terms (units - 2) f e)

-- the polynomial branch, with a budget
unfoldable pub branch : ℕ → List Fraction → Limited (List Fraction)
branch budget f = with_terms budget f (length f) []

-- the integral that is a polynomial in x
abbrev pub part_alone : List Fraction → Integral
part_alone part = record { part = element_of part; logs = [] }

-- a stop at a step
abbrev pub stopped_in : Place → Stop → Answer
stopped_in place stop = Stopped (record { stop = stop; place = place })

-- the answer where a value of the final check cannot be formed; for want of memory there is none
abbrev pub IsUnchecked : Fail → Answer → Type 0
IsUnchecked (fail.Overflow op) it = it ≡ stopped_in Checking (Overflow op)
IsUnchecked fail.Size it = it ≡ stopped_in Checking Size
IsUnchecked fail.Memory it = ⊥

-- the final check: the derivative of the part is the integrand
abbrev pub compared : List Fraction → List Fraction → List Fraction → Answer
compared f part derivative =
    if poly.same ground derivative f then Found (part_alone part) else Disagree (element_of derivative) (element_of f)

abbrev pub checked : List Fraction → List Fraction → Checked (List Fraction) → Answer
checked f part (Ok derivative) = compared f part derivative
checked f part (Err stop) = stopped_in Checking (stop_of stop)

-- the branch is the one of the level of x, number 0
abbrev pub gathered : List Fraction → Limited (List Fraction) → Answer
gathered f (Ok part) = checked f part (poly.partial ground part)
gathered f (Err stop) = stopped_in (Branch 0 0) stop

-- the answer to the integrand f
unfoldable pub answer : ℕ → List Fraction → Answer
answer budget f = gathered f (branch budget f)
