-- Answers: a part, logarithms C·log U, and sums over the roots z of R of z·log S(z). Their derivatives, and what an integral is.
use Rattle.std.specs.Prelude.{◌≡◌, ◌≤◌, List, [], ◌∷◌, length, map}
use Rattle.risch_mean.specs.Element.{Element, zero, ◌+ₑ◌, ◌*ₑ◌, ◌/ₑ◌, level, AllInField}
use Rattle.risch_mean.specs.Tower.{Tower, derive_in, InTower}
use Rattle.risch_mean.specs.Constants.{IsRational, AllRational}
use Rattle.risch_mean.specs.ElementPolynomials.{derivative_of_modulus, times_modulo, z_times_modulo, trace_modulo, IsInverseModulo, IsInvertibleModulo}

-- factor·log argument
pub record Logarithm : Type 0 where
  pub factor : Element
  pub argument : Element

-- the sum over the roots z of R of z·log S(z): modulus is R, monic, given by its coefficients below the leading one; inner is S
pub record RootSum : Type 0 where
  pub modulus : List Element
  pub inner : List Element

-- the part, and the sums of the logs and of the sums
pub record Answer : Type 0 where
  pub part : Element
  pub logs : List Logarithm
  pub sums : List RootSum

-- C is rational and U is an element of the tower other than 0; the derivative is C·DU/U
pub record LogDerivative (tower : Tower) (l : Logarithm) (f : Element) : Type 0 where
  pub rational : IsRational l.factor
  pub in_tower : InTower tower l.argument
  pub argument-ne-zero : ¬ (l.argument ≡ zero)
  pub is : f ≡ l.factor *ₑ (derive_in tower l.argument /ₑ l.argument)

-- R has degree at least 2 and rational coefficients, and R' is invertible modulo R; S is a polynomial over the tower, of degree below that of R and invertible modulo R, with inverse T.
-- The derivative is the trace of z·DS·T modulo R, where D acts on the coefficients of S
pub record SumDerivative (tower : Tower) (s : RootSum) (f : Element) : Type 0 where
  pub degree : 2 ≤ length s.modulus
  pub rational : AllRational s.modulus
  pub separable : IsInvertibleModulo s.modulus (derivative_of_modulus s.modulus)
  pub in_tower : AllInField (level (length tower)) s.inner
  pub inner_degree : length s.inner ≤ length s.modulus
  pub inverse : List Element
  pub is_inverse : IsInverseModulo s.modulus s.inner inverse
  pub is : f ≡ trace_modulo s.modulus (z_times_modulo s.modulus (times_modulo s.modulus (map (derive_in tower) s.inner) inverse))

-- f is the sum of the derivatives of the items, each of which has the derivative that Has says
abbrev pub SumOf : {X : Type 0} → (X → Element → Type 0) → List X → Element → Type 0
SumOf Has [] f = f ≡ zero
SumOf Has (x ∷ xs) f = (head : Element) × (tail : Element) × Has x head × SumOf Has xs tail × (f ≡ head +ₑ tail)

-- the answer has the derivative f: that of its part, plus those of its logarithms, plus those of its sums. An answer that breaks a condition has none
pub record HasDerivative (tower : Tower) (answer : Answer) (f : Element) : Type 0 where
  pub part_in_tower : InTower tower answer.part
  pub logs : Element
  pub logs_are : SumOf (LogDerivative tower) answer.logs logs
  pub sums : Element
  pub sums_are : SumOf (SumDerivative tower) answer.sums sums
  pub is : f ≡ derive_in tower answer.part +ₑ (logs +ₑ sums)

-- the answer is an integral of f
abbrev pub IsIntegral : Tower → Answer → Element → Type 0
IsIntegral tower answer f = HasDerivative tower answer f
