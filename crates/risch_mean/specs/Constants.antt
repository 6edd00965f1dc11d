-- Rational elements, and sound towers: those in which each constant is rational.
use Rattle.std.specs.Prelude.{◌≡◌, ℕ, List, [], ◌∷◌, length, ℤ, pos}
use Rattle.risch_mean.specs.Element.{Element, zero, ◌/ₑ◌, integer, level, InField}
use Rattle.risch_mean.specs.Tower.{Tower, derive_in}

-- f is a rational number: f = num/den
pub record IsRational (f : Element) : Type 0 where
  pub num : ℤ
  pub den : ℤ
  pub den-ne-zero : ¬ (den ≡ pos 0)
  pub is : f ≡ integer num /ₑ integer den

-- each is rational
abbrev pub AllRational : List Element → Type 0
AllRational [] = Unit {0}
AllRational (c ∷ cs) = IsRational c × AllRational cs

-- the tower is sound to the field of the first n variables: each f in it with Df = 0 is rational
abbrev pub IsSoundTo : Tower → ℕ → Type 0
IsSoundTo tower n = (f : Element) → InField n f → derive_in tower f ≡ zero → IsRational f

-- sound to its height
abbrev pub IsSound : Tower → Type 0
IsSound tower = IsSoundTo tower (level (length tower))

-- f shows that the tower is not sound: it lies in the field of the first n variables, Df = 0, and it is not rational
pub record IsNewConstant (tower : Tower) (n : ℕ) (f : Element) : Type 0 where
  pub in_field : InField n f
  pub constant : derive_in tower f ≡ zero
  pub not_rational : ¬ IsRational f
