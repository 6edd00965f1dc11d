-- Towers of logarithms and exponentials over the rational functions in x, and their derivation.
-- A tower is a list of monomials. `IsTower` says that each argument lies in the field below; the definitions that take a tower do not repeat it, so whoever makes a tower has to keep it.
use Rattle.std.specs.Prelude.{◌≡◌, ℕ, zero as nat_zero, suc, List, [], ◌∷◌, ◌++◌, length}
use Rattle.risch_mean.specs.Element.{Element, zero, one, ◌*ₑ◌, ◌/ₑ◌, variable, level, InField}
use Rattle.risch_mean.specs.Derivation.{derive}

-- t = log a or t = exp a
pub data Monomial : Type 0 where
  log : Element → Monomial
  exp : Element → Monomial

-- a
abbrev pub argument : Monomial → Element
argument (log a) = a
argument (exp a) = a

-- the monomials t1, t2, .. in order
abbrev pub Tower : Type 0
Tower = List Monomial

-- ---- the derivation
-- the derivative of the next variable t, where vs are those of the variables before it: Dt = Da/a for t = log a, Dt = Da·t for t = exp a
abbrev pub next_derivative : List Element → Monomial → Element
next_derivative vs (log a) = derive vs a /ₑ a
next_derivative vs (exp a) = derive vs a *ₑ variable (length vs)

-- those of the variables of ms after vs
abbrev pub derivatives_from : List Element → Tower → List Element
derivatives_from vs [] = vs
derivatives_from vs (m ∷ ms) = derivatives_from (vs ++ (next_derivative vs m ∷ [])) ms

-- the derivatives of x, t1, t2, ..: Dx = 1
abbrev pub derivatives : Tower → List Element
derivatives tower = derivatives_from (one ∷ []) tower

-- Df in the tower
abbrev pub derive_in : Tower → Element → Element
derive_in tower f = derive (derivatives tower) f

-- ---- which lists are towers, and their elements
-- there is no logarithm of 0
abbrev pub ArgumentAllowed : Monomial → Type 0
ArgumentAllowed (log a) = ¬ (a ≡ zero)
ArgumentAllowed (exp a) = Unit {0}

-- the same where the first n variables stand below the first monomial
abbrev pub ArgumentsBelow : ℕ → Tower → Type 0
ArgumentsBelow n [] = Unit {0}
ArgumentsBelow n (m ∷ ms) = InField n (argument m) × ArgumentsBelow (suc n) ms × ArgumentAllowed m

-- the argument of each monomial lies in the field below it
abbrev pub IsTower : Tower → Type 0
IsTower tower = ArgumentsBelow (level 0) tower

-- f is an element of the tower: only x and the variables of the tower occur in it
abbrev pub InTower : Tower → Element → Type 0
InTower tower f = InField (level (length tower)) f

-- ---- the kinds of its levels
-- the variable t of a level is primitive, Dt = η, or an exponential, Dt = η·t; the constructors hold η
pub data Kind : Type 0 where
  primitive : Element → Kind
  exponential : Element → Kind

-- η is Da/a for log a, and Da for exp a
abbrev pub kind_by : Tower → Monomial → Kind
kind_by tower (log a) = primitive (derive_in tower a /ₑ a)
kind_by tower (exp a) = exponential (derive_in tower a)

-- the kind of the monomial at a place; the value past the end is never used, as levels are at most the height
abbrev pub kind_at : Tower → Tower → ℕ → Kind
kind_at tower [] i = primitive zero
kind_at tower (m ∷ ms) nat_zero = kind_by tower m
kind_at tower (m ∷ ms) (suc i) = kind_at tower ms i

-- the kind of level i: x is primitive with Dx = 1
abbrev pub kind_of : Tower → ℕ → Kind
kind_of tower nat_zero = primitive one
kind_of tower (suc i) = kind_at tower tower i

-- Dt as a polynomial in t: η or η·t
abbrev pub derivative_of : Kind → List Element
derivative_of (primitive η) = η ∷ []
derivative_of (exponential η) = zero ∷ η ∷ []
