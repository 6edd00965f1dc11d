-- Chains of exact reductions, and their ends: residues that are not constant, or an equation that no element solves.
use Rattle.std.specs.Prelude.{◌≡◌, ℕ, suc, ◌≤◌, List, [], ◌∷◌, length, ℤ, pos, ◌+ℤ◌}
use Rattle.risch_mean.specs.Element.{Element, zero, ◌+ₑ◌, ◌*ₑ◌, ◌/ₑ◌, variable, integer, level, field_below, InField, AllInField}
use Rattle.risch_mean.specs.ElementField.{◌^ₑ◌}
use Rattle.risch_mean.specs.Tower.{Tower, Kind, primitive, exponential, kind_of}
use Rattle.risch_mean.specs.ElementPolynomials.{at_variable, coefficient, monic_polynomial}
use Rattle.risch_mean.specs.Answer.{Answer, HasDerivative}
use Rattle.risch_mean.specs.Equation.{Equation, NoElementSolves}
use Rattle.risch_mean.specs.Residues.{SimplePart, NotConstant}

-- rest = U/t^shift + a/d with the variable t of level n: U is the polynomial with the coefficients us over the field below
pub record CanonicalParts (tower : Tower) (n : ℕ) (rest : Element) (us : List Element) (shift : ℕ) (a d : List Element) : Type 0 where
  pub below_us : AllInField (field_below n) us
  pub is : rest ≡ at_variable n us /ₑ variable n ^ₑ shift +ₑ at_variable n a /ₑ at_variable n (monic_polynomial d)

-- negative powers of t occur at an exponential alone
abbrev pub ShiftAllowed : Kind → ℕ → Type 0
ShiftAllowed (primitive η) shift = shift ≡ 0
ShiftAllowed (exponential η) shift = Unit {0}

-- a/d is 0/1, or simple
pub data NormalPart (tower : Tower) (n : ℕ) : List Element → List Element → Type 0 where
  no_part : NormalPart tower n [] []
  simple : {a d : List Element} → SimplePart tower n a d → NormalPart tower n a d

-- where a chain ends
pub data End : Type 0 where
  -- residues that are not constant, with their power and trace
  residue : ℕ → Element → End
  -- the equation of the coefficient at exponent N, where the variable is an exponential
  exponent : ℤ → Equation → End
  -- the equation of the coefficient at the degree N, where the variable is primitive
  degree : ℕ → Equation → End

-- the end is read off the parts: the residues of a/d are not constant, or the equation is the one that a coefficient of U/t^shift gives
pub data ReadOff (tower : Tower) (n : ℕ) (us : List Element) (shift : ℕ) (a d : List Element) : End → Type 0 where
  residue_read : {i : ℕ} {p : Element} → NotConstant tower n a d i p → ReadOff tower n us shift a d (residue i p)
  -- Dt = η·t, N ≠ 0, and g is the coefficient of U/t^shift at t^N, which stands at place N + shift of us: the equation is Dy + N·η·y = c·g
  exponent_read : {N : ℤ} {e : Equation} {η : Element} (place : ℕ) → kind_of tower n ≡ exponential η → ¬ (N ≡ pos 0) → N +ℤ pos shift ≡ pos place →
      e ≡ record { field = field_below n; coefficient = integer N *ₑ η; columns = coefficient place us ∷ [] } → ReadOff tower n us shift a d (exponent N e)
  -- Dt = η, N ≥ 1 is the degree of U, and g its leading coefficient: the equation is Dy = c_1·g + c_2·η
  degree_read : {N : ℕ} {e : Equation} {η : Element} → kind_of tower n ≡ primitive η → 1 ≤ N → length us ≡ suc N → ¬ (coefficient N us ≡ zero) →
      e ≡ record { field = field_below n; coefficient = zero; columns = coefficient N us ∷ η ∷ [] } → ReadOff tower n us shift a d (degree N e)

-- a partial answer, a rest in the field of a level, and an end
pub record Chain : Type 0 where
  pub partial : Answer
  pub rest : Element
  pub level : ℕ
  pub end : End

-- the chain reduces f exactly: f is the derivative of the partial answer plus the rest, and the end is read off the parts of the rest
pub record IsExact (tower : Tower) (f : Element) (chain : Chain) : Type 0 where
  pub derivative : Element
  pub has_derivative : HasDerivative tower chain.partial derivative
  pub is : f ≡ derivative +ₑ chain.rest
  pub is_level : chain.level ≤ length tower
  pub in_level : InField (level chain.level) chain.rest
  pub us : List Element
  pub shift : ℕ
  pub shift_allowed : ShiftAllowed (kind_of tower chain.level) shift
  pub a : List Element
  pub d : List Element
  pub parts : CanonicalParts tower chain.level chain.rest us shift a d
  pub normal : NormalPart tower chain.level a d
  pub read_off : ReadOff tower chain.level us shift a d chain.end

-- no element solves the equation that the end names, where it names one
abbrev pub Unsolved : Tower → End → Type 0
Unsolved tower (residue i p) = Unit {0}
Unsolved tower (exponent N e) = NoElementSolves tower e
Unsolved tower (degree N e) = NoElementSolves tower e

-- the chain is true: exact, and its equation unsolved
pub record IsTrueChain (tower : Tower) (f : Element) (chain : Chain) : Type 0 where
  pub exact : IsExact tower f chain
  pub unsolved : Unsolved tower chain.end
