-- The trees of written expressions, with the places of their divisions.
use Rattle.std.specs.Prelude.{◌≡◌, ℕ, ◌<◌, ◌^◌, Bool, true}
use Rattle.risch_mean.specs.Written as written
use Rattle.risch_mean.specs.Written.{Expression}

pub data Tree : Type 0 where
  number : ℕ → Tree
  -- variable 0 is x, variable i is ti
  variable : ℕ → Tree
  -- the name z
  root : Tree
  negated : Tree → Tree
  sum : Tree → Tree → Tree
  difference : Tree → Tree → Tree
  product : Tree → Tree → Tree
  -- so many bytes are left at its `/`
  quotient : ℕ → Tree → Tree → Tree
  power : Tree → ℕ → Tree

-- The expression without the places. z is the variable 10, beyond all levels.
abbrev pub expression_of : Tree → Expression
expression_of (number n) = written.number n
expression_of (variable i) = written.name i
expression_of root = written.name 10
expression_of (negated a) = written.negated (expression_of a)
expression_of (sum a b) = written.sum (expression_of a) (expression_of b)
expression_of (difference a b) = written.difference (expression_of a) (expression_of b)
expression_of (product a b) = written.product (expression_of a) (expression_of b)
expression_of (quotient left a b) = written.quotient (expression_of a) (expression_of b)
expression_of (power a n) = written.power (expression_of a) n

-- Each number is at most 2^127 - 1, and only the first n variables occur, and z only where it may.
abbrev pub IsOver : ℕ → Bool → Tree → Type 0
IsOver n with_z (number k) = k < 2 ^ 127
IsOver n with_z (variable i) = i < n
IsOver n with_z root = with_z ≡ true
IsOver n with_z (negated a) = IsOver n with_z a
IsOver n with_z (sum a b) = IsOver n with_z a × IsOver n with_z b
IsOver n with_z (difference a b) = IsOver n with_z a × IsOver n with_z b
IsOver n with_z (product a b) = IsOver n with_z a × IsOver n with_z b
IsOver n with_z (quotient left a b) = IsOver n with_z a × IsOver n with_z b
IsOver n with_z (power a k) = IsOver n with_z a
