-- The derivative of a fraction of polynomials where variable i has the derivative vs[i], and all variables past the list are constants.
use Rattle.std.specs.Prelude.{ℕ, suc, List, [], ◌∷◌}
use Rattle.risch_mean.specs.Polynomial.{Polynomial, partial}
use Rattle.risch_mean.specs.Element.{Element, zero, ◌+ₑ◌, ◌-ₑ◌, ◌*ₑ◌, ◌/ₑ◌, polynomial}

-- the sum over the variables v from i on of ∂P/∂v · Dv
unfoldable pub derive_from : ℕ → List Element → Polynomial → Element
derive_from i [] p = zero
derive_from i (v ∷ vs) p = polynomial (partial i p) *ₑ v +ₑ derive_from (suc i) vs p

-- DP: the sum over the variables v of ∂P/∂v · Dv
unfoldable pub derive_polynomial : List Element → Polynomial → Element
derive_polynomial vs p = derive_from 0 vs p

-- D(N/M) = (DN·M - N·DM) / (M·M)
abbrev pub quotient_rule : List Element → Polynomial → Polynomial → Element
quotient_rule vs n m = (derive_polynomial vs n *ₑ polynomial m -ₑ polynomial n *ₑ derive_polynomial vs m) /ₑ (polynomial m *ₑ polynomial m)
