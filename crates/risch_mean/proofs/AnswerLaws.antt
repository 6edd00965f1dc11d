-- An answer has at most one derivative.
use Rattle.std.specs.Prelude.{◌≡◌, List, [], ◌∷◌, map}
use Rattle.std.proofs.Common.{sym, ap, ap₂, ◌∙◌}
use Rattle.risch_mean.specs.Element.{Element, add}
use Rattle.risch_mean.specs.ElementField.{elements}
use Rattle.risch_mean.specs.Tower.{Tower, derive_in}
use Rattle.risch_mean.specs.Algebra.{trace, times_mod, times_z}
use Rattle.risch_mean.proofs.AlgebraLaws.{inverse_unique}
use Rattle.risch_mean.specs.Answer.{Answer, HasDerivative, LogDerivative, Logarithm, RootSum, SumDerivative, SumOf}

-- ---- an answer has at most one derivative
log_derivative_unique : (tower : Tower) (l : Logarithm) (f g : Element) → LogDerivative tower l f → LogDerivative tower l g → f ≡ g
log_derivative_unique tower l f g a b = a.is ∙ sym b.is

sum_derivative_unique : (tower : Tower) (s : RootSum) (f g : Element) → SumDerivative tower s f → SumDerivative tower s g → f ≡ g
sum_derivative_unique tower s f g a b =
    a.is ∙ ap (λ t. trace elements.ring s.modulus (times_z elements.ring s.modulus (times_mod elements.ring s.modulus (map (derive_in tower) s.inner) t)))
    (inverse_unique elements.ring s.modulus s.inner a.inverse b.inverse a.is_inverse b.is_inverse) ∙ sym b.is

sum_unique : {X : Type 0} (Has : X → Element → Type 0) → ((x : X) (f g : Element) → Has x f → Has x g → f ≡ g) → (xs : List X) (f g : Element) → SumOf Has xs f → SumOf Has xs g → f ≡ g
sum_unique Has u [] f g a b = a ∙ sym b
sum_unique Has u (x ∷ xs) f g a b = a.4 ∙ ap₂ add (u x a.0 b.0 a.2 b.2) (sum_unique Has u xs a.1 b.1 a.3 b.3) ∙ sym b.4

pub derivative_unique : (tower : Tower) (answer : Answer) (f g : Element) → HasDerivative tower answer f → HasDerivative tower answer g → f ≡ g
derivative_unique tower answer f g a b =
    a.is ∙ ap₂ (λ x y. add (derive_in tower answer.part) (add x y))
    (sum_unique (LogDerivative tower) (log_derivative_unique tower) answer.logs a.logs b.logs a.logs_are b.logs_are)
    (sum_unique (SumDerivative tower) (sum_derivative_unique tower) answer.sums a.sums b.sums a.sums_are b.sums_are)
    ∙ sym b.is
