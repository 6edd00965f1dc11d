-- An element that has Liouville's form in a tower lies in the tower.
use Rattle.std.specs.Prelude.{List, [], ◌∷◌, length}
use Rattle.std.proofs.Common.{sym, subst}
use Rattle.risch_mean.specs.Element.{Element, level}
use Rattle.risch_mean.specs.Tower.{Tower, IsTower, InTower}
use Rattle.risch_mean.specs.Answer.{Logarithm, LogDerivative, SumOf}
use Rattle.risch_mean.specs.Liouville.{HasLiouvilleForm}
use Rattle.risch_mean.proofs.FieldClosure.{InField-zero, InField-add, InField-mul, InField-over}
use Rattle.risch_mean.proofs.Levels.{InField-derive_in}
use Rattle.risch_mean.proofs.ConstantLaws.{rational_in}

module _ (tower : Tower) (h : IsTower tower) where
  log_derivative_in_tower : (l : Logarithm) (f : Element) → LogDerivative tower l f → InTower tower f
  log_derivative_in_tower l f d =
      subst (InTower tower) (sym d.is)
      (InField-mul (level (length tower)) _ _ (rational_in (level (length tower)) l.factor d.rational)
      (InField-over (level (length tower)) _ _ (InField-derive_in tower (level (length tower)) l.argument h d.in_tower) d.in_tower))

  log_derivatives_in_tower : (ls : List Logarithm) (f : Element) → SumOf (LogDerivative tower) ls f → InTower tower f
  log_derivatives_in_tower [] f d = subst (InTower tower) (sym d) (InField-zero (level (length tower)))
  log_derivatives_in_tower (l ∷ ls) f d =
      subst (InTower tower) (sym d.4) (InField-add (level (length tower)) d.0 d.1 (log_derivative_in_tower l d.0 d.2) (log_derivatives_in_tower ls d.1 d.3))

  pub liouville_form_in_tower : (f : Element) → HasLiouvilleForm tower f → InTower tower f
  liouville_form_in_tower f form =
      subst (InTower tower) (sym form.is)
      (InField-add (level (length tower)) _ _ (InField-derive_in tower (level (length tower)) form.part h form.part_in_tower) (log_derivatives_in_tower form.logs form.derivative form.logs_are))
