use Rattle.std.proofs.Common.{◌≡◌, ◌++◌, take, drop, map}
use Rattle.risch_mean.specs.Tower.{derive_in}
use Rattle.risch_element_theory.specs.WholeTower.{meaning}
use Rattle.risch_tower.specs.Tower.{derivative}
use Rattle.risch_tower.specs.TowerMeaning.{monomials}
use Rattle.risch_rootsum.specs.Derivative.{derivatives_onto}
use Rattle.risch_rootsum.proofs.derivative.push_derivatives.Given as goal

abbrev pub invariant-loop-item : goal.invariant-loop-item
invariant-loop-item l = record {
  rule : derivatives_onto (derivative l.tower) l.fn.to.items l.from ≡ derivatives_onto (derivative l.tower) l.to.items (drop l.item-index l.from);
  means : map meaning l.to.items ≡ map meaning l.fn.to.items ++ map (derive_in (monomials l.tower)) (map meaning (take l.item-index l.from));
}
