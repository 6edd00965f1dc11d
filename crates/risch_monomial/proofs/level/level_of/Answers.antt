use Rattle.std.proofs.Common.{arith}
use Rattle.risch_element_theory.proofs.ElementDerivation.{element-lies}
use Rattle.risch_monomial.proofs.level.level_of.Goals as goal

pub returns : goal.returns
returns c = record {
  low = let small = c.height-height.ensures.small in let there = c.requires in omega arith;
  there = c.requires;
  is_tower = c.height-height.ensures.is_tower;
  eta_lies = rw (← c.eta.ensures.value) (element-lies c.args.level c.eta.result.now c.nest-nest.ensures.normal c.eta.ensures.within);
  kind_is = rw (← c.eta.ensures.value) c.eta.ensures.means;
}
