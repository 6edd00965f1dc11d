use Rattle.risch_mean.specs.Tower.{derivatives}
use Rattle.risch_mean.proofs.DerivationLaws.{derive-add, derive-mul}
use Rattle.risch_mean.proofs.Levels.{derivative-exp, derivative-log, derivative-x}
use Rattle.risch_mean.proofs.LevelKinds.{kind_is}
use Rattle.risch_mean.proofs.derivation_of_a_tower.Goals as goal

pub returns-clause-sum : goal.returns-clause-sum
returns-clause-sum c = λ tower f g. derive-add (derivatives tower) f g

pub returns-clause-product : goal.returns-clause-product
returns-clause-product c = λ tower f g. derive-mul (derivatives tower) f g

pub returns-clause-x : goal.returns-clause-x
returns-clause-x c = derivative-x

pub returns-clause-logarithm : goal.returns-clause-logarithm
returns-clause-logarithm c = derivative-log

pub returns-clause-exponential : goal.returns-clause-exponential
returns-clause-exponential c = derivative-exp

pub returns-clause-kinds : goal.returns-clause-kinds
returns-clause-kinds c = kind_is
