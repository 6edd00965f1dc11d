-- What the logarithms of the residues of an element h of a level are: at a logarithm and at x their derivatives add up to h, at an exponential with Dt = η·t to h + η·p_1, where p_1 is the sum of the residues.
use Rattle.std.specs.Prelude.{ℕ, ◌+◌, List, All}
use Rattle.risch_mean.specs.Element as mean
use Rattle.risch_mean.specs.Element.{◌+ₑ◌, ◌*ₑ◌}
use Rattle.risch_level.specs.Levels.{Element}
use Rattle.risch_derivation.specs.declared.rate.Kind.{Kind}
use Rattle.risch_derivation.specs.declared.rate.Kind.TheVariants.{Primitive, Exponential}
use Rattle.risch_element_theory.specs.WholeTower.{meaning}
use Rattle.risch_tower.specs.declared.level.Level.{Level}
use Rattle.risch_tower.specs.Tower.{rate_at}
use Rattle.risch_tower.specs.TowerMeaning.{monomials}
use Rattle.risch_rootsum.specs.DerivativeMeaning.{IsLogPart}
use Rattle.risch_rootsum.specs.declared.integral.LogPart.{LogPart}
use Rattle.risch_logarithm_theory.specs.LogarithmElements.{HaveDerivatives}

-- what is added to h: η·p at an exponential
abbrev pub surplus : Kind → mean.Element → mean.Element → mean.Element
surplus Primitive η p = mean.zero
surplus Exponential η p = η *ₑ p

-- the derivatives of the logarithms add up to h and the surplus with p_1, and each is one over the level
pub record AreResidueLogarithms (tower : List Level) (level : ℕ) (h p : Element) (logs : List LogPart) : Type 0 where
  pub derivatives : HaveDerivatives (monomials tower) logs (meaning h +ₑ surplus (rate_at tower level).kind (meaning (rate_at tower level).eta) (meaning p))
  pub parts : All (IsLogPart (level + 1)) logs
