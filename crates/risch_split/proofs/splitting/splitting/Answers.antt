use Rattle.risch_split.proofs.SpecialFactors.{special-special, parts-split}
use Rattle.risch_split.proofs.splitting.splitting.Goals as goal

pub new_constant-requires-clause-special : goal.new_constant-requires-clause-special
new_constant-requires-clause-special c = special-special c.args.tower.now c.args.level c.args.poly.now c.in_ok-split.split c.in_ok-split.ensures.meaning

pub returns-in-None-clause-meaning : goal.returns-in-None-clause-meaning
returns-in-None-clause-meaning c = parts-split c.args.tower.now c.args.level c.args.poly.now c.in_ok-split.split c.in_ok-split.ensures.meaning (rw c.in-None.is at c.in_ok-constant.ensures.meaning)
