use Rattle.std.proofs.Common.{◌≡◌, arith, map}
use Rattle.std.proofs.lemmas.Grind.{common_steps}
use Rattle.risch_level.specs.declared.over.Over.TheVariants.{Below}
use Rattle.risch_level.proofs.LiftedPolynomials.{IsPolynomial-lifted}
use Rattle.risch_level.proofs.tower.lifted.Goals as goal

pub kept-requires : goal.kept-requires
kept-requires g c =
    let items : c.push_lifted.new.to.items ≡ map Below c.args.from.now = grind (arith, common_steps) in
    rw items (IsPolynomial-lifted g.E.Arith.ops c.args.from.now c.kept_weight-weight.result c.kept_weight-weight.ensures)
