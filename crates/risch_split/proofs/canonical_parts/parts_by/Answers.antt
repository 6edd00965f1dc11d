use Rattle.std.proofs.Common.{sym}
use Rattle.risch_univariate.proofs.Gcd as Gcd
use Rattle.risch_mean.specs.ElementField.{elements}
use Rattle.risch_element_theory.specs.WholeTower.{polynomial}
use Rattle.risch_monomial.proofs.MonicPolynomials.{monic-length, not_one-length}
use Rattle.risch_split.proofs.canonical_parts.parts_by.Goals as goal

pub without_special-requires-clause-some : goal.without_special-requires-clause-some
without_special-requires-clause-some c = monic-length c.args.split.now.normal c.requires.normal_monic

pub without_normal-requires-clause-some : goal.without_normal-requires-clause-some
without_normal-requires-clause-some c = monic-length c.args.split.now.special c.requires.special_monic

pub solve_mod-requires-clause-degree : goal.solve_mod-requires-clause-degree
solve_mod-requires-clause-degree c = not_one-length c.args.split.now.special c.inner-special_inner.ensures.normal c.requires.special_monic (sym c.if-is_one.ensures)

pub solve_mod-requires-clause-coprime : goal.solve_mod-requires-clause-coprime
solve_mod-requires-clause-coprime c = Gcd.coprime_sym elements (polynomial c.args.split.now.normal) (polynomial c.args.split.now.special) c.requires.coprime

pub parts_of-requires : goal.parts_of-requires
parts_of-requires c =
    let within = c.in_ok-solution.ensures.within c.args.level c.requires.special_within c.requires.normal_within c.requires.rest_within in
    record {
      level = c.requires.level;
      some_normal = monic-length c.args.split.now.normal c.requires.normal_monic;
      some_special = monic-length c.args.split.now.special c.requires.special_monic;
      whole_within = c.requires.whole_within;
      normal_within = c.requires.normal_within;
      special_within = c.requires.special_within;
      top_within = within.0;
      other_within = within.1;
    }
