-- What the square-free parts of a polynomial are.
use Rattle.std.specs.Prelude.{◌≡◌, List, map, All}
use Rattle.risch_univariate.specs.SquareFreeParts.{product_of_powers, AreParts}
use Rattle.risch_mean.specs.ElementField.{elements}
use Rattle.risch_level.specs.Levels.{Element}
use Rattle.risch_element_theory.specs.WholeTower.{IsPolynomial, polynomial}

-- Each part is monic and square-free, they are pairwise coprime, and ⟦p⟧ = ⟦p_1⟧·⟦p_2⟧²·⟦p_3⟧³·..
pub record AreSquareFreeParts (p : List Element) (parts : List (List Element)) : Type 0 where
  pub kept : All IsPolynomial parts
  pub are_parts : AreParts elements (map polynomial parts)
  pub product : polynomial p ≡ product_of_powers elements 1 (map polynomial parts)
