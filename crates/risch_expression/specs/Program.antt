-- An expression as a list of steps, operands before their operation: each step takes its operands from a stack and puts its value there.
use Rattle.std.specs.Prelude.{List, [], ◌∷◌, ◌++◌}
use Rattle.risch_frac.specs.Fraction.{whole}
use Rattle.risch_expression.specs.Tree.{Tree, number, variable, root, negated, sum, difference, product, quotient, power}
use Rattle.risch_expression.specs.declared.program.Operation.TheVariants.{Sum, Difference, Product, Quotient}
use Rattle.risch_expression.specs.declared.program.Step.{Step}
use Rattle.risch_expression.specs.declared.program.Step.TheVariants.{Number, Variable, Root, Negated, Joined, Raised}

-- the steps of an expression
abbrev pub steps : Tree → List Step
steps (number n) = Number (whole n) ∷ []
steps (variable i) = Variable i ∷ []
steps root = Root ∷ []
steps (negated a) = steps a ++ Negated ∷ []
steps (sum a b) = steps a ++ steps b ++ Joined Sum ∷ []
steps (difference a b) = steps a ++ steps b ++ Joined Difference ∷ []
steps (product a b) = steps a ++ steps b ++ Joined Product ∷ []
steps (quotient left a b) = steps a ++ steps b ++ Joined (Quotient left) ∷ []
steps (power a n) = steps a ++ Raised n ∷ []
