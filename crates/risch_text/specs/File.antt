-- Problem files: the trees of their lines, or the first fault of syntax.
use Rattle.std.specs.Prelude.{ℕ, zero, suc, ◌+◌, Bool, true, false, Option, None, Some, List, [], ◌∷◌, ◌++◌, length, codes, Ok, Err}
use Rattle.std.specs.Option.{option_map_or}
use Rattle.risch_expression.specs.Results.{and_next}
use Rattle.risch_expression.specs.Tree.{Tree}
use Rattle.risch_expression.specs.Grammar.{Read}
use Rattle.risch_expression.specs.declared.names.Names.{Names}
use Rattle.risch_text.specs.Lines.{Front, unexpected_at, from_line, behind_word, symbol, Reached, reached, LineRule, to_line_end, sum_of, expression_line, finished}

-- t = log(a) or t = exp(a), where so many bytes were left at the first token of the line
pub record TowerLine : Type 0 where
  pub exponential : Bool
  pub argument : Tree
  pub left : ℕ

pub record ProblemTree : Type 0 where
  pub tower : List TowerLine
  pub integrand : Tree

-- x and so many monomials
abbrev pub monomials : ℕ → Names
monomials n = record { monomials = n; with_z = false }

-- ---- tower lines
-- the name of the monomial above so many others, t1 above none
abbrev pub monomial_name : ℕ → List ℕ
monomial_name n = 116 ∷ (49 + n) ∷ []

-- whether `exp` stands there, and not `log`
unfoldable pub is_exponential : LineRule Bool
is_exponential front =
    option_map_or (λ behind. Ok (reached false behind)) (behind_word (codes "log") front)
    (option_map_or (λ behind. Ok (reached true behind)) (behind_word (codes "exp") front) (Err (unexpected_at front)))

-- what stands behind the name of the monomial above so many others: `=`, `log` or `exp`, and an argument in parentheses
unfoldable pub tower_line : ℕ → ℕ → LineRule TowerLine
tower_line n left front =
    and_next (symbol 61 front) (λ definition.
    and_next (is_exponential definition) (λ kind.
    and_next (symbol 40 kind.front) (λ inside.
    and_next (sum_of (monomials n) inside) (λ argument.
    and_next (symbol 41 argument.front) (λ behind.
    to_line_end (record { exponential = kind.value; argument = argument.value; left = left }) behind)))))

-- the lines that were read, and those that follow, so many at most
abbrev pub tower_lines_from : (List TowerLine → LineRule (List TowerLine)) → List TowerLine → Front → Option Front → Read (Reached (List TowerLine))
tower_lines_from more lines front None = Ok (reached lines front)
tower_lines_from more lines front (Some behind) = and_next (tower_line (length lines) (length front.rest) behind) (λ l. more (lines ++ l.value ∷ []) l.front)

abbrev pub tower_lines : ℕ → List TowerLine → LineRule (List TowerLine)
tower_lines zero lines front = Ok (reached lines front)
tower_lines (suc n) lines front = tower_lines_from (tower_lines n) lines front (behind_word (monomial_name (length lines)) front)

-- ---- files
-- at most 9 tower lines, and the line `integrate E`
unfoldable pub problem_lines : LineRule ProblemTree
problem_lines front =
    and_next (tower_lines 9 [] front) (λ tower.
    and_next (expression_line (codes "integrate") (monomials (length tower.value)) tower.front) (λ integrand.
    Ok (reached (record { tower = tower.value; integrand = integrand.value }) integrand.front)))

-- a file that holds a problem and nothing more
unfoldable pub whole_problem : List ℕ → Read ProblemTree
whole_problem bytes = and_next (problem_lines (from_line 1 bytes)) finished
