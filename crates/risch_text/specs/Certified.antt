-- Problem files that are followed by a printed integral or refutation.
use Rattle.std.specs.Prelude.{ℕ, zero, suc, Bool, true, false, Option, None, Some, option_map, List, [], ◌∷◌, ◌++◌, length, codes, Ok, Err}
use Rattle.std.specs.Option.{option_map_or}
use Rattle.risch_frac.specs.Fraction.{Fraction, negative}
use Rattle.risch_expression.specs.Results.{and_next, map_value}
use Rattle.risch_expression.specs.Tree.{Tree}
use Rattle.risch_expression.specs.Grammar.{Read}
use Rattle.risch_expression.specs.declared.names.Names.{Names}
use Rattle.risch_text.specs.Lines.{Front, unexpected_at, from_line, behind_word, behind_byte, fixed, Reached, reached, LineRule, to_line_end, number_of, small_number_of, variable_of, sum_of, bare_line, expression_line, nothing}
use Rattle.risch_text.specs.File.{ProblemTree, monomials, problem_lines}
use Rattle.risch_text.specs.declared.programs.Factor.{Factor}

pub data LogLine : Type 0 where
  -- `log C of U`
  log_line : Factor → Tree → LogLine
  -- `sum R of S`, where so many bytes were left at the first byte of the line
  sum_line : Tree → Tree → ℕ → LogLine

-- `residue of V power N trace E`, where V is named by its number from 0, that of x
pub record EndTree : Type 0 where
  pub level : ℕ
  pub power : ℕ
  pub trace : Tree

-- the rest and the end of a refutation
pub record RefutationTree : Type 0 where
  pub rest : Tree
  pub end : EndTree

-- the expressions of an answer, which is an integral where it has no refutation, and the numbers of its lines
pub record AnswerTree : Type 0 where
  pub part : Tree
  pub logs : List LogLine
  pub refutation : Option RefutationTree
  pub lines : List ℕ

pub record CertifiedTree : Type 0 where
  pub problem : ProblemTree
  pub answer : AnswerTree

-- x, so many monomials, and z
abbrev pub with_z : ℕ → Names
with_z n = record { monomials = n; with_z = true }

-- ---- factors
-- an optional `-`, and a number
abbrev pub negated : Reached Fraction → Reached Fraction
negated n = reached (negative n.value) n.front

abbrev pub signed_by : Front → Option Front → Read (Reached Fraction)
signed_by front None = number_of front
signed_by front (Some behind) = map_value negated (number_of behind)

unfoldable pub signed_number : LineRule Fraction
signed_number front = signed_by front (behind_byte 45 front)

-- and optionally `/`, where so many bytes are left, and a number
abbrev pub over : Fraction → ℕ → Reached Fraction → Reached Factor
over top left n = reached (record { top = top; bottom = Some (record { number = n.value; left = left }) }) n.front

abbrev pub divided_by : Reached Fraction → Option Front → Read (Reached Factor)
divided_by top None = Ok (reached (record { top = top.value; bottom = None }) top.front)
divided_by top (Some behind) = map_value (over top.value (length top.front.rest)) (number_of behind)

unfoldable pub factor : LineRule Factor
factor front = and_next (signed_number front) (λ top. divided_by top (behind_byte 47 top.front))

-- ---- logarithms, over x and n monomials
-- what stands behind the word `log`
unfoldable pub after_log : ℕ → LineRule LogLine
after_log n front =
    and_next (factor front) (λ c.
    and_next (fixed (codes "of") c.front) (λ behind.
    and_next (sum_of (monomials n) behind) (λ u.
    to_line_end (log_line c.value u.value) u.front)))

-- what stands behind the word `sum`
unfoldable pub after_sum : ℕ → LineRule LogLine
after_sum n front =
    and_next (sum_of (with_z n) front) (λ r.
    and_next (fixed (codes "of") r.front) (λ behind.
    and_next (sum_of (with_z n) behind) (λ s.
    to_line_end (sum_line r.value s.value front.start) s.front)))

-- the line of a logarithm, where one stands there
abbrev pub log_by : ℕ → Option Front → Option Front → Option (Read (Reached LogLine))
log_by n (Some behind) sum = Some (after_log n behind)
log_by n None None = None
log_by n None (Some behind) = Some (after_sum n behind)

unfoldable pub next_log : ℕ → Front → Option (Read (Reached LogLine))
next_log n front = log_by n (behind_word (codes "log") front) (behind_word (codes "sum") front)

-- what is read of an answer so far: its logarithms, and the numbers of its lines
pub record LogLines : Type 0 where
  pub logs : List LogLine
  pub lines : List ℕ

-- one logarithm more, in the line of this number
abbrev pub with_log : LogLines → ℕ → LogLine → LogLines
with_log so_far line l = record { logs = so_far.logs ++ l ∷ []; lines = so_far.lines ++ line ∷ [] }

-- what was read, and the logarithms that follow, so many at most
abbrev pub log_lines_from : (LogLines → LineRule LogLines) → LogLines → Front → Option (Read (Reached LogLine)) → Read (Reached LogLines)
log_lines_from more so_far front None = Ok (reached so_far front)
log_lines_from more so_far front (Some found) = and_next found (λ l. more (with_log so_far front.line l.value) l.front)

abbrev pub log_lines : ℕ → ℕ → LogLines → LineRule LogLines
log_lines n zero so_far front = Ok (reached so_far front)
log_lines n (suc most) so_far front = log_lines_from (log_lines n most) so_far front (next_log n front)

-- ---- the end of a refutation, over x and n monomials
-- what stands behind `residue of V`, where V has this number: `power N trace E`
unfoldable pub end_power : ℕ → ℕ → LineRule EndTree
end_power n level front =
    and_next (fixed (codes "power") front) (λ behind.
    and_next (small_number_of behind) (λ power.
    and_next (expression_line (codes "trace") (monomials n) power.front) (λ trace.
    Ok (reached (record { level = level; power = power.value; trace = trace.value }) trace.front))))

-- what stands behind the word `residue`: `of V power N trace E`
unfoldable pub residue_end : ℕ → LineRule EndTree
residue_end n front =
    and_next (fixed (codes "of") front) (λ behind.
    and_next (variable_of n behind) (λ level.
    end_power n level.value level.front))

-- what is not yet read, behind a word
abbrev pub not_yet : {A : Type 0} → LineRule (Option A)
not_yet front = Ok (reached None front)

-- an end that is read
abbrev pub some_end : Read (Reached EndTree) → Read (Reached (Option EndTree))
some_end found = map_value (λ end. reached (Some end.value) end.front) found

-- what stands behind the word `end`: an end in residues; one in an exponent or a degree is not yet read
unfoldable pub end_kind : ℕ → LineRule (Option EndTree)
end_kind n front =
    option_map_or (λ behind. some_end (residue_end n behind)) (behind_word (codes "residue") front)
    (option_map_or not_yet (behind_word (codes "exponent") front)
    (option_map_or not_yet (behind_word (codes "degree") front) (Err (unexpected_at front))))

-- what stands behind the line `rest`: the line `end`; an answer with equations is not yet read
unfoldable pub end_line : ℕ → LineRule (Option EndTree)
end_line n front = option_map_or not_yet (behind_word (codes "equation") front) (and_next (fixed (codes "end") front) (end_kind n))

-- ---- answers, over x and n monomials
-- whether the first line is `refuted`, and not `integral`
unfoldable pub is_refuted : LineRule Bool
is_refuted front =
    option_map_or (to_line_end false) (behind_word (codes "integral") front)
    (and_next (bare_line (codes "refuted") front) (λ next. Ok (reached true next)))

-- `part E` and the logarithms, of which there are at most as many as bytes, behind the first line, which has this number
unfoldable pub partial_lines : ℕ → ℕ → LineRule AnswerTree
partial_lines n first front =
    and_next (expression_line (codes "part") (monomials n) front) (λ part.
    and_next (log_lines n (length part.front.rest) (record { logs = []; lines = first ∷ front.line ∷ [] }) part.front) (λ logs.
    Ok (reached (record { part = part.value; logs = logs.value.logs; refutation = None; lines = logs.value.lines }) logs.front)))

-- the end of an integral
unfoldable pub integral_end : AnswerTree → LineRule (Option AnswerTree)
integral_end partial front = and_next (bare_line (codes "end") front) (λ next. Ok (reached (Some (record partial { lines = partial.lines ++ front.line ∷ [] })) next))

-- the refutation with this rest and this end, whose lines have these numbers
abbrev pub refuted_by : AnswerTree → Tree → ℕ → ℕ → EndTree → AnswerTree
refuted_by partial rest first last end = record partial { refutation = Some (record { rest = rest; end = end }); lines = partial.lines ++ first ∷ last ∷ [] }

-- the rest and the end of a refutation
unfoldable pub refutation_end : ℕ → AnswerTree → LineRule (Option AnswerTree)
refutation_end n partial front =
    and_next (expression_line (codes "rest") (monomials n) front) (λ rest.
    and_next (end_line n rest.front) (λ end.
    Ok (reached (option_map (refuted_by partial rest.value front.line rest.front.line) end.value) end.front)))

abbrev pub answer_end : ℕ → Bool → AnswerTree → LineRule (Option AnswerTree)
answer_end n false partial = integral_end partial
answer_end n true partial = refutation_end n partial

-- the lines of an answer; none where it is not yet read
unfoldable pub answer_lines : ℕ → LineRule (Option AnswerTree)
answer_lines n front =
    and_next (is_refuted front) (λ refuted.
    and_next (partial_lines n front.line refuted.front) (λ partial.
    answer_end n refuted.value partial.value partial.front))

-- ---- files
-- the answer to a problem, behind which nothing more may stand; what is not yet read may go on
abbrev pub whole_answer : ProblemTree → Front → Option AnswerTree → Read (Option CertifiedTree)
whole_answer problem front None = Ok None
whole_answer problem front (Some answer) = and_next (nothing front) (λ end. Ok (Some (record { problem = problem; answer = answer })))

-- a file that holds a problem, its answer, and nothing more; none where the answer is not yet read
unfoldable pub whole_certified : List ℕ → Read (Option CertifiedTree)
whole_certified bytes =
    and_next (problem_lines (from_line 1 bytes)) (λ p.
    and_next (answer_lines (length p.value.tower) p.front) (λ a. whole_answer p.value a.front a.value))
