use Rattle.std.proofs.Common.{◌≡◌, suc, ◌+◌, ◌-◌, ◌∙◌, ap, ◌++◌, ◌∷◌, [], ℕ, arith}
use Rattle.risch_text.proofs.AnswerLines.{logs_more}
use Rattle.risch_text.proofs.answer.log_lines.Goals as goal

pub loop-turn-preserved : goal.loop-turn-preserved
loop-turn-preserved c =
    let turn : c.left-turn-end.result - c.loop-turn._turn ≡ suc (c.left-turn-end.result - (c.loop-turn._turn + 1)) = omega arith in (
      logs_more c.args.n _ _ _ c.loop-turn.so_far c.loop-turn.lines c.loop-turn.invariant.0 _ c.in-Some.log c.push.new.self c.next_log.new.lines turn (rw c.in-Some.is at c.in_ok-log.ensures.read)
          c.in_ok-push.ensures.logs (c.in_ok-push.ensures.lines ∙ ap (λ (l : ℕ). c.loop-turn.so_far.lines ++ l ∷ []) c.line-line.ensures),
      c.in_ok-log.ensures.in_file,
    )
