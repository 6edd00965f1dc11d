-- The answer to a polynomial in x is one to its element.
use Rattle.std.specs.Prelude.{IfOk}
use Rattle.std.proofs.Common.{◌≡◌, ℕ, List, [], Result, Ok, Err, sym, subst}
use Rattle.risch_frac.specs.Fraction.{Fraction}
use Rattle.risch_mean.specs.Answer.{IsIntegral}
use Rattle.risch_level.specs.Levels.{Element}
use Rattle.risch_tower.specs.declared.level.Level.{Level}
use Rattle.risch_cert.specs.declared.answer.Answer.{Answer}
use Rattle.risch_cert.specs.declared.answer.Answer.TheVariants.{Integral, Refuted, Stopped, Disagree}
use Rattle.risch_rootsum.specs.DerivativeMeaning.{answer_of}
use Rattle.risch_round.specs.Meaning.{IsPolynomialInX}
use Rattle.risch_round.specs.Procedure.{answer}
use Rattle.risch_round.specs.AnswerMeaning.{IsFoundIntegral}
use Rattle.risch_round.proofs.ProcedureMeaning.{answer-integral}

found : (budget : ℕ) (e : Element) (p : List Fraction) (a : Answer) → IsPolynomialInX e p → answer budget p ≡ a → IsFoundIntegral [] e a
found budget e p (Integral it) s is = subst (IsIntegral [] (answer_of it)) (sym s.means) (answer-integral budget p it s.valid s.degree_small is)
found budget e p (Refuted chain) s is = tt
found budget e p (Stopped halt) s is = tt
found budget e p (Disagree left right) s is = tt

polynomial-found : (tower : List Level) (budget : ℕ) (e : Element) (p : List Fraction) (a : Answer) → tower ≡ [] → IsPolynomialInX e p → a ≡ answer budget p → IsFoundIntegral tower e a
polynomial-found tower budget e p a empty s is = rw empty (found budget e p a s (sym is))

pub polynomial-answers : {E : Type 0} (tower : List Level) (budget : ℕ) (e : Element) (p : List Fraction) (result : Result Answer E) → tower ≡ [] → IsPolynomialInX e p →
    IfOk result (λ a. a ≡ answer budget p) → IfOk result (IsFoundIntegral tower e)
polynomial-answers tower budget e p (Ok a) empty s is = polynomial-found tower budget e p a empty s is
polynomial-answers tower budget e p (Err fault) empty s is = tt
