use Rattle.risch_text.proofs.logarithms.root_sum.Goals as goal

pub returns-clause-form : goal.returns-clause-form
returns-clause-form c = λ n over. c.shaped.ensures.form n (c.in_ok-argument.ensures.within n over)
