-- What is wrapped is the numerator at the level.
use Rattle.std.proofs.Common.{◌∙◌}
use Rattle.std.proofs.lemmas.Result.{IfOk-weaker}
use Rattle.risch_element_theory.proofs.PartsRules.{numerator-kept, numerator-variables, numerator-stands}
use Rattle.risch_elem.proofs.elem.Elem.num_poly.Goals as goal

pub wrapped-requires : goal.wrapped-requires
wrapped-requires c = numerator-kept c.args.level c.self.inside.inner c.in_ok-numerator.numerator c.requires c.self.invariant c.in_ok-numerator.ensures

pub returns-clause-meaning : goal.returns-clause-meaning
returns-clause-meaning c = rw (← c.self.view_is) (λ within. IfOk-weaker c.wrapped.result _ _ (λ it is. numerator-stands c.args.level c.self.inside.inner it c.requires c.self.invariant within (is ∙ c.in_ok-numerator.ensures)) c.wrapped.ensures)

pub returns-clause-within : goal.returns-clause-within
returns-clause-within c = rw (← c.self.view_is) (λ within. IfOk-weaker c.wrapped.result _ _ (λ it is. numerator-variables c.args.level c.self.inside.inner it c.requires c.self.invariant within (is ∙ c.in_ok-numerator.ensures)) c.wrapped.ensures)
