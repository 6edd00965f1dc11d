-- What is wrapped is the denominator at the level.
use Rattle.std.proofs.Common.{◌∙◌}
use Rattle.std.proofs.lemmas.Result.{IfOk-weaker}
use Rattle.risch_element_theory.proofs.PartsRules.{denominator-kept, denominator-some, denominator-monic, denominator-variables, denominator-stands}
use Rattle.risch_elem.proofs.elem.Elem.den_poly.Goals as goal

pub wrapped-requires : goal.wrapped-requires
wrapped-requires c = denominator-kept c.args.level c.self.inside.inner c.in_ok-denominator.denominator c.requires c.self.invariant c.in_ok-denominator.ensures

pub returns-clause-some : goal.returns-clause-some
returns-clause-some c = IfOk-weaker c.wrapped.result _ _ (λ it is. denominator-some c.args.level c.self.inside.inner it c.requires c.self.invariant (is ∙ c.in_ok-denominator.ensures)) c.wrapped.ensures

pub returns-clause-monic : goal.returns-clause-monic
returns-clause-monic c = IfOk-weaker c.wrapped.result _ _ (λ it is. denominator-monic c.args.level c.self.inside.inner it c.requires c.self.invariant (is ∙ c.in_ok-denominator.ensures)) c.wrapped.ensures

pub returns-clause-meaning : goal.returns-clause-meaning
returns-clause-meaning c = rw (← c.self.view_is) (λ within. IfOk-weaker c.wrapped.result _ _ (λ it is. denominator-stands c.args.level c.self.inside.inner it c.requires c.self.invariant within (is ∙ c.in_ok-denominator.ensures)) c.wrapped.ensures)

pub returns-clause-within : goal.returns-clause-within
returns-clause-within c = rw (← c.self.view_is) (λ within. IfOk-weaker c.wrapped.result _ _ (λ it is. denominator-variables c.args.level c.self.inside.inner it c.requires c.self.invariant within (is ∙ c.in_ok-denominator.ensures)) c.wrapped.ensures)
