use Rattle.std.proofs.Common.{◌++◌, ◌≡◌, ◌∙◌, refl, sym, List, ℕ, Some, None}
use Rattle.std.proofs.lemmas.Slice.Eq.{strip_prefix_is}
use Rattle.std.proofs.lemmas.Bool.Decides.{Decides-eqb}
use Rattle.risch_expression.proofs.Taking.{after_word_found, after_word_goes_on, after_word_other}
use Rattle.risch_expression.proofs.words.Words.take_word.Goals as goal

pub returns-in_default : goal.returns-in_default
returns-in_default c =
    let bytes : List ℕ = c.self.inside.rest.now in
    rw (← c.self.view_is)
    (after_word_other c.args.word.now bytes (strip_prefix_is Decides-eqb bytes c.args.word.now None c.in_default.ensures.cases), refl)

pub returns-then-goes_on : goal.returns-then-goes_on
returns-then-goes_on c =
    let bytes : List ℕ = c.self.inside.rest.now in
    let found : bytes ≡ c.args.word.now ++ c.in-Some.after.now = strip_prefix_is Decides-eqb bytes c.args.word.now (Some c.in-Some.after) c.in-Some.ensures.cases in
    rw (← c.self.view_is) (after_word_goes_on c.args.word.now bytes c.in-Some.after.now found (sym c.goes_on.ensures ∙ c.if-goes_on.true), refl)

pub returns : goal.returns
returns c =
    let bytes : List ℕ = c.self.inside.rest.now in
    let found : bytes ≡ c.args.word.now ++ c.in-Some.after.now = strip_prefix_is Decides-eqb bytes c.args.word.now (Some c.in-Some.after) c.in-Some.ensures.cases in
    rw (← c.self.view_is, c.past_blanks-self-inside.ensures.value) (after_word_found c.args.word.now bytes c.in-Some.after.now found (sym c.goes_on.ensures ∙ c.if-goes_on.false))
