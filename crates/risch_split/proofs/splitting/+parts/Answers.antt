use Rattle.std.proofs.Common.{◌≡◌, sym, arith}
use Rattle.std.proofs.lemmas.Result.{IfOk-weaker, err_from_is_err_and}
use Rattle.risch_element_theory.specs.ElementPolynomials.{◌*ₚ◌}
use Rattle.risch_element_theory.specs.WholeTower.{polynomial, AllWithin}
use Rattle.risch_element_theory.proofs.ElementWithin.{one-element-within}
use Rattle.risch_monomial.specs.LevelElements.{one}
use Rattle.risch_monomial.proofs.MonicPolynomials.{monic-length}
use Rattle.risch_split.specs.declared.splitting.Split.{Split}
use Rattle.risch_split.specs.SplittingSteps.{AreParts}
use Rattle.risch_split.proofs.PartsRules.{of_value, factor-stops, parts-ended, quotient-stops, rest-stops, parts-found}
use Rattle.risch_split.proofs.SpecialFactors.{IsRest, step-divides, rest-of, parts-end, parts-next}
use Rattle.risch_split.proofs.splitting.+parts.Goals as goal

pub returns-in_err-factor-clause-rule : goal.returns-in_err-factor-clause-rule
returns-in_err-factor-clause-rule t c = λ steps l.
    let d = c.args.poly.now in
    let stops = factor-stops c.args.tower.now c.args.level d (monic-length d c.requires.monic) c.in_err-factor.field-0.0 c.in_err-factor.ensures.rule steps l in
    let ended = err_from_is_err_and c.from_residual.result c.from_residual.ensures.1 in
    rw (ended.1, ended.2) stops

pub returns-then-is_one-clause-rule : goal.returns-then-is_one-clause-rule
returns-then-is_one-clause-rule t c = λ steps l.
    let d = c.args.poly.now in
    parts-ended c.args.tower.now c.args.level d (monic-length d c.requires.monic) c.in_ok-factor.factor c.in_ok-factor.ensures.rule c.normal_alone.result (sym c.if-is_one.ensures) c.normal_alone.ensures steps l

pub returns-then-is_one-clause-meaning : goal.returns-then-is_one-clause-meaning
returns-then-is_one-clause-meaning t c =
    let d = c.args.poly.now in
    of_value (λ (it : Split). AreParts c.args.tower.now c.args.level d it) c.normal_alone.result (record { normal = d; special = one }) c.normal_alone.ensures
    (parts-end c.args.tower.now c.args.level d c.in_ok-factor.factor c.in_ok-factor.ensures.normal c.requires.monic c.in_ok-factor.ensures.meaning (sym c.if-is_one.ensures))

pub returns-then-is_one-clause-within : goal.returns-then-is_one-clause-within
returns-then-is_one-clause-within t c =
    of_value (λ (it : Split). AllWithin c.args.level it.normal × AllWithin c.args.level it.special) c.normal_alone.result (record { normal = c.args.poly.now; special = one }) c.normal_alone.ensures
    (c.requires.within, (one-element-within c.args.level, tt))

pub exact_quotient-requires : goal.exact_quotient-requires
exact_quotient-requires t c = record {
  monic = c.in_ok-factor.ensures.meaning.is_monic;
  divides = step-divides c.args.tower.now c.args.level c.args.poly.now c.in_ok-factor.factor c.in_ok-factor.ensures.meaning;
}

pub returns-in_err-rest-clause-rule : goal.returns-in_err-rest-clause-rule
returns-in_err-rest-clause-rule t c = λ steps l.
    let d = c.args.poly.now in
    let stops =
    quotient-stops c.args.tower.now c.args.level d (monic-length d c.requires.monic) c.in_ok-factor.factor c.in_ok-factor.ensures.rule c.in_err-rest.field-0.0 (sym c.if-is_one.ensures) c.in_err-rest.ensures.rule steps l in
    let ended = err_from_is_err_and c.from_residual-in_err-rest.result c.from_residual-in_err-rest.ensures.1 in
    rw (ended.1, ended.2) stops

pub parts-requires : goal.parts-requires
parts-requires t c =
    let rest : IsRest c.args.poly.now c.in_ok-factor.factor c.in_ok-rest.rest =
    rest-of c.args.tower.now c.args.level c.args.poly.now c.in_ok-factor.factor c.in_ok-rest.rest c.inner-inner.ensures.normal c.in_ok-factor.ensures.normal c.in_ok-rest.ensures.normal
    c.requires.monic c.in_ok-factor.ensures.meaning (sym c.if-is_one.ensures) c.in_ok-rest.ensures.meaning in
    let shorter = rest.shorter in
    (omega (arith, shorter, c.decreases), (c.requires.level, (c.in_ok-rest.ensures.within c.args.level c.requires.within c.in_ok-factor.ensures.within, rest.is_monic)))

pub returns-in_err-split-clause-rule : goal.returns-in_err-split-clause-rule
returns-in_err-split-clause-rule t c = λ steps l.
    let d = c.args.poly.now in
    let rest : IsRest d c.in_ok-factor.factor c.in_ok-rest.rest =
    rest-of c.args.tower.now c.args.level d c.in_ok-factor.factor c.in_ok-rest.rest c.inner-inner.ensures.normal c.in_ok-factor.ensures.normal c.in_ok-rest.ensures.normal
    c.requires.monic c.in_ok-factor.ensures.meaning (sym c.if-is_one.ensures) c.in_ok-rest.ensures.meaning in
    let stops =
    rest-stops c.args.tower.now c.args.level d (monic-length d c.requires.monic) c.in_ok-factor.factor c.in_ok-factor.ensures.rule c.in_ok-rest.rest (sym c.if-is_one.ensures)
    c.in_ok-rest.ensures.rule rest.shorter c.in_err-split.field-0.0 c.in_err-split.ensures.rule steps l in
    let ended = err_from_is_err_and c.from_residual-in_err-split.result c.from_residual-in_err-split.ensures.1 in
    rw (ended.1, ended.2) stops

pub returns-clause-rule : goal.returns-clause-rule
returns-clause-rule t c = λ steps l.
    let d = c.args.poly.now in
    let rest : IsRest d c.in_ok-factor.factor c.in_ok-rest.rest =
    rest-of c.args.tower.now c.args.level d c.in_ok-factor.factor c.in_ok-rest.rest c.inner-inner.ensures.normal c.in_ok-factor.ensures.normal c.in_ok-rest.ensures.normal
    c.requires.monic c.in_ok-factor.ensures.meaning (sym c.if-is_one.ensures) c.in_ok-rest.ensures.meaning in
    parts-found c.args.tower.now c.args.level d (monic-length d c.requires.monic) c.in_ok-factor.factor c.in_ok-factor.ensures.rule c.in_ok-rest.rest (sym c.if-is_one.ensures)
    c.in_ok-rest.ensures.rule rest.shorter c.in_ok-split.split c.in_ok-split.ensures.rule c.with_factor.result c.with_factor.ensures.rule steps l

pub returns-clause-meaning : goal.returns-clause-meaning
returns-clause-meaning t c =
    let d = c.args.poly.now in
    let s = c.in_ok-factor.factor in
    let q = c.in_ok-rest.rest in
    let split = c.in_ok-split.split in
    let rest : IsRest d s q =
    rest-of c.args.tower.now c.args.level d s q c.inner-inner.ensures.normal c.in_ok-factor.ensures.normal c.in_ok-rest.ensures.normal
    c.requires.monic c.in_ok-factor.ensures.meaning (sym c.if-is_one.ensures) c.in_ok-rest.ensures.meaning in
    IfOk-weaker c.with_factor.result (λ (it : Split). (it.normal ≡ split.normal) × (polynomial it.special ≡ polynomial s *ₚ polynomial split.special)) (λ (it : Split). AreParts c.args.tower.now c.args.level d it)
    (λ it h. parts-next c.args.tower.now c.args.level d s q split it c.requires.monic c.in_ok-factor.ensures.meaning rest c.in_ok-split.ensures.meaning h.0 h.1) c.with_factor.ensures.meaning

pub returns-clause-within : goal.returns-clause-within
returns-clause-within t c = c.with_factor.ensures.within c.args.level c.in_ok-factor.ensures.within c.in_ok-split.ensures.within.0 c.in_ok-split.ensures.within.1
