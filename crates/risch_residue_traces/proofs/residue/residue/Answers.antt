use Rattle.std.proofs.Common.{[], arith}
use Rattle.risch_element_theory.proofs.ElementPolynomials.{zero-is_polynomial}
use Rattle.risch_element_theory.specs.WholeTower.{AllWithin}
use Rattle.risch_trace.specs.Traces.{remainder}
use Rattle.risch_monomial.proofs.LevelElements.{agreed}
use Rattle.risch_monomial.proofs.LevelPolynomials.{derivative-stands}
use Rattle.risch_residue_traces.specs.TracesMeaning.{IsResidueOf}
use Rattle.risch_residue_traces.proofs.ResidueMeaning.{inverse_exists, residue-means, residue-within}
use Rattle.risch_residue_traces.proofs.residue.residue.Goals as goal

pub returns-in-Some-clause-meaning : goal.returns-in-Some-clause-meaning
returns-in-Some-clause-meaning c =
    let tower = c.args.tower.now in
    let level = c.args.level in
    let d = c.args.denominator.now in
    let derived = c.in_ok-derivative.derivative in
    let kd = c.inner-modulus.ensures.normal in
    let wd = c.requires.denominator_within in
    let derivative = derivative-stands tower level d derived c.level_of.ensures kd wd c.inner.ensures.normal (c.in_ok-derivative.ensures.within level (omega arith) wd) c.in_ok-derivative.ensures.meaning in
    let is_reduced = rw (c.inner.ensures.value, c.inner-modulus.ensures.value) at c.in_ok-reduced.ensures in
    let is_inverse = rw (c.inner-modulus.ensures.value, c.in-Some.is) at c.in_ok-inverse.ensures in
    let is_product = rw c.inner-in-Some.ensures.value at c.in_ok-product-in-Some.ensures in
    let agrees = rw c.inner-modulus.ensures.value at c.remainder-in-Some.ensures in
    agreed (IsResidueOf tower level c.args.numerator.now d) c.remainder-in-Some.result (remainder c.in_ok-product-in-Some.product d) agrees
    (λ rho is_residue. residue-means tower level c.args.numerator.now d derived c.in_ok-reduced.reduced kd c.inner-in-Some.ensures.normal c.inner.ensures.normal c.requires.degree derivative is_reduced
    c.in-Some.inverse c.in_ok-product-in-Some.product rho is_inverse is_product is_residue)

pub returns-in-Some-clause-within : goal.returns-in-Some-clause-within
returns-in-Some-clause-within c =
    let level = c.args.level in
    let d = c.args.denominator.now in
    let wd = c.requires.denominator_within in
    let is_reduced = rw (c.inner.ensures.value, c.inner-modulus.ensures.value) at c.in_ok-reduced.ensures in
    let is_inverse = rw (c.inner-modulus.ensures.value, c.in-Some.is) at c.in_ok-inverse.ensures in
    let is_product = rw c.inner-in-Some.ensures.value at c.in_ok-product-in-Some.ensures in
    let agrees = rw c.inner-modulus.ensures.value at c.remainder-in-Some.ensures in
    agreed (AllWithin level) c.remainder-in-Some.result (remainder c.in_ok-product-in-Some.product d) agrees
    (λ rho is_residue. residue-within level c.args.numerator.now d c.in_ok-derivative.derivative c.in_ok-reduced.reduced c.in-Some.inverse c.in_ok-product-in-Some.product rho
    c.requires.numerator_within wd (c.in_ok-derivative.ensures.within level (omega arith) wd) is_reduced is_inverse is_product is_residue)

pub returns-clause-meaning : goal.returns-clause-meaning
returns-clause-meaning c =
    let tower = c.args.tower.now in
    let level = c.args.level in
    let d = c.args.denominator.now in
    let derived = c.in_ok-derivative.derivative in
    let kd = c.inner-modulus.ensures.normal in
    let wd = c.requires.denominator_within in
    let derivative = derivative-stands tower level d derived c.level_of.ensures kd wd c.inner.ensures.normal (c.in_ok-derivative.ensures.within level (omega arith) wd) c.in_ok-derivative.ensures.meaning in
    let is_reduced = rw (c.inner.ensures.value, c.inner-modulus.ensures.value) at c.in_ok-reduced.ensures in
    let is_none = rw (c.inner-modulus.ensures.value, c.in-None.is) at c.in_ok-inverse.ensures in
    absurd (inverse_exists tower level [] d derived c.in_ok-reduced.reduced kd zero-is_polynomial c.inner.ensures.normal c.requires.degree derivative is_reduced c.requires.normal is_none)
