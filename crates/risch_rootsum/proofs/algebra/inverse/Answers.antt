use Rattle.std.proofs.Common.{◌≡◌, ◌-◌, ◌∙◌, ap, length, None, Some, Ok}
use Rattle.risch_polynomial.specs.Poly as poly
use Rattle.risch_polynomial.specs.Modular as modular
use Rattle.risch_polynomial_theory.specs.Meaning.{AllValid}
use Rattle.risch_level.specs.Levels.{element}
use Rattle.risch_element_theory.specs.WholeTower.{IsElement}
use Rattle.risch_rootsum.specs.Algebra.{modulus, filled}
use Rattle.risch_rootsum.proofs.AlgebraRules.{option-means, option-members, option-within}
use Rattle.risch_rootsum.proofs.algebra.inverse.Goals as goal

pub returns-in-Some-clause-meaning : goal.returns-in-Some-clause-meaning
returns-in-Some-clause-meaning c =
    let R = c.args.poly.now in
    let u = c.args.u.now in
    let formed : modular.inverse element (poly.trimmed element u) (modulus R) ≡ Ok (Some c.in-Some.inverse) =
    rw (c.in_ok-argument.ensures, c.as_slice-2.ensures, c.in_ok-modulus.ensures.value) at (c.in_ok-inverse.ensures ∙ ap Ok c.in-Some.is) in
    let all : AllValid IsElement u = rw c.as_slice.ensures at c.all_normal.ensures in
    let is : c.in_ok-filled-in-Some.field-0 ≡ filled (length R - 1) c.in-Some.inverse = rw c.len.ensures at c.in_ok-filled-in-Some.ensures in
    rw is (option-means R c.requires.modulus c.in_ok-modulus.ensures.normal u all c.requires.member (Some c.in-Some.inverse) formed)

pub returns-in-Some-clause-members : goal.returns-in-Some-clause-members
returns-in-Some-clause-members c =
    let R = c.args.poly.now in
    let u = c.args.u.now in
    let formed : modular.inverse element (poly.trimmed element u) (modulus R) ≡ Ok (Some c.in-Some.inverse) =
    rw (c.in_ok-argument.ensures, c.as_slice-2.ensures, c.in_ok-modulus.ensures.value) at (c.in_ok-inverse.ensures ∙ ap Ok c.in-Some.is) in
    let all : AllValid IsElement u = rw c.as_slice.ensures at c.all_normal.ensures in
    let is : c.in_ok-filled-in-Some.field-0 ≡ filled (length R - 1) c.in-Some.inverse = rw c.len.ensures at c.in_ok-filled-in-Some.ensures in
    let normal = c.in_ok-modulus.ensures.normal in
    rw is
    (option-members R c.requires.modulus normal u (Some (filled (length R - 1) c.in-Some.inverse))
    (option-means R c.requires.modulus normal u all c.requires.member (Some c.in-Some.inverse) formed))

pub returns-in-Some-clause-within : goal.returns-in-Some-clause-within
returns-in-Some-clause-within c n all =
    let R = c.args.poly.now in
    let u = c.args.u.now in
    let formed : modular.inverse element (poly.trimmed element u) (modulus R) ≡ Ok (Some c.in-Some.inverse) =
    rw (c.in_ok-argument.ensures, c.as_slice-2.ensures, c.in_ok-modulus.ensures.value) at (c.in_ok-inverse.ensures ∙ ap Ok c.in-Some.is) in
    let is : c.in_ok-filled-in-Some.field-0 ≡ filled (length R - 1) c.in-Some.inverse = rw c.len.ensures at c.in_ok-filled-in-Some.ensures in
    rw is (option-within n R u (Some c.in-Some.inverse) all formed)

pub returns-clause-meaning : goal.returns-clause-meaning
returns-clause-meaning c =
    let R = c.args.poly.now in
    let u = c.args.u.now in
    let formed : modular.inverse element (poly.trimmed element u) (modulus R) ≡ Ok None =
    rw (c.in_ok-argument.ensures, c.as_slice-2.ensures, c.in_ok-modulus.ensures.value) at (c.in_ok-inverse.ensures ∙ ap Ok c.in-None.is) in
    let all : AllValid IsElement u = rw c.as_slice.ensures at c.all_normal.ensures in
    option-means R c.requires.modulus c.in_ok-modulus.ensures.normal u all c.requires.member None formed
