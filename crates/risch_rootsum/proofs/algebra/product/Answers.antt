use Rattle.std.proofs.Common.{◌≡◌, ◌-◌, length, Ok}
use Rattle.risch_polynomial.specs.Poly as poly
use Rattle.risch_polynomial_theory.specs.Meaning.{AllValid}
use Rattle.risch_level.specs.Levels.{element}
use Rattle.risch_element_theory.specs.WholeTower.{IsElement}
use Rattle.risch_trace.specs.Traces.{remainder}
use Rattle.risch_rootsum.specs.Algebra.{modulus, filled}
use Rattle.risch_rootsum.proofs.AlgebraRules.{product-formed, product-stands, product-members, product-within}
use Rattle.risch_rootsum.proofs.algebra.product.Goals as goal

pub returns-clause-meaning : goal.returns-clause-meaning
returns-clause-meaning c =
    let R = c.args.poly.now in
    let u = c.args.u.now in
    let v = c.args.v.now in
    let formed : poly.product element (poly.trimmed element u) (poly.trimmed element v) ≡ Ok c.in_ok-product.product =
    rw (c.in_ok-left.ensures, c.as_slice-3.ensures, c.in_ok-right.ensures, c.as_slice-4.ensures) at c.in_ok-product.ensures in
    let divided : remainder c.in_ok-product.product (modulus R) ≡ Ok c.in_ok-rest.rest = rw c.in_ok-modulus.ensures.value at c.in_ok-rest.ensures in
    let all_u : AllValid IsElement u = rw c.as_slice.ensures at c.all_normal.ensures in
    let all_v : AllValid IsElement v = rw c.as_slice-2.ensures at c.all_normal-2.ensures in
    let is : c.in_ok-filled.field-0 ≡ filled (length R - 1) c.in_ok-rest.rest = rw c.len.ensures at c.in_ok-filled.ensures in
    rw is
    (product-stands R c.requires.modulus c.in_ok-modulus.ensures.normal u v (filled (length R - 1) c.in_ok-rest.rest) all_u all_v c.requires.left c.requires.right
    (product-formed R u v c.in_ok-product.product c.in_ok-rest.rest formed divided))

pub returns-clause-members : goal.returns-clause-members
returns-clause-members c =
    let R = c.args.poly.now in
    let u = c.args.u.now in
    let v = c.args.v.now in
    let formed : poly.product element (poly.trimmed element u) (poly.trimmed element v) ≡ Ok c.in_ok-product.product =
    rw (c.in_ok-left.ensures, c.as_slice-3.ensures, c.in_ok-right.ensures, c.as_slice-4.ensures) at c.in_ok-product.ensures in
    let divided : remainder c.in_ok-product.product (modulus R) ≡ Ok c.in_ok-rest.rest = rw c.in_ok-modulus.ensures.value at c.in_ok-rest.ensures in
    let all_u : AllValid IsElement u = rw c.as_slice.ensures at c.all_normal.ensures in
    let all_v : AllValid IsElement v = rw c.as_slice-2.ensures at c.all_normal-2.ensures in
    let is : c.in_ok-filled.field-0 ≡ filled (length R - 1) c.in_ok-rest.rest = rw c.len.ensures at c.in_ok-filled.ensures in
    rw is
    (product-members R c.requires.modulus c.in_ok-modulus.ensures.normal u v (filled (length R - 1) c.in_ok-rest.rest) all_u all_v c.requires.left c.requires.right
    (product-formed R u v c.in_ok-product.product c.in_ok-rest.rest formed divided))

pub returns-clause-within : goal.returns-clause-within
returns-clause-within c n all_u all_v =
    let R = c.args.poly.now in
    let u = c.args.u.now in
    let v = c.args.v.now in
    let formed : poly.product element (poly.trimmed element u) (poly.trimmed element v) ≡ Ok c.in_ok-product.product =
    rw (c.in_ok-left.ensures, c.as_slice-3.ensures, c.in_ok-right.ensures, c.as_slice-4.ensures) at c.in_ok-product.ensures in
    let divided : remainder c.in_ok-product.product (modulus R) ≡ Ok c.in_ok-rest.rest = rw c.in_ok-modulus.ensures.value at c.in_ok-rest.ensures in
    let is : c.in_ok-filled.field-0 ≡ filled (length R - 1) c.in_ok-rest.rest = rw c.len.ensures at c.in_ok-filled.ensures in
    rw is (product-within n R u v (filled (length R - 1) c.in_ok-rest.rest) all_u all_v (product-formed R u v c.in_ok-product.product c.in_ok-rest.rest formed divided))
