-- What the steps of one part mean.
use Rattle.std.proofs.Common.{◌≡◌, ℕ, zero, suc, ◌+◌, ◌-◌, ◌≤◌, List, sym, ◌∙◌, ap, subst, arith}
use Rattle.risch_ring.specs.CommRing.{CommRing, power}
use Rattle.risch_ring.proofs.Laws as Laws
use Rattle.risch_univariate.specs.Polynomial.{Polynomial}
use Rattle.risch_univariate.specs.PolynomialRing.{polynomials}
use Rattle.risch_univariate.specs.Degree.{IsMonic}
use Rattle.risch_univariate.specs.Division.{Divides, IsCoprime}
use Rattle.risch_univariate.proofs.Degree as Degree
use Rattle.risch_univariate.proofs.Gcd as Gcd
use Rattle.risch_univariate.proofs.Multiplicity as Multiplicity
use Rattle.risch_mean.specs.Element as mean
use Rattle.risch_mean.specs.ElementField.{elements}
use Rattle.risch_element_theory.specs.ElementPolynomials.{◌*ₚ◌}
use Rattle.risch_tower.specs.declared.level.Level.{Level}
use Rattle.risch_hermite.specs.declared.partial.Partial.{Partial}
use Rattle.risch_hermite.specs.HermiteMeaning.{IsReducedTo, HasPart}

abbrev R : CommRing (Polynomial elements)
R = polynomials elements

pub has-power : (v : Polynomial elements) (i : ℕ) (w : Polynomial elements) → HasPart v i w → Divides elements (power R v i) w
has-power v i w h = record { cofactor = h.cofactor; equation = h.equation }

-- there is one cofactor
pub cofactor-coprime : (v : Polynomial elements) (i : ℕ) (w u : Polynomial elements) → IsMonic elements v → HasPart v i w → w ≡ u *ₚ power R v i → IsCoprime elements v u
cofactor-coprime v i w u m h e =
    let p = power R v i in
    let same = Degree.mul_polynomials_cancel elements p h.cofactor u (Multiplicity.power-nonzero elements v i (Gcd.monic-nonzero elements v m)) (R.mul_comm p h.cofactor ∙ sym h.equation ∙ e ∙ R.mul_comm u p) in
    subst (IsCoprime elements v) same h.coprime

-- 1^i = 1
power-one : (i : ℕ) → power R R.one i ≡ R.one
power-one zero = Laws.power-zero R R.one
power-one (suc i) = Laws.power-suc R R.one i ∙ Laws.one-mul R (power R R.one i) ∙ power-one i

pub one-part : (w v : Polynomial elements) (i : ℕ) → v ≡ R.one → w *ₚ power R v i ≡ w *ₚ v
one-part w v i e = ap (λ x. w *ₚ power R x i) e ∙ ap (R.mul w) (power-one i ∙ sym e)

-- the steps from j = i - 1 on begin with the denominator w = u·v^i
pub part-begins : (tower : List Level) (level : ℕ) (f : mean.Element) (u v w : Polynomial elements) (i : ℕ) (before : Partial) → 1 ≤ i → w ≡ u *ₚ power R v i → IsReducedTo tower level f w before →
    IsReducedTo tower level f (u *ₚ power R v (i - 1 + 1)) before
part-begins tower level f u v w i before positive e h =
    let all : i ≡ i - 1 + 1 = omega arith in
    subst (λ p. IsReducedTo tower level f p before) (e ∙ ap (λ n. u *ₚ power R v n) all) h

-- and end with u·v
pub part-ends : (tower : List Level) (level : ℕ) (f : mean.Element) (u v w : Polynomial elements) (after : Partial) → w ≡ u *ₚ v → IsReducedTo tower level f (u *ₚ power R v 1) after → IsReducedTo tower level f w after
part-ends tower level f u v w after e h = subst (λ p. IsReducedTo tower level f p after) (ap (R.mul u) (Laws.power-one R v) ∙ sym e) h

-- w'·v^i = w·v
pub part-denominator : (u v w w' : Polynomial elements) (i : ℕ) → w ≡ u *ₚ power R v i → w' ≡ u *ₚ v → w' *ₚ power R v i ≡ w *ₚ v
part-denominator u v w w' i e e' = ap (λ p. p *ₚ power R v i) e' ∙ Laws.mul_right_comm R u v (power R v i) ∙ ap (λ p. p *ₚ v) (sym e)
