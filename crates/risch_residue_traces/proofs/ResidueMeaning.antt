-- The rule of ρ: ρ is a·i modulo d, for an inverse i of Dd modulo d.
--     residue-means
--     none-coprime      there is such an inverse
use Rattle.std.proofs.Common.{◌≡◌, ℕ, ◌≤◌, ◌<◌, List, [], ◌∷◌, length, None, Some, Ok, refl, sym, ◌∙◌, ap, arith, subst}
use Rattle.risch_ring.specs.CommRing.{CommRing, sub}
use Rattle.risch_ring.specs.Operators.{operators}
use Rattle.risch_ring.proofs.Expression.{reading}
use Rattle.risch_ring.proofs.Solver.{ring}
use Rattle.risch_univariate.specs.Polynomial.{Polynomial}
use Rattle.risch_univariate.specs.PolynomialRing.{polynomials}
use Rattle.risch_univariate.specs.Division.{Divides, IsCoprime}
use Rattle.risch_univariate.proofs.Divides as DividesLaws
use Rattle.risch_mean.specs.ElementField.{elements}
use Rattle.risch_field.proofs.CheckedSteps.{and_then-ok}
use Rattle.risch_polynomial.specs.Poly as poly
use Rattle.risch_polynomial.specs.Modular as modular
use Rattle.risch_level.specs.Levels.{Element, element}
use Rattle.risch_element_theory.specs.WholeTower.{IsPolynomial, polynomial, AllWithin}
use Rattle.risch_element_theory.proofs.ElementPolynomials.{division-stands, remainder-is_polynomial, product-stands, product-is_polynomial, inverse-stands}
use Rattle.risch_element_theory.proofs.PolynomialsWithin as PolynomialsWithin
use Rattle.risch_tower.specs.declared.level.Level.{Level}
use Rattle.risch_tower.specs.TowerMeaning.{monomials}
use Rattle.risch_monomial.specs.LevelDerivation.{level_derivation}
use Rattle.risch_trace.specs.Traces.{remainder}
use Rattle.risch_trace.proofs.TraceRules.{remainder-within}
use Rattle.risch_residue_traces.specs.TracesMeaning.{IsResidueOf}

module _ {A : Type 0} (R : CommRing A) where
  open (operators R) use {𝟙, ◌+◌, ◌-◌, ◌*◌, -◌}

  cancelled : (q b : A) → q + b - b ≡ q
  cancelled q b = ring R (q ∷ b ∷ []) (search reading depth 20 fits 4000) refl

  moved-inverse : (i D e : A) → i * (D - e) + (i * e - 𝟙) ≡ i * D - 𝟙
  moved-inverse i D e = ring R (i ∷ D ∷ e ∷ []) (search reading depth 30 fits 9000) refl

  moved-coprime : (l r c d e : A) → (l + r * c) * d + r * e ≡ l * d + r * (c * d + e)
  moved-coprime l r c d e = ring R (l ∷ r ∷ c ∷ d ∷ e ∷ []) (search reading depth 30 fits 9000) refl

  back : (D e : A) → D ≡ (D - e) + e
  back D e = ring R (D ∷ e ∷ []) (search reading depth 20 fits 4000) refl

  pub residue-equation : (a i D r : A) → a * (i * D - 𝟙) + - ((a * i - r) * D) ≡ r * D + - a
  residue-equation a i D r = ring R (a ∷ i ∷ D ∷ r ∷ []) (search reading depth 40 fits 9000) refl

abbrev R : CommRing (Polynomial elements)
R = polynomials elements

record IsRest (d p x : List Element) : Type 0 where
  rest_kept : IsPolynomial x
  divides : Divides elements (polynomial d) (sub R (polynomial p) (polynomial x))

-- d divides p - (p rem d)
rest-of : (d p x : List Element) → IsPolynomial d → IsPolynomial p → 0 < length d → remainder p d ≡ Ok x → IsRest d p x
unfolding remainder
rest-of d p x kd kp some e =
    let s = and_then-ok (poly.division element p d) (λ x. Ok x.1) x e in
    let is : poly.division element p d ≡ Ok (s.value.0, s.value.1) = s.is in
    let same : s.value.1 ≡ x = let next : Ok s.value.1 ≡ Ok x = s.next in cc in
    let h = division-stands p d s.value.0 s.value.1 kp kd some is in
    subst (IsRest d p) same (record {
      rest_kept = remainder-is_polynomial p d s.value.0 s.value.1 kp kd some is;
      divides = record {
        cofactor = polynomial s.value.0;
        equation = ap (λ q. sub R q (polynomial s.value.1)) h.equation ∙ cancelled R (R.mul (polynomial s.value.0) (polynomial d)) (polynomial s.value.1);
      };
    })

module _ (tower : List Level) (level : ℕ) (a d derived reduced : List Element) (kd : IsPolynomial d) (ka : IsPolynomial a) (k : IsPolynomial derived) (large : 2 ≤ length d)
    (derivative : polynomial derived ≡ (level_derivation (monomials tower) level).derive (polynomial d)) (is_reduced : remainder derived d ≡ Ok reduced) where
  abbrev D : Polynomial elements
  D = polynomial derived

  rest : IsRest d derived reduced
  rest = rest-of d derived reduced kd k (omega (arith, large)) is_reduced

  -- d and Dd rem d are coprime, so that there is an inverse
  pub inverse_exists : IsCoprime elements (polynomial d) ((level_derivation (monomials tower) level).derive (polynomial d)) → modular.inverse element reduced d ≡ Ok None → ⊥
  inverse_exists normal e =
      let c = subst (IsCoprime elements (polynomial d)) (sym derivative) normal in
      inverse-stands reduced d None rest.rest_kept kd large e (record {
        left = R.add c.left (R.mul c.right rest.divides.cofactor);
        right = c.right;
        equation =
            moved-coprime R c.left c.right rest.divides.cofactor (polynomial d) (polynomial reduced)
            ∙ ap (λ x. R.add (R.mul c.left (polynomial d)) (R.mul c.right x)) (ap (λ x. R.add x (polynomial reduced)) (sym rest.divides.equation) ∙ sym (back R D (polynomial reduced)))
            ∙ c.equation;
      })

  module _ (inverse product rho : List Element) (is_inverse : modular.inverse element reduced d ≡ Ok (Some inverse)) (is_product : poly.product element a inverse ≡ Ok product) (is_residue : remainder product d ≡ Ok rho) where
    pub residue-means : IsResidueOf tower level a d rho
    residue-means =
        let i = inverse-stands reduced d (Some inverse) rest.rest_kept kd large is_inverse in
        let last = rest-of d product rho kd (product-is_polynomial a inverse product ka i.kept is_product) (omega (arith, large)) is_residue in
        record {
          kept = last.rest_kept;
          inverse = polynomial inverse;
          is_inverse =
              subst (λ x. Divides elements (polynomial d) (sub R (R.mul (polynomial inverse) x) R.one)) derivative
              (subst (Divides elements (polynomial d)) (moved-inverse R (polynomial inverse) D (polynomial reduced))
              (DividesLaws.divides-add elements (polynomial d) (R.mul (polynomial inverse) (sub R D (polynomial reduced))) (sub R (R.mul (polynomial inverse) (polynomial reduced)) R.one)
              (DividesLaws.divides-mul_left elements (polynomial d) (polynomial inverse) (sub R D (polynomial reduced)) rest.divides) i.divides));
          residue = subst (λ x. Divides elements (polynomial d) (sub R x (polynomial rho))) (product-stands a inverse product ka i.kept is_product) last.divides;
        }

pub residue-within : (level : ℕ) (a d derived reduced inverse product rho : List Element) → AllWithin level a → AllWithin level d → AllWithin level derived → remainder derived d ≡ Ok reduced →
    modular.inverse element reduced d ≡ Ok (Some inverse) → poly.product element a inverse ≡ Ok product → remainder product d ≡ Ok rho → AllWithin level rho
residue-within level a d derived reduced inverse product rho all_a all_d all_derived e f g h =
    let all_reduced = remainder-within level d derived reduced all_derived all_d e in
    let all_inverse = PolynomialsWithin.inverse-within level reduced d inverse all_reduced all_d f in
    remainder-within level d product rho (PolynomialsWithin.product-within level a inverse product all_a all_inverse g) all_d h
