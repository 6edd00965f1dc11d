-- The variable t of a level is transcendental over the field K of the elements below the level.
use Rattle.std.specs.Prelude.{◌≡◌, ℕ, zero, suc, List, [], ◌∷◌, get_or}
use Rattle.std.proofs.Common.{refl, sym, ap, ◌∙◌}
use Rattle.risch_univariate.specs.Polynomial.{Polynomial, of_list}
use Rattle.risch_univariate.specs.PolynomialLaws.{polynomial_ext, coefficient-of_list, of_list-coefficients}
use Rattle.risch_univariate.specs.PolynomialRing.{polynomials}
use Rattle.risch_univariate.proofs.Coefficients.{coefficient-zero}
use Rattle.risch_extension.specs.PolynomialMap.{map_polynomial}
use Rattle.risch_extension.proofs.PolynomialMaps.{value-map_polynomial}
use Rattle.risch_mean.specs.Element as mean
use Rattle.risch_mean.specs.Element.{variable}
use Rattle.risch_mean.specs.ElementField.{elements}
use Rattle.risch_mean.specs.Vectors.{AllZero}
use Rattle.risch_mean.proofs.Subfield.{subfield, inclusion, all_included, sub_transcendental}
use Rattle.risch_element_theory.proofs.ElementsTranscendence as Transcendence
use Rattle.risch_logarithm_theory.proofs.FractionEvaluation.{IsTranscendentalOver}
use Rattle.risch_logarithm_theory.proofs.MappedPolynomials.{map-of_list, zero_of_map}

item-zero : (cs : List mean.Element) → AllZero cs → (i : ℕ) → get_or cs i mean.zero ≡ mean.zero
item-zero [] h i = refl
item-zero (c ∷ cs) h zero = h.0
item-zero (c ∷ cs) h (suc i) = item-zero cs h.1 i

-- a list of zeros is the polynomial 0
zero_of_list : (cs : List mean.Element) → AllZero cs → of_list elements cs ≡ (polynomials elements).zero
zero_of_list cs h = polynomial_ext elements (of_list elements cs) (polynomials elements).zero (λ i. coefficient-of_list elements cs i ∙ item-zero cs h i ∙ sym (coefficient-zero elements i))

-- the polynomial over all elements has the included coefficients
included-coefficients : (level : ℕ) (p : Polynomial (subfield level)) → map_polynomial (subfield level) elements (inclusion level) p ≡ of_list elements (all_included level p.coefficients)
unfolding inclusion
included-coefficients level p =
    ap (map_polynomial (subfield level) elements (inclusion level)) (sym (of_list-coefficients (subfield level) p)) ∙ map-of_list (subfield level) elements (inclusion level) p.coefficients

-- p(t) ≠ 0 for p ≠ 0 in K[t]
pub variable_transcendental : (level : ℕ) → IsTranscendentalOver (subfield level) elements (inclusion level) (variable level)
variable_transcendental level p n e =
    let m = map_polynomial (subfield level) elements (inclusion level) in
    let cs = all_included level p.coefficients in
    let t = variable level in
    let at_zero = sym (Transcendence.at-of_list elements t cs) ∙ ap (Transcendence.at elements t) (sym (included-coefficients level p)) ∙ value-map_polynomial (subfield level) elements (inclusion level) t p ∙ e in
    n (zero_of_map (subfield level) elements (inclusion level) p (included-coefficients level p ∙ zero_of_list cs (sub_transcendental level p.coefficients at_zero)))
