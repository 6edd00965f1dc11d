-- The logarithms of residues that are constant, and their sum.
--     constant-residues      the logarithms by the rule from the traces, with the fraction that the first trace is
use Rattle.std.proofs.Common.{◌≡◌, ℕ, ◌+◌, List, [], ◌∷◌, get_or, Ok, ap, sym, ◌∙◌}
use Rattle.risch_frac.specs.Fraction.{Fraction}
use Rattle.risch_mean.specs.Element as mean
use Rattle.risch_mean.specs.Element.{◌+ₑ◌}
use Rattle.risch_polynomial_theory.specs.FractionMeaning.{fraction_meaning}
use Rattle.risch_polynomial_theory.specs.Meaning.{AllValid}
use Rattle.risch_level.specs.Accessors.{as_number}
use Rattle.risch_level.specs.Levels.{Element, element}
use Rattle.risch_element_theory.specs.WholeTower.{IsElement, meaning, Within, AllWithin}
use Rattle.risch_element_theory.proofs.ElementParts.{number-stands}
use Rattle.risch_element_theory.proofs.ElementPolynomials.{element_interprets}
use Rattle.risch_element_theory.proofs.ElementWithin.{zero-element-within}
use Rattle.risch_tower.specs.declared.level.Level.{Level}
use Rattle.risch_tower.specs.Tower.{rate_at}
use Rattle.risch_rootsum.specs.declared.integral.LogPart.{LogPart}
use Rattle.risch_logarithm_rules.specs.Logarithms.{fraction_of, logarithms}
use Rattle.risch_logarithm_link.specs.ResidueLogarithms.{AreResidueLogarithms}
use Rattle.risch_logarithm_link.proofs.RationalModuli.{modulus-same}
use Rattle.risch_logarithm_link.proofs.ResidueDerivatives.{logarithms-mean}
use Rattle.risch_logarithm_link.proofs.ResidueSetting.{IsSetting}
use Rattle.risch_residue_traces.specs.TracesMeaning.{AreResidueTraces}
use Rattle.risch_residue.specs.Residues.{first_trace}
use Rattle.risch_residue.specs.ResiduesMeaning.{surplus, AreLogarithmsOf, AllLogParts}

-- the fraction that an element is
fraction-stands : (e : Element) → IsElement e → Within 0 e → fraction_meaning (fraction_of (as_number 5 e)) ≡ meaning e
fraction-stands e v w = sym (number-stands (fraction_of (as_number 5 e))) ∙ ap (λ (es : List Element). meaning (get_or es 0 element.zero)) (modulus-same (e ∷ []) (v, tt) (w, tt))

first-fraction : (traces : List Element) → AllValid IsElement traces → AllWithin 0 traces → fraction_meaning (fraction_of (as_number 5 (first_trace traces))) ≡ meaning (get_or traces 0 element.zero)
first-fraction [] valid rational = fraction-stands element.zero element_interprets.zero-valid (zero-element-within 0)
first-fraction (p ∷ traces) valid rational = fraction-stands p valid.0 rational.0

pub constant-residues : (tower : List Level) (level : ℕ) (h : Element) (traces : List Element) (logs : List LogPart) (trace : Fraction) → IsSetting tower level h → AreResidueTraces tower level h traces → AllValid IsElement traces
    → logarithms tower level h traces ≡ Ok logs → trace ≡ fraction_of (as_number 5 (first_trace traces)) → AreLogarithmsOf tower level h logs trace × AllLogParts (level + 1) logs
constant-residues tower level h traces logs trace s t valid is trace_is = of_meaning (logarithms-mean tower level h s t.rho traces logs t.equation valid t.fractions t.are t.count is)
  where
    of_meaning : AreResidueLogarithms tower level h (get_or traces 0 element.zero) logs → AreLogarithmsOf tower level h logs trace × AllLogParts (level + 1) logs
    of_meaning m = (
      record {
        plain = m.derivatives.plain;
        plain_are = m.derivatives.plain_are;
        sums = m.derivatives.sums;
        sums_are = m.derivatives.sums_are;
        total = m.derivatives.total ∙ ap (λ (p : mean.Element). meaning h +ₑ surplus (rate_at tower level).kind (meaning (rate_at tower level).eta) p) (sym (ap fraction_meaning trace_is ∙ first-fraction traces valid t.fractions));
      },
      m.parts,
    )
