-- Where the conditions at the end of a refutation hold, the end is read off the canonical parts of the rest.
--     special-value      the denominator of a reduced element is a power of the variable
--     given-not_constant      the residues are not constant, with the power and the trace that are given
--     end-stands      the parts, and the end
use Rattle.std.proofs.Common.{◌≡◌, ℕ, suc, ◌+◌, List, [], ◌∷◌, map, refl, sym, ◌∙◌, ap, ap₂, subst, arith}
use Rattle.risch_ring.specs.CommRing.{power}
use Rattle.risch_ring.proofs.Laws as Laws
use Rattle.risch_ring.proofs.RingMaps as RingMaps
use Rattle.risch_univariate.specs.Polynomial.{Polynomial, variable as variableₚ}
use Rattle.risch_univariate.specs.PolynomialRing.{polynomials}
use Rattle.risch_univariate.proofs.Evaluation as Evaluation
use Rattle.risch_mean.specs.Element as mean
use Rattle.risch_mean.specs.Element.{variable, level as level_field, InField, AllInField, ◌+ₑ◌, ◌/ₑ◌}
use Rattle.risch_mean.specs.ElementField.{elements, ◌^ₑ◌}
use Rattle.risch_mean.specs.ElementPolynomials.{at_variable}
use Rattle.risch_mean.specs.Chain as chains
use Rattle.risch_mean.specs.Chain.{ShiftAllowed, CanonicalParts, NormalPart, ReadOff}
use Rattle.risch_derivation.specs.declared.rate.Kind.{Kind}
use Rattle.risch_derivation.specs.declared.rate.Kind.TheVariants.{Primitive, Exponential}
use Rattle.risch_polynomial_theory.specs.Meaning.{AllValid}
use Rattle.risch_level.specs.Levels.{Element}
use Rattle.risch_element_theory.specs.DerivationMeaning.{kind_with}
use Rattle.risch_element_theory.specs.WholeTower.{IsElement, meaning, polynomial, Within, AllWithin}
use Rattle.risch_element_theory.proofs.ElementDerivation.{element-lies}
use Rattle.risch_element_theory.proofs.ElementsTranscendence as Transcendence
use Rattle.risch_element_theory.proofs.PartsLaws as Parts
use Rattle.risch_tower.specs.declared.level.Level.{Level}
use Rattle.risch_tower.specs.Tower.{rate_at}
use Rattle.risch_tower.specs.TowerMeaning.{monomials}
use Rattle.risch_monomial.specs.LevelDerivation.{IsLevelOf}
use Rattle.risch_monomial.specs.LevelElements.{at, numerator_at, denominator_at}
use Rattle.risch_monomial.specs.NormalPolynomials.{IsSpecialAt}
use Rattle.risch_monomial.proofs.LevelPolynomials.{at-polynomial}
use Rattle.risch_split.specs.declared.canonical_parts.Canonical.{Canonical}
use Rattle.risch_split.specs.SplittingMeaning.{AreCanonicalParts}
use Rattle.risch_residue_traces.specs.TracesMeaning.{IfNotConstant, AreNotConstant}
use Rattle.risch_residue_traces.specs.declared.traces.Traces.{Traces}
use Rattle.risch_residue_traces.specs.declared.traces.Traces.TheVariants.{Constant, NotConstant}
use Rattle.risch_cert.specs.declared.chain.End.{End}
use Rattle.risch_cert.specs.declared.chain.End.TheVariants.{Residue}
use Rattle.risch_chain_end.specs.EndMeaning.{end_of, IsEndOf, AreGivenBy, IsReadOff}

-- ---- the reduced part
-- t^e at the level
at-power : (level e : ℕ) → at level (power (polynomials elements) (variableₚ elements) e) ≡ variable level ^ₑ e
at-power level e =
    RingMaps.apply-power (Evaluation.evaluation elements elements.ring (RingMaps.identity_map elements.ring) (variable level)) (variableₚ elements) e
    ∙ ap (λ x. x ^ₑ e) (Evaluation.value-variable elements elements.ring (RingMaps.identity_map elements.ring) (variable level))

-- the denominator of a reduced element is t^shift
record IsShift (level : ℕ) (kind : Kind) (η : mean.Element) (q : Polynomial elements) : Type 0 where
  shift : ℕ
  allowed : ShiftAllowed (kind_with kind η) shift
  value : at level q ≡ variable level ^ₑ shift

special-value : (level : ℕ) (kind : Kind) (η : mean.Element) (q : Polynomial elements) → IsSpecialAt kind q → IsShift level kind η q
special-value level Primitive η q is = record { shift = 0; allowed = refl; value = ap (at level) is ∙ Transcendence.at-one elements (variable level) ∙ sym (Laws.power-zero elements.ring (variable level)) }
special-value level Exponential η q is = record { shift = is.0; allowed = tt; value = ap (at level) is.1 ∙ at-power level is.0 }

all-in_field : (n : ℕ) (s : List Element) → AllValid IsElement s → AllWithin n s → AllInField n (map meaning s)
all-in_field n [] all within = tt
all-in_field n (c ∷ s) all within = (element-lies n c all.0 within.0, all-in_field n s all.1 within.1)

-- ---- the residues
pub given-not_constant : (tower : List Level) (level : ℕ) (h : Element) (i : ℕ) (p : Element) (found : Traces) → AreGivenBy i p found → IfNotConstant found (AreNotConstant tower level h) → AreNotConstant tower level h i p
given-not_constant tower level h i p (Constant traces) given are = absurd given
given-not_constant tower level h i p (NotConstant other next) given are =
    record { below = are.below; denominator = are.denominator; are = rw (given.0, given.1) are.are }

-- ---- the end
residue-stands : (tower : List Level) (level : ℕ) (f : Element) (parts : Canonical) (i : ℕ) (p : Element) → IsLevelOf tower level → IsElement f → Within (level + 1) f →
    IsElement parts.reduced → Within (level + 1) parts.reduced → IsElement parts.normal → Within (level + 1) parts.normal → AreCanonicalParts tower level f parts → AreNotConstant tower level parts.normal i p →
    IsEndOf (monomials tower) level (meaning f) (chains.residue i (meaning p))
residue-stands tower level f parts i p at_level v w reduced-v reduced-w normal-v normal-w are residues =
    let up : level + 1 ≡ suc level = omega arith in
    let q = denominator_at level parts.reduced in
    let s = special-value level (rate_at tower level).kind (meaning (rate_at tower level).eta) (polynomial q) are.reduced in
    record {
      in_level = subst (λ (n : ℕ). InField n (meaning f)) up (element-lies (level + 1) f v w);
      us = map meaning (numerator_at level parts.reduced);
      shift = s.shift;
      shift_allowed = subst (λ kind. ShiftAllowed kind s.shift) at_level.kind_is s.allowed;
      a = map meaning (numerator_at level parts.normal);
      d = residues.below;
      parts =
          record {
            below_us =
                all-in_field level (numerator_at level parts.reduced) (Parts.numerator-is_polynomial level parts.reduced at_level.low reduced-v).all_valid
                (Parts.numerator-all_within level parts.reduced at_level.low reduced-v reduced-w);
            is =
                are.sum
                ∙ ap₂ mean.add
                (Parts.parts-stand level parts.reduced at_level.low reduced-v reduced-w
                ∙ ap (λ x. at_variable level (map meaning (numerator_at level parts.reduced)) /ₑ x) (sym (at-polynomial level q) ∙ s.value))
                (Parts.parts-stand level parts.normal at_level.low normal-v normal-w
                ∙ ap (λ m. at_variable level (map meaning (numerator_at level parts.normal)) /ₑ at_variable level m) residues.denominator);
          };
      normal = NormalPart.simple residues.are.part;
      read_off = ReadOff.residue_read residues.are;
    }

pub end-stands : (tower : List Level) (level : ℕ) (f : Element) (parts : Canonical) (end : End) → IsLevelOf tower level → IsElement f → Within (level + 1) f →
    IsElement parts.reduced → Within (level + 1) parts.reduced → IsElement parts.normal → Within (level + 1) parts.normal → AreCanonicalParts tower level f parts → IsReadOff tower level parts.normal end →
    IsEndOf (monomials tower) level (meaning f) (end_of end)
end-stands tower level f parts (Residue i p) at_level v w reduced-v reduced-w normal-v normal-w are residues =
    residue-stands tower level f parts i p at_level v w reduced-v reduced-w normal-v normal-w are residues
