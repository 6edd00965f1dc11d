-- The reduction begins with f = D(0) + a/n.
use Rattle.std.proofs.Common.{◌≡◌, ℕ, ◌+◌, List, sym, ◌∙◌, ap, subst}
use Rattle.risch_ring.proofs.Derivations as Derivations
use Rattle.risch_ring.proofs.Laws as Laws
use Rattle.risch_mean.specs.Element.{◌+ₑ◌}
use Rattle.risch_mean.specs.ElementField.{elements}
use Rattle.risch_mean.specs.Tower.{derive_in}
use Rattle.risch_level.specs.Levels.{Element}
use Rattle.risch_element_theory.specs.WholeTower.{IsElement, meaning, polynomial, Within}
use Rattle.risch_element_theory.proofs.DerivationTower.{derivation_in}
use Rattle.risch_element_theory.proofs.ElementPolynomials.{element_interprets}
use Rattle.risch_tower.specs.declared.level.Level.{Level}
use Rattle.risch_tower.specs.TowerMeaning.{monomials}
use Rattle.risch_monomial.specs.LevelDerivation.{IsLevelOf}
use Rattle.risch_monomial.proofs.LowestTerms.{parts-product}
use Rattle.risch_hermite.specs.declared.partial.Partial.{Partial}
use Rattle.risch_hermite.specs.HermiteReduction.{start}
use Rattle.risch_hermite.specs.HermiteMeaning.{IsReducedTo}

pub start-reduced : (tower : List Level) (level : ℕ) (f : Element) (begin : Partial × List Element) → begin ≡ start level f → IsLevelOf tower level → IsElement f → Within (level + 1) f →
    IsReducedTo tower level (meaning f) (polynomial begin.1) begin.0
start-reduced tower level f begin begins l v w =
    let d = derive_in (monomials tower) in
    subst (λ (s : Partial × List Element). IsReducedTo tower level (meaning f) (polynomial s.1) s.0) (sym begins)
    (record {
      rest = meaning f;
      product = parts-product level f l.low v w;
      sum = sym (ap (λ y. y +ₑ meaning f) (ap d element_interprets.zero-means ∙ Derivations.derive-zero (derivation_in (monomials tower))) ∙ Laws.zero-add elements.ring (meaning f));
    })
