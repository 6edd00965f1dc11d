-- The test of the levels tells whether the monomials are the same.
--     same_levels-lengths      lists of different lengths are not the same
--     same_levels-told      two towers are the same where their monomials stand for the same
use Rattle.std.specs.Prelude.{◌&&◌, ◌↔◌, IsTrue}
use Rattle.std.proofs.Common.{◌≡◌, ℕ, suc, Bool, true, false, List, [], ◌∷◌, length, refl, ap, ap₂, arith}
use Rattle.std.proofs.lemmas.Bool.{and_parts, and_from}
use Rattle.risch_element_theory.specs.WholeTower.{IsElement}
use Rattle.risch_element_theory.proofs.ElementLaws.{same-told}
use Rattle.risch_mean.specs.Tower as towers
use Rattle.risch_mean.specs.Tower.{log, exp}
use Rattle.risch_tower.specs.declared.level.Level.{Level}
use Rattle.risch_tower.specs.declared.level.Monomial.{Monomial}
use Rattle.risch_tower.specs.declared.level.Monomial.TheVariants.{Log, Exp}
use Rattle.risch_tower.specs.Tower.{argument, same_monomial, same_levels}
use Rattle.risch_tower.specs.TowerMeaning.{monomial_of, monomials, AreLevels}

and-false : (b : Bool) → b && false ≡ false
and-false true = refl
and-false false = refl

pub same_levels-lengths : (left right : List Level) → (length left ≡ length right → ⊥) → same_levels left right ≡ false
same_levels-lengths [] [] h = absurd (h refl)
same_levels-lengths [] (m ∷ right) h = refl
same_levels-lengths (l ∷ left) [] h = refl
same_levels-lengths (l ∷ left) (m ∷ right) h = rw (same_levels-lengths left right (λ e. h (omega arith))) (and-false (same_monomial l.monomial m.monomial))

-- ---- what the test tells
same_monomial-told : (l m : Monomial) → IsElement (argument l) → IsElement (argument m) → IsTrue (same_monomial l m) ↔ (monomial_of l ≡ monomial_of m)
same_monomial-told (Log a) (Log b) v w = let t = same-told a b v w in (λ s. ap log (t.0 s), λ e. t.1 (cc))
same_monomial-told (Log a) (Exp b) v w = (λ s. cc, λ e. cc)
same_monomial-told (Exp a) (Log b) v w = (λ s. cc, λ e. cc)
same_monomial-told (Exp a) (Exp b) v w = let t = same-told a b v w in (λ s. ap exp (t.0 s), λ e. t.1 (cc))

pub same_levels-told : (n : ℕ) (left right : List Level) → AreLevels n left → AreLevels n right → IsTrue (same_levels left right) ↔ (monomials left ≡ monomials right)
same_levels-told n [] [] v w = (λ s. refl, λ e. refl)
same_levels-told n [] (m ∷ right) v w = (λ s. cc, λ e. cc)
same_levels-told n (l ∷ left) [] v w = (λ s. cc, λ e. cc)
same_levels-told n (l ∷ left) (m ∷ right) v w =
    let first = same_monomial-told l.monomial m.monomial v.0.argument_normal w.0.argument_normal in
    let others = same_levels-told (suc n) left right v.1 w.1 in (
      λ s. let both = and_parts (same_monomial l.monomial m.monomial) (same_levels left right) s in ap₂ (λ x (xs : towers.Tower). x ∷ xs) (first.0 both.0) (others.0 both.1),
      λ e. and_from (same_monomial l.monomial m.monomial) (same_levels left right) (first.1 (cc)) (others.1 (cc)),
    )
