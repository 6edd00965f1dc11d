-- The levels of a tower are those of the tower that their monomials stand for, and so they are with one level more.
--     are-tower      the monomials are a tower
--     level-there, kind-there      the level at a place
--     no-levels      Q(x)
--     more-levels      the levels with one more, which is that of a monomial above the tower
use Rattle.std.proofs.Common.{◌≡◌, ℕ, zero, suc, ◌+◌, ◌-◌, ◌<◌, ◌≤◌, get_or, List, [], ◌∷◌, ◌++◌, length, refl, sym, ◌∙◌, ap, arith, subst}
use Rattle.std.proofs.lemmas.List.{length-map, map_push}
use Rattle.risch_mean.specs.Element.{InField}
use Rattle.risch_mean.specs.Tower as towers
use Rattle.risch_mean.specs.Tower.{ArgumentAllowed, ArgumentsBelow, IsTower, kind_by, kind_of}
use Rattle.risch_mean.proofs.LongerTowers.{kind-kept, kind-added}
use Rattle.risch_element_theory.specs.DerivationMeaning.{kind_with}
use Rattle.risch_element_theory.specs.ElementDerivation.{element_adjoined, AreElementRatesOf}
use Rattle.risch_element_theory.specs.WholeTower.{IsElement, meaning, Within}
use Rattle.risch_element_theory.proofs.ElementLaws.{nonzero-stands}
use Rattle.risch_element_theory.proofs.ElementDerivation.{element-lies, first-rates}
use Rattle.risch_tower.specs.declared.level.Level.{Level}
use Rattle.risch_tower.specs.declared.level.Monomial.{Monomial}
use Rattle.risch_tower.specs.declared.level.Monomial.TheVariants.{Log, Exp}
use Rattle.risch_tower.specs.Tower.{argument, rates_of}
use Rattle.risch_tower.proofs.RefusalSteps.{rates_of_one_more}
use Rattle.risch_tower.specs.TowerMeaning.{monomial_of, monomials, IsAllowed, IsLevel, AreLevels, HaveKinds, AreTower}

-- ---- the tower of the monomials
argument-stands : (m : Monomial) → towers.argument (monomial_of m) ≡ meaning (argument m)
argument-stands (Log a) = refl
argument-stands (Exp a) = refl

monomial-allowed : (m : Monomial) → IsElement (argument m) → IsAllowed m → ArgumentAllowed (monomial_of m)
monomial-allowed (Log a) v some = nonzero-stands a v some
monomial-allowed (Exp a) v some = tt

-- the argument lies in the field of the n variables
pub argument-lies : (n : ℕ) (m : Monomial) → IsElement (argument m) → Within n (argument m) → InField n (towers.argument (monomial_of m))
argument-lies n m v w = subst (InField n) (sym (argument-stands m)) (element-lies n (argument m) v w)

levels-below : (n : ℕ) (levels : List Level) → AreLevels n levels → ArgumentsBelow n (monomials levels)
levels-below n [] h = tt
levels-below n (l ∷ levels) h =
    (argument-lies n l.monomial h.0.argument_normal h.0.argument_within, levels-below (suc n) levels h.1, monomial-allowed l.monomial h.0.argument_normal h.0.allowed)

pub are-tower : (levels : List Level) → AreTower levels → IsTower (monomials levels)
are-tower levels h = levels-below 1 levels h.are_levels

pub length-monomials : (levels : List Level) → length (monomials levels) ≡ length levels
length-monomials levels = length-map levels (λ l. monomial_of l.monomial)

-- ---- the level at a place
pub level-there : (n : ℕ) (levels : List Level) (i : ℕ) (l : Level) → AreLevels n levels → i < length levels → l ≡ get_or levels i l → IsLevel (n + i) l
level-there n [] i l h k e = absurd (omega arith)
level-there n (m ∷ levels) zero l h k e = subst (λ (j : ℕ). IsLevel j l) (omega arith) (subst (IsLevel n) (sym e) h.0)
level-there n (m ∷ levels) (suc i) l h k e = subst (λ (j : ℕ). IsLevel j l) (omega arith) (level-there (suc n) levels i l h.1 (omega arith) e)

pub kind-there : (tower : towers.Tower) (n : ℕ) (levels : List Level) (i : ℕ) (l : Level) → HaveKinds tower n levels → i < length levels → l ≡ get_or levels i l →
    kind_with l.rate.kind (meaning l.rate.eta) ≡ kind_of tower (n + i)
kind-there tower n [] i l h k e = absurd (omega arith)
kind-there tower n (m ∷ levels) zero l h k e =
    let here : kind_with l.rate.kind (meaning l.rate.eta) ≡ kind_of tower n = rw e h.0 in
    here ∙ ap (kind_of tower) (omega arith)
kind-there tower n (m ∷ levels) (suc i) l h k e = kind-there tower (suc n) levels i l h.1 (omega arith) e ∙ ap (kind_of tower) (omega arith)

-- ---- one level more
pub monomials-more : (levels : List Level) (l : Level) → monomials (levels ++ l ∷ []) ≡ monomials levels ++ monomial_of l.monomial ∷ []
monomials-more levels l = map_push (λ l. monomial_of l.monomial) levels l

levels-more : (n : ℕ) (levels : List Level) (l : Level) → AreLevels n levels → IsLevel (n + length levels) l → AreLevels n (levels ++ l ∷ [])
levels-more n [] l h k = (subst (λ (i : ℕ). IsLevel i l) (omega arith) k, tt)
levels-more n (m ∷ levels) l h k = (h.0, levels-more (suc n) levels l h.1 (subst (λ (i : ℕ). IsLevel i l) (omega arith) k))

kinds-kept : (tower : towers.Tower) (m : towers.Monomial) → IsTower tower → (n : ℕ) (levels : List Level) → n + length levels ≤ suc (length tower) → HaveKinds tower n levels → HaveKinds (tower ++ m ∷ []) n levels
kinds-kept tower m t n [] l h = tt
kinds-kept tower m t n (k ∷ levels) l h =
    (h.0 ∙ sym (kind-kept tower m n t (λ e. omega arith)), kinds-kept tower m t (suc n) levels (omega arith) h.1)

kinds-more : (tower : towers.Tower) (n : ℕ) (levels : List Level) (l : Level) → HaveKinds tower n levels → kind_with l.rate.kind (meaning l.rate.eta) ≡ kind_of tower (n + length levels) → HaveKinds tower n (levels ++ l ∷ [])
kinds-more tower n [] l h k = (k ∙ ap (kind_of tower) (omega arith), tt)
kinds-more tower n (m ∷ levels) l h k = (h.0, kinds-more tower (suc n) levels l h.1 (k ∙ ap (kind_of tower) (omega arith)))

-- ---- the towers
pub no-levels : AreTower []
no-levels = record { are_levels = tt; have_kinds = tt; are_rates = first-rates }

-- the level is that of a monomial above the tower
pub record IsNext (levels : List Level) (l : Level) : Type 0 where
  pub is_level : IsLevel (suc (length levels)) l
  pub has_kind : kind_with l.rate.kind (meaning l.rate.eta) ≡ kind_by (monomials levels) (monomial_of l.monomial)
  pub are_rates : AreElementRatesOf (monomials levels ++ monomial_of l.monomial ∷ []) (element_adjoined (rates_of levels) (3 - length (monomials levels)) l.rate)

pub more-levels : (levels : List Level) (l : Level) → AreTower levels → IsNext levels l → AreTower (levels ++ l ∷ [])
more-levels levels l h next = record {
  are_levels = levels-more 1 levels l h.are_levels (subst (λ (n : ℕ). IsLevel n l) (omega arith) next.is_level);
  have_kinds = subst (λ (ms : towers.Tower). HaveKinds ms 1 (levels ++ l ∷ [])) (sym (monomials-more levels l)) kinds;
  are_rates = rw (monomials-more levels l, rates_of_one_more levels l, ← length-monomials levels) next.are_rates;
}
  where
    tower : towers.Tower
    tower = monomials levels

    kinds : HaveKinds (monomials levels ++ monomial_of l.monomial ∷ []) 1 (levels ++ l ∷ [])
    kinds =
        let lies : InField (suc (length (monomials levels))) (towers.argument (monomial_of l.monomial)) =
        subst (λ (n : ℕ). InField (suc n) (towers.argument (monomial_of l.monomial))) (sym (length-monomials levels)) (argument-lies (suc (length levels)) l.monomial next.is_level.argument_normal next.is_level.argument_within) in
        let place : suc (length (monomials levels)) ≡ 1 + length levels = omega (arith, length-monomials levels) in
        kinds-more (monomials levels ++ monomial_of l.monomial ∷ []) 1 levels l
        (kinds-kept (monomials levels) (monomial_of l.monomial) (are-tower levels h) 1 levels (omega (arith, length-monomials levels)) h.have_kinds)
        (next.has_kind ∙ sym (kind-added (monomials levels) (monomial_of l.monomial) lies) ∙ ap (kind_of (monomials levels ++ monomial_of l.monomial ∷ [])) place)
