-- What the public calls say of the single levels of a tower makes their list the levels of a tower.
--     place-of      the item at a place of a list
--     one_more-level      the levels up to a place, with the level there
use Rattle.std.specs.Prelude.{slice_get, IfSome}
use Rattle.std.proofs.Common.{◌≡◌, ℕ, zero, suc, ◌+◌, ◌-◌, ◌<◌, ◌≤◌, Bool, true, false, get_or, take, List, [], ◌∷◌, ◌++◌, Some, length, refl, sym, ◌∙◌, ap, arith, subst}
use Rattle.std.proofs.lemmas.List.{length-take-le}
use Rattle.risch_mean.specs.Element.{InField, ◌/ₑ◌}
use Rattle.risch_mean.specs.Tower as towers
use Rattle.risch_mean.specs.Tower.{ArgumentAllowed, ArgumentsBelow, IsTower, InTower, log, exp, derive_in, kind_by, kind_at, kind_of}
use Rattle.risch_mean.proofs.LongerTowers.{derive_in-longer}
use Rattle.risch_level.specs.Levels.{Element, element}
use Rattle.risch_derivation.specs.declared.rate.Rate.{Rate}
use Rattle.risch_element_theory.specs.DerivationMeaning.{kind_with}
use Rattle.risch_element_theory.specs.ElementDerivation.{element_adjoined, AreElementRatesOf}
use Rattle.risch_element_theory.specs.WholeTower.{IsElement, meaning, Within}
use Rattle.risch_element_theory.proofs.DerivationWhole.{rates-adjoined}
use Rattle.risch_element_theory.proofs.ElementLaws.{zero-told}
use Rattle.risch_tower.specs.declared.level.Level.{Level}
use Rattle.risch_tower.specs.declared.level.Monomial.{Monomial}
use Rattle.risch_tower.specs.declared.level.Monomial.TheVariants.{Log, Exp}
use Rattle.risch_tower.specs.Tower.{argument, rate_at, rates_of}
use Rattle.risch_tower.specs.TowerMeaning.{monomial_of, monomials, IsAllowed, AreTower}
use Rattle.risch_tower.proofs.LevelPlaces.{rate-there}
use Rattle.risch_tower.proofs.TowerLevels.{are-tower, argument-lies, length-monomials, more-levels}

-- ---- the item at a place of a list
pub record IsPlace (X : Type 0) (xs : List X) (k : ℕ) : Type 0 where
  pub item : X
  pub after : List X
  pub split : xs ≡ take k xs ++ item ∷ after
  pub more : take (suc k) xs ≡ take k xs ++ item ∷ []
  pub got : slice_get xs k ≡ Some item
  pub there : item ≡ get_or xs k item

pub place-of : {X : Type 0} (xs : List X) (k : ℕ) → k < length xs → IsPlace X xs k
place-of [] k l = absurd (omega (arith, l))
place-of (x ∷ xs) zero l = record { item = x; after = xs; split = refl; more = refl; got = refl; there = refl }
place-of (x ∷ xs) (suc k) l =
    let h = place-of xs k (omega (arith, l)) in
    record { item = h.item; after = h.after; split = ap (λ ys. x ∷ ys) h.split; more = ap (λ ys. x ∷ ys) h.more; got = h.got; there = h.there }

-- ---- a monomial among those of a tower
allowed-there : (n : ℕ) (before : towers.Tower) (m : towers.Monomial) (after : towers.Tower) → ArgumentsBelow n (before ++ m ∷ after) → ArgumentAllowed m
allowed-there n [] m after h = h.2
allowed-there n (l ∷ before) m after h = allowed-there (suc n) before m after h.1

monomial-allowed : (m : Monomial) → IsElement (argument m) → ArgumentAllowed (monomial_of m) → IsAllowed m
monomial-allowed (Log a) v h = by (element.is_zero a) refl
  where
    by : (z : Bool) → element.is_zero a ≡ z → element.is_zero a ≡ false
    by true e = absurd (h ((zero-told a v).0 e))
    by false e = e
monomial-allowed (Exp a) v h = tt

kind_at-place : (tower before : towers.Tower) (m : towers.Monomial) (after : towers.Tower) → kind_at tower (before ++ m ∷ after) (length before) ≡ kind_by tower m
kind_at-place tower [] m after = refl
kind_at-place tower (l ∷ before) m after = kind_at-place tower before m after

kind_by-longer : (before : towers.Tower) (m : towers.Monomial) (after : towers.Tower) → InTower before (towers.argument m) → kind_by (before ++ m ∷ after) m ≡ kind_by before m
kind_by-longer before (log a) after h = ap (λ d. towers.primitive (d /ₑ a)) (derive_in-longer before (log a ∷ after) a h)
kind_by-longer before (exp a) after h = ap towers.exponential (derive_in-longer before (exp a ∷ after) a h)

monomials-append : (before after : List Level) → monomials (before ++ after) ≡ monomials before ++ monomials after
monomials-append [] after = refl
monomials-append (l ∷ before) after = ap (λ ms. monomial_of l.monomial ∷ ms) (monomials-append before after)

-- ---- the levels up to one, with it
-- what is said of the level l that stands on those before
pub record IsLevelAbove (tower : List Level) (n : ℕ) (l : Level) : Type 0 where
  pub argument_normal : IsElement (argument l.monomial)
  pub argument_within : Within n (argument l.monomial)
  pub eta_normal : IsElement l.rate.eta
  pub eta_within : Within n l.rate.eta
  pub has_kind : kind_with l.rate.kind (meaning l.rate.eta) ≡ kind_of (monomials tower) n

module _ (before : List Level) (l : Level) (after : List Level) (is_tower : IsTower (monomials (before ++ l ∷ after))) (low : length before < 4) (is : IsLevelAbove (before ++ l ∷ after) (suc (length before)) l) (h : AreTower before) where
  whole : monomials (before ++ l ∷ after) ≡ monomials before ++ monomial_of l.monomial ∷ monomials after
  whole = monomials-append before (l ∷ after)

  lies : InTower (monomials before) (towers.argument (monomial_of l.monomial))
  lies = subst (λ (n : ℕ). InField (suc n) (towers.argument (monomial_of l.monomial))) (sym (length-monomials before)) (argument-lies (suc (length before)) l.monomial is.argument_normal is.argument_within)

  allowed : IsAllowed l.monomial
  allowed = monomial-allowed l.monomial is.argument_normal (allowed-there 1 (monomials before) (monomial_of l.monomial) (monomials after) (subst IsTower whole is_tower))

  kind : kind_with l.rate.kind (meaning l.rate.eta) ≡ kind_by (monomials before) (monomial_of l.monomial)
  kind =
      is.has_kind ∙ ap (λ (t : towers.Tower). kind_of t (suc (length before))) whole
      ∙ ap (kind_at (monomials before ++ monomial_of l.monomial ∷ monomials after) (monomials before ++ monomial_of l.monomial ∷ monomials after)) (sym (length-monomials before))
      ∙ kind_at-place (monomials before ++ monomial_of l.monomial ∷ monomials after) (monomials before) (monomial_of l.monomial) (monomials after)
      ∙ kind_by-longer (monomials before) (monomial_of l.monomial) (monomials after) lies

  rates : AreElementRatesOf (monomials before ++ monomial_of l.monomial ∷ []) (element_adjoined (rates_of before) (3 - length (monomials before)) l.rate)
  unfolding IsElement meaning Within element_adjoined AreElementRatesOf
  rates =
      let same = length-monomials before in
      let place : suc (length before) ≡ suc (length (monomials before)) = omega (arith, same) in
      rates-adjoined (monomials before) (monomial_of l.monomial) (are-tower before h) lies 5 (rates_of before) (3 - length (monomials before)) l.rate (omega (arith, same, low))
      (record { rate-valid = is.eta_normal; rate-within = subst (λ (n : ℕ). Within n l.rate.eta) place is.eta_within; rate-kind = kind }) h.are_rates

  pub one_more-level : AreTower (before ++ l ∷ [])
  one_more-level = more-levels before l h (record {
    is_level = record { argument_normal = is.argument_normal; argument_within = is.argument_within; allowed = allowed; eta_within = is.eta_within };
    has_kind = kind;
    are_rates = rates;
  })

-- ---- by places
pub level-so_far : (tower : List Level) (k n : ℕ) → n ≡ k + 1 → IsTower (monomials tower) → length tower ≤ 4 → k < length tower → (monomial : Monomial) (eta : Element)
    → IfSome (slice_get tower (n - 1)) (λ it. monomial ≡ it.monomial) → IsElement (argument monomial) → Within n (argument monomial)
    → eta ≡ (rate_at tower n).eta → IsElement eta → Within n eta → kind_with (rate_at tower n).kind (meaning eta) ≡ kind_of (monomials tower) n
    → AreTower (take k tower) → AreTower (take n tower)
level-so_far tower k n next is_tower low there monomial eta value normal within eta_is eta_normal eta_within means h = at (place-of tower k there)
  where
    at : IsPlace Level tower k → AreTower (take n tower)
    at p =
        let size : length (take k tower) ≡ k = length-take-le k tower (omega (arith, there)) in
        let place : k ≡ n - 1 = omega (arith, next) in
        let rate : p.item.rate ≡ rate_at tower n = rate-there tower n p.item (omega (arith, next)) (omega (arith, there, next)) (subst (λ (j : ℕ). p.item ≡ get_or tower j p.item) place p.there) in
        let monomial_is : monomial ≡ p.item.monomial = subst (λ o. IfSome o (λ it. monomial ≡ it.monomial)) (ap (slice_get tower) (sym place) ∙ p.got) value in
        let above : n ≡ suc (length (take k tower)) = omega (arith, size, next) in
        let eta_at : eta ≡ p.item.rate.eta = eta_is ∙ ap (λ (r : Rate Element). r.eta) (sym rate) in
        let last : suc k ≡ n = omega (arith, next) in
        subst (λ (j : ℕ). AreTower (take j tower)) last
        (subst AreTower (sym p.more)
        (one_more-level (take k tower) p.item p.after (subst (λ (t : List Level). IsTower (monomials t)) p.split is_tower) (omega (arith, size, there, low))
        (record {
          argument_normal = subst (λ (m : Monomial). IsElement (argument m)) monomial_is normal;
          argument_within = subst (λ (j : ℕ). Within j (argument p.item.monomial)) above (subst (λ (m : Monomial). Within n (argument m)) monomial_is within);
          eta_normal = subst IsElement eta_at eta_normal;
          eta_within = subst (λ (j : ℕ). Within j p.item.rate.eta) above (subst (Within n) eta_at eta_within);
          has_kind =
              ap (λ (r : Rate Element). kind_with r.kind (meaning p.item.rate.eta)) rate
              ∙ ap (λ (e : Element). kind_with (rate_at tower n).kind (meaning e)) (sym eta_at) ∙ means
              ∙ ap (λ (t : List Level). kind_of (monomials t) n) p.split
              ∙ ap (kind_of (monomials (take k tower ++ p.item ∷ p.after))) above;
        }) h))
