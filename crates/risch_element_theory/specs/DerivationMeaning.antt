-- What it says that a rule derives the elements of a field, and that a level has the rate of its variable.
use Rattle.std.specs.Prelude.{◌≡◌, ℕ, zero, suc, Ok}
use Rattle.risch_ring.specs.CommRing.{CommRing, Derivation}
use Rattle.risch_mean.specs.Element.{Element}
use Rattle.risch_mean.specs.Tower as towers
use Rattle.risch_mean.specs.Tower.{Tower, kind_of}
use Rattle.risch_field.specs.Checked.{Checked}
use Rattle.risch_derivation.specs.Derivation.{Rates}
use Rattle.risch_derivation.specs.declared.rate.Kind.{Kind}
use Rattle.risch_derivation.specs.declared.rate.Kind.TheVariants.{Primitive, Exponential}
use Rattle.risch_derivation.specs.declared.rate.Rate.{Rate}
use Rattle.risch_element_theory.specs.LevelMeaning.{valid_at, meaning_at}

-- ---- a field and its derivation D
-- Dt = η, or Dt = η·t
abbrev pub HasRate : {A : Type 0} {R : CommRing A} → Derivation R → Kind → A → A → Type 0
HasRate D Primitive η t = D.derive t ≡ η
HasRate {R = R} D Exponential η t = D.derive t ≡ R.mul η t

-- η is valid, and Dt = ⟦η⟧ or Dt = ⟦η⟧·t
pub record IsRate {E A : Type 0} {R : CommRing A} (D : Derivation R) (valid : E → Type 0) (meaning : E → A) (rate : Rate E) (t : A) : Type 0 where
  pub rate-valid : valid rate.eta
  pub rate-means : HasRate D rate.kind (meaning rate.eta) t

-- where the rule gives a value for a valid element e, it is valid and stands for D⟦e⟧
pub record Derives {E A : Type 0} {R : CommRing A} (D : Derivation R) (valid : E → Type 0) (meaning : E → A) (rule : E → Checked E) : Type 0 where
  pub derived-valid : (e f : E) → valid e → rule e ≡ Ok f → valid f
  pub derived-means : (e f : E) → valid e → rule e ≡ Ok f → meaning f ≡ D.derive (meaning e)

-- ---- towers
-- the kind of a level, with the element that η stands for
abbrev pub kind_with : Kind → Element → towers.Kind
kind_with Primitive η = towers.primitive η
kind_with Exponential η = towers.exponential η

-- the rates are those of the tower's levels: Dx = 1, Dt = Da/a for t = log a, Dt = Da·t for t = exp a
abbrev pub AreRatesOf : Tower → (height : ℕ) → Rates height → Type 0
AreRatesOf tower zero rates = Unit {0}
AreRatesOf tower (suc height) rates =
    AreRatesOf tower height rates.0 × valid_at height rates.1.eta × (kind_with rates.1.kind (meaning_at height rates.1.eta) ≡ kind_of tower height)
