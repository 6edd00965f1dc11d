-- The field of the first n variables as a type, so that what holds of every field, or of every field with a derivation, can be used at each level of a tower.
--     Subfield n, included      its elements, and as elements of the whole field.  included_injective
--     subfield n      its field structure.  subfield_derivation: with the derivation of a tower
use Rattle.std.specs.Prelude.{◌≡◌, refl, ℕ, List, [], ◌∷◌, map}
use Rattle.std.proofs.Common.{ap}
use mathlib.Core.HLevel.{Σ_prop_path, Discrete, hedberg}
use native.Mathlib.Decide.{map_dec}
use mathlib.Core.Logic.{∥∥₁_prop, ∥∥₁_map, ∥∥₁_elim}
use Rattle.risch_ring.specs.CommRing.{Field, Derivation, RingMap}
use Rattle.risch_mean.proofs.FieldClosure
use Rattle.risch_mean.specs.ElementLaws
use Rattle.risch_mean.specs.ElementFieldLaws
use Rattle.risch_mean.specs.Element.{Element, zero, one, add, mul, neg, inverse, variable, InField, AllInField}
use Rattle.risch_mean.specs.ElementField.{elements}
use Rattle.risch_mean.proofs.DerivationLaws.{derive-add, derive-mul}
use Rattle.risch_mean.specs.Tower.{Tower, derive_in, derivatives, IsTower}
use Rattle.risch_mean.proofs.Levels.{InField-derive_in, transcendental}
use Rattle.risch_mean.specs.Vectors.{AllZero}
use Rattle.risch_mean.specs.Univariate.{value_at}

-- that f lies in the field, as a proposition: which pair shows it does not matter
pub record Subfield (n : ℕ) : Type 0 where
  pub included : Element
  pub lies : ∥ InField n included ∥₁

module _ (n : ℕ) where
  pub included_injective : (f g : Subfield n) → f.included ≡ g.included → f ≡ g
  included_injective f g h =
      let pairs : ◌≡◌ {A = (e : Element) × ∥ InField n e ∥₁} (f.included, f.lies) (g.included, g.lies) = Σ_prop_path (λ e. ∥∥₁_prop) h in
      λ i. record { included = (pairs i).0; lies = (pairs i).1 }

  -- an element of the field, from a pair that shows it
  abbrev pub within : (f : Element) → InField n f → Subfield n
  within f a = record { included = f; lies = ∣ a ∣₁ }

  pub both_lie : {f g k : Element} → (InField n f → InField n g → InField n k) → ∥ InField n f ∥₁ → ∥ InField n g ∥₁ → ∥ InField n k ∥₁
  both_lie h a b = ∥∥₁_elim a ∥∥₁_prop (λ u. ∥∥₁_map b (λ v. h u v))

  unfoldable pub sub_zero : Subfield n
  sub_zero = within zero (FieldClosure.InField-zero n)

  unfoldable pub sub_one : Subfield n
  sub_one = within one (FieldClosure.InField-one n)

  unfoldable pub sub_add : Subfield n → Subfield n → Subfield n
  sub_add f g = record { included = add f.included g.included; lies = both_lie (FieldClosure.InField-add n f.included g.included) f.lies g.lies }

  unfoldable pub sub_mul : Subfield n → Subfield n → Subfield n
  sub_mul f g = record { included = mul f.included g.included; lies = both_lie (FieldClosure.InField-mul n f.included g.included) f.lies g.lies }

  unfoldable pub sub_neg : Subfield n → Subfield n
  sub_neg f = record { included = neg f.included; lies = ∥∥₁_map f.lies (FieldClosure.InField-neg n f.included) }

  unfoldable pub sub_inverse : Subfield n → Subfield n
  sub_inverse f = record { included = inverse f.included; lies = ∥∥₁_map f.lies (FieldClosure.InField-inverse n f.included) }

  -- the operations of the subfield are those of the field
  pub included-zero : sub_zero.included ≡ zero
  unfolding sub_zero
  included-zero = refl

  pub included-one : sub_one.included ≡ one
  unfolding sub_one
  included-one = refl

  pub included-add : (f g : Subfield n) → (sub_add f g).included ≡ add f.included g.included
  unfolding sub_add
  included-add f g = refl

  pub included-mul : (f g : Subfield n) → (sub_mul f g).included ≡ mul f.included g.included
  unfolding sub_mul
  included-mul f g = refl

  pub included-neg : (f : Subfield n) → (sub_neg f).included ≡ neg f.included
  unfolding sub_neg
  included-neg f = refl

  pub included-inverse : (f : Subfield n) → (sub_inverse f).included ≡ inverse f.included
  unfolding sub_inverse
  included-inverse f = refl

  pub sub_discrete : Discrete (Subfield n)
  sub_discrete f g = map_dec (included_injective f g) (ap (λ (h : Subfield n). h.included)) (ElementLaws.discrete f.included g.included)

  pub sub_set : IsSet (Subfield n)
  sub_set = hedberg sub_discrete

  pub sub_add_assoc : (f g h : Subfield n) → sub_add (sub_add f g) h ≡ sub_add f (sub_add g h)
  unfolding sub_add
  sub_add_assoc f g h = included_injective _ _ (ElementFieldLaws.add_assoc f.included g.included h.included)

  pub sub_add_comm : (f g : Subfield n) → sub_add f g ≡ sub_add g f
  unfolding sub_add
  sub_add_comm f g = included_injective _ _ (ElementFieldLaws.add_comm f.included g.included)

  pub sub_add-zero : (f : Subfield n) → sub_add f sub_zero ≡ f
  unfolding sub_add sub_zero
  sub_add-zero f = included_injective _ _ (ElementFieldLaws.add-zero f.included)

  pub sub_add-neg : (f : Subfield n) → sub_add f (sub_neg f) ≡ sub_zero
  unfolding sub_add sub_neg sub_zero
  sub_add-neg f = included_injective _ _ (ElementFieldLaws.add-neg f.included)

  pub sub_mul_assoc : (f g h : Subfield n) → sub_mul (sub_mul f g) h ≡ sub_mul f (sub_mul g h)
  unfolding sub_mul
  sub_mul_assoc f g h = included_injective _ _ (ElementFieldLaws.mul_assoc f.included g.included h.included)

  pub sub_mul_comm : (f g : Subfield n) → sub_mul f g ≡ sub_mul g f
  unfolding sub_mul
  sub_mul_comm f g = included_injective _ _ (ElementFieldLaws.mul_comm f.included g.included)

  pub sub_mul-one : (f : Subfield n) → sub_mul f sub_one ≡ f
  unfolding sub_mul sub_one
  sub_mul-one f = included_injective _ _ (ElementFieldLaws.mul-one f.included)

  pub sub_mul-add : (f g h : Subfield n) → sub_mul f (sub_add g h) ≡ sub_add (sub_mul f g) (sub_mul f h)
  unfolding sub_mul sub_add
  sub_mul-add f g h = included_injective _ _ (ElementFieldLaws.mul-add f.included g.included h.included)

  pub sub_one-ne-zero : ¬ (sub_one ≡ sub_zero)
  unfolding sub_one sub_zero
  sub_one-ne-zero h = ElementFieldLaws.one-ne-zero (ap (λ (f : Subfield n). f.included) h)

  pub sub_mul-inverse : (f : Subfield n) → ¬ (f ≡ sub_zero) → sub_mul f (sub_inverse f) ≡ sub_one
  unfolding sub_mul sub_inverse sub_zero sub_one
  sub_mul-inverse f h = included_injective _ _ (ElementFieldLaws.mul-inverse f.included (λ e. h (included_injective f sub_zero e)))

  abbrev pub subfield : Field (Subfield n)
  subfield = record {
    ring = record {
      zero = sub_zero;
      one = sub_one;
      add = sub_add;
      mul = sub_mul;
      neg = sub_neg;
      is_set = sub_set;
      add_assoc = sub_add_assoc;
      add_comm = sub_add_comm;
      add-zero = sub_add-zero;
      add-neg = sub_add-neg;
      mul_assoc = sub_mul_assoc;
      mul_comm = sub_mul_comm;
      mul-one = sub_mul-one;
      mul-add = sub_mul-add;
    };
    inverse = sub_inverse;
    is_zero = λ f. sub_discrete f sub_zero;
    one-ne-zero = sub_one-ne-zero;
    mul-inverse = sub_mul-inverse;
  }

  unfoldable pub inclusion : RingMap subfield.ring elements.ring
  inclusion = record { apply = λ f. f.included; apply-one = included-one; apply-add = included-add; apply-mul = included-mul }

  -- ---- the derivation of a tower on the subfield
  module _ (tower : Tower) (h : IsTower tower) where
    unfoldable pub sub_derive : Subfield n → Subfield n
    sub_derive f = record { included = derive_in tower f.included; lies = ∥∥₁_map f.lies (InField-derive_in tower n f.included h) }

    pub included-derive : (f : Subfield n) → (sub_derive f).included ≡ derive_in tower f.included
    unfolding sub_derive
    included-derive f = refl

    unfoldable pub subfield_derivation : Derivation subfield.ring
    unfolding sub_derive sub_add sub_mul
    subfield_derivation = record {
      derive = sub_derive;
      derive-add = λ f g. included_injective _ _ (derive-add (derivatives tower) f.included g.included);
      derive-mul = λ f g. included_injective _ _ (derive-mul (derivatives tower) f.included g.included);
    }

-- ---- the next variable is transcendental over the subfield
abbrev pub all_included : (n : ℕ) → List (Subfield n) → List Element
all_included n cs = map (λ f. f.included) cs

all_lie : (n : ℕ) (cs : List (Subfield n)) → ∥ AllInField n (all_included n cs) ∥₁
all_lie n [] = ∣ tt ∣₁
all_lie n (c ∷ cs) = ∥∥₁_elim c.lies ∥∥₁_prop (λ a. ∥∥₁_map (all_lie n cs) (λ b. (a, b)))

AllZero-prop : (cs : List Element) → IsProp (AllZero cs)
AllZero-prop [] = λ x y. refl
AllZero-prop (c ∷ cs) = λ x y. λ i. (ElementFieldLaws.is_set c zero x.0 y.0 i, AllZero-prop cs x.1 y.1 i)

-- a polynomial over the subfield is 0 at the next variable only if its coefficients are 0
pub sub_transcendental : (n : ℕ) (cs : List (Subfield n)) → value_at elements.ring (variable n) (all_included n cs) ≡ zero → AllZero (all_included n cs)
sub_transcendental n cs h = ∥∥₁_elim (all_lie n cs) (AllZero-prop (all_included n cs)) (λ a. transcendental n (all_included n cs) a h)

-- a list of elements of the field is one of the subfield
pub lifted : (n : ℕ) (cs : List Element) → AllInField n cs → (ds : List (Subfield n)) × (all_included n ds ≡ cs)
lifted n [] h = ([], refl)
lifted n (c ∷ cs) h = let rest = lifted n cs h.1 in (within n c h.0 ∷ rest.0, ap (λ (l : List Element). c ∷ l) rest.1)
