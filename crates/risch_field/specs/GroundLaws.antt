-- Laws of the operations on fractions: what they keep of a negative, and the whole numbers 0 and 1.
use Rattle.std.specs.Prelude.{◌≡◌, ℤ, pos, negsuc, zero, suc, neg_ℤ, false, refl}
use Rattle.std.specs.Ordering.{int_eq}
use Rattle.std.specs.Cmp.{signed_Decides}
use Rattle.std.proofs.lemmas.Bool.{false_from_ne_true}
use Rattle.std.proofs.Common.{sym, ◌∙◌}
use Rattle.risch_field.specs.Ops.{KeepsNegatives, HasWholes}
use Rattle.risch_field.specs.Ground.{ground}

int_eq-false : (x y : ℤ) → (x ≡ y → ⊥) → int_eq x y ≡ false
int_eq-false x y ne = false_from_ne_true (int_eq x y) (λ t. ne ((signed_Decides x y).0 t))

zero-neg_ℤ : (z : ℤ) → int_eq (neg_ℤ z) (pos 0) ≡ int_eq z (pos 0)
zero-neg_ℤ (pos zero) = refl
zero-neg_ℤ (pos (suc n)) = int_eq-false (negsuc n) (pos 0) (λ e. cc) ∙ sym (int_eq-false (pos (suc n)) (pos 0) (λ e. cc))
zero-neg_ℤ (negsuc n) = int_eq-false (pos (suc n)) (pos 0) (λ e. cc) ∙ sym (int_eq-false (negsuc n) (pos 0) (λ e. cc))

pub ground_keeps_negatives : KeepsNegatives ground
ground_keeps_negatives = record { zero_kept = λ p. zero-neg_ℤ p.num; weight_kept = λ p. refl }

pub ground_has_wholes : HasWholes ground
ground_has_wholes = record { whole-zero = refl; whole-one = refl }
