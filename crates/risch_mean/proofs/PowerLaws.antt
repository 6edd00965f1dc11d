-- Powers of elements.
use Rattle.std.specs.Prelude.{◌≡◌, ℕ, zero as nat_zero, suc}
use Rattle.std.proofs.Common.{sym, subst, ◌∙◌}
use Rattle.risch_ring.proofs.Laws as Laws
use Rattle.risch_mean.specs.Element.{Element, one, ◌*ₑ◌, InField}
use Rattle.risch_mean.specs.ElementField.{elements, ◌^ₑ◌}
use Rattle.risch_mean.specs.ElementFieldLaws.{mul_comm}
use Rattle.risch_mean.proofs.FieldClosure.{InField-one, InField-mul}

-- f^0 = 1
pub power-zero : (f : Element) → f ^ₑ 0 ≡ one
power-zero f = Laws.power-zero elements.ring f

-- f^1 = f
pub power-one : (f : Element) → f ^ₑ 1 ≡ f
power-one f = Laws.power-one elements.ring f

-- f^(n+1) = f·f^n
pub power-suc : (f : Element) (n : ℕ) → f ^ₑ suc n ≡ f *ₑ f ^ₑ n
power-suc f n = Laws.power-suc elements.ring f n

-- f^(n+1) = f^n·f
pub power-suc_right : (f : Element) (n : ℕ) → f ^ₑ suc n ≡ f ^ₑ n *ₑ f
power-suc_right f n = power-suc f n ∙ mul_comm f (f ^ₑ n)

pub InField-power : (n : ℕ) (f : Element) (m : ℕ) → InField n f → InField n (f ^ₑ m)
InField-power n f nat_zero h = subst (InField n) (sym (power-zero f)) (InField-one n)
InField-power n f (suc m) h = subst (InField n) (sym (power-suc f m)) (InField-mul n f (f ^ₑ m) h (InField-power n f m h))
