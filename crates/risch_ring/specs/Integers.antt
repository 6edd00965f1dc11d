-- ℤ as a commutative ring.
use Rattle.std.specs.Prelude.{◌≡◌, ℕ, zero, suc, ℤ, pos, negsuc, ◌+ℤ◌, ◌*ℤ◌, neg_ℤ}
use Rattle.std.proofs.Common.{sym, ap, ap₂, ◌∙◌}
use lib.IntN.{ℤ_set, pred_ℤ, suc_ℤ-+ℤ, pred_ℤ-+ℤ, suc_ℤ-*ℤ, pred_ℤ-*ℤ, +ℤ_assoc, +ℤ_comm, +ℤ_idl, +ℤ_idr, +ℤ_invr, *ℤ_comm, *ℤ-one, zero-*ℤ, one}
use Rattle.risch_ring.specs.CommRing.{CommRing}

-- y + z + w = y + w + z
ints_add_right_comm : (y z w : ℤ) → y +ℤ z +ℤ w ≡ y +ℤ w +ℤ z
ints_add_right_comm y z w = +ℤ_assoc y z w ∙ ap (λ a. y +ℤ a) (+ℤ_comm z w) ∙ sym (+ℤ_assoc y w z)

pub ints_add-mul : (x y z : ℤ) → (x +ℤ y) *ℤ z ≡ x *ℤ z +ℤ y *ℤ z
ints_add-mul (pos zero) y z = ap (λ a. a *ℤ z) (+ℤ_idl y) ∙ sym (+ℤ_idl (y *ℤ z)) ∙ ap (λ a. a +ℤ y *ℤ z) (sym (zero-*ℤ z))
ints_add-mul (pos (suc n)) y z =
    ap (λ a. a *ℤ z) (suc_ℤ-+ℤ (pos n) y) ∙ suc_ℤ-*ℤ (pos n +ℤ y) z ∙ ap (λ a. a +ℤ z) (ints_add-mul (pos n) y z)
    ∙ ints_add_right_comm (pos n *ℤ z) (y *ℤ z) z ∙ ap (λ a. a +ℤ y *ℤ z) (sym (suc_ℤ-*ℤ (pos n) z))
ints_add-mul (negsuc zero) y z =
    ap (λ a. a *ℤ z) (pred_ℤ-+ℤ (pos 0) y ∙ ap pred_ℤ (+ℤ_idl y)) ∙ pred_ℤ-*ℤ y z ∙ +ℤ_comm (y *ℤ z) (neg_ℤ z)
    ∙ ap (λ a. a +ℤ y *ℤ z) (sym (pred_ℤ-*ℤ (pos 0) z ∙ ap (λ a. a +ℤ neg_ℤ z) (zero-*ℤ z) ∙ +ℤ_idl (neg_ℤ z)))
ints_add-mul (negsuc (suc n)) y z =
    ap (λ a. a *ℤ z) (pred_ℤ-+ℤ (negsuc n) y) ∙ pred_ℤ-*ℤ (negsuc n +ℤ y) z ∙ ap (λ a. a +ℤ neg_ℤ z) (ints_add-mul (negsuc n) y z)
    ∙ ints_add_right_comm (negsuc n *ℤ z) (y *ℤ z) (neg_ℤ z) ∙ ap (λ a. a +ℤ y *ℤ z) (sym (pred_ℤ-*ℤ (negsuc n) z))

pub ints_mul-add : (x y z : ℤ) → x *ℤ (y +ℤ z) ≡ x *ℤ y +ℤ x *ℤ z
ints_mul-add x y z = *ℤ_comm x (y +ℤ z) ∙ ints_add-mul y z x ∙ ap₂ ◌+ℤ◌ (*ℤ_comm y x) (*ℤ_comm z x)

pub ints_neg-mul : (x z : ℤ) → neg_ℤ x *ℤ z ≡ neg_ℤ (x *ℤ z)
ints_neg-mul x z =
    let total : neg_ℤ x *ℤ z +ℤ x *ℤ z ≡ pos 0 = sym (ints_add-mul (neg_ℤ x) x z) ∙ ap (λ a. a *ℤ z) (+ℤ_comm (neg_ℤ x) x ∙ +ℤ_invr x) ∙ zero-*ℤ z in
    sym (+ℤ_idr (neg_ℤ x *ℤ z)) ∙ ap (λ a. neg_ℤ x *ℤ z +ℤ a) (sym (+ℤ_invr (x *ℤ z)))
    ∙ sym (+ℤ_assoc (neg_ℤ x *ℤ z) (x *ℤ z) (neg_ℤ (x *ℤ z))) ∙ ap (λ a. a +ℤ neg_ℤ (x *ℤ z)) total ∙ +ℤ_idl (neg_ℤ (x *ℤ z))

ints_pos-mul_assoc : (n : ℕ) (y z : ℤ) → (pos n *ℤ y) *ℤ z ≡ pos n *ℤ (y *ℤ z)
ints_pos-mul_assoc zero y z = ap (λ a. a *ℤ z) (zero-*ℤ y) ∙ zero-*ℤ z ∙ sym (zero-*ℤ (y *ℤ z))
ints_pos-mul_assoc (suc n) y z =
    ap (λ a. a *ℤ z) (suc_ℤ-*ℤ (pos n) y) ∙ ints_add-mul (pos n *ℤ y) y z ∙ ap (λ a. a +ℤ y *ℤ z) (ints_pos-mul_assoc n y z)
    ∙ sym (suc_ℤ-*ℤ (pos n) (y *ℤ z))

pub ints_mul_assoc : (x y z : ℤ) → (x *ℤ y) *ℤ z ≡ x *ℤ (y *ℤ z)
ints_mul_assoc (pos n) y z = ints_pos-mul_assoc n y z
ints_mul_assoc (negsuc n) y z =
    ap (λ a. a *ℤ z) (ints_neg-mul (pos (suc n)) y) ∙ ints_neg-mul (pos (suc n) *ℤ y) z ∙ ap neg_ℤ (ints_pos-mul_assoc (suc n) y z)
    ∙ sym (ints_neg-mul (pos (suc n)) (y *ℤ z))

pub ints_mul-one : (x : ℤ) → x *ℤ pos 1 ≡ x
unfolding one
ints_mul-one = *ℤ-one

-- the ring of the integers
abbrev pub ints : CommRing ℤ
ints = record {
  zero = pos 0;
  one = pos 1;
  add = ◌+ℤ◌;
  mul = ◌*ℤ◌;
  neg = neg_ℤ;
  is_set = ℤ_set;
  add_assoc = +ℤ_assoc;
  add_comm = +ℤ_comm;
  add-zero = +ℤ_idr;
  add-neg = +ℤ_invr;
  mul_assoc = ints_mul_assoc;
  mul_comm = *ℤ_comm;
  mul-one = ints_mul-one;
  mul-add = ints_mul-add;
}
