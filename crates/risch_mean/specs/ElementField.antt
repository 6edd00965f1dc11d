-- The field of the elements, and their powers.
use Rattle.std.specs.Prelude.{ℕ}
use Rattle.risch_ring.specs.CommRing.{Field, power}
use Rattle.risch_mean.specs.Element.{Element, add, inverse, mul, neg, one, zero}
use Rattle.risch_mean.specs.ElementFieldLaws.{add-neg, add-zero, add_assoc, add_comm, is_set, is_zero, mul-add, mul-inverse, mul-one, mul_assoc, mul_comm, one-ne-zero}

-- the field
abbrev pub elements : Field Element
elements = record {
  ring = record {
    zero = zero;
    one = one;
    add = add;
    mul = mul;
    neg = neg;
    is_set = is_set;
    add_assoc = add_assoc;
    add_comm = add_comm;
    add-zero = add-zero;
    add-neg = add-neg;
    mul_assoc = mul_assoc;
    mul_comm = mul_comm;
    mul-one = mul-one;
    mul-add = mul-add;
  };
  inverse = inverse;
  is_zero = is_zero;
  one-ne-zero = one-ne-zero;
  mul-inverse = mul-inverse;
}

-- f^n, with f^0 = 1
infixr 90 ◌^ₑ◌
abbrev pub ◌^ₑ◌ : Element → ℕ → Element
f ^ₑ n = power elements.ring f n
