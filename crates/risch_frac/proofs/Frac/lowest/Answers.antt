use Rattle.std.proofs.Common.{arith, rules, ap, ◌∙◌, ◌≡◌, pos, unsigned_abs, int_div, refl}
use Rattle.std.specs.Int.{w128}
use Rattle.std.specs.Int.RustNames.{FitsSigned}
use Rattle.std.proofs.lemmas.Int.{to_z-of_z}
use Rattle.risch_frac.specs.Gcd.{gcd}
use Rattle.risch_frac.specs.Fraction as spec
use Rattle.risch_frac.proofs.Lowest.{IsInLowest-lowest, lowest-is_lowest, lowest-value}
use Rattle.risch_frac.proofs.Signs.{unsigned_abs-positive, unsigned_abs-int_div}
use Rattle.risch_frac.proofs.Frac.lowest.Goals as goal

pub quotient-requires : goal.quotient-requires
quotient-requires c =
    let some = unsigned_abs-positive c.args.den c.requires.positive in
    let den_is : c.unsigned_abs-2.result ≡ unsigned_abs c.args.den = c.unsigned_abs-2.ensures.value ∙ ap unsigned_abs (to_z-of_z w128 c.args.den c.ranges.den) in
    record {
      positive = let given = c.common_divisor-divisor.ensures.positive (omega arith) in omega arith;
      divisor_fits = let small = c.common_divisor-divisor.ensures.small (omega arith) in omega arith;
    }

pub quotient-requires-2 : goal.quotient-requires-2
quotient-requires-2 c =
    let some = unsigned_abs-positive c.args.den c.requires.positive in
    let den_is : c.unsigned_abs-2.result ≡ unsigned_abs c.args.den = c.unsigned_abs-2.ensures.value ∙ ap unsigned_abs (to_z-of_z w128 c.args.den c.ranges.den) in
    record {
      positive = let given = c.common_divisor-divisor.ensures.positive (omega arith) in omega arith;
      divisor_fits = let small = c.common_divisor-divisor.ensures.small (omega arith) in omega arith;
    }

pub invariant_of-result : goal.invariant_of-result
invariant_of-result c =
    let num_cast = to_z-of_z w128 c.args.num c.ranges.num in
    let den_cast = to_z-of_z w128 c.args.den c.ranges.den in
    let fits_num : FitsSigned w128 c.quotient.result = search rules in
    let fits_den : FitsSigned w128 c.quotient-2.result = search rules in
    let divisor : c.common_divisor-divisor.result ≡ gcd (unsigned_abs c.args.num) (unsigned_abs c.args.den) = cc in
    let num_is : c.quotient.result ≡ int_div c.args.num (pos (gcd (unsigned_abs c.args.num) (unsigned_abs c.args.den))) = cc in
    let den_is : c.quotient-2.result ≡ int_div c.args.den (pos (gcd (unsigned_abs c.args.num) (unsigned_abs c.args.den))) = cc in
    rw (to_z-of_z w128 c.quotient.result fits_num, to_z-of_z w128 c.quotient-2.result fits_den, num_is, den_is)
    (IsInLowest-lowest c.args.num c.args.den c.requires.positive c.requires.num_fits c.requires.den_fits)

pub returns : goal.returns
unfolding spec.lowest
returns c =
    let num_cast = to_z-of_z w128 c.args.num c.ranges.num in
    let den_cast = to_z-of_z w128 c.args.den c.ranges.den in
    let fits_num : FitsSigned w128 c.quotient.result = search rules in
    let fits_den : FitsSigned w128 c.quotient-2.result = search rules in
    let divisor : c.common_divisor-divisor.result ≡ gcd (unsigned_abs c.args.num) (unsigned_abs c.args.den) = cc in
    let num_is : c.quotient.result ≡ int_div c.args.num (pos (gcd (unsigned_abs c.args.num) (unsigned_abs c.args.den))) = cc in
    let den_is : c.quotient-2.result ≡ int_div c.args.den (pos (gcd (unsigned_abs c.args.num) (unsigned_abs c.args.den))) = cc in
    rw (to_z-of_z w128 c.quotient.result fits_num, to_z-of_z w128 c.quotient-2.result fits_den, num_is, den_is, unsigned_abs-int_div)
    (record {
      rule = refl;
      lowest = lowest-is_lowest c.args.num c.args.den c.requires.positive c.requires.num_fits c.requires.den_fits;
      value = record { value = lowest-value c.args.num c.args.den c.requires.positive };
    })
