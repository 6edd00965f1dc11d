use Rattle.std.proofs.Common.{◌≡◌, ◌+ℤ◌, ◌-ℤ◌, w64, to_z, of_z, to_z-of_z, arith}
use Rattle.std.proofs.lemmas.Int.{ints}
use Rattle.risch_ring.proofs.DifferenceOfSquares.{product_fits, product_is}
use Rattle.risch_ring.proofs.difference_of_squares.Goals as goal

pub overflow_mul-result : goal.overflow_mul-result
overflow_mul-result c = grind (arith, ints, to_z-of_z, product_fits)

pub returns : goal.returns
returns c =
    let sum : to_z w64 (of_z w64 (to_z w64 (of_z w64 c.args.x) +ℤ to_z w64 (of_z w64 c.args.y))) ≡ c.args.x +ℤ c.args.y = omega (arith, ints) in
    let difference : to_z w64 (of_z w64 (to_z w64 (of_z w64 c.args.x) -ℤ to_z w64 (of_z w64 c.args.y))) ≡ c.args.x -ℤ c.args.y = omega (arith, ints) in
    product_is c.args.x c.args.y (to_z-of_z (overflow_mul-result c)) sum difference
