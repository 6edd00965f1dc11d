use Rattle.std.proofs.Common.{◌≡◌, Ok, All}
use Rattle.risch_element_theory.specs.WholeTower.{AllWithin}
use Rattle.risch_sub.specs.SquareFree.{square_free_parts}
use Rattle.risch_sub.specs.SquareFreeMeaning.{AreSquareFreeParts}
use Rattle.risch_sub.proofs.RemainderSteps.{agrees-if}
use Rattle.risch_sub.proofs.SquareFreeRules.{square_free_parts-mean, square_free_parts-within}
use Rattle.risch_sub.proofs.square_free_parts.square_free.Goals as goal
use Rattle.risch_sub.proofs.square_free_parts.square_free.Goals.{In_ok-parts}

formed : (c : In_ok-parts) → square_free_parts c.args.poly.now ≡ Ok c.in_ok-parts.parts
formed c = rw c.inner.ensures.value at c.in_ok-parts.ensures

means : (c : In_ok-parts) → AreSquareFreeParts c.args.poly.now c.in_ok-parts.parts
means c = square_free_parts-mean c.args.poly.now c.in_ok-parts.parts c.inner.ensures.normal c.requires (formed c)

pub wrapped-requires : goal.wrapped-requires
wrapped-requires c = (means (goal.at.wrapped-requires c).In_ok-parts).kept

pub returns-clause-rule : goal.returns-clause-rule
returns-clause-rule c = rw (formed (goal.at.returns-clause-rule c).In_ok-parts) c.wrapped.ensures

pub returns-clause-meaning : goal.returns-clause-meaning
returns-clause-meaning c = agrees-if c.wrapped.result c.in_ok-parts.parts (AreSquareFreeParts c.args.poly.now) (means (goal.at.returns-clause-meaning c).In_ok-parts) c.wrapped.ensures

pub returns-clause-within : goal.returns-clause-within
returns-clause-within c n all =
    agrees-if c.wrapped.result c.in_ok-parts.parts (All (AllWithin n)) (square_free_parts-within n c.args.poly.now c.in_ok-parts.parts all (formed (goal.at.returns-clause-within c).In_ok-parts)) c.wrapped.ensures
