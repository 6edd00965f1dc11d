-- A loop over a vector that is given away ends when it has yielded every element.
use Rattle.std.proofs.Common.{◌≡◌, List, Option, None, length, sym, ◌∙◌}
use Rattle.std.specs.Iterator.{Yields}
use Rattle.std.specs.declared.vec.IntoIter.{IntoIter}
use Rattle.std.specs.Vec.Iter.{into_iter_items, into_iter_len, into_iter_steps}
use Rattle.std.proofs.lemmas.Iterator.Adapters.{YieldsList-from_vec}
use Rattle.std.proofs.lemmas.Iterator.Consumers.{YieldsList-end}
use Rattle.std.proofs.lemmas.List.{map-id}

pub all-yielded : {A Z : Type 0} (xs : List A) (s : IntoIter A Z) → into_iter_items s ≡ xs → into_iter_len s ≡ length xs →
    (ys : List A) (t : IntoIter A Z) → Yields into_iter_steps s ys t → (r : Option A) (u : IntoIter A Z) → r ≡ None → into_iter_steps t r u → ys ≡ xs
all-yielded xs s items len ys t y r u none step = sym (map-id ys) ∙ (YieldsList-end (YieldsList-from_vec xs items len) ys t y r u none step).0
