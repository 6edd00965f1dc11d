-- The polynomials are coprime where the test says so.
use Rattle.risch_element_rows.proofs.polynomials.solve_mod.Goals as goal

pub solve_mod-requires-clause-coprime : goal.solve_mod-requires-clause-coprime
solve_mod-requires-clause-coprime c = c.in-Ok-true.ensures.meaning.0 c.in-Ok-true.field-0-test
