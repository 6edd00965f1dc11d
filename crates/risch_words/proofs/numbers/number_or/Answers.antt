use Rattle.risch_words.proofs.NumberLemmas.{within_in}
use Rattle.risch_words.proofs.numbers.number_or.Goals as goal

pub returns-in-None : goal.returns-in-None
returns-in-None c = rw c.in-None.is (within_in c.args.most c.args.default c.requires.least c.requires.most)
