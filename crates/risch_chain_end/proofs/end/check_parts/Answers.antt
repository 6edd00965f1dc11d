use Rattle.risch_chain_end.proofs.EndLaws.{end-stands}
use Rattle.risch_chain_end.proofs.Results.{if_ok-map}
use Rattle.risch_chain_end.proofs.end.check_parts.Goals as goal

pub returns-clause-end : goal.returns-clause-end
returns-clause-end c =
    let chain = c.args.chain.now in
    if_ok-map c.check_end_of.result _ _
    (λ _ read. end-stands c.args.tower.now chain.level chain.rest c.args.parts.now chain.end c.level_of.ensures c.nest-rest.ensures.normal c.requires.rest c.nest-reduced.ensures.normal c.requires.reduced
    c.nest-normal.ensures.normal c.requires.normal c.requires.parts read)
    c.check_end_of.ensures.read_off
