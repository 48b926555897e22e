use Rattle.oa_gateway.proofs.Outcomes.{end_nobodys}
use Rattle.oa_gateway.proofs.hearing.hear_end.Goals as goal

pub returns-in-Given : goal.returns-in-Given
returns-in-Given c = end_nobodys c.hear_end.result c.args.places.now c.args.client _ c.hear_end.new.self c.requires c.in-Given.is c.hear_end.ensures.told
    c.hear_end.ensures.wrong
