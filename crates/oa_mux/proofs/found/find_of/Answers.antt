use Rattle.oa_mux.proofs.Finding.{finds_closed, finds_whole}
use Rattle.oa_mux.proofs.found.find_of.Goals as goal

pub returns-then-n-eq0 : goal.returns-then-n-eq0
returns-then-n-eq0 c = finds_closed c.args.n c.args.front.now c.args.bytes.now c.requires.said c.requires.four c.if-front-lt4.true c.if-n-eq0.true

pub returns-else-bytes-n : goal.returns-else-bytes-n
returns-else-bytes-n c = finds_whole c.args.n c.args.front.now c.args.bytes.now c.requires.part c.requires.said c.requires.four c.else-front-lt4.either
    c.else-front-lt4-2.either c.if-bytes-n.false
