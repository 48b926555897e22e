use Rattle.oa_gateway.proofs.Outcomes.{frame_there, own_end_says}
use Rattle.oa_gateway.proofs.hearing.first_frame.Goals as goal

pub returns-clause-some : goal.returns-clause-some
returns-clause-some c =
    let one = c.in_ok-number.ensures.cases in
    let two = c.in_ok-length.ensures.cases in
    frame_there c.args.bytes.now c.in_ok-number.number.now c.in_ok-number.rest.now c.in_ok-length.length.now c.in_ok-length.inside.now
    c.from_le_bytes-number.result c.from_le_bytes-count.result
    (λ i. (c.type_inv.bytes i).fits) one.0 one.1 one.2 two.0 two.1 two.2 c.from_le_bytes-number.ensures c.from_le_bytes-count.ensures c.if-inside-count.false

pub returns-clause-own : goal.returns-clause-own
returns-clause-own c =
    let one = c.in_ok-number.ensures.cases in
    let two = c.in_ok-length.ensures.cases in
    own_end_says c.args.bytes.now c.in_ok-number.number.now c.in_ok-number.rest.now c.in_ok-length.length.now c.from_le_bytes-number.result
    c.from_le_bytes-count.result one.0 one.1 two.0
    c.from_le_bytes-number.ensures c.from_le_bytes-count.ensures
