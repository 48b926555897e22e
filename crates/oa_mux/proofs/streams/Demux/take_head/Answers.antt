use Rattle.std.proofs.Common.{arith, refl, rules}
use Rattle.oa_mux.proofs.Taking.{part_taken, part_tells, whole_taken, whole_tells}
use Rattle.oa_mux.proofs.streams.Demux.take_head.Goals as goal

pub returns-then-have-count-lt8-clause-asks : goal.returns-then-have-count-lt8-clause-asks
returns-then-have-count-lt8-clause-asks c =
    part_taken c.args.self.now c.self.inside.clients c.self.inside.broken c.self.inside.left c.self.inside.client c.self.inside.have c.self.inside.head
    c.self.view_is c.filled-head.result c.args.bytes.now c.min-count.result c.requires.head c.self.told
    (search rules) c.if-have-count-lt8.true c.filled-head.ensures.head

pub returns-then-have-count-lt8-clause-unknown : goal.returns-then-have-count-lt8-clause-unknown
returns-then-have-count-lt8-clause-unknown c =
    let asks = part_taken c.args.self.now c.self.inside.clients c.self.inside.broken c.self.inside.left c.self.inside.client c.self.inside.have
    c.self.inside.head c.self.view_is c.filled-head.result c.args.bytes.now c.min-count.result c.requires.head c.self.told
    (search rules) c.if-have-count-lt8.true c.filled-head.ensures.head in
    part_tells c.args.self.now c.self.inside.clients c.self.inside.broken c.self.inside.left c.self.inside.client c.self.inside.have c.self.inside.head
    c.self.view_is c.filled-head.result c.args.bytes.now c.min-count.result c.requires.head asks

pub returns-clause-asks : goal.returns-clause-asks
returns-clause-asks c =
    let count = c.min-count.ensures in
    let full = c.if-have-count-lt8.false in
    let under = c.self.invariant in
    whole_taken c.args.self.now c.self.inside.clients c.self.inside.broken c.self.inside.left c.self.inside.client c.self.inside.have c.self.inside.head
    c.self.view_is c.filled-head.result c.args.bytes.now c.min-count.result c.from_bytes.result _ _ _ c.requires.head c.self.told c.filled-head.ensures.len
    c.self.invariant (search rules) (omega (arith, count, full, under)) c.filled-head.ensures.head c.from_bytes.ensures.head refl c.begin-arrived.ensures.begins

pub returns-clause-unknown : goal.returns-clause-unknown
returns-clause-unknown c =
    let count = c.min-count.ensures in
    let full = c.if-have-count-lt8.false in
    let under = c.self.invariant in
    let asks = whole_taken c.args.self.now c.self.inside.clients c.self.inside.broken c.self.inside.left c.self.inside.client c.self.inside.have
    c.self.inside.head c.self.view_is c.filled-head.result c.args.bytes.now c.min-count.result c.from_bytes.result _ _ _ c.requires.head c.self.told
    c.filled-head.ensures.len c.self.invariant (search rules) (omega (arith, count, full, under)) c.filled-head.ensures.head c.from_bytes.ensures.head refl
    c.begin-arrived.ensures.begins in
    whole_tells c.args.self.now c.self.inside.clients c.self.inside.broken c.self.inside.left c.self.inside.client c.self.inside.have c.self.inside.head
    c.self.view_is c.begin-arrived.result c.args.bytes.now c.min-count.result c.from_bytes.result _ _ _ _ c.requires.head c.self.told c.self.invariant
    (search rules) (omega (arith, count, full, under)) c.begin-arrived.ensures.unknown c.begin-arrived.ensures.begins asks
