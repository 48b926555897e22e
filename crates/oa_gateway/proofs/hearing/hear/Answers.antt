use Rattle.std.proofs.Common.{◌≡◌, ◌+◌, length, slice_range, arith, take, drop, ap, ◌∙◌}
use Rattle.std.proofs.lemmas.List.{length-drop, length-take-le}
use Rattle.oa_gateway.proofs.Outcomes.{replies_heard}
use Rattle.oa_gateway.proofs.hearing.hear.Goals as goal

-- src/hearing.rt:35:1
pub returns-else-frame-eq0-2 : goal.returns-else-frame-eq0-2
returns-else-frame-eq0-2 c =
    let count = c.in-Some.frame.count in
    let room = length-drop 8 c.args.bytes.now in
    let long : length (slice_range c.args.bytes.now 8 (8 + count)) ≡ count =
    ap (λ k. length (take k (drop 8 c.args.bytes.now))) (omega arith)
    ∙ length-take-le count (drop 8 c.args.bytes.now) (omega (arith, room, c.in-Some.ensures.some.0)) in
    replies_heard c.hear_replies.result c.in-Some.frame.number c.args.bytes.now (slice_range c.args.bytes.now 8 (8 + count)) c.args.places.now
    (omega (arith, long, c.if-frame-eq0-2.false)) c.in-Some.ensures.some.1 (λ f. c.if-frame-eq0-2.false (c.in-Some.ensures.own f).1)
    (c.hear_replies.ensures (slice_range c.args.bytes.now 8 (8 + count)) long)
