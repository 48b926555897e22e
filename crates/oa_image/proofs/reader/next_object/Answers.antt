use Rattle.std.proofs.Common.{◌<◌, arith}
use Rattle.oa_image.specs.Reader.{object_head}
use Rattle.oa_image.proofs.Taken.{refused}
use Rattle.oa_image.proofs.reader.next_object.Goals as goal
use Rattle.oa_image.proofs.reader.next_object.Goals.{else-last-head-via-then-last-head+else-head-next, else-last-head-via-else-last-head}

pub returns : goal.returns
returns c =
    let found = rw c.in-Some.is at c.in_ok-head.ensures in
    refused object_head (λ head. (c.args.last < head.0) × (head.0 < c.args.next)) c.args.bytes.now c.in-Some.head c.in-Some.len found.0 found.3
    (λ p. elim c.else-last-head.branch [
      | else-last-head-via-then-last-head+else-head-next w ↦ absurd (omega (arith, p.1, w.if-head-next.false))
      | else-last-head-via-else-last-head w ↦ absurd (omega (arith, p.0, w.if-last-head.false))
    ])
