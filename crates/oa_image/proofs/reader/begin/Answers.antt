use Rattle.std.proofs.Common.{◌<◌, take, arith}
use Rattle.oa_image.specs.Reader.{table_head}
use Rattle.oa_image.proofs.Taken.{begins_none, begun_is, begun_taken, refused}
use Rattle.oa_image.proofs.reader.begin.Goals as goal

pub returns-in_default : goal.returns-in_default
returns-in_default c t is same =
    let none = rw c.in_default.is at c.in_ok-next.ensures in
    begins_none c.args.bytes.now (λ head rest is_head some same. none head rest is_head tt same) t is same

pub returns-then-next-eq0 : goal.returns-then-next-eq0
returns-then-next-eq0 c t is same =
    let found = rw c.in-Some.is at c.in_ok-next.ensures in
    begins_none c.args.bytes.now (refused table_head (λ head. 0 < head.0) c.args.bytes.now (c.in-Some.next, c.in-Some.left) c.in-Some.len found.0 found.3
    (λ some. absurd (omega (arith, some, c.if-next-eq0.true)))) t is same

pub returns : goal.returns
returns c =
    let found = rw c.in-Some.is at c.in_ok-next.ensures in
    let some : 0 < c.in-Some.next = omega (arith, c.if-next-eq0.false) in
    rw c.with_next.ensures (
      (begun_is c.in-Some.next c.in-Some.left found.0 some, tt),
      found.2,
      begun_taken c.in-Some.next c.in-Some.left
          (take c.in-Some.len c.args.bytes.now) found.3,
    )
