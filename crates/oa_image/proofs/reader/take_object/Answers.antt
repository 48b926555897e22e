use Rattle.std.proofs.Common.{◌<◌, take, ◌∙◌, arith}
use Rattle.oa_image.specs.Reader.{object_head, table_taken}
use Rattle.oa_image.proofs.Behind.{no_more, object_comes, object_head_bytes}
use Rattle.oa_image.proofs.Taken.{comes, nothing_comes, object_head_taken, object_opens, stays}
use Rattle.oa_image.proofs.reader.take_object.Goals as goal

pub returns-then-table-eq0-clause-takes : goal.returns-then-table-eq0-clause-takes
returns-then-table-eq0-clause-takes c =
    stays c.args.table.now c.args.bytes.now (no_more c.args.table.now c.args.bytes.now c.requires.between.0 c.requires.none c.if-table-eq0.true)

pub returns-in_default-clause-takes : goal.returns-in_default-clause-takes
returns-in_default-clause-takes c =
    let t = c.args.table.now in
    let bytes = c.args.bytes.now in
    let none = rw (c.next.ensures, c.in_default.is) at c.in_ok-head.ensures in
    let some : 0 < t.left = omega (arith, c.if-table-eq0.false) in
    stays t bytes (nothing_comes object_head (λ head. (t.last < head.0) × (head.0 < t.table.next)) (table_taken t) bytes none
    (λ whole is e. object_comes t bytes whole c.requires.between.0 c.requires.none some is e))

pub keep-requires-clause-valid : goal.keep-requires-clause-valid
keep-requires-clause-valid c =
    let t = c.args.table.now in
    let some : 0 < t.left = omega (arith, c.if-table-eq0.false) in
    let found = rw (c.next.ensures, c.in-Some.is) at c.in_ok-head.ensures in
    object_opens t c.in-Some.head.0 c.in-Some.head.1.0 c.in_ok-cells.cells c.in-Some.head.1.1 c.requires.none some c.in_ok-cells.ensures.items
    c.requires.between.0 found.0 found.1.0 found.1.1

pub returns-clause-takes : goal.returns-clause-takes
returns-clause-takes c =
    let t = c.args.table.now in
    let bytes = c.args.bytes.now in
    let some : 0 < t.left = omega (arith, c.if-table-eq0.false) in
    let found = rw (c.next.ensures, c.in-Some.is) at c.in_ok-head.ensures in
    comes t c.keep.new.table bytes (object_head.image c.in-Some.head) c.in-Some.len found.2 found.3 (object_head_bytes c.in-Some.head)
    (c.in_ok-keep.ensures.taken ∙ object_head_taken t c.in-Some.head.0 c.in-Some.head.1.0 c.in_ok-cells.cells c.in-Some.head.1.1 c.requires.none some
    c.in_ok-cells.ensures.items (take c.in-Some.len bytes) found.3)
