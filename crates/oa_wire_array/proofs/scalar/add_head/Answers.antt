use Rattle.oa_wire_array.proofs.Heads.{head_then}
use Rattle.oa_wire_array.proofs.scalar.add_head.Goals as goal

pub returns-clause-ok : goal.returns-clause-ok
returns-clause-ok c = head_then c.bytes.result c.args.out.now c.align.new.self c.bytes.new.self c.args.size c.args.vt c.head_bytes.result c.head_bytes.ensures
    c.in_ok-align.ensures.ok c.bytes.ensures.ok
