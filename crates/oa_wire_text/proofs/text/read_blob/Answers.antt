use Rattle.std.proofs.Common.{arith}
use Rattle.oa_wire_text.proofs.Memory.{anyhow, unit_there}
use Rattle.oa_wire_text.proofs.text.read_blob.Goals as goal

pub returns-then-len-le-MAX_TEXT_BYTES-clause-memory : goal.returns-then-len-le-MAX_TEXT_BYTES-clause-memory
returns-then-len-le-MAX_TEXT_BYTES-clause-memory c =
    let a = unit_there 4 c.args.r.now c.u32.new.self c.in_ok-maximum.maximum c.in_ok-maximum.ensures in
    let b = unit_there 4 c.u32.new.self c.u32-2.new.self c.in_ok-len.len c.in_ok-len.ensures in
    let d = unit_there 4 c.u32-2.new.self c.u32-3.new.self c.in_ok-size.size c.in_ok-size.ensures in
    anyhow c.text.result (omega (arith, a, b, d))
