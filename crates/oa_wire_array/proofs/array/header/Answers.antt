use Rattle.std.proofs.Common.{arith}
use Rattle.oa_wire_text.proofs.Memory.{anyhow, unit_there}
use Rattle.oa_wire_array.proofs.array.header.Goals as goal

pub returns-then-has_sf_type-clause-memory : goal.returns-then-has_sf_type-clause-memory
returns-then-has_sf_type-clause-memory c =
    let a = unit_there 4 c.args.r.now c.u32.new.self c.in_ok-maximum.maximum c.in_ok-maximum.ensures in
    let b = unit_there 2 c.u32.new.self c.u16.new.self c.in_ok-dims.dims c.in_ok-dims.ensures in
    let d = unit_there 2 c.u16.new.self c.u16-2.new.self c.in_ok-u16.field-0 c.in_ok-u16.ensures in
    let e = unit_there 4 c.u16-2.new.self c.u32-2.new.self c.in_ok-u32.field-0 c.in_ok-u32.ensures in
    let f = unit_there 4 c.u32-2.new.self c.u32-3.new.self c.in_ok-u32-2.field-0 c.in_ok-u32-2.ensures in
    let g = unit_there 4 c.u32-3.new.self c.u32-4.new.self c.in_ok-sf_type.sf_type c.in_ok-sf_type.ensures in
    let h = unit_there 4 c.u32-4.new.self c.u32-5.new.self c.in_ok-size.size c.in_ok-size.ensures in
    let i = unit_there 4 c.u32-5.new.self c.u32-6.new.self c.in_ok-u32-3.field-0 c.in_ok-u32-3.ensures in
    anyhow c.data.result (omega (arith, a, b, d, e, f, g, h, i))
