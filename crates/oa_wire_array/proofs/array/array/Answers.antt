use Rattle.std.proofs.Common.{◌+◌, ◌≤◌, length, arith}
use Rattle.oa_wire_text.proofs.Memory.{on_memory, referent_there}
use Rattle.oa_wire_array.proofs.array.array.Goals as goal

pub returns-then-branch-clause-memory : goal.returns-then-branch-clause-memory
returns-then-branch-clause-memory c =
    let there : 4 + length c.referent.new.self.rest ≤ length c.args.r.now.rest =
    referent_there c.args.r.now c.referent.new.self c.in_ok-referent.field-0 c.in_ok-referent.ensures in
    on_memory c.header.result (λ is. let is : 28 ≤ length c.referent.new.self.rest = is in omega (arith, there, is)) c.header.ensures.memory
