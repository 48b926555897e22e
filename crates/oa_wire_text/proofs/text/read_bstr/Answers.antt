use Rattle.std.proofs.Common.{arith}
use Rattle.oa_wire_text.proofs.Memory.{on_memory, referent_there}
use Rattle.oa_wire_text.proofs.text.read_bstr.Goals as goal

pub returns-then-branch-clause-memory : goal.returns-then-branch-clause-memory
returns-then-branch-clause-memory c =
    on_memory c.read_blob.result (λ there. omega
    (arith, there, referent_there c.args.r.now c.referent.new.self c.in_ok-referent.field-0 c.in_ok-referent.ensures)) c.read_blob.ensures.memory
