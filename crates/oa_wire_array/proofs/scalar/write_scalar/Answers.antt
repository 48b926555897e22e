use Rattle.oa_ndr.proofs.Keeping.{back_to}
use Rattle.oa_wire_array.proofs.scalar.write_scalar.Goals as goal

pub returns-in-Err-clause-err : goal.returns-in-Err-clause-err
returns-in-Err-clause-err c = back_to c.args.out.now c.add_scalar.new.out c.truncate.new.self c.position-start.result c.add_scalar.ensures.kept
    c.position-start.ensures c.truncate.ensures
