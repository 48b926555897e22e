use Rattle.oa_turn.proofs.LockAsked.{finds}
use Rattle.oa_turn.proofs.host.Machine.lock_in.Goals as goal

pub returns-in-Ok : goal.returns-in-Ok
returns-in-Ok c = finds c.one_request.ensures c.args.self.now c.args.body.now c.in-Ok.request c.in-Ok.ensures c.lock_by.result c.lock_by.ensures

pub returns-in-Err-Stub : goal.returns-in-Err-Stub
returns-in-Err-Stub c = λ change asks. c.refused_asks_nothing.ensures.stub c.args.body.now asks.request (rw c.in-Err-Stub.field-0-is at c.in-Err-Stub.ensures)
    asks.asked

pub returns-in-Err-BadVarType : goal.returns-in-Err-BadVarType
returns-in-Err-BadVarType c = λ change asks. c.refused_asks_nothing.ensures.bad_type c.args.body.now c.in-Err-BadVarType.field-0-0 asks.request
    (rw c.in-Err-BadVarType.field-0-is at c.in-Err-BadVarType.ensures) asks.asked
