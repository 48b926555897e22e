use Rattle.std.proofs.Common.{arith}
use Rattle.oa_server.proofs.LocksBack.{times_begin, times_end, times_next}
use Rattle.oa_server.proofs.locking.take_back_times.Goals as goal

pub times-init : goal.times-init
times-init c = times_begin c.args.name.now c.args.count c.args.host.now

pub times-preserved : goal.times-preserved
times-preserved c = times_next c.args.name.now c.args.count c.times.counter c.times.host c.take_back.new.self _ c.times-test.true c.take_back.ensures.state
    c.times.invariant

pub returns : goal.returns
returns c = times_end c.args.name.now c.args.count c.times.counter c.times.host _ (omega (arith, c.times-test.false)) c.times.invariant
