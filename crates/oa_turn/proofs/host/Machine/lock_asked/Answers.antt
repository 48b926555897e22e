use Rattle.std.proofs.Common.{rules}
use Rattle.oa_turn.proofs.LockAsked.{asks_none}
use Rattle.oa_turn.proofs.host.Machine.lock_asked.Goals as goal

pub returns-then-not-asks_lock-clause-finds : goal.returns-then-not-asks_lock-clause-finds
returns-then-not-asks_lock-clause-finds c = asks_none c.opcode_stands.ensures c.args.self.now c.args.body.now (search rules)
