use Rattle.std.proofs.Common.{rules}
use Rattle.oa_turn.proofs.Releases.{no_replacement}
use Rattle.oa_turn.proofs.host.Machine.turn.Goals as goal

pub returns-then-is_replacement-clause-released : goal.returns-then-is_replacement-clause-released
returns-then-is_replacement-clause-released c = λ number of code. no_replacement c.args.body.now number of c.opcode_stands.ensures (search rules)
