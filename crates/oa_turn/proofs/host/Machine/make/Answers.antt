use Rattle.std.proofs.Common.{rules}
use Rattle.oa_turn.proofs.Changing.{done, refused}
use Rattle.oa_turn.proofs.host.Machine.make.Goals as goal

pub returns-clause-turn : goal.returns-clause-turn
returns-clause-turn c body is = done c.args.self.now body c.args.planned is _ c.new.result (search rules) (search rules) (search rules)

pub returns-in-Err-clause-turn : goal.returns-in-Err-clause-turn
returns-in-Err-clause-turn c body is = refused c.args.self.now body c.args.planned is _ c.bare.result c.in-Err.code (search rules) c.bare.ensures (search rules)
