use Rattle.oa_mux.proofs.Taking.{broken_taken, broken_tells}
use Rattle.oa_mux.proofs.streams.Demux.take.Goals as goal

pub returns-then-self-clause-asks : goal.returns-then-self-clause-asks
returns-then-self-clause-asks c = broken_taken c.args.self.now c.self.inside.clients c.self.inside.broken c.self.inside.left c.self.inside.client
    c.self.inside.have c.self.inside.head c.self.view_is c.args.bytes.now c.if-self.true

pub returns-then-self-clause-unknown : goal.returns-then-self-clause-unknown
returns-then-self-clause-unknown c = broken_tells c.args.self.now c.self.inside.clients c.self.inside.broken c.self.inside.left c.self.inside.client
    c.self.inside.have c.self.inside.head c.self.view_is c.args.bytes.now c.if-self.true
