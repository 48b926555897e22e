use Rattle.oa_mux.proofs.Taking.{begun_bytes, begun_last, begun_now, begun_unknown}
use Rattle.oa_mux.proofs.streams.Demux.begin.Goals as goal

pub returns-in-Bytes-clause-begins : goal.returns-in-Bytes-clause-begins
returns-in-Bytes-clause-begins c = begun_bytes c.args.self.now c.self.inside.clients c.self.inside.broken c.self.inside.left c.self.inside.client
    c.self.inside.have c.self.inside.head c.self.view_is c.args.head c.in-Bytes.client c.in-Bytes.count c.requires.head c.in-Bytes.is c.requires.some

pub returns-in-Last-clause-begins : goal.returns-in-Last-clause-begins
returns-in-Last-clause-begins c = begun_last c.args.self.now c.self.inside.clients c.self.inside.broken c.self.inside.left c.self.inside.client
    c.self.inside.have c.self.inside.head c.self.view_is c.args.head c.in-Last.client c.end.result _ c.end.new.self c.requires.head c.in-Last.is
    c.last_of.ensures.brings c.end.ensures.brings c.end.ensures.others

pub returns-in-Flush-clause-begins : goal.returns-in-Flush-clause-begins
returns-in-Flush-clause-begins c = begun_now c.args.self.now c.self.inside.clients c.self.inside.broken c.self.inside.left c.self.inside.client
    c.self.inside.have c.self.inside.head c.self.view_is c.args.head c.requires.head c.in-Flush.is

pub returns-in-Unknown-clause-begins : goal.returns-in-Unknown-clause-begins
returns-in-Unknown-clause-begins c = begun_unknown c.args.self.now c.self.inside.clients c.self.inside.broken c.self.inside.left c.self.inside.client
    c.self.inside.have c.self.inside.head c.self.view_is c.args.head c.in-Unknown.is
