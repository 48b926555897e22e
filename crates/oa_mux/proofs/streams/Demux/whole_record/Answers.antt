use Rattle.std.proofs.Common.{arith}
use Rattle.oa_mux.proofs.RecordFrames.{kept_brings}
use Rattle.oa_mux.proofs.streams.Demux.whole_record.Goals as goal

pub returns-then-is_between : goal.returns-then-is_between
returns-then-is_between c =
    let none = c.if-self-ne0.false in
    let empty = c.if-self-ne0-2.false in
    kept_brings c.args.self.now c.self.inside.clients c.self.inside.broken c.self.inside.left c.self.inside.client c.self.inside.have c.self.inside.head
    c.args.bytes.now c.in_ok-client.client c.in_ok-client.count
    c.self.view_is c.if-self.false (omega (arith, none)) (omega (arith, empty)) (c.is_between.ensures c.if-is_between.true) c.in_ok-client.ensures
