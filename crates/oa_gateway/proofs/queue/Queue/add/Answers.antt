use Rattle.std.proofs.Common.{arith}
use Rattle.std.proofs.lemmas.List.{take-set-le}
use Rattle.oa_gateway.proofs.Placed.{added, clients_are}
use Rattle.oa_gateway.proofs.queue.Queue.add.Goals as goal

pub returns-clause-done : goal.returns-clause-done
returns-clause-done c =
    let q = c.args.self.now in
    let xs = c.args.places.now in
    let before = c.requires.queue.0 in
    let some = c.requires.queue.1 in
    clients_are _ _ _ _ (take-set-le q.kept xs q.end c.args.client (omega (arith, before, some))) (added xs q.next q.end c.args.client some c.requires.room)
