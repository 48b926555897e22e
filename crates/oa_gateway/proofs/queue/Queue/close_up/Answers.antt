use Rattle.oa_gateway.proofs.Placed.{moved_up}
use Rattle.oa_gateway.proofs.queue.Queue.close_up.Goals as goal

pub returns-clause-same : goal.returns-clause-same
returns-clause-same c =
    let q = c.args.self.now in
    moved_up c.args.places.now c.rotate_left.new.self q.kept q.next q.end c.requires.0 c.requires.1 c.requires.2 c.rotate_left.ensures.after
