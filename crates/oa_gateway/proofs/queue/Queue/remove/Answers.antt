use Rattle.std.proofs.Common.{refl}
use Rattle.oa_gateway.proofs.Placed.{has_left}
use Rattle.oa_gateway.proofs.queue.Queue.remove.Goals as goal

pub returns-clause-done : goal.returns-clause-done
returns-clause-done c _ =
    let is = c.if-not-is_in.ensures.yes refl in
    let found = c.in-Some.ensures.some in
    has_left c.args.places.now c.rotate_left.new.self c.args.self.now c.args.client c.in-Some.at is.0 found.0 found.1 is.2 found.2 c.rotate_left.ensures.after
