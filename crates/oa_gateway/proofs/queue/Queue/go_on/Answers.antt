use Rattle.std.proofs.Common.{arith}
use Rattle.oa_gateway.proofs.Placed.{has_gone, is_kept, is_last}
use Rattle.oa_gateway.proofs.queue.Queue.go_on.Goals as goal

pub returns-in-Never-clause-done : goal.returns-in-Never-clause-done
returns-in-Never-clause-done c = has_gone c.args.places.now c.args.self.now c.args.turn c.requires.some c.requires.queue.2 c.in-Never.is

pub returns-in-Last-clause-done : goal.returns-in-Last-clause-done
returns-in-Last-clause-done c =
    let some = c.requires.some in
    let before = c.requires.queue.0 in
    let within = c.requires.queue.2 in
    is_last c.args.places.now c.args.self.now c.args.turn _ some within c.in-Last.is
    (c.join.ensures.done (c.join.ensures.succeeds ((omega (arith, before), omega (arith, some), within), omega (arith, before, some, within))))

pub returns-in-Kept-clause-done : goal.returns-in-Kept-clause-done
returns-in-Kept-clause-done c = is_kept c.args.places.now c.args.self.now c.args.turn c.requires.queue.0 c.requires.some c.requires.queue.2 c.in-Kept.is
