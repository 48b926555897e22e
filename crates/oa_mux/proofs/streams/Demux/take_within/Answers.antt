use Rattle.std.proofs.Common.{rules}
use Rattle.oa_ordered.proofs.Joined.{on_err_always}
use Rattle.oa_mux.proofs.Taking.{nothing_taken, within_taken, within_tells}
use Rattle.oa_mux.proofs.streams.Demux.take_within.Goals as goal

pub returns-in_err-taken-clause-err : goal.returns-in_err-taken-clause-err
returns-in_err-taken-clause-err c =
    on_err_always c.from_residual.result (nothing_taken c.args.self.now c.self.inside.clients c.self.inside.broken c.self.inside.left c.self.inside.client
    c.self.inside.have c.self.inside.head c.self.view_is c.step.new.self c.in_err-taken.ensures.err c.step.ensures.others)

pub returns-clause-asks : goal.returns-clause-asks
returns-clause-asks c =
    within_taken c.args.self.now c.self.inside.clients c.self.inside.broken c.self.inside.left c.self.inside.client c.self.inside.have c.self.inside.head
    c.self.view_is c.step.new.self c.args.bytes.now c.min-most.result c.in_ok-taken.field-0.taken c.in_ok-taken.field-0.what _ c.requires.within c.requires.some
    (search rules) c.in_ok-taken.ensures.taken c.in_ok-taken.ensures.brings c.step.ensures.others c.of_client.ensures.brings

pub returns-clause-unknown : goal.returns-clause-unknown
returns-clause-unknown c =
    let asks = within_taken c.args.self.now c.self.inside.clients c.self.inside.broken c.self.inside.left c.self.inside.client c.self.inside.have
    c.self.inside.head c.self.view_is c.step.new.self c.args.bytes.now c.min-most.result c.in_ok-taken.field-0.taken c.in_ok-taken.field-0.what _
    c.requires.within c.requires.some (search rules) c.in_ok-taken.ensures.taken c.in_ok-taken.ensures.brings c.step.ensures.others
    c.of_client.ensures.brings in
    within_tells c.args.self.now c.self.inside.clients c.self.inside.broken c.self.inside.left c.self.inside.client c.self.inside.have c.self.inside.head
    c.self.view_is c.of_client.result c.step.new.self _ _ _ c.requires.within c.of_client.ensures.known asks
