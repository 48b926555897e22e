use Rattle.std.proofs.Common.{[], ◌∷◌, ◌++◌, inl, inr, Some, refl, sym, ◌∙◌}
use Rattle.oa_server.specs.promise.SharedMachine.{shared, tagged_body}
use Rattle.oa_server.proofs.HeldForMany.{end_eventless}
use Rattle.oa_mux.specs.promise.Readers.{Ends}
use Rattle.oa_server.proofs.desk.end_over.Goals as goal

pub returns-clause-held : goal.returns-clause-held
returns-clause-held g c is =
    c.hold.ensures.held is (shared c.args.host.now c.args.desk.now.owners) (tagged_body c.args.client (Ends c.args.why))
    (end_eventless c.args.client c.args.why (shared c.args.host.now c.args.desk.now.owners)
    (shared c.let_go.new.host c.let_go.new.owners) c.let_go.ensures.state c.let_go.ensures.same)

pub returns-clause-told : goal.returns-clause-told
returns-clause-told g c is =
    c.hold.ensures.told is (shared c.args.host.now c.args.desk.now.owners) (tagged_body c.args.client (Ends c.args.why))
    (end_eventless c.args.client c.args.why (shared c.args.host.now c.args.desk.now.owners)
    (shared c.let_go.new.host c.let_go.new.owners) c.let_go.ensures.state c.let_go.ensures.same)
