use Rattle.std.proofs.Common.{refl, rules}
use Rattle.oa_frame.specs.promise.Framings.{frames}
use Rattle.oa_server.specs.promise.ServerMachine.{last_written}
use Rattle.oa_server.proofs.GroupThenAlone.{session_taken}
use Rattle.oa_server.proofs.InMemory.{session_in_memory}
use Rattle.oa_server.proofs.Talking.{begins, serves_session}
use Rattle.oa_server.proofs.serving.talk.Goals as goal

pub returns-clause-session : goal.returns-clause-session
returns-clause-session g c =
    let was = c.args.engine.now in
    let open_group = was.desk.open_group in
    let need = c.requires in
    serves_session {g = g.D.Disk} (λ d f honest since. g.met.D.Disk.only_now d f honest since) open_group.size
    (frames c.args.framing) last_written _ _ _ _ was c.serve.new.server c.serve.result need.positive need.replies need.batch
    (begins {g = g.D.Disk} (λ d f honest since. g.met.D.Disk.only_now d f honest since) open_group.size was.storage was.host open_group refl need.positive
    need.places need.replies need.batch)
    (session_taken {g = g.D.Disk} (frames c.args.framing) last_written _ _ _ _ was c.serve.new.server c.serve.result (search rules))

pub returns-clause-memory : goal.returns-clause-memory
returns-clause-memory g c here =
    let was = c.args.engine.now in
    session_in_memory {g = g.D.Disk} (frames c.args.framing) last_written _ _ _ _ was c.serve.new.server c.serve.result here
    (session_taken {g = g.D.Disk} (frames c.args.framing) last_written _ _ _ _ was c.serve.new.server c.serve.result (search rules))
