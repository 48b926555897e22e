use Rattle.std.proofs.Common.{rules, ◌≡◌}
use Rattle.oaut.specs.Sessions.{group_near}
use Rattle.oaut.proofs.SessionEnds.{answers}
use Rattle.oaut.proofs.serve.serve.Goals as goal

pub returns : goal.returns
returns c =
    let same : c.clamp.result ≡ group_near c.args.group = search rules in
    answers _ _ c.hold.result (record {
      old = c.in_ok-server.server.engine;
      new = c.hold.new.server.engine;
      begins = c.in_ok-server.ensures.opened;
      holds = rw (← same) c.hold.ensures.session;
    })
