use Rattle.std.proofs.Common.{◌≡◌, [], rules}
use Rattle.oa_turn.proofs.Changing.{done}
use Rattle.oa_turn.specs.Plans.{put_planned}
use Rattle.oa_turn.proofs.host.Machine.put_value.Goals as goal

pub returns-in-Ok : goal.returns-in-Ok
returns-in-Ok c = λ body is. done c.args.self.now body (put_planned c.args.tag c.args.put) is _ c.bare.result (search rules) (search rules) (search rules)

pub returns-in-Err : goal.returns-in-Err
returns-in-Err c = λ body is.
    let back = c.in-Err.ensures.back in
    let placed : c.new-place.result ≡ record { interface = c.args.put.interface; dispid = c.args.put.dispid; key = [] } = search rules in
    rw (back.1, c.self.view_is) at (c.put_any.ensures body (rw (back.0, back.1, placed, c.self.view_is) is))
