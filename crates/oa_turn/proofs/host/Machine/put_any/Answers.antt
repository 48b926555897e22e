use Rattle.oa_turn.proofs.host.Machine.put_any.Goals as goal

pub returns : goal.returns
returns c = λ body is. c.make.ensures.turn body (rw (c.new-event.ensures, c.none-fields.ensures) is)
