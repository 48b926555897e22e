use Rattle.std.proofs.Common.{inl, rules}
use Rattle.oaut.proofs.SessionEnds.{clients, over}
use Rattle.oaut.proofs.session.hold_shared.Goals as goal

pub returns : goal.returns
returns g c = record {
  session = inl (over _ _ _ c.in_ok-reader.reader c.serve_shared.new.reader c.in_ok-writer.writer c.serve_shared.new.writer
      (record { reader = search rules; writer = search rules }) (search rules) (search rules)
      (clients _ _ _ _ c.in_ok-serve_shared.field-0 _ _ _ _ c.in_ok-serve_shared.ensures.session c.clients_ended.ensures));
}
