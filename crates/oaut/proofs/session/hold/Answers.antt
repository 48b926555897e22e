use Rattle.std.proofs.Common.{inl, rules}
use Rattle.oaut.proofs.SessionEnds.{client, over}
use Rattle.oaut.proofs.session.hold.Goals as goal

pub returns-then-hex : goal.returns-then-hex
returns-then-hex g c = record {
  session = rw c.if-hex.true (inl (over _ _ _ c.in_ok-reader.reader c.serve_hex.new.reader c.in_ok-writer.writer c.serve_hex.new.writer
      (record { reader = search rules; writer = search rules }) (search rules) (search rules)
      (client _ _ _ _ _ c.in_ok-serve_hex.field-0 _ _ _ _ c.in_ok-serve_hex.ensures.session c.in_ok-serve_hex.ensures.memory c.client_ended.ensures)));
}

pub returns : goal.returns
returns g c = record {
  session = rw c.if-hex.false (inl (over _ _ _ c.in_ok-reader.reader c.serve.new.reader c.in_ok-writer.writer c.serve.new.writer
      (record { reader = search rules; writer = search rules }) (search rules) (search rules)
      (client _ _ _ _ _ c.in_ok-serve.field-0 _ _ _ _ c.in_ok-serve.ensures.session c.in_ok-serve.ensures.memory c.client_ended-2.ensures)));
}
