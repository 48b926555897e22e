use Rattle.std.proofs.Common.{rules, List, [], ℕ, subst, ap, refl, ◌∙◌}
use Rattle.std.proofs.lemmas.Result.{err_from_is_err_and}
use Rattle.oa_record.specs.promise.Replies.{reply_head}
use Rattle.oa_stream.specs.promise.Sink.{Breaks, Writes}
use Rattle.oa_mux.specs.promise.Outgoing.{spelled_frame}
use Rattle.oa_server.proofs.PutFrames.{puts_last, puts_stub, stub_fails, stub_spelled}
use Rattle.oa_server.proofs.sharing.put_end.Goals as goal

pub returns-then-not-is_answered : goal.returns-then-not-is_answered
returns-then-not-is_answered g c = puts_last c.put_last_of.result _ _ c.args.client c.args.why (search rules) c.put_last_of.ensures

pub returns-in_err-put_reply_of : goal.returns-in_err-put_reply_of
returns-in_err-put_reply_of g c =
    let p = err_from_is_err_and c.from_residual.result c.from_residual.ensures.1 in
    let is = stub_spelled c.head-stub.result [] (c.head-stub.ensures ∙ ap reply_head c.bare.ensures) refl in
    rw p.1
    (stub_fails (g.W.Sink.out c.args.writer.now) (g.W.Sink.out c.put_reply_of.new.writer) c.args.client c.args.why (search rules)
    (subst (λ (l : List ℕ). Breaks (g.W.Sink.out c.args.writer.now) (g.W.Sink.out c.put_reply_of.new.writer) (spelled_frame (c.args.client, l))) is
    c.in_err-put_reply_of.ensures))

pub returns : goal.returns
returns g c =
    let is = stub_spelled c.head-stub.result [] (c.head-stub.ensures ∙ ap reply_head c.bare.ensures) refl in
    puts_stub c.put_last_of-2.result (g.W.Sink.out c.args.writer.now) (g.W.Sink.out c.put_reply_of.new.writer)
    (g.W.Sink.out c.put_last_of-2.new.writer) c.args.client c.args.why (search rules)
    (subst (λ (l : List ℕ). Writes (g.W.Sink.out c.args.writer.now) (g.W.Sink.out c.put_reply_of.new.writer) (spelled_frame (c.args.client, l))) is
    c.in_ok-put_reply_of.ensures) c.put_last_of-2.ensures
