use Rattle.std.proofs.Common.{◌≡◌, ◌∙◌, None, ap, arith, length, ℕ}
use Rattle.oa_model.specs.promise.Codes.{stg_e_writefault}
use Rattle.oa_server.specs.promise.ServerMachine.{aborted_reply}
use Rattle.oa_decision.specs.promise.Decided.{refusal}
use Rattle.oa_server.proofs.Mapping.{mapped, mapped_all, mapped_step}
use Rattle.oa_server.proofs.open_group.take_back.Goals as goal

pub loop-reply-preserved : goal.loop-reply-preserved
loop-reply-preserved c = mapped_step aborted_reply c.args.replies.now c.loop-reply.replies c.loop-reply.reply-index c.bare.result _ c.loop-reply.invariant
    c.loop-reply-test.true
    (c.bare.ensures ∙ ap (λ (tag : ℕ). refusal tag stg_e_writefault None) c.tag.ensures)

pub returns : goal.returns
returns c =
    let end : c.loop-reply.reply-index ≡ length c.args.replies.now = omega (arith, c.loop-reply-test.false) in
    c.loop-reply.invariant ∙ ap (λ (n : ℕ). mapped aborted_reply n c.args.replies.now) end ∙ mapped_all aborted_reply c.args.replies.now
