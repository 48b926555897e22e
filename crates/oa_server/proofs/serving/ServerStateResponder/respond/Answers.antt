use Rattle.std.proofs.Common.{rules, [], ◌∷◌, refl}
use Rattle.oa_frame.specs.promise.Framings.{frames}
use Rattle.oa_frame.proofs.Spelled.{puts_none, puts_one}
use Rattle.oa_record.specs.promise.Replies.{reply_record}
use Rattle.oa_server.proofs.serving.ServerStateResponder.respond.Goals as goal

pub returns-in-Memory : goal.returns-in-Memory
returns-in-Memory g c =
    let reply = reply_record c.ordinary_turn-reply.result in
    record {
      answers = record {
        replies = reply ∷ [];
        turned = rw c.in-Memory.is (refl, (c.ordinary_turn-reply.result, refl, c.ordinary_turn-reply.ensures.turn));
        put = puts_one (frames c.args.framing).spelled c.put_reply.result _ _ (reply ∷ []) reply refl
            (rw c.body.ensures.value at (rw c.head.ensures at c.put_reply.ensures));
      };
      ready = rw c.in-Memory.is tt;
    }

pub returns-then-not-admit : goal.returns-then-not-admit
returns-then-not-admit g c = record {
  answers = record {
    replies = [];
    turned =
        rw c.in-Disk.is (record {
          told = [];
          are = refl;
          size = c.admit.ensures.size;
          ready = c.admit.ensures.ready (search rules);
          taken = c.admit.ensures.held
              (search rules);
        });
    put = puts_none (frames c.args.framing).spelled _ [] refl c.requires.unbroken;
  };
  ready = c.admit.ensures.ready (search rules);
}
