use Rattle.std.proofs.Common.{[], sym, ap, ◌∙◌, refl}
use Rattle.oa_gateway.specs.Queues.{begun_queue, next_batch}
use Rattle.oa_gateway.proofs.Placed.{all_wait, clients_are}
use Rattle.oa_gateway.proofs.queue.Queue.renew.Goals as goal

pub returns-then-self-gt0-clause-done : goal.returns-then-self-gt0-clause-done
returns-then-self-gt0-clause-done c _ =
    let q = c.close_up.new.self in
    let e = c.close_up.ensures.kept in
    clients_are _ _ _ _ refl (all_wait c.close_up.new.places q.kept q.next q.end (e.0 ∙ sym e.1) c.close_up.ensures.queue.1)
    ∙ ap (λ l. begun_queue (next_batch l)) c.close_up.ensures.same
