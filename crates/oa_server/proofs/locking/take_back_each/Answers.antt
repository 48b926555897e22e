use Rattle.std.proofs.Common.{rules, ◌≡◌, ap, map, ◌∙◌}
use Rattle.oa_turn.specs.Counts.{locked_name}
use Rattle.oa_server.proofs.LocksBack.{clients_begin, taken_clients}
use Rattle.oa_server.proofs.locking.take_back_each.Goals as goal

pub clients-init : goal.clients-init
clients-init c =
    let same : c.into_iter-client-iterator.result ≡ c.clients-client-items.result = search rules in
    ap (λ l. taken_clients l c.args.host.now) same
    ∙ clients_begin c.clients-client-items.result (map locked_name c.args.owners.now) c.args.host.now c.clients-client-items.ensures
