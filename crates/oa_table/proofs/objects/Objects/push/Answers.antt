use Rattle.std.proofs.Common.{◌<◌, All, ap, List, ℕ}
use Rattle.std.specs.Map.{keys_of}
use Rattle.oa_table.specs.promise.Tables.{ObjectValue, TableValue}
use Rattle.oa_table.proofs.Ordered.{goes_last}
use Rattle.oa_table.proofs.objects.Objects.push.Goals as goal

pub returns-clause-pushed : goal.returns-clause-pushed
returns-clause-pushed c =
    let above : All (λ other. other < c.args.number) (keys_of c.self.inside.objects) = rw (← c.self.view_is) at c.requires in
    let made : List (ℕ × ObjectValue) → TableValue = λ objects. record { next = c.self.inside.next; objects = objects } in
    rw (← c.self.view_is, c.in_ok-insert.ensures.entries) (ap made (goes_last c.self.inside.objects c.args.number c.args.object above))
