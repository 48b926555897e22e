use Rattle.std.proofs.Common.{◌<◌, length, refl, ap}
use Rattle.std.specs.Option.{option_map}
use Rattle.oa_ordered.proofs.Joined.{get_is, set_as_value}
use Rattle.oa_ordered.proofs.row.Row.value_mut.Goals as goal

pub returns : goal.returns
returns g c =
    let es = c.self.inside.entries.items in
    let e = c.index_mut.result.now in
    let lt : c.args.at < length es = rw c.self.view_is c.requires in
    rw (← c.self.view_is) (
      (refl, λ w. set_as_value es c.args.at e e w lt c.index_mut.ensures.value),
      record { writes_back = tt; value = ap (option_map (λ x. x.1)) (get_is es c.args.at e e lt c.index_mut.ensures.value) },
    )
