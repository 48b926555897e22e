use Rattle.std.proofs.Common.{◌≡◌, ◌-◌, ◌≤◌, ap, arith, refl}
use Rattle.std.proofs.lemmas.Bool.{le-ltb}
use Rattle.oa_image.specs.promise.Sizes.{event_size}
use Rattle.oa_image.specs.promise.Tables.{reserved_bytes}
use Rattle.oa_model.specs.promise.Limits.{max_event_bytes}
use Rattle.oa_table.specs.Sizes.{size_due}
use Rattle.oa_table.specs.promise.Sizes.{table_size}
use Rattle.oa_decision.proofs.limits.surely_fits.Goals as goal

pub returns-then-len-le-MAX_EVENT_BYTES-clause-within : goal.returns-then-len-le-MAX_EVENT_BYTES-clause-within
returns-then-len-le-MAX_EVENT_BYTES-clause-within c = λ is new made.
    let room = c.args.bank - reserved_bytes in
    let sized = ap (λ due. size_due table_size due c.args.table.now) made in
    let event : event_size c.args.event.now ≤ max_event_bytes = omega (arith, c.len.ensures.counted) in
    let table : table_size new ≤ room = omega (arith, c.has_surely_room.ensures.room is, sized) in
    rw (le-ltb max_event_bytes (event_size c.args.event.now) event, le-ltb room (table_size new) table) refl
