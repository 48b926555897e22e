use Rattle.std.proofs.Common.{◌≡◌, ◌-◌, ◌≤◌, ap, arith, sym}
use Rattle.std.proofs.lemmas.Bool.{le-ltb}
use Rattle.oa_image.specs.promise.Tables.{reserved_bytes}
use Rattle.oa_table.specs.Sizes.{size_due}
use Rattle.oa_table.specs.promise.Sizes.{table_size}
use Rattle.oa_decision.proofs.limits.is_too_large.Goals as goal

pub returns-then-has_surely_room : goal.returns-then-has_surely_room
returns-then-has_surely_room c = λ new made.
    let sized = ap (λ due. size_due table_size due c.args.table.now) made in
    sym (le-ltb (c.args.bank - reserved_bytes) (table_size new) (omega (arith, c.has_surely_room.ensures.room c.if-has_surely_room.true, sized)))
