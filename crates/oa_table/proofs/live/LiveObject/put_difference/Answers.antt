use Rattle.std.proofs.Common.{◌≡◌, sym, arith}
use Rattle.oa_table.specs.promise.Elements.{locks_of}
use Rattle.oa_table.proofs.Sums.{put_free_due, put_over_due}
use Rattle.oa_table.proofs.live.LiveObject.put_difference.Goals as goal

pub returns-else-locks_of-ne0-clause-size : goal.returns-else-locks_of-ne0-clause-size
returns-else-locks_of-ne0-clause-size c =
    let free : locks_of c.in-Some.old.now ≡ 0 = omega (arith, c.locks_of.ensures, c.if-locks_of-ne0.false) in
    let there = sym c.in-Some.ensures in
    rw (c.value_size.ensures.value, c.value_size-in-Some.ensures.value)
    (put_over_due c.args.place.now c.args.value.now c.args.self.now c.in-Some.old.now c.places_rise.ensures there free)

pub returns-in-None-clause-size : goal.returns-in-None-clause-size
returns-in-None-clause-size c =
    let none = sym c.in-None.ensures in
    rw (c.place_size.ensures.value, c.value_size-in-None.ensures.value) (omega (arith, put_free_due c.args.place.now c.args.value.now c.args.self.now none))
