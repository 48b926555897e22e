use Rattle.std.proofs.Common.{◌≡◌, drop}
use Rattle.oa_ndr.specs.Writing.{TakesNothingBack}
use Rattle.oa_ndr.specs.promise.Writing.{put_all}
use Rattle.oa_wire_array.specs.promise.ArrayCanon.{put_bound}
use Rattle.oa_wire_array.proofs.array_out.write_bounds.Given as goal

abbrev pub invariant-loop-bound : goal.invariant-loop-bound
invariant-loop-bound l =
    (l.out.before ≡ l.fn.out.before)
    × TakesNothingBack l.fn.out l.out
    × (put_all put_bound (drop l.bound-index l.bounds) l.out.field ≡ put_all put_bound l.bounds l.fn.out.field)
