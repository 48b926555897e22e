use Rattle.std.proofs.Common.{◌-◌, ℕ, length, drop, sym, ap, subst, arith}
use Rattle.std.proofs.lemmas.List.{take_rest, length-drop}
use Rattle.oa_disk.specs.Replay.{AllInside}
use Rattle.oa_disk.proofs.Calls.{inside_take, inside_drop, count_parts}
use Rattle.oa_disk.proofs.crash.leave_at.Goals as goal

pub replay-requires-clause-written : goal.replay-requires-clause-written
replay-requires-clause-written c = omega (arith, count_parts c.args.calls.now c.last_sync-synced.result, c.requires.written)

pub slice_bounds-tear_all-count-2 : goal.slice_bounds-tear_all-count-2
slice_bounds-tear_all-count-2 c = omega (arith, count_parts c.args.calls.now c.last_sync-synced.result, c.requires.written, c.in_ok-from.ensures.count)

pub slice_bounds-tear_all-start-2 : goal.slice_bounds-tear_all-start-2
slice_bounds-tear_all-start-2 c = omega (arith, count_parts c.args.calls.now c.last_sync-synced.result, c.requires.written, c.in_ok-from.ensures.count)

pub tear_all-requires-clause-inside : goal.tear_all-requires-clause-inside
tear_all-requires-clause-inside c =
    let s = c.last_sync-synced.result in
    inside_take _ (drop s c.args.calls.now) (c.div_ceil-begun.result - s)
    (inside_drop _ c.args.calls.now s (subst (λ (k : ℕ). AllInside k c.args.calls.now) (sym c.replay.ensures.size) c.requires.inside))

pub tear_all-requires-clause-written : goal.tear_all-requires-clause-written
tear_all-requires-clause-written c =
    let calls = c.args.calls.now in
    let s = c.last_sync-synced.result in
    let b = c.in_ok-from.from in
    omega (
      arith,
      count_parts calls s,
      count_parts (drop s calls) (c.div_ceil-begun.result - s),
      c.requires.written,
      c.in_ok-from.ensures.count,
      ap length (take_rest c.args.written.now b),
      length-drop b c.args.written.now,
    )
