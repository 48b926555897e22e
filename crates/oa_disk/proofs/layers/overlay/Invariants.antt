use Rattle.std.proofs.Common.{◌≡◌, ◌+◌, List, ℕ, length, drop}
use Rattle.oa_disk.specs.Disk.{HasBytesAt}
use Rattle.oa_disk.specs.Replay.{AllInside}
use Rattle.oa_disk.specs.promise.Disk.{count_all}
use Rattle.oa_disk.proofs.Laid.{IsMade}
use Rattle.oa_disk.proofs.layers.overlay.Given as goal

abbrev pub invariant-loop-call : goal.invariant-loop-call
invariant-loop-call l = record {
  shown : (disk : List ℕ) → AllInside (length disk) l.calls → HasBytesAt disk l.at l.initial.window
      → IsMade disk l.calls l.written (drop l.call-index l.calls) (drop l.from l.written) l.at l.window;
  len : length l.window ≡ length l.initial.window;
  count : l.from + count_all (drop l.call-index l.calls) ≡ count_all l.calls;
}
