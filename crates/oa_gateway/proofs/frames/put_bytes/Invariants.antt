use Rattle.std.proofs.Common.{◌≤◌, ◌-◌, ◌+◌, ◌*◌, ◌/◌, length, take}
use Rattle.oa_mux.specs.Marks.{pieces}
use Rattle.oa_gateway.specs.Frames.{SpellsFrames}
use Rattle.oa_gateway.proofs.frames.put_bytes.Given as goal

abbrev pub invariant-frames : goal.invariant-frames
invariant-frames l = record {
  within : l.done ≤ length l.bytes;
  room : l.at + (length l.bytes - l.done) + 8 * ((length l.bytes - l.done + 1048575) / 1048576) ≤ length l.out;
  spells : SpellsFrames l.number (take l.at l.out) (pieces (take l.done l.bytes));
}

abbrev pub decreases-frames : goal.decreases-frames
decreases-frames l = length l.bytes - l.done
