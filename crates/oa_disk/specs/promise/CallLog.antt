-- The parts of a disk in memory.
use Rattle.std.specs.Prelude.{ℕ, List}
use Rattle.oa_disk.specs.declared.layers.SparseImage.{SparseImage}
use Rattle.oa_disk.specs.declared.ledger.CallLog.{CallLog}
use Rattle.oa_disk.specs.promise.Disk.{DiskHistory, contents_of, layered}

-- the zeros after all writes
abbrev pub laid : SparseImage → List ℕ
laid layers = contents_of (layered layers.size layers.calls.items layers.written.items)

-- the first contents, and the calls that were logged since
abbrev pub history : SparseImage → CallLog → DiskHistory
history first ledger = record { first = laid first; calls = ledger.calls.items; written = ledger.written.items }
