-- The log of a file's calls.
use Rattle.std.specs.Prelude.{ℕ, ◌-◌, ◌%◌, true, ◌&&◌, List, [], ◌∷◌, ◌++◌, length, map}
use Rattle.std.specs.List.{range_with_len}
use Rattle.oa_disk.specs.declared.call.DeviceCall.{DeviceCall}
use Rattle.oa_disk.specs.declared.record.Record.{Record}
use Rattle.oa_disk.specs.Replay.{agrees}
use Rattle.oa_disk.specs.promise.Disk.{contents_after, zeros, DiskHistory}

-- the bytes of a file of that size, given by a number for each place; of a number above 255 the lowest eight bits
-- count
abbrev pub file_bytes : (ℕ → ℕ) → ℕ → List ℕ
file_bytes held size = map (λ i. held i % 256) (range_with_len 0 size)

-- the log of a file of that size with this byte at each place, and no call
abbrev pub beginning : (ℕ → ℕ) → ℕ → Record
beginning held size = record { first = file_bytes held size; calls = []; written = []; honest = true }

-- The log with one more call, with the bytes that it wrote and the bytes that it returned from this place on.
abbrev pub noted : Record → DeviceCall → List ℕ → ℕ → List ℕ → Record
noted before call written at given = record {
  first = before.first;
  calls = before.calls ++ call ∷ [];
  written = before.written ++ written;
  honest = before.honest && agrees (contents_after before.first before.calls before.written) at given;
}

-- the log, without calls, of a file that begins with this one's present contents, followed by zeros up to that size;
-- whether its reads were right is taken over
abbrev pub lengthened : Record → ℕ → Record
lengthened before size = record {
  first = contents_after before.first before.calls before.written
      ++ zeros (size - length (contents_after before.first before.calls before.written));
  calls = [];
  written = [];
  honest = before.honest;
}

-- the history: the log without what the reads returned
abbrev pub recorded_history : Record → DiskHistory
recorded_history r = record { first = r.first; calls = r.calls; written = r.written }
