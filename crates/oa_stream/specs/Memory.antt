-- Definitions for contracts and proofs, beside promise/Memory.
use Rattle.std.specs.Prelude.{◌&&◌, ◌==◌}
use Rattle.oa_stream.specs.declared.cutting.ChunkedSource.{ChunkedSource}
use Rattle.oa_stream.specs.declared.interrupted.Interrupted.{Interrupted}
use Rattle.oa_stream.specs.promise.Source.{Input, in_memory}

-- the lengths of the chunks are not visible
abbrev pub cutting : ChunkedSource → Input
cutting c = in_memory c.bytes.now

-- steady if no interruption is left and the inner reader is steady
abbrev pub interrupted : {R : Type 0} → (R → Input) → Interrupted R → Input
interrupted input i =
    let inner = input i.reader in
    record { left = inner.left; calls = i.calls; faulted = inner.faulted; steady = (i.times == 0) && inner.steady }
