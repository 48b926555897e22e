-- Definitions for contracts and proofs, beside promise/Frames.
use Rattle.std.specs.Prelude.{◌<◌, ⊤}
use Rattle.oa_mux.specs.declared.frame.FrameHead.{FrameHead}
use Rattle.oa_mux.specs.declared.frame.FrameHead.TheVariants as head

-- a head of a client's bytes has a length above 0
abbrev pub SaysSome : FrameHead → Type 0
SaysSome (head.Bytes client n) = 0 < n
SaysSome (head.Last client) = ⊤
SaysSome head.Flush = ⊤
SaysSome head.Unknown = ⊤
