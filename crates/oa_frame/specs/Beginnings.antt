-- What a session requires, and keeps. (This project's choice.)
use Rattle.std.specs.Prelude.{◌≡◌, ◌+◌, ◌≤◌, ℕ, false}
use Rattle.oa_model.specs.promise.Limits.{max_line_characters, max_request_bytes}
use Rattle.oa_stream.specs.promise.Sink.{Output}
use Rattle.oa_stream.specs.promise.Source.{Input}

-- neither the reader nor the writer has failed
pub record AreUnbroken (input : Input) (out : Output) : Type 0 where
  pub reader : input.faulted ≡ false
  pub writer : out.broken ≡ false

-- two buffers have capacity for the longest line and for the longest body
pub record HoldLongest (line body : ℕ) : Type 0 where
  pub line_places : max_line_characters + 1 ≤ line
  pub body_places : max_request_bytes ≤ body

-- two buffers have at least the capacity that they had
pub record KeepPlaces (line line' body body' : ℕ) : Type 0 where
  pub line_places : line ≤ line'
  pub body_places : body ≤ body'
