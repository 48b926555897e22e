-- Writers as contracts see them: what they accept, keep back and send (this project's choice).
use Rattle.std.specs.Prelude.{◌≡◌, ℕ, ◌+◌, ◌≤◌, Bool, true, false, List, [], ◌++◌, length, Option}
use Rattle.std.specs.Io.KnownBytes.{Appends}

-- A writer: what has left it for good, if that is known; what it accepted and keeps back; whether nothing has been
-- written since the last flush; how many bytes it keeps back at most; it promises to accept and send fewer bytes than
-- `room` without a failure; whether it failed.
pub record Output : Type 0 where
  pub reached : Option (List ℕ)
  pub kept : List ℕ
  pub flushed : Bool
  pub back : ℕ
  pub room : ℕ
  pub broken : Bool

-- everything that was put has left, and is flushed
pub record IsHandedOn (o : Output) : Type 0 where
  pub nothing : o.kept ≡ []
  pub flushed : o.flushed ≡ true

-- All bytes were accepted: the bytes kept back before, and these, are now those that have left and those that are
-- kept back. They used no more space than they have bytes.
pub record Writes (old new : Output) (bytes : List ℕ) : Type 0 where
  pub gone : List ℕ
  pub whole : old.kept ++ bytes ≡ gone ++ new.kept
  pub reached : Appends old.reached new.reached gone
  pub left : old.room ≤ new.room + length bytes
  pub back : new.back ≡ old.back
  pub sound : new.broken ≡ false

-- The writer failed: a prefix of the bytes has left, the rest is lost, and these bytes were more than it had promised
-- to accept.
pub record Breaks (old new : Output) (bytes : List ℕ) : Type 0 where
  pub gone : List ℕ
  pub lost : List ℕ
  pub whole : old.kept ++ bytes ≡ gone ++ lost
  pub reached : Appends old.reached new.reached gone
  pub full : old.room ≤ length bytes
  pub broken : new.broken ≡ true
