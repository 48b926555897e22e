-- When a batch begins. Times are in nanoseconds. (This project's choice.)
use Rattle.std.specs.Prelude.{◌≡◌, ◌≤◌, ℕ, ◌-◌, ◌/◌, ◌==◌, Bool, true, false, if◌then◌else◌, nat_lt}
use Rattle.std.specs.Prelude.{Option, Some, None}
use Rattle.oa_gateway.specs.declared.beginning.Moment.{Moment}
use Rattle.oa_gateway.specs.declared.exclusive.Whose.{Whose}
use Rattle.oa_gateway.specs.declared.exclusive.Whose.TheVariants.{Nobody, Holder, NextHolder, Shared}

-- The server serves, and has answered everything; it waits for no backup.
abbrev pub is_free : Moment → Bool
is_free m = if m.is_up then (if m.in_flight then false else if m.is_held then false else true) else false

pub record IsFree (m : Moment) : Type 0 where
  pub up : m.is_up ≡ true
  pub answered : m.in_flight ≡ false
  pub unheld : m.is_held ≡ false

-- Clients that were answered mostly send a request again at once. So after a batch the next one
-- waits for them, for a quarter of the time that a batch takes, at most two milliseconds.
abbrev pub longest_pause : ℕ
longest_pause = 2000000

abbrev pub pause : Moment → ℕ
pause m = if m.awaited == 0 then 0 else if nat_lt longest_pause (m.took / 4) then longest_pause - m.since
    else m.took / 4 - m.since

abbrev pub has_turns : Whose → Bool
has_turns Nobody = false
has_turns Holder = true
has_turns NextHolder = true
has_turns Shared = true

-- A batch has requests, or the ends of clients alone.
abbrev pub begins : Moment → Whose → Option ℕ
begins m w = if is_free m then (if has_turns w then Some (pause m) else if m.ends_wait then Some (pause m) else None)
    else None

-- a batch begins without anything else, at most this time after the last one was answered
pub record BeginsSoon (m : Moment) (w : Whose) : Type 0 where
  pub after : ℕ
  pub begins : begins m w ≡ Some after
  pub soon : after ≤ longest_pause - m.since
  pub quarter : after ≤ m.took / 4 - m.since
  pub at_once : m.awaited ≡ 0 → after ≡ 0
