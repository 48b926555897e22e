-- Which clients are disconnected. (This project's choice.)
use Rattle.std.specs.Prelude.{◌≡◌, ◌<◌, ◌≤◌, ℕ, ◌==◌, ◌/◌, Bool, false, if◌then◌else◌, List, length}
use Rattle.std.specs.Prelude.{nat_lt, get_or}
use Rattle.oa_gateway.specs.declared.disconnects.Conduct.{Conduct}
use Rattle.oa_gateway.specs.declared.disconnects.Patience.{Patience}
use Rattle.oa_gateway.specs.declared.disconnects.Verdict.{Verdict}
use Rattle.oa_gateway.specs.declared.disconnects.Verdict.TheVariants.{Stays, Unread, Incomplete, Idle}

-- It has to complete its request in time.
abbrev pub judged_by_request : Conduct → Patience → Verdict
judged_by_request c p = if nat_lt p.stalled c.incomplete_for then Incomplete else Stays

-- It has to send a request in time, if none of its requests waits.
abbrev pub judged_by_silence : Conduct → Patience → Verdict
judged_by_silence c p = if c.asks_nothing
    then (if nat_lt p.idle c.silent then Idle else judged_by_request c p)
    else judged_by_request c p

-- It has to read some of its replies in time, if there are any.
abbrev pub judged : Conduct → Patience → Verdict
judged c p = if c.unread == 0 then judged_by_silence c p
    else (if nat_lt p.stalled c.unread_for then Unread else judged_by_request c p)

-- A client with replies loses its memory once it has read none of them for a second. This happens
-- only if a request waits for memory for its reply, or if replies have more than half of all
-- memory.
abbrev pub has_rested : Conduct → Bool
has_rested c = if c.unread == 0 then false else nat_lt 1000 c.unread_for

abbrev pub gives_way : Conduct → ℕ → ℕ → Bool → Bool
gives_way c used memory lacks = if lacks then has_rested c else if nat_lt (memory / 2) used then has_rested c else false

-- no client has more unread replies than this one, which has some
pub record IsHeaviest (unread : List ℕ) (client : ℕ) : Type 0 where
  pub there : client < length unread
  pub some : 0 < get_or unread client 0
  pub most : (k : ℕ) → k < length unread → get_or unread k 0 ≤ get_or unread client 0

-- all have read theirs
abbrev pub AllHaveRead : List ℕ → Type 0
AllHaveRead unread = (k : ℕ) → k < length unread → get_or unread k 0 ≡ 0
