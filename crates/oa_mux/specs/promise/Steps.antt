-- What a step through a client's bytes finds, consumes and leaves. (This project's choice.)
use Rattle.std.specs.Prelude.{ℕ, List, Option}
use Rattle.std.specs.Map.{lookup}
use Rattle.std.specs.BTreeMap.{is_at}
use Rattle.std.specs.Ordering.{nat_cmp}
use Rattle.oa_mux.specs.promise.Readers.{ClientState}

-- the state of a client among the present ones
abbrev pub client_state : List (ℕ × ClientState) → ℕ → Option ClientState
client_state clients client = lookup (is_at (nat_cmp client)) clients
