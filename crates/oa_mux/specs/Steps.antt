-- Definitions for contracts and proofs, beside promise/Steps.
use Rattle.std.specs.Prelude.{◌≡◌, ◌<◌, ◌≤◌, ℕ, List, [], ◌∷◌, ◌++◌, length, take, drop, Option, Some, None}
use Rattle.oa_frame.specs.declared.ends.End.{End}
use Rattle.oa_mux.specs.promise.Marks.{Last}
use Rattle.oa_mux.specs.promise.Readers.{Body, Brought, Ends, Held, Over, ClientState, records_of}
use Rattle.oa_mux.specs.Readers.{IsEnd, IsPartRecord, IsWholeRecord}
use Rattle.oa_mux.specs.declared.found.Found.{Found}
use Rattle.oa_mux.specs.declared.found.Found.TheVariants as found
use Rattle.oa_mux.specs.declared.step.WholeRecord.{WholeRecord}
use Rattle.oa_mux.specs.declared.step.WholeRecord.TheVariants as whole
use Rattle.oa_mux.specs.declared.step.ClientItem.{ClientItem}
use Rattle.oa_mux.specs.declared.step.ClientItem.TheVariants as what
use Rattle.oa_mux.specs.promise.Steps.{client_state}

-- what is whole after the bytes that came before
abbrev pub FindsEnd : Found → List ℕ → List ℕ → Type 0
FindsEnd found.Part front bytes = IsPartRecord (front ++ bytes)
FindsEnd (found.Whole n) front bytes = (0 < n) × (n ≤ length bytes) × IsWholeRecord (front ++ take n bytes)
FindsEnd (found.Ends why n) front bytes = (0 < n) × (n ≤ length bytes) × IsEnd why (front ++ take n bytes)

abbrev pub record_body : WholeRecord → List ℕ
record_body (whole.Here bytes) = drop 4 bytes.now
record_body (whole.Gathered bytes) = drop 4 bytes.items

abbrev pub brought : ClientItem → List Brought
brought what.Nothing = []
brought (what.Body r) = Body (record_body r) ∷ []
brought (what.Ends why) = Ends why ∷ []

-- some bytes were consumed; all of them if they completed nothing
abbrev pub Takes : ℕ → ClientItem → ℕ → Type 0
Takes taken what.Nothing all = taken ≡ all
Takes taken (what.Body r) all = (0 < taken) × (taken ≤ all)
Takes taken (what.Ends why) all = (0 < taken) × (taken ≤ all)

-- the bytes that complete a client's record
abbrev pub IsWholeBehind : List ℕ → ClientState → Type 0
IsWholeBehind bytes (Held front) = (0 < length bytes) × IsWholeRecord (front ++ bytes)
IsWholeBehind bytes Over = ⊥

-- no other client changes
abbrev pub OthersStay : ℕ → List (ℕ × ClientState) → List (ℕ × ClientState) → Type 0
OthersStay client old new = (other : ℕ) → (client ≡ other → ⊥) → client_state new other ≡ client_state old other

-- the item of the end of a client's stream, or nothing if it had ended before
abbrev pub brought_last : Option End → List Brought
brought_last None = []
brought_last (Some why) = Ends why ∷ []

abbrev pub EndsWith : Option End → Option ClientState → Option ClientState → Type 0
EndsWith result old new = records_of old Last ≡ (brought_last result, new)

-- the lowest number, since they rise
abbrev pub first_client : List (ℕ × ClientState) → Option ℕ
first_client [] = None
first_client (client ∷ clients) = Some client.0

-- the client with the lowest number is removed, with the end of its stream; None if there is no client
abbrev pub EndsLowest : Option (ℕ × Option End) → List (ℕ × ClientState) → List (ℕ × ClientState) → Type 0
EndsLowest None old new = (old ≡ []) × (new ≡ [])
EndsLowest (Some ended) old new =
    (state : ClientState) × (old ≡ (ended.0, state) ∷ new) × EndsWith ended.1 (Some state) None
