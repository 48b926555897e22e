-- Whose requests are in a batch. (This project's choice.)
use Rattle.std.specs.Prelude.{◌≡◌, ◌⊎◌, Bool, true, false, if◌then◌else◌, List, [], ◌∷◌, ⊤, nat_lt}
use Rattle.oa_gateway.specs.declared.exclusive.Exclusion.{Exclusion}
use Rattle.oa_gateway.specs.declared.exclusive.Waiting.{Waiting}
use Rattle.oa_gateway.specs.declared.exclusive.Whose.{Whose}
use Rattle.oa_gateway.specs.declared.exclusive.Whose.TheVariants.{Nobody, Holder, NextHolder, Shared}
use Rattle.oa_gateway.specs.declared.queue.Queue.{Queue}

-- The next exclusive client has the server to itself, if one waits. But after another one had it,
-- shared clients that wait have a batch first.
abbrev pub whose_if_free : Bool → Waiting → Whose
whose_if_free others_first w = if w.exclusive
    then (if others_first then (if w.shared then Shared else NextHolder) else NextHolder)
    else if w.shared then Shared else Nobody

-- While an exclusive client has the server to itself, all requests are those of this client.
abbrev pub whose : Exclusion → Waiting → Whose
whose e w = if e.is_held then (if w.holder then Holder else Nobody) else whose_if_free e.others_first w

-- after a batch of these
abbrev pub behind_batch : Whose → Exclusion → Exclusion
behind_batch Nobody e = e
behind_batch Holder e = e
behind_batch NextHolder e = record { is_held = true; others_first = e.others_first }
behind_batch Shared e = record { is_held = e.is_held; others_first = false }

-- the client that had the server to itself has gone
abbrev pub behind_holder : Exclusion → Exclusion
behind_holder e = record { is_held = false; others_first = true }

-- The kinds of clients that wait. The queues are those of the client that has the server to itself,
-- of other exclusive clients, and of shared ones.
abbrev pub waits : Queue → Bool
waits q = nat_lt q.next q.end

abbrev pub waiting_in : Queue → Queue → Queue → Waiting
waiting_in own exclusive shared = record { holder = waits own; exclusive = waits exclusive; shared = waits shared }

-- these clients wait at the beginning of each batch, and each is that of the client that has the server to itself
unfoldable pub AllAreHolders : Exclusion → List Waiting → Type 0
AllAreHolders e [] = ⊤
AllAreHolders e (w ∷ all) = ((whose e w ≡ Holder) ⊎ (whose e w ≡ Nobody))
    × AllAreHolders (behind_batch (whose e w) e) all

-- the requests of a batch are of clients that wait
abbrev pub WaitsFor : Whose → Waiting → Type 0
WaitsFor Nobody w = ⊤
WaitsFor Holder w = w.holder ≡ true
WaitsFor NextHolder w = w.exclusive ≡ true
WaitsFor Shared w = w.shared ≡ true

-- An exclusive client that waits has the next batch, or the one after a batch of shared clients.
abbrev pub HasNext : Exclusion → Waiting → Waiting → Type 0
HasNext e w later = (whose e w ≡ NextHolder)
    ⊎ ((whose e w ≡ Shared) × (whose (behind_batch Shared e) later ≡ NextHolder))
