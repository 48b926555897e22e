-- Histories of an object that many clients share, and when a history is linearizable, durably so with crashes. (Herlihy
-- and Wing, Linearizability: a correctness condition for concurrent objects, 1990; Izraelevitz, Mendes and Scott,
-- Linearizability of persistent memory objects under a full-system-crash failure model, 2016.)
use Rattle.std.specs.Prelude.{◌≡◌, ◌<◌, ◌≤◌, ◌==◌, if◌then◌else◌, ℕ, List, [], ◌∷◌, ◌++◌, length}

-- ---- histories

-- An event: a client invokes an operation with this input, or receives this result. (1990, section 2.1)
pub data HistoryEvent (I R : Type 0) : Type 0 where
  Invocation : ℕ → I → HistoryEvent I R
  Response : ℕ → R → HistoryEvent I R

-- The events between two crashes, in the order in which they happen. (1990, section 2.1)
abbrev pub History : Type 0 → Type 0 → Type 0
History I R = List (HistoryEvent I R)

-- All invocations and all responses, in order, each with its client.
unfoldable pub invoked : {I R : Type 0} → History I R → List (ℕ × I)
invoked [] = []
invoked (Invocation client input ∷ events) = (client, input) ∷ invoked events
invoked (Response client result ∷ events) = invoked events

unfoldable pub responded : {I R : Type 0} → History I R → List (ℕ × R)
responded [] = []
responded (Invocation client input ∷ events) = responded events
responded (Response client result ∷ events) = (client, result) ∷ responded events

-- Those of one client. A client may invoke an operation before it has the result of the one before, so its invocations
-- and its responses are two lists; response number i is that of invocation number i. (1990, section 2.1: H|P)
unfoldable pub of_client : {X : Type 0} → ℕ → List (ℕ × X) → List X
of_client client [] = []
of_client client (x ∷ xs) = if x.0 == client then x.1 ∷ of_client client xs else of_client client xs

abbrev pub invocations : {I R : Type 0} → ℕ → History I R → List I
invocations client history = of_client client (invoked history)

abbrev pub responses : {I R : Type 0} → ℕ → History I R → List R
responses client history = of_client client (responded history)

-- Operation number i of client a precedes operation number j of client b: there is a point in time before which the
-- first had its response and the second was not invoked. (1990, section 2.2: <H)
pub record Precedes {I R : Type 0} (history : History I R) (a i b j : ℕ) : Type 0 where
  pub past : History I R
  pub future : History I R
  pub point : history ≡ past ++ future
  pub ended : i < length (responses a past)
  pub later : length (invocations b past) ≤ j

-- ---- sequential histories

-- An operation with its result.
pub record Operation (I R : Type 0) : Type 0 where
  pub client : ℕ
  pub input : I
  pub result : R

-- One operation after another, each with its response before the next is invoked. (1990, section 2.1)
unfoldable pub sequential : {I R : Type 0} → List (Operation I R) → History I R
sequential [] = []
sequential (one ∷ operations) =
    Invocation one.client one.input ∷ (Response one.client one.result ∷ sequential operations)

-- An object by its sequential specification: which results an operation of a client may have, and the state after it;
-- and the state after a crash and recovery. (1990, section 2.2; what is volatile: 2016, section 2)
pub record Object (S I R : Type 0) : Type 1 where
  pub Step : ℕ → I → R → S → S → Type 0
  pub recovered : S → S

-- A sequential history is legal, from one state to another. (1990, section 2.2)
abbrev pub IsLegal : {S I R : Type 0} → Object S I R → S → List (Operation I R) → S → Type 0
IsLegal object old [] new = new ≡ old
IsLegal {S} object old (one ∷ operations) new =
    (mid : S) × object.Step one.client one.input one.result old mid × IsLegal object mid operations new

-- ---- linearizable histories

abbrev pub IsFirstPart : {X : Type 0} → List X → List X → Type 0
IsFirstPart {X} front whole = (back : List X) × (whole ≡ front ++ back)

-- The operations of the history are those of the order. Each client has invoked its operations in their order, and has
-- received the results that they have in it; one whose response is still to come may be in the order, with some result,
-- or not. What precedes in the history precedes in the order. (1990, section 2.2, L1 and L2)
pub record IsLinearizedBy {I R : Type 0} (history : History I R) (order : List (Operation I R)) : Type 0 where
  pub calls : (client : ℕ) → IsFirstPart (invocations client (sequential order)) (invocations client history)
  pub results : (client : ℕ) → IsFirstPart (responses client history) (responses client (sequential order))
  pub real_time : (a i b j : ℕ) → Precedes history a i b j → Precedes (sequential order) a i b j

-- A history is linearizable, from one state to another. (1990, section 2.2)
pub record IsLinearizable {S I R : Type 0} (object : Object S I R) (old : S) (history : History I R) (new : S)
    : Type 0 where
  pub order : List (Operation I R)
  pub linearized : IsLinearizedBy history order
  pub legal : IsLegal object old order new

-- A history with crashes: its eras, each ended by a crash. The same number in another era is another client. The
-- history is durably linearizable if it is linearizable without its crashes, with the operations of an era before
-- those of the next. So the state that recovery finds contains every operation that had its response before the
-- crash; an operation without a response is contained or lost. (2016, section 3) Each era has a condition, such as
-- whether the device failed in it, which the object's specification may depend on. (This project's choice.)
abbrev pub IsDurablyLinearizable : {C S I R : Type 0} → (C → Object S I R) → S → List C → List (History I R) → S
    → Type 0
IsDurablyLinearizable object old [] [] new = new ≡ old
IsDurablyLinearizable {S = S} object old (condition ∷ conditions) (era ∷ eras) new =
    (mid : S) × IsLinearizable (object condition) old era mid
    × IsDurablyLinearizable object ((object condition).recovered mid) conditions eras new
IsDurablyLinearizable object old [] (era ∷ eras) new = ⊥
IsDurablyLinearizable object old (condition ∷ conditions) [] new = ⊥

-- ---- histories in which the results come in the order of the invocations

-- The clients have invoked these operations in this order, and have received a prefix of these results in this order.
-- No result came before its operation was invoked. Nothing else is stated about when invocations and results came.
pub record ComesInOrder {I R : Type 0} (history : History I R) (inputs : List (ℕ × I)) (results : List (ℕ × R))
    : Type 0 where
  pub inputs_are : invoked history ≡ inputs
  pub results_are : IsFirstPart (responded history) results
  pub caused : (past future : History I R) → history ≡ past ++ future
      → length (responded past) ≤ length (invoked past)

-- ---- what clients see of a history

-- The history as the clients see it over connections. An invocation arrives after it was made, and a response reaches
-- its client after it has left. So each client has invoked at least what has arrived, has received a prefix of what
-- has left, and an operation that precedes another for the clients precedes it in the history. (This project's choice.)
pub record IsSeenAs {I R : Type 0} (history seen : History I R) : Type 0 where
  pub arrived : (client : ℕ) → IsFirstPart (invocations client history) (invocations client seen)
  pub received : (client : ℕ) → IsFirstPart (responses client seen) (responses client history)
  pub later : (a i b j : ℕ) → Precedes seen a i b j → Precedes history a i b j

abbrev pub AreSeenAs : {I R : Type 0} → List (History I R) → List (History I R) → Type 0
AreSeenAs [] [] = Unit {0}
AreSeenAs (history ∷ histories) (seen ∷ others) = IsSeenAs history seen × AreSeenAs histories others
AreSeenAs [] (seen ∷ others) = ⊥
AreSeenAs (history ∷ histories) [] = ⊥
