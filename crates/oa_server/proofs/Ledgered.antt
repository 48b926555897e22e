-- The locks of the table are those that clients have taken.
use Rattle.std.proofs.Common.{◌≡◌, inl, inr, ℕ, ◌+◌, ◌-◌, ◌==◌, arith, Bool, true, false, true≢false, List, [], ◌∷◌, ◌++◌, map, Option, Some, None, Result}
use Rattle.std.proofs.Common.{Ok, Err, IfOk, refl, sym, ap, ◌∙◌, subst}
use Rattle.std.proofs.lemmas.Bool.{and_parts, eqb-true, ltb-true}
use Rattle.std.proofs.lemmas.List.{append-nil}
use Rattle.std.proofs.lemmas.Map.Made.{lookup-map_values}
use Rattle.std.specs.Prelude.{⊤, if◌then◌else◌, nat_lt}
use Rattle.std.specs.BTreeMap.{is_at}
use Rattle.std.specs.Cmp.{unsigned_tied}
use Rattle.std.specs.List.{list_all}
use Rattle.std.specs.List.Sorted.{IsStrictlySortedBy}
use Rattle.std.specs.Map.{keys_of, lookup}
use Rattle.std.specs.Option.{option_map}
use Rattle.std.specs.Ordering.{nat_cmp}
use Rattle.oa_array.specs.promise.Arrays.{ArrayValue}
use Rattle.oa_array.specs.declared.fault.ArrayFault.{ArrayFault}
use Rattle.oa_array.specs.declared.fault.ArrayFault.TheVariants as arrays
use Rattle.oa_frame.specs.declared.ends.End.{End}
use Rattle.oa_frame.specs.declared.ends.End.TheVariants.{Closed, Cut, TooLong, BadHex, ReadFault, WriteFault}
use Rattle.oa_group_commit.specs.promise.Groups.{Exchange}
use Rattle.oa_image.specs.promise.Tables.{is_numbered, is_used}
use Rattle.oa_image.proofs.Numbered.{numbers_stay, on_object_keeps, unlocked_numbers}
use Rattle.oa_model.specs.declared.bound.Bound.{Bound}
use Rattle.oa_model.specs.declared.hresult.HResult.{HResult}
use Rattle.oa_model.specs.declared.var_type.ValueType.{ValueType}
use Rattle.oa_model.specs.declared.var_type.ValueType.TheVariants as kinds
use Rattle.oa_turn.specs.promise.ClientLocks.{ClientLock, cells_of, of_others, with_one, without_one}
use Rattle.oa_turn.specs.Counts.{HasLocks, IsLedger, locked_name}
use Rattle.oa_turn.proofs.Counted.{can_unlock, count_more_of, count_none, count_of_none, count_owned, count_without, event_ordered, event_stays, has_same}
use Rattle.oa_turn.proofs.Counted.{lock_counted, object_ordered, own_one_more, own_without, redim_same, unlock_counted}
use Rattle.oa_record.specs.promise.Asks.{Asks, IsStub, tag_at}
use Rattle.oa_record.specs.promise.Replacement.{is_replacement}
use Rattle.oa_record.specs.promise.Replies.{ReplyValue, number_field}
use Rattle.oa_record.specs.declared.request.Request.{Request}
use Rattle.oa_record.specs.declared.request.Request.TheVariants as requests
use Rattle.oa_record.specs.declared.opcode.ByCall.TheVariants as by_call
use Rattle.oa_record.specs.declared.opcode.ByNumber.TheVariants as by_number
use Rattle.oa_server.specs.Ledgers.{ClientsKeepLedger, EndUnlocksAll, HasLedger, IsRunOfOne, IsTurnOfOne, OpeningHasLedger, OwnsAll, RunsKeepLedger}
use Rattle.oa_server.specs.Ledgers.{TurnsKeepLedger}
use Rattle.oa_server.specs.promise.SharedMachine.{ClientReply, HasOwners, IsSharedTurn, Leaves, MayChange}
use Rattle.oa_server.specs.promise.SharedMachine.{RefusesUnlock, Replies, Shared, SharedTurnOf, TakesTurn, TurnsFor}
use Rattle.oa_server.specs.promise.SharedMachine.{behind_end, brought_by, client_in, relocked_by, shared, tagged_body}
use Rattle.oa_server.specs.promise.SharedMachine.{taken_back}
use Rattle.oa_server.proofs.LockTurns.{OneRequest, apart_asks_none, not_apart}
use Rattle.oa_mux.specs.promise.Readers.{Body, Brought, Ends}
use Rattle.oa_table.specs.promise.Elements.{locks_in, locks_of, redimensioned_value, released_value, locked_value}
use Rattle.oa_table.specs.Events.{BringsNoLocks}
use Rattle.oa_table.specs.promise.Events.{applied}
use Rattle.oa_table.specs.Locks.{locks_at}
use Rattle.oa_table.specs.promise.Locks.{with_lock, without_lock}
use Rattle.oa_table.specs.promise.Objects.{with_change}
use Rattle.oa_table.specs.promise.Places.{PlaceValue, place_cmp}
use Rattle.oa_table.specs.promise.Tables.{ObjectValue, TableValue, cell_at, cell_in, object_at, unlocked_cell}
use Rattle.oa_table.specs.promise.Tables.{unlocked_entry, unlocked_object, unlocked_table}
use Rattle.oa_table.specs.declared.event.Event.{Event}
use Rattle.oa_table.specs.declared.event.Event.TheVariants.{Create as CreateEvent}
use Rattle.oa_table.specs.declared.fault.TableFault.{TableFault}
use Rattle.oa_table.specs.declared.fault.TableFault.TheVariants as faults
use Rattle.oa_table.specs.declared.name.CellName.{CellName}
use Rattle.oa_typelib.specs.declared.access.Access.TheVariants.{Flags, Get, Put}
use Rattle.oa_variant.specs.promise.Variants.{unlocked, zero_value}
use Rattle.oa_variant.specs.declared.scalar.Scalar.{Scalar}
use Rattle.oa_variant.specs.declared.variant.Variant.{Variant}
use Rattle.oa_variant.specs.declared.variant.Variant.TheVariants.{One, Array as AnArray}
use Rattle.oa_decision.specs.promise.ArrayCells.{array_locks, as_refused, element_in, locks_found, put_in}
use Rattle.oa_decision.specs.promise.Cells.{cell_called}
use Rattle.oa_decision.specs.promise.Create.{class_found, fitting}
use Rattle.oa_decision.specs.promise.Decided.{decided}
use Rattle.oa_decision.specs.promise.GetElement.{reading}
use Rattle.oa_decision.specs.promise.Invoke.{acting}
use Rattle.oa_decision.specs.promise.Limits.{allowed}
use Rattle.oa_decision.specs.promise.Lock.{adding}
use Rattle.oa_decision.specs.promise.LookUps.{ids_found}
use Rattle.oa_decision.specs.promise.PutElement.{element_for, setting}
use Rattle.oa_decision.specs.promise.Redimension.{resizing, zero_with}
use Rattle.oa_decision.specs.promise.Refusals.{◌>>=◌, known}
use Rattle.oa_decision.specs.promise.States.{State}
use Rattle.oa_decision.specs.promise.TypeInfo.{description_of}
use Rattle.oa_decision.specs.promise.Unlock.{unlock_decision}
use Rattle.oa_decision.specs.declared.decider.cell.BoundCell.{BoundCell}
use Rattle.oa_decision.specs.declared.decision.Decision.{Decision}
use Rattle.oa_decision.specs.declared.decision.Decision.TheVariants.{Answer, Change, Relock}
use Rattle.oa_decision.specs.declared.decision.LockChange.{LockChange}
use Rattle.oa_decision.specs.declared.decision.LockChange.TheVariants.{Lock, Unlock}
use Rattle.oa_decision.specs.declared.refusal.Refusal.{Refusal}
use Rattle.oa_turn.proofs.NoTrace.{not_done, quiet_turn}
use Rattle.oa_turn.specs.promise.Events.{is_done}
use Rattle.oa_turn.specs.promise.Locking.{changes_lock, lock_asked_by, lock_decided}
use Rattle.oa_turn.specs.promise.Replacing.{Replacement, after_replacement}
use Rattle.oa_turn.specs.promise.Steps.{after_locks, after_outcome, changed, outcome, outcome_of, relocked, relocking}
use Rattle.oa_turn.specs.promise.Steps.{reply_with, state_after, with_table}
use Rattle.oa_turn.specs.promise.Turns.{Ordinary, Steps, Turn}
use Rattle.oa_compat.specs.declared.lost.Incompatibility.{Incompatibility}
use Rattle.oa_idl.specs.promise.Trees.{TreeValue}

abbrev some_change : LockChange → Option LockChange
some_change change = Some change

abbrev no_change : Option LockChange
no_change = None

not_none : (change : LockChange) → some_change change ≡ no_change → ⊥
not_none change e = cc

-- ---- what is decided: a change of a lock of LOCK and UNLOCK alone, and an event that brings none
abbrev Shaped : Bool → Result Decision Refusal → Type 0
Shaped b (Err r) = ⊤
Shaped b (Ok (Answer code fields)) = ⊤
Shaped b (Ok (Change event fields)) = BringsNoLocks event
Shaped b (Ok (Relock change fields)) = b ≡ true

then_shaped : {A : Type 0} (b : Bool) (r : Result A Refusal) (f : A → Result Decision Refusal) → ((x : A) → r ≡ Ok x → Shaped b (f x)) → Shaped b (r >>= f)
then_shaped b (Ok x) f all = all x refl
then_shaped b (Err e) f all = tt

no_locks_put : (value : Variant) → locks_of (unlocked value) ≡ 0
no_locks_put (One s) = refl
no_locks_put (AnArray a) = refl

zero_has_none : (declared : ValueType) → locks_of (zero_value declared) ≡ 0
zero_has_none (kinds.One t) = refl
zero_has_none (kinds.Array t) = refl

acts_shaped : (b : Bool) (state : State) (name : CellName) (declared : ValueType) (value : Option Variant) → Shaped b (Ok (acting state name declared value))
acts_shaped b state name declared None = tt
acts_shaped b state name declared (Some value) = no_locks_put value

resize_shaped : (b : Bool) (name : CellName) (declared : ValueType) (bound : Bound) (o : Option Variant) → Shaped b (resizing name declared bound o)
resize_shaped b name declared bound (Some value) = tt
resize_shaped b name declared bound None =
    then_shaped b (zero_with bound declared) _ (λ value is. by (redimensioned_value bound (zero_value declared)) refl value is)
  where
    by : (due : Result Variant TableFault) → redimensioned_value bound (zero_value declared) ≡ due → (value : Variant) → as_refused due ≡ Ok value
        → locks_of value ≡ 0
    by (Ok made) e value is =
        let same : made ≡ value = same_value made value is in
        sym (redim_same bound (zero_value declared) value (e ∙ ap (λ (v : Variant). Ok v) same)) ∙ zero_has_none declared
      where
        same_value : (one two : Variant) → as_refused (Ok one) ≡ Ok two → one ≡ two
        same_value one two f = cc
    by (Err fault) e value is = absurd cc

shaped : (state : State) (request : Request) → Shaped (changes_lock request) (decided state request)
shaped state (requests.Create class) =
    then_shaped false (class_found state class) _
    (λ x is. then_shaped false (fitting (allowed state.bank (CreateEvent state.table.next class) state.table)) _ (λ y at. tt))
shaped state (requests.ByNumber by_number.Release number) = tt
shaped state (requests.GetIds call) = then_shaped false (ids_found state call) _ (λ x is. tt)
shaped state (requests.ByCall by_call.Invoke call) = then_shaped false (cell_called state call (Flags call.head.flags)) _
    (λ cell is. acts_shaped false state cell.name cell.declared cell.value)
shaped state (requests.GetElement call indices) = then_shaped false (cell_called state call Get) (reading state indices)
    (λ cell is. then_shaped false (element_in state indices cell) _ (λ x at. tt))
shaped state (requests.PutElement call indices value) = then_shaped false (cell_called state call Put) (setting state indices value)
    (λ cell is. then_shaped false (element_for state indices value cell) _ (λ x at. tt))
shaped state (requests.Redimension call bound) =
    then_shaped false (cell_called state call Put) _ (λ cell is. resize_shaped false cell.name cell.declared bound (put_in state cell.name))
shaped state (requests.ByCall by_call.Lock call) = then_shaped true (cell_called state call Get) (adding state)
    (λ cell is. then_shaped true (locks_found state cell) _ (λ x at. refl))
shaped state (requests.ByCall by_call.Unlock call) = then_shaped true (cell_called state call Get) (unlock_decision state)
    (λ cell is. then_shaped true (locks_found state cell) _ (λ x at. refl))
shaped state (requests.ByNumber by_number.TypeInfo index) = then_shaped false (known _ (description_of state index)) _ (λ x is. tt)
shaped state (requests.Query query) = tt

-- what is decided of a body that asks for a lock
pub relock_of : (state : State) (request : Request) (change : LockChange) → lock_asked_by state request ≡ Some change → (fields : List ℕ)
    × (decided state request ≡ Ok (Relock change fields)) × (changes_lock request ≡ true)
relock_of state request change e = by (changes_lock request) refl e
  where
    on : (due : Result Decision Refusal) → decided state request ≡ due → lock_decided due ≡ Some change → (fields : List ℕ)
        × (decided state request ≡ Ok (Relock change fields))
    on (Err r) is some = absurd cc
    on (Ok (Answer code fields)) is some = absurd cc
    on (Ok (Change event fields)) is some = absurd cc
    on (Ok (Relock other fields)) is some = (fields, is ∙ ap (λ (c : LockChange). Ok (Relock c fields)) (same other some))
      where
        same : (other : LockChange) → some_change other ≡ Some change → other ≡ change
        same other f = cc

    by : (b : Bool) → changes_lock request ≡ b → (if b then lock_decided (decided state request) else None) ≡ Some change → (fields : List ℕ)
        × (decided state request ≡ Ok (Relock change fields)) × (changes_lock request ≡ true)
    by true is some = let due = on (decided state request) refl some in (due.0, due.1, is)
    by false is some = absurd cc

abbrev relocks : CellName → List ℕ → Result Decision Refusal
relocks name fields = Ok (Relock (Unlock name) fields)

-- an UNLOCK that is asked for is of an array that was put
unlock_of : (state : State) (request : Request) (name : CellName) (fields : List ℕ) → changes_lock request ≡ true
    → decided state request ≡ Ok (Relock (Unlock name) fields) → (a : ArrayValue Scalar) × (put_in state name ≡ Some (AnArray a))
unlock_of state (requests.ByCall by_call.Lock call) name fields kind is = by (cell_called state call Get) is
  where
    on : (r : Result ℕ Refusal) (cell : BoundCell) → (r >>= λ locks. Ok (Relock (Lock cell.name) (number_field (locks + 1)))) ≡ Ok (Relock (Unlock name) fields)
        → ⊥
    on (Ok n) cell e = cc
    on (Err r) cell e = cc

    by : (r : Result BoundCell Refusal) → (r >>= adding state) ≡ Ok (Relock (Unlock name) fields) → (a : ArrayValue Scalar)
        × (put_in state name ≡ Some (AnArray a))
    by (Ok cell) e = absurd (on (locks_found state cell) cell e)
    by (Err r) e = absurd cc
unlock_of state (requests.ByCall by_call.Unlock call) name fields kind is = by (cell_called state call Get) is
  where
    on : (cell : BoundCell) (declared : ValueType) (o : Option Variant) → put_in state cell.name ≡ o
        → (array_locks declared o >>= λ locks. Ok (Relock (Unlock cell.name) (number_field (locks - 1)))) ≡ Ok (Relock (Unlock name) fields)
        → (a : ArrayValue Scalar) × (put_in state name ≡ Some (AnArray a))
    on cell declared (Some (AnArray a)) found e = (a, ap (λ (n : CellName). put_in state n) (sym (same cell.name (number_field (a.locks - 1)) e)) ∙ found)
      where
        same : (n : CellName) (l : List ℕ) → relocks n l ≡ relocks name fields → n ≡ name
        same n l f = cc
    on cell declared (Some (One s)) found e = absurd cc
    on cell (kinds.One t) None found e = absurd cc
    on cell (kinds.Array t) None found e = absurd cc

    by : (r : Result BoundCell Refusal) → (r >>= unlock_decision state) ≡ Ok (Relock (Unlock name) fields) → (a : ArrayValue Scalar)
        × (put_in state name ≡ Some (AnArray a))
    by (Ok cell) e = on cell cell.declared (put_in state cell.name) refl e
    by (Err r) e = absurd cc
unlock_of state (requests.Create class) name fields kind is = absurd (true≢false (sym kind))
unlock_of state (requests.ByNumber which number) name fields kind is = absurd (true≢false (sym kind))
unlock_of state (requests.GetIds call) name fields kind is = absurd (true≢false (sym kind))
unlock_of state (requests.ByCall by_call.Invoke call) name fields kind is = absurd (true≢false (sym kind))
unlock_of state (requests.GetElement call indices) name fields kind is = absurd (true≢false (sym kind))
unlock_of state (requests.PutElement call indices value) name fields kind is = absurd (true≢false (sym kind))
unlock_of state (requests.Redimension call bound) name fields kind is = absurd (true≢false (sym kind))
unlock_of state (requests.Query query) name fields kind is = absurd (true≢false (sym kind))

-- ---- tables
-- no object has the next number
fresh : (table : TableValue) → is_numbered table ≡ true → object_at table.next table ≡ None
fresh table numbered = by table.objects (and_parts (nat_lt 0 table.next) (list_all (is_used table.next) table.objects) numbered).1
  where
    no_key : (key : ℕ) → nat_lt key table.next ≡ true → (b : Bool) → (table.next == key) ≡ b → b ≡ false
    no_key key less true same = let less' = ltb-true key table.next less in absurd (omega (arith, less', eqb-true table.next key same))
    no_key key less false same = refl

    by : (objects : List (ℕ × ObjectValue)) → list_all (is_used table.next) objects ≡ true → lookup (is_at (nat_cmp table.next)) objects ≡ None
    by [] all = refl
    by (o ∷ objects) all =
        let parts = and_parts (is_used table.next o) (list_all (is_used table.next) objects) all in
        let used = and_parts (nat_lt 0 o.0) (nat_lt o.0 table.next) parts.0 in
        ap (λ (b : Bool). if b then Some o.1 else lookup (is_at (nat_cmp table.next)) objects)
        (unsigned_tied table.next o.0 ∙ no_key o.0 used.1 (table.next == o.0) refl) ∙ by objects parts.1

record IsTable (table : TableValue) : Type 0 where
  numbered : is_numbered table ≡ true
  ordered : IsStrictlySortedBy nat_cmp (keys_of table.objects)

lock_table : (name : CellName) (old new : TableValue) → with_lock name old ≡ Ok new → IsTable old → IsTable new
lock_table name old new e is = record {
  numbered = subst (λ (r : Result TableValue TableFault). IfOk r (λ t. is_numbered t ≡ true)) e
      (on_object_keeps name.object (with_change name.place locked_value) old is.numbered);
  ordered = object_ordered name.object (with_change name.place locked_value) old new is.ordered e;
}

unlock_table : (name : CellName) (old new : TableValue) → without_lock name old ≡ Ok new → IsTable old → IsTable new
unlock_table name old new e is = record {
  numbered = subst (λ (r : Result TableValue TableFault). IfOk r (λ t. is_numbered t ≡ true)) e
      (on_object_keeps name.object (with_change name.place released_value) old is.numbered);
  ordered = object_ordered name.object (with_change name.place released_value) old new is.ordered e;
}

-- ---- an event, or a change of a lock
abbrev Has : State → List ClientLock → Type 0
Has state locks = HasLedger (shared state locks)

keeps_event : (state : State) (locks : List ClientLock) (event : Event) (fields : List ℕ) → BringsNoLocks event → Has state locks
    → Has (after_outcome state (changed event fields (allowed state.bank event state.table))) locks
keeps_event state locks event fields none has = by (allowed state.bank event state.table)
  where
    on : (r : Result TableValue TableFault) → applied event state.table ≡ r → Has (with_table state r) locks
    on (Err fault) e = has
    on (Ok new) e = record {
      numbered = numbers_stay event state.table new has.numbered e;
      ledger = record {
        ordered = event_ordered event state.table new has.ledger.ordered e;
        counted = λ name. event_stays event state.table new has.ledger.ordered (fresh state.table has.numbered) none e name ∙ has.ledger.counted name;
      };
    }

    by : (due : Result TableValue HResult) → Has (after_outcome state (changed event fields due)) locks
    by (Ok new) = on (applied event state.table) refl
    by (Err code) = has

keeps_plain : (state : State) (locks : List ClientLock) (request : Request) (due : Result Decision Refusal) → decided state request ≡ due
    → Shaped (changes_lock request) due → lock_asked_by state request ≡ None → Has state locks → Has (after_outcome state (outcome_of state due)) locks
keeps_plain state locks request (Err r) is shape none has = has
keeps_plain state locks request (Ok (Answer code fields)) is shape none has = has
keeps_plain state locks request (Ok (Change event fields)) is shape none has = keeps_event state locks event fields shape has
keeps_plain state locks request (Ok (Relock change fields)) is shape none has =
    absurd (not_none change (sym (ap (λ (b : Bool). if b then lock_decided (decided state request) else None) shape ∙ ap lock_decided is) ∙ none))

pub fault_told : (tag : ℕ) (change : LockChange) (fields : List ℕ) (fault : TableFault) → is_done (reply_with tag (relocking change fields (Err fault))) ≡ false
fault_told tag change fields faults.NoObject = refl
fault_told tag change fields faults.WrongNumber = refl
fault_told tag change fields faults.NotArray = refl
fault_told tag change fields faults.Memory = refl
fault_told tag change fields (faults.Array fault) = by fault
  where
    by : (f : ArrayFault) → is_done (reply_with tag (relocking change fields (Err (faults.Array f)))) ≡ false
    by arrays.BadIndex = refl
    by arrays.TypeMismatch = refl
    by arrays.IsLocked = refl
    by arrays.InvalidArgument = refl
    by arrays.Unexpected = refl
    by arrays.Memory = refl

keeps_relock : (client tag : ℕ) (state : State) (locks locks' : List ClientLock) (change : LockChange) (fields : List ℕ) (r : Result TableValue TableFault)
    → relocked change state.table ≡ r → is_done (reply_with tag (relocking change fields r)) ≡ true
    → MayChange client change locks → locks' ≡ relocked_by client change locks → Has state locks → Has (after_outcome state (relocking change fields r)) locks'
keeps_relock client tag state locks locks' change fields (Err fault) is done may same has = absurd (true≢false (sym done ∙ fault_told tag change fields fault))
keeps_relock client tag state locks locks' (Lock name) fields (Ok new) is done may same has =
    subst (λ (r : Result TableValue TableFault). Has (with_table state r) locks') (sym is)
    (subst (λ (l : List ClientLock). Has (with_table state (Ok new)) l) (sym same)
    (let stays = lock_table name state.table new is (record { numbered = has.numbered; ordered = has.ledger.ordered }) in
    record {
      numbered = stays.numbered;
      ledger = record {
        ordered = stays.ordered;
        counted = has_same (name ∷ map locked_name locks) (map locked_name (with_one client name locks)) new (λ other. count_more_of other locks client name)
            (lock_counted name (map locked_name locks) state.table new is has.ledger.counted);
      };
    }))
keeps_relock client tag state locks locks' (Unlock name) fields (Ok new) is done may same has =
    subst (λ (r : Result TableValue TableFault). Has (with_table state r) locks') (sym is)
    (subst (λ (l : List ClientLock). Has (with_table state (Ok new)) l) (sym same)
    (let stays = unlock_table name state.table new is (record { numbered = has.numbered; ordered = has.ledger.ordered }) in
    record {
      numbered = stays.numbered;
      ledger = record {
        ordered = stays.ordered;
        counted = unlock_counted name (map locked_name (without_one client name locks)) state.table new is
            (has_same (map locked_name locks) (name ∷ map locked_name (without_one client name locks)) state.table
            (λ other. count_without other client name locks may) has.ledger.counted);
      };
    }))

-- ---- turns
replaced_table : (old : State) (library : TreeValue) (lost : Option Incompatibility) → (after_replacement old library lost).table ≡ old.table
replaced_table old library None = refl
replaced_table old library (Some lost) = refl

same_table : (old new : State) (locks : List ClientLock) → new.table ≡ old.table → Has old locks → Has new locks
same_table old new locks same has = record {
  numbered = ap is_numbered same ∙ has.numbered;
  ledger = subst (λ (t : TableValue). IsLedger locks t) (sym same) has.ledger;
}

module _ (one_request : OneRequest) (is_stub : (body : List ℕ) → is_replacement body ≡ true → IsStub body)
    (asks_nothing : (body : List ℕ) (q : Request) → IsStub body → Asks body q → ⊥) where
  replacement_keeps : (client : ℕ) (old new : State) (body : List ℕ) (reply : ReplyValue) (locks locks' : List ClientLock) → Replacement old body reply new
      → locks' ≡ locks → Has old locks → Has new locks'
  replacement_keeps client old new body reply locks locks' turn same has = subst (λ (l : List ClientLock). Has new l) (sym same)
      (same_table old new locks (by turn) has)
    where
      by : Replacement old body reply new → new.table ≡ old.table
      by (inl s) = ap (λ (x : State). x.table) s.leaves ∙ replaced_table old s.library _
      by (inr (inl s)) = ap (λ (x : State). x.table) s.leaves
      by (inr (inr s)) = ap (λ (x : State). x.table) s.leaves

  step_keeps : (client : ℕ) (old new : State) (body : List ℕ) (reply : ReplyValue) (locks locks' : List ClientLock) → Steps old body reply new
      → HasOwners client (shared old locks) body reply locks' → is_done reply ≡ true → Has old locks → Has new locks'
  step_keeps client old new body reply locks locks' s owners done has = subst (λ (x : State). Has x locks') (sym s.leaves)
      (by (lock_asked_by old s.request) refl)
    where
      by : (o : Option LockChange) → lock_asked_by old s.request ≡ o → Has (state_after old s.request) locks'
      by None none =
          let same =
          owners.others (λ change asks. not_none change
          (sym asks.is ∙ ap (λ (r : Request). lock_asked_by old r) (one_request body asks.request s.request asks.asked s.asked) ∙ none)) in
          subst (λ (l : List ClientLock). Has (state_after old s.request) l) (sym same)
          (keeps_plain old locks s.request (decided old s.request) refl (shaped old s.request) none has)
      by (Some change) some =
          let due = relock_of old s.request change some in
          let own = owners.done change (record { request = s.request; asked = s.asked; is = some }) done in
          let is_outcome = ap (λ (d : Result Decision Refusal). outcome_of old d) due.1 in
          subst (λ o. Has (after_outcome old o) locks') (sym is_outcome)
          (keeps_relock client (tag_at body) old locks locks' change due.0 (relocked change old.table) refl (told due.0 due.1) own.0 own.1 has)
        where
          told : (fields : List ℕ) → decided old s.request ≡ Ok (Relock change fields)
              → is_done (reply_with (tag_at body) (relocking change fields (relocked change old.table))) ≡ true
          told fields is = sym (ap is_done s.answers ∙ ap (λ (d : Result Decision Refusal). is_done (reply_with (tag_at body) (outcome_of old d))) is) ∙ done

  turn_keeps : (client : ℕ) (body : List ℕ) (reply : ReplyValue) (old new : Shared) → HasLedger old → TakesTurn client body reply old new → HasLedger new
  turn_keeps client body reply old new has one = by (is_done reply) refl
    where
      done_turn : is_done reply ≡ true → Turn old.state body reply new.state → HasLedger new
      done_turn done (inr s) = replacement_keeps client old.state new.state body reply old.locks new.locks s.turn
          (one.owners.others (λ change asks. apart_asks_none is_stub asks_nothing body old.state change s.kind asks)) has
      done_turn done (inl s) = on s.turn
        where
          on : Ordinary old.state body reply new.state → HasLedger new
          on (inl steps) = step_keeps client old.state new.state body reply old.locks new.locks steps one.owners done has
          on (inr (inl t)) = absurd (true≢false (sym done ∙ ap is_done t.answers))
          on (inr (inr (inl t))) = absurd (true≢false (sym done ∙ ap is_done t.answers))
          on (inr (inr (inr t))) = absurd (true≢false (sym done ∙ ap is_done t.answers))

      by : (b : Bool) → is_done reply ≡ b → HasLedger new
      by true done = done_turn done one.turn
      by false undone =
          subst (λ (s : Shared). HasLedger s) (sym
          (ap (λ (s : State). shared s new.locks) (quiet_turn old.state new.state body reply one.turn (not_done reply undone))
          ∙ ap (λ (l : List ClientLock). shared old.state l) (one.owners.undone undone))) has

  pub for_keeps : (client : ℕ) (body : List ℕ) (reply : ReplyValue) (old new : Shared) → HasLedger old → TurnsFor client body reply old new → HasLedger new
  for_keeps client body reply old new has (inl one) = turn_keeps client body reply old new has one
  for_keeps client body reply old new has (inr refused) = subst (λ (s : Shared). HasLedger s) (sym refused.same) has

  -- ---- locks that are taken back, one after another
  record TakenBack (rest : List CellName) (state : State) : Type 0 where
    is : IsTable state.table
    counted : HasLocks rest state.table

  all_taken_back : (names rest : List CellName) (state : State) → IsTable state.table → HasLocks (names ++ rest) state.table
      → TakenBack rest (taken_back names state)
  all_taken_back [] rest state is has = record { is = is; counted = has }
  all_taken_back (name ∷ names) rest state is has =
      let one = can_unlock name (names ++ rest) state.table has in
      let there : (after_locks state (Some (Unlock name))).table ≡ one.0 = ap (λ (r : Result TableValue TableFault). (with_table state r).table) one.1 in
      all_taken_back names rest (after_locks state (Some (Unlock name)))
      (subst (λ (t : TableValue). IsTable t) (sym there) (unlock_table name state.table one.0 one.1 is))
      (subst (λ (t : TableValue). HasLocks (names ++ rest) t) (sym there) (unlock_counted name (names ++ rest) state.table one.0 one.1 has))

  end_keeps_ledger : (client : ℕ) (old : Shared) → HasLedger old → HasLedger (behind_end client old)
  end_keeps_ledger client old has =
      let all = all_taken_back (cells_of client old.locks) (map locked_name (of_others client old.locks)) old.state
      (record { numbered = has.numbered; ordered = has.ledger.ordered })
      (has_same (map locked_name old.locks) (cells_of client old.locks ++ map locked_name (of_others client old.locks)) old.state.table
      (λ name. count_owned name client old.locks) has.ledger.counted) in
      record { numbered = all.is.numbered; ledger = record { ordered = all.is.ordered; counted = all.counted } }

  pub end_unlocks : EndUnlocksAll
  end_unlocks old name has =
      (all_taken_back (map locked_name old.locks) [] old.state (record { numbered = has.numbered; ordered = has.ledger.ordered })
      (subst (λ (names : List CellName). HasLocks names old.state.table) (sym (append-nil (map locked_name old.locks))) has.ledger.counted)).counted name
      ∙ count_none name

  pub clients_keep : ClientsKeepLedger
  clients_keep client (Body body) told old new has turn = for_keeps client body turn.reply old new has turn.turn
  clients_keep client (Ends why) told old new has turn = subst (λ (s : Shared). HasLedger s) (sym turn.behind) (end_keeps_ledger client old has)

  pub turns_keep : TurnsKeepLedger
  turns_keep asked old new has one = clients_keep one.client one.brought asked.reply old new has one.turn

  pub runs_keep : RunsKeepLedger
  runs_keep old new [] has run = subst (λ (s : Shared). HasLedger s) run has
  runs_keep old new (asked ∷ entries) has run = runs_keep run.0 new entries (turns_keep asked old run.0 has run.1) run.2

  -- ---- one client alone
  no_lock_there : (name : CellName) (table : TableValue) (a : ArrayValue Scalar) → cell_in name.place (object_at name.object table) ≡ Some (AnArray a)
      → locks_at name table ≡ 0 → without_lock name table ≡ Err (faults.Array arrays.Unexpected)
  no_lock_there name table a found none = by (object_at name.object table) refl found
    where
      array : (b : Bool) → (a.locks == 0) ≡ b → a.locks ≡ 0 → b ≡ true
      array true e is = refl
      array false e is = absurd (true≢false (sym (ap (λ (n : ℕ). n == 0) is) ∙ e))

      locks : a.locks ≡ 0
      locks = sym (ap locks_in found) ∙ none

      by : (o : Option ObjectValue) → object_at name.object table ≡ o → cell_in name.place o ≡ Some (AnArray a)
          → without_lock name table ≡ Err (faults.Array arrays.Unexpected)
      by None at is = absurd cc
      by (Some object) at is = rw (at, is, array (a.locks == 0) refl locks) refl

  -- what is told of it is what one client alone is told
  refused_alike : (client : ℕ) (body : List ℕ) (reply : ReplyValue) (old new : Shared) → HasLedger old → OwnsAll client old
      → RefusesUnlock client body reply old new → Turn old.state body reply new.state
  refused_alike client body reply old new has own refused = inl (record {
    kind = not_apart body (λ kind. apart_asks_none is_stub asks_nothing body old.state (Unlock refused.name) kind refused.asked);
    turn =
        inl (record {
          request = refused.asked.request;
          asked = refused.asked.asked;
          answers = refused.told
              ∙ sym (ap (λ o. reply_with (tag_at body) o) is_outcome);
          leaves = ap (λ (s : Shared). s.state) refused.same ∙ sym (ap (λ o. after_outcome old.state o) is_outcome);
        });
  })
    where
      due : (fields : List ℕ) × (decided old.state refused.asked.request ≡ Ok (Relock (Unlock refused.name) fields))
          × (changes_lock refused.asked.request ≡ true)
      due = relock_of old.state refused.asked.request (Unlock refused.name) refused.asked.is

      none : without_lock refused.name old.state.table ≡ Err (faults.Array arrays.Unexpected)
      none =
          let there = unlock_of old.state refused.asked.request refused.name due.0 due.2 due.1 in
          no_lock_there refused.name old.state.table there.0 there.1
          (has.ledger.counted refused.name ∙ count_of_none client refused.name old.locks own refused.none)

      is_outcome : outcome old.state refused.asked.request ≡ relocking (Unlock refused.name) due.0 (Err (faults.Array arrays.Unexpected))
      is_outcome = ap (λ (d : Result Decision Refusal). outcome_of old.state d) due.1
          ∙ ap (λ (r : Result TableValue TableFault). relocking (Unlock refused.name) due.0 r) none

  owns_on : (client : ℕ) (change : LockChange) (locks locks' : List ClientLock) → MayChange client change locks → locks' ≡ relocked_by client change locks
      → of_others client locks ≡ [] → of_others client locks' ≡ []
  owns_on client (Lock name) locks locks' may same own = ap (λ (l : List ClientLock). of_others client l) same ∙ own_one_more client name locks own
  owns_on client (Unlock name) locks locks' may same own = ap (λ (l : List ClientLock). of_others client l) same ∙ own_without client name locks own

  still_own : (client : ℕ) (body : List ℕ) (reply : ReplyValue) (old new : Shared) → OwnsAll client old → TakesTurn client body reply old new
      → OwnsAll client new
  still_own client body reply old new own one = by (is_done reply) refl
    where
      as_before : new.locks ≡ old.locks → OwnsAll client new
      as_before same = ap (λ (l : List ClientLock). of_others client l) same ∙ own

      on : is_done reply ≡ true → Ordinary old.state body reply new.state → OwnsAll client new
      on done (inl s) = at (lock_asked_by old.state s.request) refl
        where
          at : (o : Option LockChange) → lock_asked_by old.state s.request ≡ o → OwnsAll client new
          at None none =
              as_before (one.owners.others (λ change asks. not_none change
              (sym asks.is ∙ ap (λ (r : Request). lock_asked_by old.state r) (one_request body asks.request s.request asks.asked s.asked) ∙ none)))
          at (Some change) some = let due = one.owners.done change (record { request = s.request; asked = s.asked; is = some }) done in
              owns_on client change old.locks new.locks due.0 due.1 own
      on done (inr (inl t)) = absurd (true≢false (sym done ∙ ap is_done t.answers))
      on done (inr (inr (inl t))) = absurd (true≢false (sym done ∙ ap is_done t.answers))
      on done (inr (inr (inr t))) = absurd (true≢false (sym done ∙ ap is_done t.answers))

      done_turn : is_done reply ≡ true → Turn old.state body reply new.state → OwnsAll client new
      done_turn done (inl s) = on done s.turn
      done_turn done (inr s) = as_before (one.owners.others (λ change asks. apart_asks_none is_stub asks_nothing body old.state change s.kind asks))

      by : (b : Bool) → is_done reply ≡ b → OwnsAll client new
      by true done = done_turn done one.turn
      by false undone = as_before (one.owners.undone undone)

  pub turn_of_one : IsTurnOfOne
  turn_of_one client old new body reply has own (inl one) = (one.turn, still_own client body reply old new own one)
  turn_of_one client old new body reply has own (inr refused) =
      (refused_alike client body reply old new has own refused, ap (λ (s : Shared). of_others client s.locks) refused.same ∙ own)

  -- what a body says of its client
  brought_is : (client : ℕ) (brought : Brought) → brought_by (tagged_body client brought) ≡ brought
  brought_is client (Body body) = refl
  brought_is client (Ends Closed) = refl
  brought_is client (Ends Cut) = refl
  brought_is client (Ends TooLong) = refl
  brought_is client (Ends ReadFault) = refl
  brought_is client (Ends WriteFault) = refl
  brought_is client (Ends (BadHex line)) = refl

  pub body_of_one : (client : ℕ) (body : List ℕ) (reply : ReplyValue) (asked : Exchange ClientReply) (old new : Shared)
      → asked.body ≡ tagged_body client (Body body) → asked.reply ≡ Replies client reply → IsSharedTurn asked old new → TurnsFor client body reply old new
  body_of_one client body reply asked old new is told one =
      by one.brought (sym (brought_is one.client one.brought) ∙ ap brought_by (sym one.body_is ∙ is)) one.turn
    where
      same_client : one.client ≡ client
      same_client = ap client_in (sym one.body_is ∙ is)

      same_reply : (r : ReplyValue) → Replies client reply ≡ Replies one.client r → r ≡ reply
      same_reply r e = cc

      by : (brought : Brought) → brought ≡ Body body → SharedTurnOf one.client brought asked.reply old new → TurnsFor client body reply old new
      by (Ends why) e turn = absurd cc
      by (Body b) e turn =
          subst (λ (c : ℕ). TurnsFor c body reply old new) same_client
          (subst (λ (l : List ℕ). TurnsFor one.client l reply old new) (same_body b e)
          (subst (λ (r : ReplyValue). TurnsFor one.client b r old new) (same_reply turn.reply (sym told ∙ turn.told_is)) turn.turn))
        where
          same_body : (b : List ℕ) → Body b ≡ Body body → b ≡ body
          same_body b f = cc

  -- its body is told a reply
  pub body_told : (client : ℕ) (body : List ℕ) (asked : Exchange ClientReply) (old new : Shared) → asked.body ≡ tagged_body client (Body body)
      → IsSharedTurn asked old new → (reply : ReplyValue) × (asked.reply ≡ Replies client reply)
  body_told client body asked old new is one = by one.brought (sym (brought_is one.client one.brought) ∙ ap brought_by (sym one.body_is ∙ is)) one.turn
    where
      same_client : one.client ≡ client
      same_client = ap client_in (sym one.body_is ∙ is)

      by : (brought : Brought) → brought ≡ Body body → SharedTurnOf one.client brought asked.reply old new → (reply : ReplyValue)
          × (asked.reply ≡ Replies client reply)
      by (Ends why) e turn = absurd cc
      by (Body b) e turn = (turn.reply, turn.told_is ∙ ap (λ (c : ℕ). Replies c turn.reply) same_client)

  -- its end is told it, and releases its locks
  pub end_of_one : (client : ℕ) (end : End) (asked : Exchange ClientReply) (old new : Shared) → asked.body ≡ tagged_body client (Ends end)
      → IsSharedTurn asked old new → (asked.reply ≡ Leaves client end) × (new ≡ behind_end client old)
  end_of_one client end asked old new is one =
      by one.brought (sym (brought_is one.client one.brought) ∙ ap brought_by (sym one.body_is ∙ is) ∙ brought_is client (Ends end)) one.turn
    where
      same_client : one.client ≡ client
      same_client = ap client_in (sym one.body_is ∙ is)

      by : (brought : Brought) → brought ≡ Ends end → SharedTurnOf one.client brought asked.reply old new → (asked.reply ≡ Leaves client end)
          × (new ≡ behind_end client old)
      by (Body b) e turn = absurd cc
      by (Ends why) e turn = (
        turn.told_is ∙ ap (λ (c : ℕ). Leaves c why) same_client ∙ ap (λ (w : End). Leaves client w) (same_end why e),
        turn.behind
            ∙ ap (λ (c : ℕ). behind_end c old) same_client,
      )
        where
          same_end : (why : End) → Ends why ≡ Ends end → why ≡ end
          same_end why f = cc

  pub run_of_one : IsRunOfOne
  run_of_one client old new [] [] [] has own run bodies_are replies_are = sym (ap (λ (s : Shared). s.state) run)
  run_of_one client old new [] (body ∷ bodies) replies has own run bodies_are replies_are = absurd cc
  run_of_one client old new [] [] (reply ∷ replies) has own run bodies_are replies_are = absurd cc
  run_of_one client old new (asked ∷ entries) [] replies has own run bodies_are replies_are = absurd cc
  run_of_one client old new (asked ∷ entries) (body ∷ bodies) [] has own run bodies_are replies_are = absurd cc
  run_of_one client old new (asked ∷ entries) (body ∷ bodies) (reply ∷ replies) has own run bodies_are replies_are =
      let heads = first_two bodies_are in
      let told = first_reply replies_are in
      let one = body_of_one client body reply asked old run.0 heads.0 told.0 run.1 in
      let due = turn_of_one client old run.0 body reply has own one in
      (run.0.state, due.0, run_of_one client run.0 new entries bodies replies (for_keeps client body reply old run.0 has one) due.1 run.2 heads.1 told.1)
    where
      first_two : {x y : List ℕ} {xs ys : List (List ℕ)} → x ∷ xs ≡ y ∷ ys → (x ≡ y) × (xs ≡ ys)
      first_two e = (cc, cc)

      first_reply : {x y : ClientReply} {xs ys : List ClientReply} → x ∷ xs ≡ y ∷ ys → (x ≡ y) × (xs ≡ ys)
      first_reply e = (cc, cc)

-- ---- the start of a session
none_within : (place : PlaceValue) (object : ObjectValue) → locks_in (cell_at place (map unlocked_cell object.cells)) ≡ 0
none_within place object = ap locks_in (lookup-map_values unlocked (is_at (place_cmp place)) object.cells) ∙ by (cell_at place object.cells)
  where
    by : (o : Option Variant) → locks_in (option_map unlocked o) ≡ 0
    by None = refl
    by (Some (One s)) = refl
    by (Some (AnArray a)) = refl

none_at_all : (name : CellName) (table : TableValue) → locks_at name (unlocked_table table) ≡ 0
none_at_all name table = ap (λ (o : Option ObjectValue). locks_in (cell_in name.place o))
    (lookup-map_values unlocked_object (is_at (nat_cmp name.object)) table.objects) ∙ by (object_at name.object table)
  where
    by : (o : Option ObjectValue) → locks_in (cell_in name.place (option_map unlocked_object o)) ≡ 0
    by None = refl
    by (Some object) = none_within name.place object

same_keys : (objects : List (ℕ × ObjectValue)) → keys_of (map unlocked_entry objects) ≡ keys_of objects
same_keys [] = refl
same_keys (o ∷ objects) = ap (λ (l : List ℕ). o.0 ∷ l) (same_keys objects)

pub opening_has : OpeningHasLedger
opening_has one numbered ordered = record {
  numbered = unlocked_numbers one.state.table ∙ numbered;
  ledger = record {
    ordered = subst (λ (keys : List ℕ). IsStrictlySortedBy nat_cmp keys) (sym (same_keys one.state.table.objects)) ordered;
    counted = λ name. none_at_all name one.state.table ∙ sym (count_none name);
  };
}
