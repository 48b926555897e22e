-- LOCK as a mutex of many clients.
use Rattle.std.proofs.Common.{◌≡◌, ◌⊎◌, inl, inr, ℕ, ◌+◌, ◌-◌, ◌<◌, ◌^◌, ◌==◌, arith, Bool, true, false, true≢false, List, [], ◌∷◌, map, length, take, Option}
use Rattle.std.proofs.Common.{Some, None, Result, Ok, Err, refl, sym, ap, ◌∙◌, subst}
use Rattle.std.proofs.lemmas.Bool.{and_parts, eq-eqb, eqb-true}
use Rattle.std.proofs.lemmas.List.{take_at}
use Rattle.std.proofs.lemmas.Nat.{from_le_bytes-to_le_bytes_4}
use Rattle.std.specs.Prelude.{◌&&◌, ◌||◌, not, if◌then◌else◌}
use Rattle.std.specs.Cmp.{unsigned_tied}
use Rattle.std.specs.Int.{w32, from_le_bytes}
use Rattle.std.specs.List.{list_any}
use Rattle.std.specs.Ordering.{is_eq, match_ordering, nat_cmp, ordering_then}
use Rattle.std.specs.declared.cmp.Ordering.{Ordering}
use Rattle.std.specs.declared.cmp.Ordering.TheVariants.{Less, Equal, Greater}
use Rattle.oa_array.specs.declared.fault.ArrayFault.{ArrayFault}
use Rattle.oa_array.specs.declared.fault.ArrayFault.TheVariants as arrays
use Rattle.oa_turn.proofs.Counted.{count_first, itself, same_cells, same_locks_at}
use Rattle.oa_turn.specs.promise.ClientLocks.{ClientLock, cell_cmp, is_cell, is_lock_of, lock_cmp, of_others, owns}
use Rattle.oa_turn.specs.promise.ClientLocks.{with_more, with_one, without_first}
use Rattle.oa_turn.specs.Counts.{count_in, locked_name}
use Rattle.oa_record.specs.promise.Asks.{Asks, IsStub, tag_at}
use Rattle.oa_record.specs.promise.Replacement.{is_replacement}
use Rattle.oa_record.specs.promise.Replies.{ReplyValue, number_field, word}
use Rattle.oa_record.specs.declared.request.Request.{Request}
use Rattle.oa_record.specs.declared.request.Request.TheVariants as requests
use Rattle.oa_record.specs.declared.opcode.ByCall.TheVariants as by_call
use Rattle.oa_server.specs.Ledgers.{ClientsKeepLedger, HasLedger}
use Rattle.oa_server.specs.promise.SharedMachine.{ClientReply, HasOwners, Replies, Shared, SharedTurnOf, TakesTurn}
use Rattle.oa_server.specs.promise.SharedMachine.{TurnsFor, relocked_by}
use Rattle.oa_mux.specs.promise.Readers.{Body, Brought, Ends}
use Rattle.oa_table.specs.promise.Elements.{locks_in}
use Rattle.oa_table.specs.Locks.{locks_at}
use Rattle.oa_table.specs.promise.Places.{place_cmp}
use Rattle.oa_table.specs.promise.Tables.{TableValue}
use Rattle.oa_table.specs.declared.fault.TableFault.{TableFault}
use Rattle.oa_table.specs.declared.fault.TableFault.TheVariants as faults
use Rattle.oa_table.specs.declared.name.CellName.{CellName}
use Rattle.oa_variant.specs.declared.variant.Variant.{Variant}
use Rattle.oa_variant.specs.declared.variant.Variant.TheVariants.{One, Array as AnArray}
use Rattle.oa_model.specs.declared.var_type.ValueType.{ValueType}
use Rattle.oa_model.specs.declared.var_type.ValueType.TheVariants as kinds
use Rattle.oa_typelib.specs.declared.access.Access.TheVariants.{Get}
use Rattle.oa_decision.specs.promise.ArrayCells.{array_locks, locks_found, put_in}
use Rattle.oa_decision.specs.promise.Cells.{cell_called}
use Rattle.oa_decision.specs.promise.Decided.{decided}
use Rattle.oa_decision.specs.promise.Lock.{adding}
use Rattle.oa_decision.specs.promise.Refusals.{◌>>=◌}
use Rattle.oa_decision.specs.promise.States.{State}
use Rattle.oa_decision.specs.promise.Unlock.{unlock_decision}
use Rattle.oa_decision.specs.declared.decider.cell.BoundCell.{BoundCell}
use Rattle.oa_decision.specs.declared.decision.Decision.{Decision}
use Rattle.oa_decision.specs.declared.decision.Decision.TheVariants.{Answer, Change, Relock}
use Rattle.oa_decision.specs.declared.decision.LockChange.{LockChange}
use Rattle.oa_decision.specs.declared.decision.LockChange.TheVariants.{Lock, Unlock}
use Rattle.oa_decision.specs.declared.refusal.Refusal.{Refusal}
use Rattle.oa_turn.specs.promise.Events.{is_done}
use Rattle.oa_turn.specs.promise.Locking.{AsksLock, changes_lock, lock_asked_by, lock_decided}
use Rattle.oa_turn.specs.promise.Steps.{outcome_of, relocked, relocking, reply_with}
use Rattle.oa_turn.specs.promise.Turns.{Ordinary, Steps, Turn}
use Rattle.oa_linearizable.specs.promise.Histories.{IsLegal, Operation}
use Rattle.oa_linearizable.specs.Mutexes.{ChangesLock, GivesBack, KeepsLock, LockIsAMutex}
use Rattle.oa_linearizable.specs.promise.Tables.{FailsFor, the_table}

-- ---- one of a list passes
or_same : (b c d : Bool) → (b || c) ≡ true → (c ≡ true → d ≡ true) → (b || d) ≡ true
or_same true c d is later = refl
or_same false c d is later = later is

or_later : (b c : Bool) → c ≡ true → (b || c) ≡ true
or_later true c is = refl
or_later false c is = is

or_first : (b c : Bool) → b ≡ true → (b || c) ≡ true
or_first true c is = refl
or_first false c is = absurd (true≢false (sym is))

or_rest : (b c : Bool) → (b || c) ≡ true → b ≡ false → c ≡ true
or_rest true c is unlike = absurd (true≢false unlike)
or_rest false c is unlike = is

module _ {X : Type 0} (test : X → Bool) where
  more_keeps : (cmp : X → X → Ordering) (new : X) (xs : List X) → list_any test xs ≡ true → list_any test (with_more cmp new xs) ≡ true
  more_keeps cmp new [] is = absurd (true≢false (sym is))
  more_keeps cmp new (x ∷ xs) is = by (cmp new x) (more_keeps cmp new xs)
    where
      by : (o : Ordering) → (list_any test xs ≡ true → list_any test (with_more cmp new xs) ≡ true)
          → list_any test (match_ordering o (new ∷ x ∷ xs) (x ∷ x ∷ xs) (x ∷ with_more cmp new xs)) ≡ true
      by Less later = or_later (test new) (list_any test (x ∷ xs)) is
      by Equal later = or_later (test x) (list_any test (x ∷ xs)) is
      by Greater later = or_same (test x) (list_any test xs) (list_any test (with_more cmp new xs)) is later

  fewer_keeps : (drops : X → Bool) → ((x : X) → drops x ≡ true → test x ≡ false) → (xs : List X) → list_any test xs ≡ true
      → list_any test (without_first drops xs) ≡ true
  fewer_keeps drops other [] is = is
  fewer_keeps drops other (x ∷ xs) is = by (drops x) refl (fewer_keeps drops other xs)
    where
      by : (b : Bool) → drops x ≡ b → (list_any test xs ≡ true → list_any test (without_first drops xs) ≡ true)
          → list_any test (if b then xs else x ∷ without_first drops xs) ≡ true
      by true e later = or_rest (test x) (list_any test xs) is (other x e)
      by false e later = or_same (test x) (list_any test xs) (list_any test (without_first drops xs)) is later

-- ---- whose lock stays
not_same : (m n : ℕ) → (m ≡ n → ⊥) → (m == n) ≡ false
not_same m n unlike = by (m == n) refl
  where
    by : (b : Bool) → (m == n) ≡ b → b ≡ false
    by true e = absurd (unlike (eqb-true m n e))
    by false e = refl

and_no : (b : Bool) → (b && false) ≡ false
and_no true = refl
and_no false = refl

-- a lock that is another client's, or of another cell
of_other : (client other : ℕ) (name : CellName) (x : ClientLock) → x.client ≡ other → (other ≡ client → ⊥) → is_lock_of client name x ≡ false
of_other client other name x is unlike = ap (λ (b : Bool). b && is_cell x.name name) (not_same x.client client (λ e. unlike (sym is ∙ e)))

of_cell : (client : ℕ) (name other : CellName) (x : ClientLock) → is_cell x.name other ≡ true → is_cell other name ≡ false → is_lock_of client name x ≡ false
of_cell client name other x is unlike = ap (λ (b : Bool). (x.client == client) && b) (same_cells x.name other name is ∙ unlike) ∙ and_no (x.client == client)

-- a client has the lock that it has taken
both_equal : (o p : Ordering) → ordering_then o p ≡ Equal → (is_eq o ≡ true) × (is_eq p ≡ true)
both_equal Less p e = absurd cc
both_equal Equal p e = (refl, ap is_eq e)
both_equal Greater p e = absurd cc

both_are : (o p : Ordering) → is_eq (ordering_then o p) ≡ is_eq o && is_eq p
both_are Less p = refl
both_are Equal p = refl
both_are Greater p = refl

is_equal : (one two : CellName) → is_eq (cell_cmp one two) ≡ is_cell one two
is_equal one two =
    both_are (nat_cmp one.object two.object) (place_cmp one.place two.place)
    ∙ ap (λ (b : Bool). b && is_eq (place_cmp one.place two.place)) (unsigned_tied one.object two.object)

and_both : (b c : Bool) → b ≡ true → c ≡ true → (b && c) ≡ true
and_both b c one two = ap (λ (x : Bool). x && c) one ∙ two

taken_owned : (client : ℕ) (name : CellName) (locks : List ClientLock) → owns client name (with_one client name locks) ≡ true
taken_owned client name [] = or_first (is_lock_of client name (record { client = client; name = name })) false
    (and_both (client == client) (is_cell name name) (eq-eqb client client refl) (itself name))
taken_owned client name (x ∷ locks) = by (lock_cmp new x) refl (taken_owned client name locks)
  where
    new : ClientLock
    new = record { client = client; name = name }

    mine : is_lock_of client name new ≡ true
    mine = and_both (client == client) (is_cell name name) (eq-eqb client client refl) (itself name)

    same : lock_cmp new x ≡ Equal → is_lock_of client name x ≡ true
    same e =
        let parts = both_equal (nat_cmp client x.client) (cell_cmp name x.name) e in
        let cells : is_cell name x.name ≡ true = sym (is_equal name x.name) ∙ parts.1 in
        and_both (x.client == client) (is_cell x.name name)
        (eq-eqb x.client client (sym (eqb-true client x.client (sym (unsigned_tied client x.client) ∙ parts.0))))
        (sym (same_cells name x.name name cells) ∙ itself name)

    by : (o : Ordering) → lock_cmp new x ≡ o → owns client name (with_one client name locks) ≡ true
        → owns client name (match_ordering o (new ∷ x ∷ locks) (x ∷ x ∷ locks) (x ∷ with_one client name locks)) ≡ true
    by Less e later = or_first (is_lock_of client name new) (owns client name (x ∷ locks)) mine
    by Equal e later = or_first (is_lock_of client name x) (owns client name (x ∷ locks)) (same e)
    by Greater e later = or_later (is_lock_of client name x) (owns client name (with_one client name locks)) later

others_keep : (client other : ℕ) (name : CellName) (locks : List ClientLock) → (other ≡ client → ⊥) → owns client name locks ≡ true
    → owns client name (of_others other locks) ≡ true
others_keep client other name [] unlike is = is
others_keep client other name (x ∷ locks) unlike is = by (x.client == other) refl (others_keep client other name locks unlike)
  where
    by : (b : Bool) → (x.client == other) ≡ b → (owns client name locks ≡ true → owns client name (of_others other locks) ≡ true)
        → owns client name (if not b then x ∷ of_others other locks else of_others other locks) ≡ true
    by true e later = later (or_rest (is_lock_of client name x) (owns client name locks) is (of_other client other name x (eqb-true x.client other e) unlike))
    by false e later = or_same (is_lock_of client name x) (owns client name locks) (owns client name (of_others other locks)) is later

-- a lock that a client has counts
abbrev one_if : Bool → ℕ
one_if b = if b then 1 else 0

owned_counts : (client : ℕ) (name : CellName) (locks : List ClientLock) → owns client name locks ≡ true → 0 < count_in name (map locked_name locks)
owned_counts client name [] is = absurd (true≢false (sym is))
owned_counts client name (x ∷ locks) is = by (is_lock_of client name x) refl is (owned_counts client name locks)
  where
    by : (b : Bool) → is_lock_of client name x ≡ b → (b || owns client name locks) ≡ true
        → (owns client name locks ≡ true → 0 < count_in name (map locked_name locks)) → 0 < count_in name (x.name ∷ map locked_name locks)
    by true e now later =
        let here = and_parts (x.client == client) (is_cell x.name name) e in
        let one : one_if (is_cell x.name name) ≡ 1 = ap one_if here.1 in
        omega (arith, count_first name x.name (map locked_name locks), one)
    by false e now later = omega (arith, count_first name x.name (map locked_name locks), later now)

-- ---- what LOCK is answered
abbrev some_change : LockChange → Option LockChange
some_change change = Some change

relock_of : (state : State) (request : Request) (change : LockChange) → lock_asked_by state request ≡ Some change → (fields : List ℕ)
    × (decided state request ≡ Ok (Relock change fields)) × (changes_lock request ≡ true)
relock_of state request change e = by (changes_lock request) refl e
  where
    on : (due : Result Decision Refusal) → decided state request ≡ due → lock_decided due ≡ Some change → (fields : List ℕ)
        × (decided state request ≡ Ok (Relock change fields))
    on (Err r) is some = absurd cc
    on (Ok (Answer code fields)) is some = absurd cc
    on (Ok (Change event fields)) is some = absurd cc
    on (Ok (Relock other fields)) is some = (fields, is ∙ ap (λ (c : LockChange). Ok (Relock c fields)) (same other some))
      where
        same : (other : LockChange) → some_change other ≡ Some change → other ≡ change
        same other f = cc

    by : (b : Bool) → changes_lock request ≡ b → (if b then lock_decided (decided state request) else None) ≡ Some change → (fields : List ℕ)
        × (decided state request ≡ Ok (Relock change fields)) × (changes_lock request ≡ true)
    by true is some = let due = on (decided state request) refl some in (due.0, due.1, is)
    by false is some = absurd cc

-- the fields tell one lock more than there are
abbrev Counts : State → CellName → List ℕ → Type 0
Counts state name fields = fields ≡ number_field (locks_at name state.table + 1)

abbrev relocks : CellName → List ℕ → Result Decision Refusal
relocks name fields = Ok (Relock (Lock name) fields)

lock_counts : (state : State) (request : Request) (name : CellName) (fields : List ℕ) → changes_lock request ≡ true
    → decided state request ≡ Ok (Relock (Lock name) fields) → Counts state name fields
lock_counts state (requests.ByCall by_call.Lock call) name fields kind is = by (cell_called state call Get) is
  where
    on : (cell : BoundCell) (declared : ValueType) (o : Option Variant) → put_in state cell.name ≡ o
        → (array_locks declared o >>= λ locks. Ok (Relock (Lock cell.name) (number_field (locks + 1)))) ≡ Ok (Relock (Lock name) fields)
        → Counts state name fields
    on cell declared (Some (AnArray a)) found e =
        let parts = same cell.name (number_field (a.locks + 1)) e in
        sym parts.1 ∙ ap (λ (n : ℕ). number_field (n + 1)) (sym (ap locks_in found) ∙ ap (λ (n : CellName). locks_at n state.table) parts.0)
      where
        same : (n : CellName) (l : List ℕ) → relocks n l ≡ relocks name fields → (n ≡ name) × (l ≡ fields)
        same n l f = (cc, cc)
    on cell declared (Some (One s)) found e = absurd cc
    on cell (kinds.One t) None found e = absurd cc
    on cell (kinds.Array t) None found e = absurd cc

    by : (r : Result BoundCell Refusal) → (r >>= adding state) ≡ Ok (Relock (Lock name) fields) → Counts state name fields
    by (Ok cell) e = on cell cell.declared (put_in state cell.name) refl e
    by (Err r) e = absurd cc
lock_counts state (requests.ByCall by_call.Unlock call) name fields kind is = by (cell_called state call Get) is
  where
    on : (r : Result ℕ Refusal) (cell : BoundCell) → (r >>= λ locks. Ok (Relock (Unlock cell.name) (number_field (locks - 1)))) ≡ Ok (Relock (Lock name) fields)
        → ⊥
    on (Ok n) cell e = cc
    on (Err r) cell e = cc

    by : (r : Result BoundCell Refusal) → (r >>= unlock_decision state) ≡ Ok (Relock (Lock name) fields) → Counts state name fields
    by (Ok cell) e = absurd (on (locks_found state cell) cell e)
    by (Err r) e = absurd cc
lock_counts state (requests.Create class) name fields kind is = absurd (true≢false (sym kind))
lock_counts state (requests.ByNumber which number) name fields kind is = absurd (true≢false (sym kind))
lock_counts state (requests.GetIds call) name fields kind is = absurd (true≢false (sym kind))
lock_counts state (requests.ByCall by_call.Invoke call) name fields kind is = absurd (true≢false (sym kind))
lock_counts state (requests.GetElement call indices) name fields kind is = absurd (true≢false (sym kind))
lock_counts state (requests.PutElement call indices value) name fields kind is = absurd (true≢false (sym kind))
lock_counts state (requests.Redimension call bound) name fields kind is = absurd (true≢false (sym kind))
lock_counts state (requests.Query query) name fields kind is = absurd (true≢false (sym kind))

-- two numbers with the same fields
word_four : (n : ℕ) → length (word n) ≡ 4
unfolding word
word_four n = refl

word_said : (n : ℕ) → n < 2 ^ 32 → from_le_bytes w32 (word n) ≡ n
unfolding word
word_said n fits = from_le_bytes-to_le_bytes_4 n fits

one_number : (m n : ℕ) → m < 2 ^ 32 → n < 2 ^ 32 → number_field m ≡ number_field n → m ≡ n
one_number m n one two same =
    sym (word_said m one)
    ∙ ap (from_le_bytes w32) (sym (take_at (word m) (word 0) 4 (word_four m)) ∙ ap (take 4) same ∙ take_at (word n) (word 0) 4 (word_four n)) ∙ word_said n two

-- a change that was made tells its fields
fault_told : (tag : ℕ) (change : LockChange) (fields : List ℕ) (fault : TableFault) → is_done (reply_with tag (relocking change fields (Err fault))) ≡ false
fault_told tag change fields faults.NoObject = refl
fault_told tag change fields faults.WrongNumber = refl
fault_told tag change fields faults.NotArray = refl
fault_told tag change fields faults.Memory = refl
fault_told tag change fields (faults.Array fault) = by fault
  where
    by : (f : ArrayFault) → is_done (reply_with tag (relocking change fields (Err (faults.Array f)))) ≡ false
    by arrays.BadIndex = refl
    by arrays.TypeMismatch = refl
    by arrays.IsLocked = refl
    by arrays.InvalidArgument = refl
    by arrays.Unexpected = refl
    by arrays.Memory = refl

fields_told : (tag : ℕ) (change : LockChange) (fields : List ℕ) (r : Result TableValue TableFault) (reply : ReplyValue)
    → reply ≡ reply_with tag (relocking change fields r) → is_done reply ≡ true → reply.body ≡ fields
fields_told tag change fields (Ok table) reply is done = ap (λ (x : ReplyValue). x.body) is
fields_told tag change fields (Err fault) reply is done = absurd (true≢false (sym done ∙ ap is_done is ∙ fault_told tag change fields fault))

same_reply : (c d : ℕ) (r s : ReplyValue) → Replies c r ≡ Replies d s → r ≡ s
same_reply c d r s e = cc

not_none : (change : LockChange) → some_change change ≡ None → ⊥
not_none change e = cc

module _ (one_request : (body : List ℕ) (p q : Request) → Asks body p → Asks body q → p ≡ q)
    (is_stub : (body : List ℕ) → is_replacement body ≡ true → IsStub body) (asks_nothing : (body : List ℕ) (q : Request) → IsStub body → Asks body q → ⊥) where
  counted : (old new : State) (body : List ℕ) (reply : ReplyValue) (name : CellName) → Turn old body reply new → AsksLock old body (Lock name)
      → is_done reply ≡ true → Counts old name reply.body
  counted old new body reply name (inr s) asks done = absurd (asks_nothing body asks.request (is_stub body s.kind) asks.asked)
  counted old new body reply name (inl s) asks done = on s.turn
    where
      on : Ordinary old body reply new → Counts old name reply.body
      on (inl steps) =
          let same = one_request body steps.request asks.request steps.asked asks.asked in
          let due = relock_of old asks.request (Lock name) asks.is in
          let told : reply ≡ reply_with (tag_at body) (relocking (Lock name) due.0 (relocked (Lock name) old.table)) =
          steps.answers ∙ ap (λ (r : Request). reply_with (tag_at body) (outcome_of old (decided old r))) same
          ∙ ap (λ (d : Result Decision Refusal). reply_with (tag_at body) (outcome_of old d)) due.1 in
          fields_told (tag_at body) (Lock name) due.0 (relocked (Lock name) old.table) reply told done ∙ lock_counts old asks.request name due.0 due.2 due.1
      on (inr (inl t)) = absurd (true≢false (sym done ∙ ap is_done t.answers))
      on (inr (inr (inl t))) = absurd (true≢false (sym done ∙ ap is_done t.answers))
      on (inr (inr (inr t))) = absurd (true≢false (sym done ∙ ap is_done t.answers))

  -- a turn by which no lock of this client goes
  module _ (client : ℕ) (name : CellName) (one : Operation Brought ClientReply) (old new : Shared) (is : owns client name old.locks ≡ true)
      (keeps : GivesBack client name old one → ⊥) where
    module _ (body : List ℕ) (reply : ReplyValue) (input_is : one.input ≡ Body body) (result_is : one.result ≡ Replies one.client reply)
        (done : is_done reply ≡ true) where
      drops : (other : CellName) → AsksLock old.state body (Unlock other) → (x : ClientLock) → is_lock_of one.client other x ≡ true
          → is_lock_of client name x ≡ false
      drops other asks x e = by (one.client == client) refl (is_cell other name) refl
        where
          parts : ((x.client == one.client) ≡ true) × (is_cell x.name other ≡ true)
          parts = and_parts (x.client == one.client) (is_cell x.name other) e

          by : (b : Bool) → (one.client == client) ≡ b → (d : Bool) → is_cell other name ≡ d → is_lock_of client name x ≡ false
          by false f d g = of_other client one.client name x (eqb-true x.client one.client parts.0)
              (λ same. true≢false (sym (eq-eqb one.client client same) ∙ f))
          by true f false g = of_cell client name other x parts.1 g
          by true f true g = absurd (keeps (
            eqb-true one.client client f,
            inr (record {
              other = other;
              same = g;
              fields = reply.body;
              changes = record { body = body; reply = reply; input_is = input_is; result_is = result_is; asks = asks; done = done; fields_are = refl };
            }),
          ))

      relocked_keeps : (change : LockChange) → AsksLock old.state body change → new.locks ≡ relocked_by one.client change old.locks
          → owns client name new.locks ≡ true
      relocked_keeps (Lock other) asks same = ap (owns client name) same
          ∙ more_keeps (is_lock_of client name) lock_cmp (record { client = one.client; name = other }) old.locks is
      relocked_keeps (Unlock other) asks same = ap (owns client name) same ∙ fewer_keeps (is_lock_of client name) (is_lock_of one.client other)
          (drops other asks) old.locks is

      done_keeps : Turn old.state body reply new.state → HasOwners one.client old body reply new.locks → owns client name new.locks ≡ true
      done_keeps (inr s) owners = ap (owns client name) (owners.others (λ change asks. asks_nothing body asks.request (is_stub body s.kind) asks.asked)) ∙ is
      done_keeps (inl s) owners = on s.turn
        where
          steps_keep : (steps : Steps old.state body reply new.state) (o : Option LockChange) → lock_asked_by old.state steps.request ≡ o
              → owns client name new.locks ≡ true
          steps_keep steps None none =
              ap (owns client name)
              (owners.others (λ change asks. not_none change
              (sym asks.is ∙ ap (λ (r : Request). lock_asked_by old.state r) (one_request body asks.request steps.request asks.asked steps.asked) ∙ none))) ∙ is
          steps_keep steps (Some change) some =
              let asks : AsksLock old.state body change = record { request = steps.request; asked = steps.asked; is = some } in
              relocked_keeps change asks (owners.done change asks done).1

          on : Ordinary old.state body reply new.state → owns client name new.locks ≡ true
          on (inl steps) = steps_keep steps (lock_asked_by old.state steps.request) refl
          on (inr (inl t)) = absurd (true≢false (sym done ∙ ap is_done t.answers))
          on (inr (inr (inl t))) = absurd (true≢false (sym done ∙ ap is_done t.answers))
          on (inr (inr (inr t))) = absurd (true≢false (sym done ∙ ap is_done t.answers))

    body_keeps : (body : List ℕ) (reply : ReplyValue) → one.input ≡ Body body → one.result ≡ Replies one.client reply → TurnsFor one.client body reply old new
        → owns client name new.locks ≡ true
    body_keeps body reply input_is result_is (inr refused) = ap (λ (s : Shared). owns client name s.locks) refused.same ∙ is
    body_keeps body reply input_is result_is (inl takes) = by (is_done reply) refl
      where
        by : (b : Bool) → is_done reply ≡ b → owns client name new.locks ≡ true
        by false e = ap (owns client name) (takes.owners.undone e) ∙ is
        by true e = done_keeps body reply input_is result_is e takes.turn takes.owners

    turn_keeps : (brought : Brought) → one.input ≡ brought → SharedTurnOf one.client brought one.result old new → owns client name new.locks ≡ true
    turn_keeps (Body body) input_is turn = body_keeps body turn.reply input_is turn.told_is turn.turn
    turn_keeps (Ends why) input_is turn = by (one.client == client) refl
      where
        by : (b : Bool) → (one.client == client) ≡ b → owns client name new.locks ≡ true
        by true e = absurd (keeps (eqb-true one.client client e, inl (why, input_is)))
        by false e = ap (λ (s : Shared). owns client name s.locks) turn.behind
            ∙ others_keep client one.client name old.locks (λ same. true≢false (sym (eq-eqb one.client client same) ∙ e)) is

  run_keeps : (client : ℕ) (name : CellName) (old : Shared) (operations : List (Operation Brought ClientReply)) (new : Shared)
      (run : IsLegal (the_table false) old operations new) → owns client name old.locks ≡ true → KeepsLock client name old operations new run
      → owns client name new.locks ≡ true
  run_keeps client name old [] new run is keeps = ap (λ (s : Shared). owns client name s.locks) run ∙ is
  run_keeps client name old (one ∷ operations) new run is keeps = run_keeps client name run.0 operations new run.2 (by run.1) keeps.1
    where
      by : SharedTurnOf one.client one.input one.result old run.0 ⊎ ((false ≡ true) × FailsFor one.client one.input one.result old run.0)
          → owns client name run.0.locks ≡ true
      by (inl turn) = turn_keeps client name one old run.0 is keeps.0 one.input refl turn
      by (inr fails) = absurd (true≢false (sym fails.0))

  module _ (stays : ClientsKeepLedger) where
    run_ledger : (old : Shared) (operations : List (Operation Brought ClientReply)) (new : Shared) → IsLegal (the_table false) old operations new
        → HasLedger old → HasLedger new
    run_ledger old [] new run has = subst HasLedger (sym run) has
    run_ledger old (one ∷ operations) new run has = run_ledger run.0 operations new run.2 (by run.1)
      where
        by : SharedTurnOf one.client one.input one.result old run.0 ⊎ ((false ≡ true) × FailsFor one.client one.input one.result old run.0) → HasLedger run.0
        by (inl turn) = stays one.client one.input one.result old run.0 has turn
        by (inr fails) = absurd (true≢false (sym fails.0))

    -- the turn of an operation that changed a lock
    changed_by : (change : LockChange) (old new : Shared) (one : Operation Brought ClientReply) (fields : List ℕ) → (is : ChangesLock change old one fields)
        → SharedTurnOf one.client one.input one.result old new → TakesTurn one.client is.body is.reply old new
    changed_by change old new one fields is turn = by (subst (λ (b : Brought). SharedTurnOf one.client b one.result old new) is.input_is turn)
      where
        on : (reply : ReplyValue) → reply ≡ is.reply → TurnsFor one.client is.body reply old new → TakesTurn one.client is.body is.reply old new
        on reply same (inl takes) = subst (λ (r : ReplyValue). TakesTurn one.client is.body r old new) same takes
        on reply same (inr refused) = absurd (true≢false (sym is.done ∙ ap is_done (sym same ∙ refused.told)))

        by : SharedTurnOf one.client (Body is.body) one.result old new → TakesTurn one.client is.body is.reply old new
        by answers = on answers.reply (same_reply one.client one.client answers.reply is.reply (sym answers.told_is ∙ is.result_is)) answers.turn

    legal_step : (one : Operation Brought ClientReply) (old new : Shared) → (the_table false).Step one.client one.input one.result old new
        → SharedTurnOf one.client one.input one.result old new
    legal_step one old new (inl turn) = turn
    legal_step one old new (inr fails) = absurd (true≢false (sym fails.0))

    pub mutex : LockIsAMutex
    mutex client name other first second between fields a b c d run has mine locked began keeps same few again ends =
        let takes = changed_by (Lock name) a b first fields locked (legal_step first a b began) in
        let owned : owns first.client name b.locks ≡ true = ap (owns first.client name) (takes.owners.done (Lock name) locked.asks locked.done).1
        ∙ taken_owned first.client name a.locks in
        let held : owns client name c.locks ≡ true = run_keeps client name b between c run (subst (λ (n : ℕ). owns n name b.locks ≡ true) mine owned) keeps in
        let ledger = run_ledger b between c run (stays first.client first.input first.result a b has (legal_step first a b began)) in
        let some : 0 < locks_at other c.state.table =
        omega (arith, owned_counts client name c.locks held, ledger.ledger.counted name, same_locks_at other name c.state.table same) in
        let next = changed_by (Lock other) c d second (number_field 1) again (legal_step second c d ends) in
        let told = counted c.state d.state again.body again.reply other next.turn again.asks again.done in
        let one = one_number 1 (locks_at other c.state.table + 1) (omega arith) few (sym again.fields_are ∙ told) in
        absurd (omega (arith, one, some))
