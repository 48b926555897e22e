-- One body is answered over a store.
use Rattle.std.proofs.Common.{◌≡◌, ◌⊎◌, ◌+◌, ◌<◌, ◌≤◌, inl, inr, ℕ, true, false, true≢false, IsTrue, List, [], ◌∷◌, ◌++◌, length, refl, sym, ap}
use Rattle.std.proofs.Common.{◌∙◌, subst, arith, length-append}
use Rattle.oa_disk.specs.declared.disk.Disk.{Ghosts}
use Rattle.oa_disk.specs.Moments.{chained, weakened}
use Rattle.oa_group_commit.specs.promise.Groups.{GroupState, IsAdmitted, IsGroupCommitted, LeavesState, fills, IsServed}
use Rattle.oa_group_commit.specs.promise.Groups.{exchange, AllHoldState, HoldsState}
use Rattle.oa_store.specs.promise.Writing.{CallsForOneCheckpoint, DeviceFrame}
use Rattle.oa_group_commit.proofs.Called.{none_or_some}
use Rattle.oa_group_commit.proofs.Ends.{underway_ended}
use Rattle.oa_group_commit.proofs.Stores.{goes_on}
use Rattle.oa_group_commit.proofs.Takes.{underway_start, underway_taken}
use Rattle.oa_journal.specs.promise.Bank.{Replays}
use Rattle.oa_printer.specs.promise.Canonical.{canonical}
use Rattle.oa_store.specs.promise.Holding.{CommitsAtomically, AllHold, LeavesEither, LeavesTable}
use Rattle.oa_record.specs.promise.Replacement.{is_replacement}
use Rattle.oa_turn.proofs.SameLibrary.{plain_library, turn_bank}
use Rattle.oa_record.specs.promise.Replies.{ReplyValue}
use Rattle.oa_journal.specs.declared.shape.BankFormat.{BankFormat}
use Rattle.oa_journal.specs.declared.shape.BankFormat.TheVariants.{Two}
use Rattle.oa_store.specs.promise.Stores.{IsStoreIn}
use Rattle.oa_store.specs.declared.store.Store.{Store}
use Rattle.oa_table.specs.promise.Tables.{TableValue}
use Rattle.oa_server.specs.Answers.{CallsForOne, IsAnswered, MakesNoEvent}
use Rattle.oa_server.specs.OpenGroups.{CallsForCheckpoint, CallsWhereDue, IsDueFor, grouping}
use Rattle.oa_server.specs.ServerMachine.{HasTurn, IsHeldBack}
use Rattle.oa_server.specs.promise.ServerMachine.{fault_reply, server_machine, text_of_library}
use Rattle.oa_turn.specs.promise.Events.{held_of}
use Rattle.oa_decision.specs.promise.States.{State}
use Rattle.oa_turn.specs.promise.Turns.{Turn}
use Rattle.oa_server.proofs.Making.{no_event_of}
use Rattle.oa_server.proofs.Replacing.{as_held}

-- one request is a group of one
full_one : (bytes : ℕ) → fills 1 1 bytes ≡ true
unfolding fills
full_one bytes = refl

module _ {D : Type 0} {g : Ghosts D} (only : (d : D) (c : List ℕ) → IsTrue (g.is_honest d) → g.image_since d (g.moment d) c → g.image d c) (old mid : Store D g)
    (was : old.stopped ≡ false) (before after : State) (body start : List ℕ) (empty : start ≡ []) (first : DeviceFrame old mid)
    (stays : mid.library.items ≡ old.library.items) (plain : is_replacement body ≡ false)
    (once : CallsForCheckpoint old mid before.table) (at_most : CallsForOneCheckpoint old mid)
    (leaves : (committed : TableValue) → (length start ≡ 0 → held_of before ≡ committed) → AllHold old committed → LeavesTable old mid committed) where
  abbrev at_first : GroupState State ReplyValue D g
  at_first = grouping old before [] start

  -- taken, it is served
  barrier : (new : Store D g) (reply : ReplyValue) (events : List ℕ) → IsAdmitted server_machine 1 body (reply ∷ []) at_first (grouping new after [] events)
      → IsServed server_machine 1 old new before after (body ∷ []) (reply ∷ [])
  barrier new reply events one =
      let under = underway_taken server_machine {g = g} only at_first 1 at_first (grouping new after [] events) [] [] body (reply ∷ [])
      (underway_start server_machine {g = g} only at_first 1 was refl empty) one in
      underway_ended server_machine {g = g} only at_first 1 (grouping new after [] events) (grouping new after [] events) (body ∷ []) (reply ∷ []) [] under
      (inl (record { none = refl; nothing = refl; store = refl; state = refl }))

  -- what images hold under the library of before
  module _ (turned : (due : ReplyValue) × Turn before body due after) (all : AllHoldState server_machine old before) where
    same_text : text_of_library after ≡ text_of_library before
    same_text = ap canonical (plain_library before after body turned.0 turned.1 plain)

    same_bank : after.bank ≡ before.bank
    same_bank = turn_bank before after body turned.0 turned.1

    either_state : (c : List ℕ) → IsStoreIn old.bank.shape c old.library.items (held_of before) ⊎ IsStoreIn old.bank.shape c old.library.items (held_of after)
        → HoldsState server_machine before c ⊎ HoldsState server_machine after c
    either_state c (inl one) = inl (as_held old before all (held_of before) c one)
    either_state c (inr one) =
        let under = subst (λ (l : List ℕ). IsStoreIn (Two before.bank) c l (held_of after)) (sym same_text) (as_held old before all (held_of after) c one) in
        inr (subst (λ (n : ℕ). IsStoreIn (Two n) c (text_of_library after) (held_of after)) (sym same_bank) under)

    has_state : (new : Store D g) → new.bank.shape ≡ old.bank.shape → new.library.items ≡ old.library.items → AllHold new (held_of after)
        → AllHoldState server_machine new after
    has_state new shape kept holds = record {
      shape = shape ∙ all.shape ∙ ap (λ (n : ℕ). Two n) (sym same_bank);
      has = kept ∙ all.has
          ∙ sym same_text;
      all = holds;
    }

  -- how often the device was called
  spent : (new : Store D g) → CallsWhereDue old mid before start body → (IsTrue (g.is_honest mid.disk) → g.moment new.disk ≤ g.moment mid.disk + 8)
      → IsTrue (g.is_honest old.disk) → CallsForOne old new before body
  spent new (inl same) four honest = inl (subst (λ (d : D). g.moment new.disk ≤ g.moment d + 8) same (four (first.honest ∙ honest)))
  spent new (inr due) four honest =
      inr (
        subst (λ (l : List ℕ). IsDueFor old before l body) empty due,
        let last = four (first.honest ∙ honest) in let one = once honest in
            omega (arith, last, one),
      )

  -- its checkpoint failed
  pub checkpoint_failed : (reply : ReplyValue) → reply ≡ fault_reply body → HasTurn body before after → IsDueFor old before start body → mid.stopped ≡ true
      → IsAnswered old mid before after body reply
  checkpoint_failed reply told some due stopped = record {
    late = λ late. absurd (true≢false (sym late ∙ was));
    going = λ no going. absurd (true≢false (sym stopped ∙ going));
    doubt = λ no yes. (told, (some.reply, some.asked.turn));
    replaced = λ no yes barrier. absurd (true≢false (sym barrier ∙ plain));
    any_moment = λ no all.
        weakened g.moment g.image_since old.disk mid.disk (λ c. IsStoreIn old.bank.shape c old.library.items (held_of before))
        (λ c. HoldsState server_machine before c ⊎ HoldsState server_machine after c)
        (leaves (held_of before) (λ none. refl) all.all) (λ c is. either_state (some.reply, some.asked.turn) all c (inl is));
    each = λ no going. absurd (true≢false (sym stopped ∙ going));
    goes = first;
    quiet = λ no kind none. absurd (no_event_of before body plain none due.makes);
    refused = λ no going. absurd (true≢false (sym stopped ∙ going));
    calls = λ no kind honest. spent mid (inr due) (λ h. omega arith) honest;
    library_calls = λ no kind. absurd (true≢false (sym kind ∙ plain));
    served = λ no. barrier mid reply start (inr (inr (inl (record {
      was = was;
      failed = record {
        reply = some.reply;
        event = [];
        turn = some.asked;
        plain = plain;
        due = due;
        none = refl;
        same = some.same;
        told_are = ap
            (λ (r : ReplyValue). r ∷ []) told;
        stopped = stopped;
        any_moment = leaves;
        once = at_most;
        goes = first;
      };
    }))));
  }

  module _ (on : mid.stopped ≡ false) (new : Store D g) (due : ReplyValue) (events : List ℕ) (turn : IsHeldBack body due start events before after)
      (then : DeviceFrame mid new)
      (holds : (committed : TableValue) → (length start ≡ 0 → held_of before ≡ committed) → AllHold old committed → AllHold mid committed)
      (commits : CommitsAtomically events mid new) (calls : CallsWhereDue old mid before start body)
      (still : length events ≡ 0 → (new.disk ≡ mid.disk) × (new.stopped ≡ false))
      (four : IsTrue (g.is_honest mid.disk) → g.moment new.disk ≤ g.moment mid.disk + 8) (chosen : new.chosen ≡ mid.chosen) where
    replays : Replays events (held_of before) (held_of after)
    replays =
        let added : events ≡ turn.event = turn.added ∙ ap (λ (l : List ℕ). l ++ turn.event) empty in
        subst (λ (l : List ℕ). Replays l (held_of before) (held_of after)) (sym added) turn.asked.replays

    meanwhile_table : AllHold old (held_of before) → LeavesEither old new (held_of before) (held_of after)
    meanwhile_table all =
        chained g.moment g.image_since old.disk mid.disk new.disk (λ c. IsStoreIn old.bank.shape c old.library.items (held_of before))
        (λ c. IsStoreIn mid.bank.shape c mid.library.items (held_of before) ⊎ IsStoreIn mid.bank.shape c mid.library.items (held_of after))
        (λ c. IsStoreIn old.bank.shape c old.library.items (held_of before) ⊎ IsStoreIn old.bank.shape c old.library.items (held_of after))
        (leaves (held_of before) (λ none. refl) all)
        (commits.any_moment (held_of before) (held_of after) replays (holds (held_of before) (λ none. refl) all)) (λ c is. inl is)
        (λ c is. subst (λ (s : BankFormat). IsStoreIn s c old.library.items (held_of before) ⊎ IsStoreIn s c old.library.items (held_of after)) first.shape
        (subst (λ (l : List ℕ). IsStoreIn mid.bank.shape c l (held_of before) ⊎ IsStoreIn mid.bank.shape c l (held_of after)) stays is))

    meanwhile : AllHoldState server_machine old before → LeavesState old new (λ c. HoldsState server_machine before c ⊎ HoldsState server_machine after c)
    meanwhile all =
        weakened g.moment g.image_since old.disk new.disk
        (λ c. IsStoreIn old.bank.shape c old.library.items (held_of before) ⊎ IsStoreIn old.bank.shape c old.library.items (held_of after))
        (λ c. HoldsState server_machine before c ⊎ HoldsState server_machine after c)
        (meanwhile_table all.all) (either_state (due, turn.asked.turn) all)

    -- held, and then the group of one ends
    filled : (reply : ReplyValue) → IsGroupCommitted server_machine (reply ∷ []) (grouping mid after (due ∷ []) events) (grouping new after [] [])
        → IsServed server_machine 1 old new before after (body ∷ []) (reply ∷ [])
    filled reply settled = barrier new reply [] (inr (inl (record {
      was = was;
      reply = due;
      event = turn.event;
      mid = grouping mid after (due ∷ []) events;
      held = record {
        turn = turn.asked;
        plain = plain;
        pending = refl;
        events = turn.added;
        going = on;
        calls = calls;
        carries = record { any_moment = leaves; each = λ going. holds; library = stays; once = at_most };
        goes = first;
      };
      full = full_one (length events);
      settled = settled;
    })))

    -- where the body makes no event nothing is called
    silent : MakesNoEvent before body → (new.disk ≡ old.disk) × (new.stopped ≡ false)
    silent none = by calls (none_or_some turn.event)
      where
        by : CallsWhereDue old mid before start body → (length turn.event ≡ 0) ⊎ (0 < length turn.event) → (new.disk ≡ old.disk) × (new.stopped ≡ false)
        by (inr is_due) event = absurd (no_event_of before body plain none is_due.makes)
        by (inl same) (inr some) =
            absurd (no_event_of before body plain none (record { reply = due; event = turn.event; after = after; turn = turn.asked; some = some }))
        by (inl same) (inl nothing) =
            let all : length events ≡ 0 =
            omega (arith, ap (λ (l : List ℕ). length l) turn.added, length-append start turn.event, ap (λ (l : List ℕ). length l) empty, nothing) in
            let last = still all in
            (last.0 ∙ same, last.1)

    -- its commit failed
    pub commit_failed : (reply : ReplyValue) → reply ≡ fault_reply body → new.stopped ≡ true → IsAnswered old new before after body reply
    commit_failed reply told stopped = record {
      late = λ late. absurd (true≢false (sym late ∙ was));
      going = λ no going. absurd (true≢false (sym stopped ∙ going));
      doubt = λ no yes. (told, (due, turn.asked.turn));
      replaced = λ no yes barrier. absurd (true≢false (sym barrier ∙ plain));
      any_moment = λ no. meanwhile;
      each = λ no going. absurd (true≢false (sym stopped ∙ going));
      goes = goes_on old mid new first then;
      quiet = λ no kind none. silent none;
      refused = λ no going. absurd (true≢false (sym stopped ∙ going));
      calls = λ no kind honest. spent new calls four honest;
      library_calls = λ no kind. absurd (true≢false (sym kind ∙ plain));
      served = λ no. filled reply (record {
        state = refl;
        well = λ going. absurd (true≢false (sym stopped ∙ going));
        broken = λ yes. ap (λ (r : ReplyValue). r ∷ []) (told ∙ sym (server_machine.tells (exchange body due turn.event) before after turn.asked));
        quiet = still;
        calls = four;
        chosen = chosen;
        commits = commits;
        goes = then;
      });
    }

    -- it is committed
    pub committed : new.stopped ≡ false → IsAnswered old new before after body due
    committed going = record {
      late = λ late. absurd (true≢false (sym late ∙ was));
      going = λ no yes. turn.asked.turn;
      doubt = λ no stopped. absurd (true≢false (sym stopped ∙ going));
      replaced = λ no yes barrier. absurd (true≢false (sym barrier ∙ plain));
      any_moment = λ no. meanwhile;
      each = λ no yes all. has_state (due, turn.asked.turn) all new (goes_on old mid new first then).shape (commits.library ∙ stays)
          (commits.each yes (held_of before) (held_of after) replays (holds (held_of before) (λ none. refl) all.all));
      goes = goes_on old mid new first then;
      quiet = λ no kind none. silent none;
      refused = λ no yes kind. absurd (true≢false (sym kind ∙ plain));
      calls = λ no kind honest. spent new calls four honest;
      library_calls = λ no kind. absurd (true≢false (sym kind ∙ plain));
      served = λ no. filled due (record {
        state = refl;
        well = λ yes. (refl, refl, refl);
        broken = λ stopped. absurd (true≢false (sym stopped ∙ going));
        quiet = still;
        calls = four;
        chosen = chosen;
        commits = commits;
        goes = then;
      });
    }
