-- A body that asks for another library.
use Rattle.std.proofs.Common.{◌≡◌, ◌⊎◌, inl, inr, ⊎_elim, ℕ, ◌+◌, ◌*◌, ◌-◌, ◌≤◌, true, false, true≢false, IsTrue, List, [], ◌∷◌, ◌++◌, refl, sym, ap, ◌∙◌}
use Rattle.std.proofs.Common.{subst}
use Rattle.oa_disk.specs.promise.Disk.{CrashInvariant}
use Rattle.oa_disk.specs.Disk.{LeavesStep}
use Rattle.oa_disk.specs.Moments.{weakened}
use Rattle.oa_disk.specs.declared.disk.Disk.{Ghosts}
use Rattle.oa_group_commit.specs.promise.Groups.{GroupState, IsAdmitted, IsEnded, IsFlushed, LeavesState, AllHoldState}
use Rattle.oa_group_commit.specs.promise.Groups.{HoldsState, IsServed, exchange}
use Rattle.oa_store.specs.promise.Writing.{CallsForOneCheckpoint, DeviceFrame}
use Rattle.oa_group_commit.specs.Simple.{no_event}
use Rattle.oa_group_commit.proofs.Ends.{underway_ended}
use Rattle.oa_group_commit.proofs.Entries.{either}
use Rattle.oa_group_commit.proofs.Stores.{goes_nowhere}
use Rattle.oa_group_commit.proofs.Takes.{underway_start, underway_taken}
use Rattle.oa_journal.specs.promise.Bank.{Replays}
use Rattle.oa_store.proofs.Committed.{nothing_called}
use Rattle.oa_record.specs.promise.Replacement.{is_replacement}
use Rattle.oa_record.specs.promise.Replies.{ReplyValue}
use Rattle.oa_store.specs.promise.Stores.{checkpoint_calls, IsStoreAt, IsStoreIn}
use Rattle.oa_store.specs.Changes.{IsReplacement, IsReplaced as HasReplaced}
use Rattle.oa_journal.specs.declared.shape.BankFormat.{BankFormat}
use Rattle.oa_journal.specs.declared.shape.BankFormat.TheVariants.{Two}
use Rattle.oa_store.specs.declared.store.Store.{Store}
use Rattle.oa_table.specs.promise.Tables.{TableValue}
use Rattle.oa_server.specs.OpenGroups.{grouping}
use Rattle.oa_turn.specs.promise.Replacing.{Replacement}
use Rattle.oa_server.specs.promise.ServerMachine.{CallsForLibrary, IsAsked, fault_reply, server_machine}
use Rattle.oa_server.specs.promise.ServerMachine.{text_of_library}
use Rattle.oa_server.specs.Answers.{IsAnswered, IsReplacedOver, IsReplacedOrLate}
use Rattle.oa_turn.specs.promise.Events.{held_of, is_done}
use Rattle.oa_decision.specs.promise.States.{State}
use Rattle.oa_turn.specs.promise.Turns.{Turn}

-- ---- what images hold
-- an image with the store's banks and library has those of the state that its disk holds
pub as_held : {D : Type 0} {g : Ghosts D} (store : Store D g) (state : State) → AllHoldState server_machine store state → (held : TableValue) (c : List ℕ)
    → IsStoreIn store.bank.shape c store.library.items held → IsStoreIn (Two state.bank) c (text_of_library state) held
as_held store state all held c is =
    subst (λ (l : List ℕ). IsStoreIn (Two state.bank) c l held) all.has (subst (λ (s : BankFormat). IsStoreIn s c store.library.items held) all.shape is)

module _ {D : Type 0} {g : Ghosts D} (only : (d : D) (c : List ℕ) → IsTrue (g.is_honest d) → g.image_since d (g.moment d) c → g.image d c) (old : Store D g)
    (before after : State) where
  -- nothing was called
  pub still : (disk : D) → disk ≡ old.disk → AllHoldState server_machine old before → CrashInvariant g.moment g.image_since old.disk disk
      (λ c. HoldsState server_machine before c ⊎ HoldsState server_machine after c)
  still disk same all =
      let here = weakened g.moment g.image_since old.disk old.disk (λ c. IsStoreIn old.bank.shape c old.library.items (held_of before))
      (λ c. HoldsState server_machine before c ⊎ HoldsState server_machine after c)
      (nothing_called g.moment g.image_since old.disk (g.image old.disk) old.bank.shape old.chosen old.bank.gate old.library.items (held_of before)
      (λ c left. only old.disk c all.all.0 left) all.all.1)
      (λ c is. inl (as_held old before all (held_of before) c is)) in
      subst (λ (d : D). CrashInvariant g.moment g.image_since old.disk d (λ c. HoldsState server_machine before c ⊎ HoldsState server_machine after c))
      (sym same) here

module _ {D : Type 0} {g : Ghosts D} (old new : Store D g) (before after : State) (text : List ℕ) (next : ℕ) (held : TableValue)
    (is : text ≡ text_of_library after) (first : held ≡ held_of before) (last : held ≡ held_of after) (sized : after.bank ≡ before.bank) where
  was_held : AllHoldState server_machine old before → (d : List ℕ) → g.image old.disk d
      → IsStoreAt old.bank.shape old.chosen old.bank.gate old.library.items held d
  was_held all d image = subst (λ (t : TableValue). IsStoreAt old.bank.shape old.chosen old.bank.gate old.library.items t d) (sym first) (all.all.1 d image)

  same_shape : AllHoldState server_machine old before → old.bank.shape ≡ Two after.bank
  same_shape all = all.shape ∙ ap (λ (n : ℕ). Two n) (sym sized)

  -- the store of the other library is written, and then the selector
  pub meanwhile : (IsTrue (g.is_honest old.disk) → LeavesStep g.moment g.image_since g.image old.disk new.disk
      (IsReplacement old.bank.shape old.chosen old.bank.gate old.bank.shape next old.library.items text held))
      → AllHoldState server_machine old before → LeavesState old new (λ c. HoldsState server_machine before c ⊎ HoldsState server_machine after c)
  meanwhile leaves all =
      weakened g.moment g.image_since old.disk new.disk _ (λ c. HoldsState server_machine before c ⊎ HoldsState server_machine after c) (leaves all.all.0)
      (λ c step. ⊎_elim
      (λ one. inl (as_held old before all (held_of before) c
      (subst (λ (t : TableValue). IsStoreIn old.bank.shape c old.library.items t) first (old.chosen, old.bank.gate, one))))
      (λ two. inr (subst (λ (s : BankFormat). IsStoreIn s c (text_of_library after) (held_of after)) (same_shape all)
      (subst (λ (l : List ℕ). IsStoreIn old.bank.shape c l (held_of after)) is
      (subst (λ (t : TableValue). IsStoreIn old.bank.shape c text t) last (1 - old.chosen, next, two)))))
      (step.2 (was_held all step.0 step.1)))

  -- and then each image is one
  pub at_last : new.bank.shape ≡ old.bank.shape → new.chosen ≡ 1 - old.chosen → new.bank.gate ≡ next → new.library.items ≡ text
      → g.is_honest new.disk ≡ g.is_honest old.disk
      → (IsTrue (g.is_honest old.disk) → (c : List ℕ) → g.image new.disk c → (d : List ℕ) × g.image old.disk d
      × HasReplaced old.bank.shape old.chosen old.bank.gate old.bank.shape next old.library.items text held d c)
      → AllHoldState server_machine old before → AllHoldState server_machine new after
  at_last shape chosen gate library honest done all = record {
    shape = shape ∙ same_shape all;
    has = library ∙ is;
    all = (
      honest ∙ all.all.0,
      λ c image.
          let step = done all.all.0 c image in
          subst (λ (s : BankFormat). IsStoreAt s new.chosen new.bank.gate new.library.items (held_of after) c) (sym shape)
          (subst (λ (l : List ℕ). IsStoreAt old.bank.shape new.chosen new.bank.gate l (held_of after) c) (sym library)
          (subst (λ (t : TableValue). IsStoreAt old.bank.shape new.chosen new.bank.gate text t c) last
          (subst (λ (k : ℕ). IsStoreAt old.bank.shape new.chosen k text held c) (sym gate)
          (subst (λ (k : ℕ). IsStoreAt old.bank.shape k next text held c) (sym chosen) (step.2 (was_held all step.0 step.1)))))),
    );
  }

-- a checkpoint of this text and this table makes as many calls
pub as_many_calls : (text other : List ℕ) (table now : TableValue) (from to : ℕ) → text ≡ other → table ≡ now → from ≤ to + 2 * checkpoint_calls text table
    → from ≤ to + 2 * checkpoint_calls other now
as_many_calls text other table now from to one two le =
    subst (λ (t : TableValue). from ≤ to + 2 * checkpoint_calls other t) two (subst (λ (l : List ℕ). from ≤ to + 2 * checkpoint_calls l table) one le)

-- ---- as a group of its own
module _ {D : Type 0} {g : Ghosts D} (old new : Store D g) (before after : State) (body : List ℕ) (kind : is_replacement body ≡ true)
    (same : held_of after ≡ held_of before)
    (moment : AllHoldState server_machine old before → LeavesState old new (λ c. HoldsState server_machine before c ⊎ HoldsState server_machine after c))
    (each : new.stopped ≡ false → AllHoldState server_machine old before → AllHoldState server_machine new after) (calls : CallsForLibrary old new after)
    (once : CallsForOneCheckpoint old new) (goes : DeviceFrame old new) where
  asked : (due : ReplyValue) → Replacement before body due after → IsAsked (exchange body due []) before after
  asked due turn = record {
    turn = inr (record { kind = kind; turn = turn });
    made = record { done = λ request plain asks done. absurd (true≢false (sym kind ∙ plain)); undone = λ no. refl };
    replays = subst (λ (t : TableValue). Replays [] (held_of before) t) (sym same) (no_event (held_of before));
  }

  pub replaced_alone : (due : ReplyValue) → Replacement before body due after → new.stopped ≡ false → (is_done due ≡ false → new.disk ≡ old.disk)
      → IsReplacedOver old new before after body due
  replaced_alone due turn going quiet = record {
    due = due;
    replaced = record {
      turn = asked due turn;
      barrier = kind;
      none = refl;
      idle = (refl, refl);
      idle_still = (refl, refl);
      well = λ yes. refl;
      broken = λ stopped. absurd (true≢false (sym stopped ∙ going));
      doubt = λ stopped. absurd (true≢false (sym stopped ∙ going));
      quiet = quiet;
      once = once;
      any_moment = moment;
      each = each;
      goes = goes;
    };
    calls = calls;
  }

  -- a call of the device failed in it
  pub in_doubt : (due : ReplyValue) → Replacement before body due after → is_done due ≡ true → new.stopped ≡ true → (reply : ReplyValue)
      → reply ≡ fault_reply body → IsReplacedOver old new before after body reply
  in_doubt due turn done stopped reply told = record {
    due = due;
    replaced = record {
      turn = asked due turn;
      barrier = kind;
      none = refl;
      idle = (refl, refl);
      idle_still = (refl, refl);
      well = λ going. absurd (true≢false (sym stopped ∙ going));
      broken = λ yes. ap (λ (r : ReplyValue). r ∷ []) told;
      doubt = λ yes. done;
      quiet = λ refused. absurd (true≢false (sym done ∙ refused));
      once = once;
      any_moment = moment;
      each = each;
      goes = goes;
    };
    calls = calls;
  }

one_reply : (a b : ReplyValue) → a ∷ [] ≡ b ∷ [] → a ≡ b
one_reply a b e = cc

module _ {D : Type 0} {g : Ghosts D} (only : (d : D) (c : List ℕ) → IsTrue (g.is_honest d) → g.image_since d (g.moment d) c → g.image d c) (old new : Store D g)
    (was : old.stopped ≡ false) (before after : State) (body : List ℕ) (reply : ReplyValue)
    (kind : is_replacement body ≡ true) (is : IsReplacedOver old new before after body reply) where
  abbrev begin : GroupState State ReplyValue D g
  begin = grouping old before [] []

  is_due : new.stopped ≡ false → reply ≡ is.due
  is_due going = one_reply reply is.due (is.replaced.well going)

  served_apart : IsServed server_machine 1 old new before after (body ∷ []) (reply ∷ [])
  served_apart =
      let under = underway_taken server_machine {g = g} only begin 1 begin (grouping new after [] []) [] [] body (reply ∷ [])
      (underway_start server_machine {g = g} only begin 1 was refl refl) (inr (inr (inr (inr (record {
        was = was;
        barrier = kind;
        mid = begin;
        before = [];
        after = reply ∷ [];
        told_are = refl;
        flushed = inl (record { none = refl; nothing = refl; store = refl; state = refl });
        going = λ going. (is.due, is.replaced);
        late = λ stopped. absurd (true≢false (sym stopped ∙ was));
      }))))) in
      underway_ended server_machine {g = g} only begin 1 (grouping new after [] []) (grouping new after [] []) (body ∷ []) (reply ∷ []) [] under
      (inl (record { none = refl; nothing = refl; store = refl; state = refl }))

  pub answered_apart : IsAnswered old new before after body reply
  answered_apart = record {
    late = λ late. absurd (true≢false (sym late ∙ was));
    going = λ no going. subst (λ (r : ReplyValue). Turn before body r after) (sym (is_due going)) is.replaced.turn.turn;
    doubt = λ no stopped. (one_reply reply (fault_reply body) (is.replaced.broken stopped), (is.due, is.replaced.turn.turn));
    replaced = λ no stopped barrier. (is.due, is.replaced.turn.turn, is.replaced.doubt stopped);
    any_moment = λ no. is.replaced.any_moment;
    each = λ no. is.replaced.each;
    goes = is.replaced.goes;
    quiet = λ no plain. absurd (true≢false (sym kind ∙ plain));
    refused = λ no going asks undone. is.replaced.quiet (ap is_done (sym (is_due going)) ∙ undone);
    calls = λ no plain. absurd (true≢false (sym kind ∙ plain));
    library_calls = λ no asks. is.calls;
    served = λ no. served_apart;
  }

-- behind the group before it
module _ {D : Type 0} {g : Ghosts D} (old mid new : Store D g) (was : old.stopped ≡ false) (before after : State) (body : List ℕ) (reply : ReplyValue)
    (kind : is_replacement body ≡ true)
    (pending told : List ReplyValue) (events batch : List ℕ)
    (ended : IsEnded server_machine told (grouping old before pending events) (grouping mid before [] batch))
    (is : IsReplacedOrLate mid new before after body reply) where
  flushed : IsEnded server_machine told (grouping old before pending events) (grouping mid before [] batch)
      → IsFlushed server_machine told (grouping old before pending events) (grouping mid before [] [])
  flushed (inl idle) = inl (record { none = idle.none; nothing = idle.nothing; store = idle.store; state = idle.state })
  flushed (inr (inl last)) = inr (record {
    was = last.was;
    some = last.some;
    settled = record {
      state = last.settled.state;
      well = λ going. ((last.settled.well going).0, refl, refl);
      broken = last.settled.broken;
      quiet = last.settled.quiet;
      calls = last.settled.calls;
      chosen = last.settled.chosen;
      commits = last.settled.commits;
      goes = last.settled.goes;
    };
  })
  flushed (inr (inr left)) = absurd (true≢false (sym left.over.was ∙ was))

  taken_apart : (all : List ReplyValue) → all ≡ told ++ reply ∷ [] → (events' : List ℕ) → events' ≡ [] → (size : ℕ)
      → IsAdmitted server_machine size body all (grouping old before pending events) (grouping new after [] events')
  taken_apart all are events' none size =
      subst (λ (l : List ℕ). IsAdmitted server_machine size body all (grouping old before pending events) (grouping new after [] l)) (sym none)
      (inr (inr (inr (inr (record {
        was = was;
        barrier = kind;
        mid = grouping mid before [] [];
        before = told;
        after = reply ∷ [];
        told_are = are;
        flushed = flushed ended;
        going = λ going. ((is.0 going).due, (is.0 going).replaced);
        late = λ stopped.
            let late = is.1 stopped in (
              ap (λ (r : ReplyValue). r ∷ []) late.0,
              record {
                was = stopped;
                is = ap (λ (s : Store D g). s.stopped) late.1 ∙ stopped;
                disk = ap (λ (s : Store D g). s.disk) late.1;
                state = late.2;
                goes = subst (λ (s : Store D g). DeviceFrame mid s) (sym late.1) (goes_nowhere mid);
              },
            );
      })))))

-- the device has failed before: that is answered, and nothing is done
module _ {D : Type 0} {g : Ghosts D} (old mid new : Store D g) (stopped : old.stopped ≡ true) (before after : State) (body : List ℕ) (reply : ReplyValue)
    (pending told : List ReplyValue) (events batch : List ℕ) (is : IsReplacedOrLate mid new before after body reply) (all : List ReplyValue)
    (are : all ≡ told ++ reply ∷ []) (events' : List ℕ) (size : ℕ) where
  late_by : told ≡ [] → mid.stopped ≡ true → mid.disk ≡ old.disk → DeviceFrame old mid
      → IsAdmitted server_machine size body all (grouping old before pending events) (grouping new after [] events')
  late_by nothing still disk goes =
      let late = is.1 still in
      inr (inr (inr (inl (record {
        over = record {
          was = stopped;
          is = ap (λ (s : Store D g). s.stopped) late.1 ∙ still;
          disk = ap (λ (s : Store D g). s.disk) late.1 ∙ disk;
          state = late.2;
          goes = subst (λ (s : Store D g). DeviceFrame old s) (sym late.1) goes;
        };
        told_is = are ∙ ap (λ (l : List ReplyValue). l ++ reply ∷ []) nothing ∙ ap (λ (r : ReplyValue). r ∷ []) late.0;
      }))))

  taken_late : IsEnded server_machine told (grouping old before pending events) (grouping mid before [] batch)
      → IsAdmitted server_machine size body all (grouping old before pending events) (grouping new after [] events')
  taken_late (inl idle) =
      late_by idle.nothing (ap (λ (s : Store D g). s.stopped) idle.store ∙ stopped) (ap (λ (s : Store D g). s.disk) idle.store)
      (subst (λ (s : Store D g). DeviceFrame old s) (sym idle.store) (goes_nowhere old))
  taken_late (inr (inl last)) = absurd (true≢false (sym stopped ∙ last.was))
  taken_late (inr (inr left)) = late_by left.nothing left.over.is left.over.disk left.over.goes

-- so it is taken, whether the device has failed before or not
pub taken_by_itself : {D : Type 0} {g : Ghosts D} (old mid new : Store D g) (before after : State) (body : List ℕ) (reply : ReplyValue)
    → is_replacement body ≡ true → (pending told : List ReplyValue) (events batch : List ℕ)
    → IsEnded server_machine told (grouping old before pending events) (grouping mid before [] batch) → IsReplacedOrLate mid new before after body reply
    → (all : List ReplyValue) → all ≡ told ++ reply ∷ [] → (events' : List ℕ) → events' ≡ [] → (size : ℕ)
    → IsAdmitted server_machine size body all (grouping old before pending events) (grouping new after [] events')
taken_by_itself {D} {g} old mid new before after body reply kind pending told events batch ended is all are events' none size = by (either old.stopped)
  where
    by : (old.stopped ≡ false) ⊎ (old.stopped ≡ true) → IsAdmitted server_machine size body all (grouping old before pending events)
        (grouping new after [] events')
    by (inl going) = taken_apart {g = g} old mid new going before after body reply kind pending told events batch ended is all are events' none size
    by (inr stopped) = taken_late {g = g} old mid new stopped before after body reply pending told events batch is all are events' size ended
