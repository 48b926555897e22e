-- A session over a disk whose calls may fail, call by call.
use Rattle.std.proofs.Common.{◌≡◌, ℕ, ◌+◌, ◌<◌, ◌≤◌, length, get_or, take, Bool, true, false, true≢false, List, [], ◌∷◌, ◌++◌, refl, sym, ◌∙◌, subst, arith}
use Rattle.std.proofs.Common.{append_assoc}
use Rattle.std.proofs.lemmas.List.{append-nil, take_more}
use Rattle.oa_disk.specs.declared.disk.Disk.{Ghosts}
use Rattle.oa_group_commit.specs.Laws.{CallCounts, CallGoesOn, CrashKeepsAcknowledged, EndCountsAll, LateCallCounts}
use Rattle.oa_group_commit.specs.promise.Groups.{HoldsPrefix, AnsweredCall, IsSessionOn, OpenSession, StateMachine}
use Rattle.oa_record.specs.promise.Replies.{ReplyValue}
use Rattle.oa_server.specs.promise.ServerMachine.{server_machine}
use Rattle.oa_decision.specs.promise.States.{State}
use Rattle.oa_server.specs.promise.Storages.{OverStore, Serves, disk_of}
use Rattle.oa_server.specs.declared.storage.Storage.{Storage}
use Rattle.oa_server.specs.declared.storage.Storage.TheVariants.{Disk, Memory}
use Rattle.oa_store.specs.declared.store.Store.{Store}
use Rattle.oa_history.specs.promise.CrashHistories.{SessionStart, call_bodies}
use Rattle.oa_history.specs.promise.DurablePrefixes.{Serving}
use Rattle.oa_history.proofs.CallsOverStore.{IsServing, ServesOver, requests_are_served}
use Rattle.oa_history.specs.promise.FaultHistories.{Answered, told_call, told_calls}
use Rattle.oa_history.specs.declared.failing.CallOutcome.{CallOutcome}
use Rattle.oa_history.specs.declared.session.ServerCall.{ServerCall}

-- These calls were made since the start: the session may go on, or the device has failed in it.
pub record AtWork {S R D : Type 0} {g : Ghosts D} (t : StateMachine S R) (start : D) (store : Store D g) (before : S) (calls : List (AnsweredCall R))
    (last : S) : Type 0 where
  pub going : store.stopped ≡ false → OpenSession t start store before last calls
  pub late : store.stopped ≡ true → (session : IsSessionOn t g start store.disk before calls last) × (session.stopped ≡ true)

-- the disk's members, by its server's storage
abbrev pub ghosts_of : {D : Type 0} {g : Ghosts D} → Storage D g → Ghosts D
ghosts_of {D} {g} storage = g

module _ {S R D : Type 0} (t : StateMachine S R) (g : Ghosts D) (start : D) (before : S) where
  pub at_start : (storage : Storage D g) → OverStore storage (λ store. SessionStart t start store before)
      → OverStore storage (λ store. AtWork t start store before [] before)
  at_start (Memory d) is = absurd is
  at_start (Disk store) is = record {
    going = λ going. is.sits;
    late = λ stopped. absurd (true≢false (sym stopped ∙ is.goes_on));
  }

  module _ (serving : Serving g S R) (over : IsServing t serving) (counts : CallCounts t g) (goes_on : CallGoesOn t g) (late_counts : LateCallCounts t g) where
    -- one call more
    store_more : (old new : Store D g) (mid after : S) (calls : List (AnsweredCall R)) (call : AnsweredCall R) → AtWork t start old before calls mid
        → ServesOver t call.size old new mid call.bodies call.replies after
        → (b : Bool) → old.stopped ≡ b → AtWork t start new before (calls ++ call ∷ []) after
    store_more old new mid after calls call is serves false going =
        let served = serves.served going in
        let was = is.going going in
        record {
          going = λ on. goes_on start old new before mid after calls call was served on;
          late = λ stopped. let law = counts start old new before mid after calls call was served in (law.0, law.1 ∙ stopped);
        }
    store_more old new mid after calls call is serves true stopped =
        let late = serves.late stopped in
        let was = is.late stopped in
        let more = late_counts start old.disk before mid calls call was.0 was.1 late.told in
        record {
          going = λ on. absurd (true≢false (sym late.stopped ∙ on));
          late = λ again. subst (λ (s : S). (session : IsSessionOn t g start new.disk before (calls ++ call ∷ []) s) × (session.stopped ≡ true))
              (sym late.state)
              (subst (λ (d : D). (session : IsSessionOn t g start d before (calls ++ call ∷ []) mid) × (session.stopped ≡ true)) (sym late.disk)
              (more.0, more.1));
        }

    pub storage_more : (old new : Storage D g) (mid after : S) (calls : List (AnsweredCall R)) (call : AnsweredCall R)
        → OverStore old (λ store. AtWork t start store before calls mid) → serving call.size old new mid call.bodies call.replies after
        → OverStore new (λ store. AtWork t start store before (calls ++ call ∷ []) after)
    storage_more (Memory old) new mid after calls call is serves = absurd is
    storage_more (Disk old) (Memory new) mid after calls call is serves = absurd (over call.size old (Memory new) mid call.bodies call.replies after serves)
    storage_more (Disk old) (Disk new) mid after calls call is serves =
        store_more old new mid after calls call is (over call.size old (Disk new) mid call.bodies call.replies after serves) old.stopped refl

  -- the session, as it is
  pub session_of : (storage : Storage D g) (calls : List (AnsweredCall R)) (last : S) → OverStore storage (λ store. AtWork t start store before calls last)
      → IsSessionOn t g start (disk_of storage) before calls last
  session_of (Memory d) calls last is = absurd is
  session_of (Disk store) calls last is = by store.stopped refl
    where
      by : (b : Bool) → store.stopped ≡ b → IsSessionOn t g start store.disk before calls last
      by false going = (is.going going).session
      by true stopped = (is.late stopped).0

  -- each image has all that was answered
  pub all_kept : CrashKeepsAcknowledged t g → EndCountsAll t g → (now : D) (calls : List (AnsweredCall R)) (last : S)
      (session : IsSessionOn t g start now before calls last) → g.moment start ≤ g.moment now
      → ((m : ℕ) (c : List ℕ) → m ≤ g.moment now → g.image now c → g.image_since now m c) → (c : List ℕ) → g.image now c
      → HoldsPrefix t session.count before session.groups c
  all_kept keeps counts_all now calls last session le since c is =
      let end : g.moment now ≤ g.moment now = omega arith in
      subst (λ (n : ℕ). HoldsPrefix t n before session.groups c) (counts_all start now before calls last session (g.moment now) end)
      (keeps start now before calls last session (g.moment now) c le (λ m below. since m c below is))

-- all calls of a session

module _ {D : Type 0} (g : Ghosts D) (start : D) (before : State) (counts : CallCounts server_machine g) (goes_on : CallGoesOn server_machine g)
    (late_counts : LateCallCounts server_machine g) where
  pub all_answered : (old new : Storage D g) (mid last : State) (done : List (AnsweredCall ReplyValue)) (calls : List ServerCall) (told : List CallOutcome)
      → OverStore old (λ store. AtWork server_machine start store before done mid) → Answered old mid calls told new last
      → OverStore new (λ store. AtWork server_machine start store before (done ++ told_calls calls told) last)
  all_answered old new mid last done [] [] is answered =
      subst (λ (l : List (AnsweredCall ReplyValue)). OverStore new (λ store. AtWork server_machine start store before l last)) (sym (append-nil done))
      (subst (λ (s : State). OverStore new (λ store. AtWork server_machine start store before done s)) (sym answered.1)
      (subst (λ (s : Storage D g). OverStore s (λ store. AtWork server_machine start store before done mid)) (sym answered.0) is))
  all_answered old new mid last done [] (one ∷ told) is answered = absurd answered
  all_answered old new mid last done (call ∷ calls) [] is answered = absurd answered
  all_answered old new mid last done (call ∷ calls) (one ∷ told) is answered =
      let here = told_call call one in
      subst (λ (l : List (AnsweredCall ReplyValue)). OverStore new (λ store. AtWork server_machine start store before l last))
      (append_assoc done (here ∷ []) (told_calls calls told))
      (all_answered answered.0 new answered.1 last (done ++ here ∷ []) calls told
      (storage_more server_machine g start before Serves (requests_are_served g) counts goes_on late_counts old answered.0 mid answered.1 done here is
      answered.2) answered.4)

-- ---- one call more is made

answered_push : {D : Type 0} {g : Ghosts D} (old : Storage D g) (first : State) (calls : List ServerCall) (told : List CallOutcome) (mid : Storage D g)
    (state : State) (call : ServerCall) (one : CallOutcome) (new : Storage D g) (last : State)
    → Answered old first calls told mid state → Answered mid state (call ∷ []) (one ∷ []) new last
    → Answered old first (calls ++ call ∷ []) (told ++ one ∷ []) new last
answered_push {D} {g} old first [] [] mid state call one new last so_far here =
    subst (λ (s : State). Answered old s (call ∷ []) (one ∷ []) new last) so_far.1
    (subst (λ (s : Storage D g). Answered s state (call ∷ []) (one ∷ []) new last) so_far.0 here)
answered_push old first [] (t ∷ told) mid state call one new last so_far here = absurd so_far
answered_push old first (c ∷ calls) [] mid state call one new last so_far here = absurd so_far
answered_push old first (c ∷ calls) (t ∷ told) mid state call one new last so_far here =
    (so_far.0, so_far.1, so_far.2, so_far.3, answered_push so_far.0 so_far.1 calls told mid state call one new last so_far.4 here)

-- the first i + 1 calls
pub answered_more : {D : Type 0} {g : Ghosts D} (old : Storage D g) (first : State) (calls : List ServerCall) (i : ℕ) (told all : List CallOutcome)
    (mid : Storage D g) (state : State) (call : ServerCall) (one : CallOutcome) (new : Storage D g) (last : State)
    → i < length calls → get_or calls i call ≡ call → all ≡ told ++ one ∷ [] → Answered old first (take i calls) told mid state
    → Serves call.group mid new state (call_bodies call) one.replies.items last
    → one.failures ≡ g.failures_of (disk_of new) → Answered old first (take (i + 1) calls) all new last
answered_more old first calls i told all mid state call one new last within is all_are so_far serves count =
    let here : take (i + 1) calls ≡ take i calls ++ call ∷ [] = rw (take_more calls i call within, is) refl in
    subst (λ (l : List CallOutcome). Answered old first (take (i + 1) calls) l new last) (sym all_are)
    (subst (λ (l : List ServerCall). Answered old first l (told ++ one ∷ []) new last) (sym here)
    (answered_push old first (take i calls) told mid state call one new last so_far (new, last, serves, count, (refl, refl))))
