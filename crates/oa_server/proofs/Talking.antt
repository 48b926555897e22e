-- What a session of a server over streams has served.
use Rattle.std.proofs.Common.{◌≡◌, ◌⊎◌, inl, inr, ◌<◌, ◌≤◌, ℕ, ◌+◌, IsTrue, true, false, true≢false, List, [], ◌∷◌, ◌++◌, length, map, refl}
use Rattle.std.proofs.Common.{sym, ap, ◌∙◌, subst, arith, append_assoc, length-append}
use Rattle.std.specs.Bool.{⊤}
use Rattle.std.specs.Vec.{vec_capacity}
use Rattle.std.proofs.lemmas.List.{append-nil, length_push, map-append}
use Rattle.oa_disk.specs.declared.disk.Disk.{Ghosts}
use Rattle.oa_frame.specs.promise.Framings.{Frames}
use Rattle.oa_frame.specs.promise.Sessions as sessions
use Rattle.oa_frame.specs.declared.session.Served.{Served}
use Rattle.oa_group_commit.specs.promise.Groups.{GroupState, IsAdmitted, IsServed}
use Rattle.oa_group_commit.specs.Invariants.{GroupInvariant}
use Rattle.oa_group_commit.proofs.Entries.{either}
use Rattle.oa_group_commit.proofs.Ends.{underway_ended}
use Rattle.oa_group_commit.proofs.Takes.{underway_start, underway_taken}
use Rattle.oa_record.specs.promise.Replacement.{is_replacement}
use Rattle.oa_record.specs.promise.Replies.{ReplyValue, reply_record}
use Rattle.oa_store.specs.declared.store.Store.{Store}
use Rattle.oa_stream.specs.promise.Source.{Input}
use Rattle.oa_stream.specs.promise.Sink.{Output}
use Rattle.oa_server.specs.declared.engine.ServerState.{ServerState}
use Rattle.oa_server.specs.declared.open_group.OpenGroup.{OpenGroup}
use Rattle.oa_server.specs.declared.storage.Storage.{Storage}
use Rattle.oa_server.specs.declared.storage.Storage.TheVariants.{Disk, Memory}
use Rattle.oa_server.specs.promise.ServerMachine.{AnswersAfterFault, server_machine}
use Rattle.oa_server.specs.OpenGroups.{grouping}
use Rattle.oa_decision.specs.promise.States.{State}
use Rattle.oa_server.specs.promise.Storages.{Serves, disk_of, EndsApart, EndsBefore, EndsGroup, InParts, IsWholeGroup}
use Rattle.oa_server.specs.promise.Storages.{Part, Parts, ServesSession, any_end, any_turn, at_last, bodies_of_parts}
use Rattle.oa_server.specs.promise.Storages.{handed_of, silent}
use Rattle.oa_server.specs.Talks.{InputEnds, OpenGroupIsReady, Taken, ended_written, taken_written}
use Rattle.oa_turn.specs.promise.Turns.{Run}
use Rattle.oa_server.proofs.InOpenGroup.{Holding, group_faulted, group_filled, holds_more, holds_none, rest_ends}
use Rattle.oa_server.proofs.AnsweredAfterFault.{late_ended, late_more, late_none}
use Rattle.oa_server.proofs.Retold.{session_as}
use Rattle.oa_turn.proofs.Runs.{run_more}
use Rattle.oa_server.proofs.Settled.{ready_at}

joined_none : sessions.concat_replies [] ≡ []
unfolding sessions.concat_replies
joined_none = refl

joined_one : (replies : List (List ℕ)) (handed : List (List (List ℕ))) → sessions.concat_replies (replies ∷ handed) ≡ replies ++ sessions.concat_replies handed
unfolding sessions.concat_replies
joined_one replies handed = refl

at_last_push : (front : List (List ℕ)) (body : List ℕ) (replies : List (List ℕ)) → at_last (front ++ body ∷ []) replies ≡ silent front ++ replies ∷ []
at_last_push [] body replies = refl
at_last_push (x ∷ []) body replies = refl
at_last_push (x ∷ (y ∷ front)) body replies = ap (λ (l : List (List (List ℕ))). [] ∷ l) (at_last_push (y ∷ front) body replies)

-- over a store, so far
pub record StoreSoFar {D : Type 0} {g : Ghosts D} (size : ℕ) (start : Store D g) (first : State) (store : Store D g) (now : State) (open_group : OpenGroup)
    (bodies : List (List ℕ)) (told : List ReplyValue) : Type 0 where
  pub size_is : open_group.size ≡ size
  pub ready : OpenGroupIsReady (Disk store) open_group
  pub going : start.stopped ≡ false → GroupInvariant server_machine size (grouping start first [] [])
      (grouping store now open_group.replies.items open_group.batch) bodies told
  pub late : start.stopped ≡ true → AnswersAfterFault start store first now bodies told

-- these bodies were taken since the start, and these replies handed out
abbrev SoFar : {D : Type 0} {g : Ghosts D} → ℕ → Storage D g → State → Storage D g → State → OpenGroup → List (List ℕ) → List ReplyValue → Type 0
SoFar size (Memory start) first (Memory now) state open_group bodies told = (now ≡ start) × Run first bodies told state
SoFar size (Disk start) first (Disk now) state open_group bodies told = StoreSoFar size start first now state open_group bodies told
SoFar size (Memory start) first (Disk now) state open_group bodies told = ⊥
SoFar size (Disk start) first (Memory now) state open_group bodies told = ⊥

module _ {D : Type 0} {g : Ghosts D} (only : (d : D) (c : List ℕ) → IsTrue (g.is_honest d) → g.image_since d (g.moment d) c → g.image d c) (size : ℕ) where
  record Takes (start : Storage D g) (first : State) (new : Storage D g) (after : State) (open_group : OpenGroup) (bodies : List (List ℕ))
      (out : List ReplyValue) (replies : List (List ℕ)) : Type 0 where
    told : List ReplyValue
    are : replies ≡ map reply_record told
    so_far : SoFar size start first new after open_group bodies (out ++ told)

  taken_more : (start old new : Storage D g) (first before after : State) (open_group open_group' : OpenGroup) (bodies : List (List ℕ)) (out : List ReplyValue)
      (body : List ℕ) (replies : List (List ℕ))
      → SoFar size start first old before open_group bodies out → Taken old before open_group body replies new after open_group'
      → Takes start first new after open_group' (bodies ++ body ∷ []) out replies
  taken_more (Memory start) (Memory old) (Memory new) first before after open_group open_group' bodies out body replies was is = record {
    told = is.1.0 ∷ [];
    are = is.1.1;
    so_far = (ap (λ (s : Storage D g). disk_of s) is.0 ∙ was.0, run_more first before after bodies out body is.1.0 was.1 is.1.2);
  }
  taken_more (Memory start) (Memory old) (Disk new) first before after open_group open_group' bodies out body replies was is = absurd (cc is.0)
  taken_more (Disk start) (Disk old) (Disk new) first before after open_group open_group' bodies out body replies was is =
      record {
        told = is.told;
        are = is.are;
        so_far = record {
          size_is = is.size ∙ was.size_is;
          ready = is.ready;
          going = λ going.
              underway_taken server_machine {g = g} only (grouping start first [] []) size (grouping old before open_group.replies.items open_group.batch)
              (grouping new after open_group'.replies.items open_group'.batch) bodies out body is.told (was.going going) (rw was.size_is at is.taken);
          late = λ stopped.
              late_more start old new first before after bodies out size body is.told open_group.replies.items open_group'.replies.items open_group.batch
              open_group'.batch (was.late stopped) (rw was.size_is at is.taken);
        };
      }
  taken_more (Disk start) (Disk old) (Memory new) first before after open_group open_group' bodies out body replies was is = absurd is.taken
  taken_more (Memory start) (Disk old) new first before after open_group open_group' bodies out body replies was is = absurd was
  taken_more (Disk start) (Memory old) new first before after open_group open_group' bodies out body replies was is = absurd was

  record Ends (start : Storage D g) (first : State) (new : Storage D g) (after : State) (bodies : List (List ℕ)) (out : List ReplyValue)
      (replies : List (List ℕ)) : Type 0 where
    told : List ReplyValue
    are : replies ≡ map reply_record told
    serves : Serves size start new first bodies (out ++ told) after

  ended_at : (start old new : Storage D g) (first before after : State) (open_group open_group' : OpenGroup) (bodies : List (List ℕ)) (out : List ReplyValue)
      (replies : List (List ℕ))
      → SoFar size start first old before open_group bodies out → InputEnds old before open_group replies new after open_group'
      → Ends start first new after bodies out replies
  ended_at (Memory start) (Memory old) (Memory new) first before after open_group open_group' bodies out replies was is = record {
    told = [];
    are = is.1.0;
    serves = (
      ap (λ (s : Storage D g). disk_of s) is.0 ∙ was.0,
      subst (λ (l : List ReplyValue). Run first bodies l after) (sym (append-nil out))
          (subst (λ (s : State). Run first bodies out s) (sym is.1.1) was.1),
    );
  }
  ended_at (Memory start) (Memory old) (Disk new) first before after open_group open_group' bodies out replies was is = absurd (cc is.0)
  ended_at (Disk start) (Disk old) (Disk new) first before after open_group open_group' bodies out replies was is =
      record {
        told = is.told;
        are = is.are;
        serves = record {
          served = λ going.
              underway_ended server_machine {g = g} only (grouping start first [] []) size (grouping old before open_group.replies.items open_group.batch)
              (grouping new after open_group'.replies.items open_group'.batch) bodies out is.told (was.going going) is.ended;
          late = λ stopped. late_ended start old new first before after bodies out is.told open_group.replies.items open_group'.replies.items open_group.batch
              open_group'.batch (was.late stopped) is.ended;
        };
      }
  ended_at (Disk start) (Disk old) (Memory new) first before after open_group open_group' bodies out replies was is = absurd is.ended
  ended_at (Memory start) (Disk old) new first before after open_group open_group' bodies out replies was is = absurd was
  ended_at (Disk start) (Memory old) new first before after open_group open_group' bodies out replies was is = absurd was

  record Went (start : Storage D g) (first : State) (now : ServerState D g) (bodies : List (List ℕ)) (out : List ReplyValue)
      (handed : List (List (List ℕ))) : Type 0 where
    told : List ReplyValue
    are : sessions.concat_replies handed ≡ map reply_record told
    so_far : SoFar size start first now.storage now.host now.desk.open_group bodies (out ++ told)

  went : (start : Storage D g) (first : State) (old new : ServerState D g) (front bodies : List (List ℕ)) (out : List ReplyValue)
      (handed : List (List (List ℕ)))
      → SoFar size start first old.storage old.host old.desk.open_group front out → sessions.BodiesTurned taken_written old bodies handed new
      → Went start first new (front ++ bodies) out handed
  went start first old new front [] out [] was run = record {
    told = [];
    are = joined_none;
    so_far =
        subst (λ (c : ServerState D g). SoFar size start first c.storage c.host c.desk.open_group (front ++ []) (out ++ [])) (sym run)
        (rw (append-nil front, append-nil out) was);
  }
  went start first old new front (body ∷ bodies) out (replies ∷ handed) was run =
      let one = taken_more start old.storage run.0.storage first old.host run.0.host old.desk.open_group run.0.desk.open_group front out body replies was
      run.1 in
      let rest = went start first run.0 new (front ++ body ∷ []) bodies (out ++ one.told) handed one.so_far run.2 in
      record {
        told = one.told ++ rest.told;
        are = joined_one replies handed ∙ ap (λ (l : List (List ℕ)). l ++ sessions.concat_replies handed) one.are
            ∙ ap (λ (l : List (List ℕ)). map reply_record one.told ++ l) rest.are ∙ sym (map-append reply_record one.told rest.told);
        so_far = rw (sym (append_assoc out one.told rest.told), sym (append_assoc front (body ∷ []) bodies)) rest.so_far;
      }
  went start first old new front [] out (replies ∷ handed) was run = absurd run
  went start first old new front (body ∷ bodies) out [] was run = absurd run

  any_run : (old new : ServerState D g) (bodies : List (List ℕ)) (handed : List (List (List ℕ))) → sessions.BodiesTurned taken_written old bodies handed new
      → sessions.BodiesTurned any_turn tt bodies handed tt
  any_run old new [] [] run = refl
  any_run old new (body ∷ bodies) (replies ∷ handed) run = (tt, tt, any_run run.0 new bodies handed run.2)
  any_run old new [] (replies ∷ handed) run = absurd run
  any_run old new (body ∷ bodies) [] run = absurd run

  -- nothing yet
  pub begins : (storage : Storage D g) (state : State) (open_group : OpenGroup) → open_group.size ≡ size → 1 ≤ size → size ≤ vec_capacity open_group.replies
      → open_group.replies.items ≡ [] → open_group.batch ≡ [] → SoFar size storage state storage state open_group [] []
  begins (Memory disk) state open_group is some place none empty = (refl, refl)
  begins (Disk store) state open_group is some place none empty = record {
    size_is = is;
    ready = ready_at store open_group.size (vec_capacity open_group.replies) open_group.replies.items open_group.batch (omega (arith, is, some))
        (omega (arith, is, place)) none empty;
    going = λ going. rw (none, empty) (underway_start server_machine {g = g} only (grouping store state [] []) size going refl refl);
    late = λ stopped. late_none store state stopped;
  }

  -- ---- part by part

  -- so many replies are held
  abbrev Holds : Storage D g → OpenGroup → ℕ → Type 0
  Holds (Memory disk) open_group n = ⊤
  Holds (Disk store) open_group n = length open_group.replies.items ≡ n

  -- no group is whole: none is in memory, and none after a fault
  abbrev NoGroup : Storage D g → State → Storage D g → State → OpenGroup → List (List ℕ) → Type 0
  NoGroup (Memory start) first now state open_group bodies = bodies ≡ []
  NoGroup (Disk start) first (Disk now) state open_group bodies =
      (start.stopped ≡ false → Holding size first now state open_group.replies.items open_group.batch bodies) × (start.stopped ≡ true → bodies ≡ [])
  NoGroup (Disk start) first (Memory now) state open_group bodies = ⊥

  -- these bodies are in the open group
  record InPart (start : Storage D g) (first : State) (now : Storage D g) (state : State) (open_group : OpenGroup) (bodies : List (List ℕ)) : Type 0 where
    so_far : SoFar size start first now state open_group bodies []
    holds : Holds now open_group (length bodies)
    short : NoGroup start first now state open_group bodies

  record KeepsOn (start : Storage D g) (first : State) (new : Storage D g) (after : State) (open_group : OpenGroup)
      (bodies replies : List (List ℕ)) : Type 0 where
    nothing : replies ≡ []
    in_part : InPart start first new after open_group bodies

  record EndsPart (start : Storage D g) (first : State) (new : Storage D g) (after : State) (open_group : OpenGroup)
      (bodies replies : List (List ℕ)) : Type 0 where
    told : List ReplyValue
    are : replies ≡ map reply_record told
    few : length bodies ≤ size
    group : EndsGroup size start new first bodies told after
    serves : Serves size start new first bodies told after
    in_part : InPart new after new after open_group []

  abbrev Steps : Storage D g → State → Storage D g → State → OpenGroup → List (List ℕ) → List (List ℕ) → Type 0
  Steps start first new after open_group bodies replies =
      KeepsOn start first new after open_group bodies replies ⊎ EndsPart start first new after open_group bodies replies

  module _ (some : 1 ≤ size) where
    few_open : (start now : Storage D g) (first state : State) (open_group : OpenGroup) (bodies : List (List ℕ))
        → InPart start first now state open_group bodies → length bodies < size
    few_open (Memory start) (Memory now) first state open_group [] was = omega (arith, some)
    few_open (Memory start) (Memory now) first state open_group (body ∷ bodies) was = absurd was.so_far.1
    few_open (Disk start) (Disk now) first state open_group bodies was = omega (arith, was.so_far.ready.few, was.so_far.size_is, was.holds)
    few_open (Memory start) (Disk now) first state open_group bodies was = absurd was.so_far
    few_open (Disk start) (Memory now) first state open_group bodies was = absurd was.so_far

    part_begins : (store : Store D g) (state : State) (open_group : OpenGroup) → open_group.size ≡ size → OpenGroupIsReady (Disk store) open_group
        → open_group.replies.items ≡ [] → (store.stopped ≡ false → open_group.batch ≡ []) → InPart (Disk store) state (Disk store) state open_group []
    part_begins store state open_group is ready none empty = record {
      so_far = record {
        size_is = is;
        ready = ready;
        going = λ going. rw (none, empty going) (underway_start server_machine {g = g} only (grouping store state [] []) size going refl refl);
        late = λ stopped. late_none store state stopped;
      };
      holds = ap (λ (l : List ReplyValue). length l) none;
      short = (λ going. rw (none, empty going) (holds_none size store state some going), λ stopped. refl);
    }

    next_in_part : (start old new : Storage D g) (first before after : State) (open_group open_group' : OpenGroup) (bodies : List (List ℕ)) (body : List ℕ)
        (replies : List (List ℕ))
        → InPart start first old before open_group bodies → Taken old before open_group body replies new after open_group'
        → Steps start first new after open_group' (bodies ++ body ∷ []) replies
    next_in_part (Memory start) (Memory old) (Memory new) first before after open_group open_group' bodies body replies was is = inr (record {
      told = is.1.0 ∷ [];
      are = is.1.1;
      few = let few = few_open (Memory start) (Memory old) first before open_group bodies was in omega (arith, few, length-append bodies (body ∷ []));
      group = length_push bodies body ∙ ap (λ (l : List (List ℕ)). length l + 1) was.short;
      serves = (ap (λ (s : Storage D g). disk_of s) is.0 ∙ was.so_far.0, run_more first before after bodies [] body is.1.0 was.so_far.1 is.1.2);
      in_part = record { so_far = (refl, refl); holds = tt; short = refl };
    })
    next_in_part (Memory start) (Memory old) (Disk new) first before after open_group open_group' bodies body replies was is = absurd (cc is.0)
    next_in_part (Disk start) (Disk old) (Memory new) first before after open_group open_group' bodies body replies was is = absurd is.taken
    next_in_part (Memory start) (Disk old) new first before after open_group open_group' bodies body replies was is = absurd was.so_far
    next_in_part (Disk start) (Memory old) new first before after open_group open_group' bodies body replies was is = absurd was.so_far
    next_in_part (Disk start) (Disk old) (Disk new) first before after open_group open_group' bodies body replies was is = by taken
      where
        now : GroupState State ReplyValue D g
        now = grouping new after open_group'.replies.items open_group'.batch

        taken : IsAdmitted server_machine size body is.told (grouping old before open_group.replies.items open_group.batch) now
        taken = subst (λ (n : ℕ). IsAdmitted server_machine n body is.told (grouping old before open_group.replies.items open_group.batch) now)
            was.so_far.size_is is.taken

        size_is : open_group'.size ≡ size
        size_is = is.size ∙ was.so_far.size_is

        underway : start.stopped ≡ false → GroupInvariant server_machine size (grouping start first [] []) now (bodies ++ body ∷ []) is.told
        underway going = underway_taken server_machine {g = g} only (grouping start first [] []) size
            (grouping old before open_group.replies.items open_group.batch) now bodies [] body is.told (was.so_far.going going) taken

        late : start.stopped ≡ true → AnswersAfterFault start new first after (bodies ++ body ∷ []) is.told
        late stopped = late_more start old new first before after bodies [] size body is.told open_group.replies.items open_group'.replies.items
            open_group.batch open_group'.batch (was.so_far.late stopped) taken

        few : length (bodies ++ body ∷ []) ≤ size
        few = let few = few_open (Disk start) (Disk old) first before open_group bodies was in omega (arith, few, length-append bodies (body ∷ []))

        barrier : start.stopped ≡ true → length (bodies ++ body ∷ []) ≡ 1
        barrier stopped = length_push bodies body ∙ ap (λ (l : List (List ℕ)). length l + 1) (was.short.1 stopped)

        ends : open_group'.replies.items ≡ [] → (new.stopped ≡ false → open_group'.batch ≡ [])
            → (start.stopped ≡ false → IsWholeGroup size new first (bodies ++ body ∷ []) is.told after ⊎ EndsApart size first (bodies ++ body ∷ []))
            → Steps (Disk start) first (Disk new) after open_group' (bodies ++ body ∷ []) replies
        ends none empty group = inr (record {
          told = is.told;
          are = is.are;
          few = few;
          group = (group, barrier);
          serves = record {
            served = λ going.
                subst (λ (l : List ReplyValue). IsServed server_machine size start new first after (bodies ++ body ∷ []) l) (append-nil is.told)
                (underway_ended server_machine {g = g} only (grouping start first [] []) size now now (bodies ++ body ∷ []) is.told [] (underway going)
                (inl (record { none = none; nothing = refl; store = refl; state = refl })));
            late = late;
          };
          in_part = part_begins new after open_group' size_is is.ready none empty;
        })

        by : IsAdmitted server_machine size body is.told (grouping old before open_group.replies.items open_group.batch) now
            → Steps (Disk start) first (Disk new) after open_group' (bodies ++ body ∷ []) replies
        by (inl kept) = inl (record {
          nothing = is.are ∙ ap (λ (l : List ReplyValue). map reply_record l) kept.nothing;
          in_part = record {
            so_far = record {
              size_is = size_is;
              ready = is.ready;
              going = λ going. subst (λ (l : List ReplyValue). GroupInvariant server_machine size (grouping start first [] []) now (bodies ++ body ∷ []) l)
                  kept.nothing (underway going);
              late = λ stopped. absurd (true≢false (sym (was.so_far.late stopped).stopped ∙ kept.was));
            };
            short = (
              λ going. holds_more size first old before open_group.replies.items open_group.batch bodies (was.short.0 going) body kept.reply kept.event now
                  kept.held kept.short,
              λ stopped. absurd (true≢false (sym (was.so_far.late stopped).stopped ∙ kept.was)),
            );
            holds = ap (λ (l : List ReplyValue). length l) kept.held.pending ∙ length-append open_group.replies.items (kept.reply ∷ [])
                ∙ ap (λ (n : ℕ). n + 1) was.holds ∙ sym (length-append bodies (body ∷ []));
          };
        })
        by (inr (inl filled)) = ends (none (either new.stopped)) (λ going. (filled.settled.well going).2)
            (λ going. inl (group_filled size first old before open_group.replies.items open_group.batch bodies
            (was.short.0 going) body filled.reply filled.event filled.mid now is.told filled.held filled.full filled.settled))
          where
            none : (new.stopped ≡ false) ⊎ (new.stopped ≡ true) → open_group'.replies.items ≡ []
            none (inl going) = (filled.settled.well going).1
            none (inr stopped) = is.ready.late stopped
        by (inr (inr (inl faulted))) = ends (is.ready.late faulted.failed.stopped) (λ going. absurd (true≢false (sym faulted.failed.stopped ∙ going)))
            (λ going. inl (group_faulted size first old before open_group.replies.items open_group.batch bodies
            (was.short.0 going) body faulted.failed.reply faulted.failed.event now is.told faulted.failed.turn faulted.failed.plain faulted.failed.due
            faulted.failed.none faulted.failed.stopped))
        by (inr (inr (inr (inr apart)))) = ends (on (either apart.mid.store.stopped)).0 (λ going. (on (either apart.mid.store.stopped)).1 going)
            (λ going. inr (apart_of going))
          where
            apart_of : start.stopped ≡ false → EndsApart size first (bodies ++ body ∷ [])
            apart_of going =
                let held = was.short.0 going in
                record {
                  front = bodies;
                  last = body;
                  are = refl;
                  barrier = apart.barrier;
                  plain = held.plain;
                  group = held.held;
                  front_is = held.bodies_are;
                  state = before;
                  run = held.run;
                  short = held.short;
                }

            on : (apart.mid.store.stopped ≡ false) ⊎ (apart.mid.store.stopped ≡ true) → (open_group'.replies.items ≡ [])
                × (new.stopped ≡ false → open_group'.batch ≡ [])
            on (inl going) = let one = (apart.going going).1 in (one.idle_still.0, λ here. one.idle_still.1)
            on (inr stopped) = let over = (apart.late stopped).1 in (is.ready.late over.is, λ here. absurd (true≢false (sym over.is ∙ here)))
        by (inr (inr (inr (inl too_late)))) = ends (is.ready.late too_late.over.is) (λ going. absurd (true≢false (sym too_late.over.is ∙ going)))
            (λ going. absurd (true≢false (sym too_late.over.was ∙ (was.short.0 going).going)))

    record InPartsSoFar (start : Storage D g) (first : State) (now : ServerState D g) (bodies : List (List ℕ)) (handed : List (List (List ℕ))) : Type 0 where
      parts : List Part
      open_bodies : List (List ℕ)
      mid : Storage D g
      state : State
      bodies_are : bodies ≡ bodies_of_parts parts ++ open_bodies
      handed_are : handed ≡ handed_of parts ++ silent open_bodies
      served : Parts size start mid first parts state
      in_part : InPart mid state now.storage now.host now.desk.open_group open_bodies

    in_parts : (start : Storage D g) (first : State) (old new : ServerState D g) (front bodies : List (List ℕ)) (handed : List (List (List ℕ)))
        → InPart start first old.storage old.host old.desk.open_group front → sessions.BodiesTurned taken_written old bodies handed new
        → InPartsSoFar start first new (front ++ bodies) (silent front ++ handed)
    in_parts start first old new front [] [] was run = record {
      parts = [];
      open_bodies = front;
      mid = start;
      state = first;
      bodies_are = append-nil front;
      handed_are = append-nil (silent front);
      served = (refl, refl);
      in_part = subst (λ (c : ServerState D g). InPart start first c.storage c.host c.desk.open_group front) (sym run) was;
    }
    in_parts start first old new front (body ∷ bodies) (replies ∷ handed) was run =
        by (next_in_part start old.storage run.0.storage first old.host run.0.host old.desk.open_group run.0.desk.open_group front body replies was run.1)
        (λ keeps. in_parts start first run.0 new (front ++ body ∷ []) bodies handed keeps.in_part run.2)
        (λ ends. in_parts run.0.storage run.0.host run.0 new [] bodies handed ends.in_part run.2)
      where
        by : Steps start first run.0.storage run.0.host run.0.desk.open_group (front ++ body ∷ []) replies
            → (KeepsOn start first run.0.storage run.0.host run.0.desk.open_group (front ++ body ∷ []) replies
            → InPartsSoFar start first new ((front ++ body ∷ []) ++ bodies) (silent (front ++ body ∷ []) ++ handed))
            → (EndsPart start first run.0.storage run.0.host run.0.desk.open_group (front ++ body ∷ []) replies
            → InPartsSoFar run.0.storage run.0.host new bodies handed)
            → InPartsSoFar start first new (front ++ body ∷ bodies) (silent front ++ replies ∷ handed)
        by (inl keeps) on others =
            let rest = on keeps in
            let same : silent front ++ replies ∷ handed ≡ silent (front ++ body ∷ []) ++ handed =
            rw keeps.nothing (sym (ap (λ (l : List (List (List ℕ))). l ++ handed) (map-append (λ body. []) front (body ∷ []))
            ∙ append_assoc (silent front) ([] ∷ []) handed)) in
            record {
              parts = rest.parts;
              open_bodies = rest.open_bodies;
              mid = rest.mid;
              state = rest.state;
              bodies_are = sym (append_assoc front (body ∷ []) bodies) ∙ rest.bodies_are;
              handed_are = same ∙ rest.handed_are;
              served = rest.served;
              in_part = rest.in_part;
            }
        by (inr ends) on others =
            let rest = others ends in
            let part : Part = record { bodies = front ++ body ∷ []; told = ends.told } in
            record {
              parts = part ∷ rest.parts;
              open_bodies = rest.open_bodies;
              mid = rest.mid;
              state = rest.state;
              bodies_are = sym (append_assoc front (body ∷ []) bodies) ∙ ap (λ (l : List (List ℕ)). (front ++ body ∷ []) ++ l) rest.bodies_are
                  ∙ sym (append_assoc (front ++ body ∷ []) (bodies_of_parts rest.parts) rest.open_bodies);
              handed_are = ap (λ (l : List (List ℕ)). silent front ++ l ∷ handed) ends.are
                  ∙ sym (append_assoc (silent front) (map reply_record ends.told ∷ []) handed)
                  ∙ ap (λ (l : List (List (List ℕ))). l ++ handed) (sym (at_last_push front body (map reply_record ends.told)))
                  ∙ ap (λ (l : List (List (List ℕ))). at_last (front ++ body ∷ []) (map reply_record ends.told) ++ l) rest.handed_are
                  ∙ sym (append_assoc (at_last (front ++ body ∷ []) (map reply_record ends.told)) (handed_of rest.parts) (silent rest.open_bodies));
              served = (run.0.storage, run.0.host, record { few = ends.few; ends = ends.group; serves = ends.serves }, rest.served);
              in_part = rest.in_part;
            }
    in_parts start first old new front [] (replies ∷ handed) was run = absurd run
    in_parts start first old new front (body ∷ bodies) [] was run = absurd run

    rest_at : (start mid new : Storage D g) (first before after : State) (open_group open_group' : OpenGroup) (bodies : List (List ℕ)) (replies : List (List ℕ))
        (was : InPart start first mid before open_group bodies)
        → (is : InputEnds mid before open_group replies new after open_group')
        → EndsBefore size start new first bodies (ended_at start mid new first before after open_group open_group' bodies [] replies was.so_far is).told after
    unfolding ended_at
    rest_at (Memory start) mid new first before after open_group open_group' bodies replies was is = was.short
    rest_at (Disk start) (Disk mid) (Disk new) first before after open_group open_group' bodies replies was is = (
      λ going. rest_ends size first mid before open_group.replies.items open_group.batch bodies (was.short.0 going)
          (grouping new after open_group'.replies.items open_group'.batch) is.told is.ended,
      was.short.1,
    )
    rest_at (Disk start) (Disk mid) (Memory new) first before after open_group open_group' bodies replies was is = absurd is.ended
    rest_at (Disk start) (Memory mid) new first before after open_group open_group' bodies replies was is = absurd was.so_far

    -- and the end
    parts_end : (old mid new : ServerState D g) (bodies : List (List ℕ)) (handed : List (List (List ℕ))) (held : List (List ℕ))
        → InPartsSoFar old.storage old.host mid bodies handed → ended_written mid held new
        → InParts size old.storage new.storage old.host new.host bodies handed held
    parts_end old mid new bodies handed held was is =
        let last = ended_at was.mid mid.storage new.storage was.state mid.host new.host mid.desk.open_group new.desk.open_group was.open_bodies [] held
        was.in_part.so_far is in
        record {
          parts = was.parts;
          open_bodies = was.open_bodies;
          told = last.told;
          mid = was.mid;
          state = was.state;
          bodies_are = was.bodies_are;
          handed_are = was.handed_are;
          held_are = last.are;
          served = was.served;
          few = few_open was.mid mid.storage was.state mid.host mid.desk.open_group was.open_bodies was.in_part;
          rest = rest_at was.mid mid.storage new.storage was.state mid.host new.host mid.desk.open_group new.desk.open_group was.open_bodies held was.in_part
              is;
          ends = last.serves;
        }

    part_at_start : (storage : Storage D g) (state : State) (open_group : OpenGroup) → open_group.replies.items ≡ [] → open_group.batch ≡ []
        → SoFar size storage state storage state open_group [] [] → InPart storage state storage state open_group []
    part_at_start (Memory disk) state open_group none empty so_far = record { so_far = so_far; holds = tt; short = refl }
    part_at_start (Disk store) state open_group none empty so_far = record {
      so_far = so_far;
      holds = ap (λ (l : List ReplyValue). length l) none;
      short = (λ going. rw (none, empty) (holds_none size store state some going), λ stopped. refl);
    }

  -- the whole session
  pub serves_session : (f : Frames) (last : List ℕ) (input input' : Input) (out out' : Output) (old new : ServerState D g) (served : Served) → 1 ≤ size
      → old.desk.open_group.replies.items ≡ [] → old.desk.open_group.batch ≡ []
      → SoFar size old.storage old.host old.storage old.host old.desk.open_group [] []
      → sessions.Session f is_replacement taken_written ended_written last input input' out out' old new served
      → ServesSession f last input input' out out' size old.storage new.storage old.host new.host served
  serves_session f last input input' out out' old new served some none empty begin is =
      let runs = went old.storage old.host old is.mid [] is.bodies [] is.handed begin is.run in
      let ends = ended_at old.storage is.mid.storage new.storage old.host is.mid.host new.host is.mid.desk.open_group new.desk.open_group is.bodies runs.told
      is.held runs.so_far is.ended in
      record {
        io = session_as taken_written any_turn ended_written any_end f is_replacement last input input' out out' old new tt tt tt served is
            (any_run old is.mid is.bodies is.handed is.run) tt;
        told = runs.told ++ ends.told;
        replies_are = ap (λ (l : List (List ℕ)). l ++ is.held) runs.are ∙ ap (λ (l : List (List ℕ)). map reply_record runs.told ++ l) ends.are
            ∙ sym (map-append reply_record runs.told ends.told);
        serves = ends.serves;
        in_parts =
            parts_end some old is.mid new is.bodies is.handed is.held
            (in_parts some old.storage old.host old is.mid [] is.bodies is.handed (part_at_start some old.storage old.host old.desk.open_group none empty begin)
            is.run) is.ended;
      }
