-- The open group of a session over a store, and the end of their group.
use Rattle.std.proofs.Common.{rules, ◌≡◌, inl, inr, ℕ, ◌≤◌, true, false, true≢false, List, [], ◌∷◌, ◌++◌, length, map, refl, sym, ap}
use Rattle.std.proofs.Common.{◌∙◌, subst}
use Rattle.std.proofs.lemmas.List.{append-nil, length-map, map_push, nil_from_length, same_from_push}
use Rattle.oa_disk.specs.declared.disk.Disk.{Ghosts}
use Rattle.oa_group_commit.specs.promise.Groups.{GroupState, IsBuffered, IsEnded, IsGroupCommitted, HasNoBarrier}
use Rattle.oa_group_commit.specs.promise.Groups.{events_in, fills, is_full, Trace, Exchange, body_of, exchange}
use Rattle.oa_group_commit.specs.promise.Groups.{reply_of}
use Rattle.oa_group_commit.proofs.Entries.{events_push, run_append}
use Rattle.oa_record.specs.promise.Replacement.{is_replacement}
use Rattle.oa_record.specs.promise.Replies.{ReplyValue}
use Rattle.oa_store.specs.declared.store.Store.{Store}
use Rattle.oa_server.specs.OpenGroups.{IsDueFor, grouping}
use Rattle.oa_server.specs.promise.ServerMachine.{server_machine}
use Rattle.oa_decision.specs.promise.States.{State}
use Rattle.oa_server.specs.promise.Storages.{IsWholeGroup, IsNoGroupYet}

-- these requests are in the open group, and are no group yet
pub record Holding {D : Type 0} {g : Ghosts D} (size : ℕ) (first : State) (now : Store D g) (state : State) (pending : List ReplyValue) (events : List ℕ)
    (bodies : List (List ℕ)) : Type 0 where
  pub held : List (Exchange ReplyValue)
  pub bodies_are : bodies ≡ map body_of held
  pub plain : HasNoBarrier is_replacement bodies
  pub run : Trace server_machine first held state
  pub pending_are : pending ≡ map reply_of held
  pub events_are : events ≡ events_in held
  pub short : is_full size held ≡ false
  pub going : now.stopped ≡ false

plain_more : (bodies : List (List ℕ)) (body : List ℕ) → HasNoBarrier is_replacement bodies → is_replacement body ≡ false
    → HasNoBarrier is_replacement (bodies ++ body ∷ [])
plain_more [] body none plain = (plain, tt)
plain_more (first ∷ bodies) body none plain = (none.0, plain_more bodies body none.1 plain)

fills_none : (size : ℕ) → 1 ≤ size → fills size 0 0 ≡ false
unfolding fills
fills_none size some = search (some, rules)

-- what the open group holds tells whether it is a group
full_is : (size : ℕ) (pending : List ReplyValue) (events : List ℕ) (held : List (Exchange ReplyValue)) → pending ≡ map reply_of held → events ≡ events_in held
    → fills size (length pending) (length events) ≡ is_full size held
full_is size pending events held replies bytes =
    ap (λ (n : ℕ). fills size n (length events)) (ap (λ (l : List ReplyValue). length l) replies ∙ length-map held reply_of)
    ∙ ap (λ (l : List ℕ). fills size (length held) (length l)) bytes

module _ {D : Type 0} {g : Ghosts D} (size : ℕ) where
  pub holds_none : (now : Store D g) (state : State) → 1 ≤ size → now.stopped ≡ false → Holding size state now state [] [] []
  holds_none now state some going = record {
    held = [];
    bodies_are = refl;
    plain = tt;
    run = refl;
    pending_are = refl;
    events_are = refl;
    short = fills_none size some;
    going = going;
  }

  module _ (first : State) (old : Store D g) (before : State) (pending : List ReplyValue) (events : List ℕ) (bodies : List (List ℕ))
      (was : Holding size first old before pending events bodies) where
    module _ (body : List ℕ) (reply : ReplyValue) (event : List ℕ) where
      abbrev pub asked : Exchange ReplyValue
      asked = exchange body reply event

      abbrev more : List (Exchange ReplyValue)
      more = was.held ++ asked ∷ []

      more_bodies : bodies ++ body ∷ [] ≡ map body_of more
      more_bodies = ap (λ (l : List (List ℕ)). l ++ body ∷ []) was.bodies_are ∙ sym (map_push body_of was.held asked)

      more_run : (after : State) → server_machine.Turn asked before after → Trace server_machine first more after
      more_run after turn = run_append server_machine first was.held before (asked ∷ []) after was.run (after, turn, refl)

      more_pending : (now : GroupState State ReplyValue D g) → IsBuffered server_machine asked (grouping old before pending events) now
          → now.pending ≡ map reply_of more
      more_pending now one = one.pending ∙ ap (λ (l : List ReplyValue). l ++ reply ∷ []) was.pending_are ∙ sym (map_push reply_of was.held asked)

      more_events : (now : GroupState State ReplyValue D g) → IsBuffered server_machine asked (grouping old before pending events) now
          → now.events ≡ events_in more
      more_events now one = one.events ∙ ap (λ (l : List ℕ). l ++ event) was.events_are ∙ sym (events_push was.held asked)

      -- the open group has one request more
      pub holds_more : (now : GroupState State ReplyValue D g) → IsBuffered server_machine asked (grouping old before pending events) now
          → fills size (length now.pending) (length now.events) ≡ false
          → Holding size first now.store now.state now.pending now.events (bodies ++ body ∷ [])
      holds_more now one small = record {
        held = more;
        bodies_are = more_bodies;
        plain = plain_more bodies body was.plain one.plain;
        run = more_run now.state one.turn;
        pending_are = more_pending now one;
        events_are = more_events now one;
        short = sym (full_is size now.pending now.events more (more_pending now one) (more_events now one)) ∙ small;
        going = one.going;
      }

      -- no request before it was the last of a group
      not_before : (front : List (Exchange ReplyValue)) (last : Exchange ReplyValue) → more ≡ front ++ last ∷ [] → is_full size front ≡ false
      not_before front last is = subst (λ (l : List (Exchange ReplyValue)). is_full size l ≡ false) (same_from_push was.held front asked last is).0 was.short

      -- it fills the group
      pub group_filled : (mid new : GroupState State ReplyValue D g) (told : List ReplyValue)
          → IsBuffered server_machine asked (grouping old before pending events) mid → fills size (length mid.pending) (length mid.events) ≡ true
          → IsGroupCommitted server_machine told mid new → IsWholeGroup size new.store first (bodies ++ body ∷ []) told new.state
      group_filled mid new told one full settled = record {
        group = more;
        bodies_are = more_bodies;
        plain = plain_more bodies body was.plain one.plain;
        run = subst (λ (s : State). Trace server_machine first more s) (sym settled.state) (more_run mid.state one.turn);
        short = not_before;
        ends = inl (sym (full_is size mid.pending mid.events more (more_pending mid one) (more_events mid one)) ∙ full);
        whole =
            λ going. (
              sym (full_is size mid.pending mid.events more (more_pending mid one) (more_events mid one)) ∙ full,
              (settled.well going).0
                  ∙ more_pending mid one,
            );
      }

      -- the checkpoint before it fails
      pub group_faulted : (new : GroupState State ReplyValue D g) (told : List ReplyValue) → server_machine.Turn asked before new.state
          → is_replacement body ≡ false → IsDueFor old before events body → event ≡ [] → new.store.stopped ≡ true
          → IsWholeGroup size new.store first (bodies ++ body ∷ []) told new.state
      group_faulted new told turn plain due none stopped = record {
        group = more;
        bodies_are = more_bodies;
        plain = plain_more bodies body was.plain plain;
        run = more_run new.state turn;
        short = not_before;
        ends = inr (inl (record {
          none = events_push was.held asked ∙ rw (none, append-nil (events_in was.held)) (sym was.events_are ∙ nil_from_length events due.first);
          front = was.held;
          last = asked;
          are = refl;
          state = before;
          run = was.run;
          makes = due.makes;
        }));
        whole = λ going. absurd (true≢false (sym stopped ∙ going));
      }

    -- the input ends
    pub rest_ends : (new : GroupState State ReplyValue D g) (told : List ReplyValue) → IsEnded server_machine told (grouping old before pending events) new
        → IsNoGroupYet size new.store first bodies told new.state
    rest_ends new told (inl idle) = record {
      held = was.held;
      bodies_are = was.bodies_are;
      plain = was.plain;
      run = subst (λ (s : State). Trace server_machine first was.held s) (sym idle.state) was.run;
      short = was.short;
      told_are = λ going. idle.nothing ∙ sym idle.none ∙ was.pending_are;
    }
    rest_ends new told (inr (inl last)) = record {
      held = was.held;
      bodies_are = was.bodies_are;
      plain = was.plain;
      run = subst (λ (s : State). Trace server_machine first was.held s) (sym last.settled.state) was.run;
      short = was.short;
      told_are = λ going. (last.settled.well going).0 ∙ was.pending_are;
    }
    rest_ends new told (inr (inr left)) = absurd (true≢false (sym left.over.was ∙ was.going))
