-- The groups of a call are one run of turns.
use Rattle.std.proofs.Common.{◌≡◌, ℕ, List, [], ◌∷◌, ◌++◌, map, refl, sym, ap, ◌∙◌, subst, append_assoc}
use Rattle.std.proofs.lemmas.List.{map-append}
use Rattle.oa_disk.specs.declared.disk.Disk.{Ghosts}
use Rattle.oa_group_commit.specs.promise.Groups.{concat_groups, Trace, Exchange, body_of, reply_of}
use Rattle.oa_group_commit.proofs.Entries.{joined_two}
use Rattle.oa_record.specs.promise.Replies.{ReplyValue}
use Rattle.oa_server.specs.Laws.{AnsweredAreRun}
use Rattle.oa_server.specs.promise.ServerMachine.{fault_reply, failed_reply, server_machine}
use Rattle.oa_decision.specs.promise.States.{State}
use Rattle.oa_turn.specs.promise.Turns.{Run}

entries_run : (old new : State) (entries : List (Exchange ReplyValue)) → Trace server_machine old entries new
    → Run old (map body_of entries) (map reply_of entries) new
entries_run old new [] run = sym run
entries_run old new (asked ∷ entries) run = (run.0, run.1.turn, entries_run run.0 new entries run.2)

front_run : (old new : State) (front back : List (Exchange ReplyValue)) → Trace server_machine old (front ++ back) new → (mid : State)
    × Trace server_machine old front mid × Trace server_machine mid back new
front_run old new [] back run = (old, refl, run)
front_run old new (asked ∷ front) back run = let rest = front_run run.0 new front back run.2 in (rest.0, (run.0, run.1, rest.1), rest.2)

pub answered_run : {D : Type 0} {g : Ghosts D} → AnsweredAreRun g
answered_run {D} {g} size old new before after bodies replies is =
    let two : concat_groups (is.groups ++ is.faulted) ≡ concat_groups is.groups ++ concat_groups is.faulted = joined_two is.groups is.faulted in
    let cut = front_run before after (concat_groups is.groups) (concat_groups is.faulted)
    (subst (λ (l : List (Exchange ReplyValue)). Trace server_machine before l after) two is.served.run) in (
      cut.0,
      map body_of (concat_groups is.faulted) ++ is.others,
      map (λ asked. fault_reply asked.body) (concat_groups is.faulted) ++ map failed_reply is.others,
      entries_run before cut.0 (concat_groups is.groups) cut.1,
      is.served.bodies_are ∙ ap (λ (l : List (Exchange ReplyValue)). map body_of l ++ is.others) two
          ∙ ap (λ (l : List (List ℕ)). l ++ is.others) (map-append body_of (concat_groups is.groups) (concat_groups is.faulted))
          ∙ append_assoc (map body_of (concat_groups is.groups)) (map body_of (concat_groups is.faulted)) is.others,
      is.served.replies_are,
      λ going.
          let well = is.well going in (
            rw (well.0, well.1) refl,
            rw (well.0, well.1) refl,
            subst (λ (groups : List (List (Exchange ReplyValue))). Trace server_machine cut.0 (concat_groups groups) after) well.0 cut.2,
          ),
    )
