-- What many clients were told over a store, from its opening on, by the calls that have ended.
use Rattle.std.proofs.Common.{◌≡◌, ◌⊎◌, inl, inr, ℕ, true, false, true≢false, List, [], ◌∷◌, ◌++◌, length, map, sym, ap, ◌∙◌, subst, arith, append_assoc}
use Rattle.std.proofs.Common.{length-append}
use Rattle.std.proofs.lemmas.List.{append-nil, map-append}
use Rattle.oa_disk.specs.declared.disk.Disk.{Ghosts}
use Rattle.oa_group_commit.proofs.Calling.{session_called}
use Rattle.oa_group_commit.proofs.Entries.{either, joined_two, run_append}
use Rattle.oa_group_commit.specs.promise.Groups.{concat_groups, Trace, IsServed, AnsweredCall, IsSessionOn, OpenSession}
use Rattle.oa_group_commit.specs.promise.Groups.{Exchange, body_of, reply_of}
use Rattle.oa_store.specs.declared.store.Store.{Store}
use Rattle.oa_server.specs.promise.SharedMachine.{shared_machine, ClientReply, Shared, failed_client_reply}
use Rattle.oa_server.specs.promise.SharedMachine.{ServesStretch}
use Rattle.oa_history.specs.promise.CrashHistories.{SessionStart}
use Rattle.oa_linearizable.proofs.Parts.{faulted_for}

abbrev pub Groups : Type 0
Groups = List (List (Exchange ClientReply))

-- no call of the device has failed: all requests were answered as they were done
pub record ToldWell {D : Type 0} {g : Ghosts D} (start : D) (before : Shared) (edge : Store D g) (at : Shared) (bodies : List (List ℕ))
    (replies : List ClientReply) : Type 0 where
  pub called : List (AnsweredCall ClientReply)
  pub was : OpenSession shared_machine start edge before at called
  pub bodies_are : bodies ≡ map body_of (concat_groups was.session.groups)
  pub replies_are : replies ≡ map reply_of (concat_groups was.session.groups)

-- one has: then those of one group were answered by that, and the others were refused
pub record ToldLate {D : Type 0} (g : Ghosts D) (start : D) (before : Shared) (disk : D) (at : Shared) (bodies : List (List ℕ))
    (replies : List ClientReply) : Type 0 where
  pub called : List (AnsweredCall ClientReply)
  pub was : IsSessionOn shared_machine g start disk before called at
  pub answered : Groups
  pub faulted : Groups
  pub others : List (List ℕ)
  pub groups_are : was.groups ≡ answered ++ faulted
  pub count_is : was.count ≡ length answered
  pub bodies_are : bodies ≡ map body_of (concat_groups (answered ++ faulted)) ++ others
  pub replies_are : replies ≡ map reply_of (concat_groups answered) ++ (map faulted_for (concat_groups faulted) ++ map failed_client_reply others)

pub record Told {D : Type 0} {g : Ghosts D} (start : D) (before : Shared) (edge : Store D g) (at : Shared) (bodies : List (List ℕ))
    (replies : List ClientReply) : Type 0 where
  pub well : edge.stopped ≡ false → ToldWell start before edge at bodies replies
  pub late : edge.stopped ≡ true → ToldLate g start before edge.disk at bodies replies

pub told_nothing : {D : Type 0} {g : Ghosts D} (start : D) (before : Shared) (edge : Store D g) → SessionStart shared_machine start edge before
    → Told start before edge before [] []
told_nothing start before edge sits = record {
  well = λ going. let none = sits.sits.session.served.0 in record {
    called = [];
    was = sits.sits;
    bodies_are = ap (λ (l : Groups). map body_of (concat_groups l)) (sym none);
    replies_are = ap (λ (l : Groups). map reply_of (concat_groups l)) (sym none);
  };
  late = λ stopped. absurd (true≢false (sym stopped ∙ sits.goes_on));
}

module _ {D : Type 0} {g : Ghosts D} (start : D) (before : Shared) (old new : Store D g) (at after : Shared) (bodies own : List (List ℕ))
    (replies told : List ClientReply) (size : ℕ) where
  abbrev call : AnsweredCall ClientReply
  call = record { size = size; bodies = own; replies = told }

  module _ (was : ToldWell start before old at bodies replies) (is : IsServed shared_machine size old new at after own told) where
    abbrev before_it : Groups
    before_it = was.was.session.groups

    abbrev now : IsSessionOn shared_machine g start new.disk before (was.called ++ call ∷ []) after
    now = session_called shared_machine {g = g} start old new before at after was.called call was.was is

    bodies_more : bodies ++ own ≡ map body_of (concat_groups (before_it ++ (is.groups ++ is.faulted))) ++ is.others
    bodies_more =
        ap (λ (l : List (List ℕ)). l ++ own) was.bodies_are
        ∙ ap (λ (l : List (List ℕ)). map body_of (concat_groups before_it) ++ l) is.served.bodies_are
        ∙ sym (append_assoc (map body_of (concat_groups before_it)) (map body_of (concat_groups (is.groups ++ is.faulted))) is.others)
        ∙ ap (λ (l : List (List ℕ)). l ++ is.others) (sym (map-append body_of (concat_groups before_it) (concat_groups (is.groups ++ is.faulted)))
        ∙ ap (λ (l : List (Exchange ClientReply)). map body_of l) (sym (joined_two before_it (is.groups ++ is.faulted))))

    replies_more : replies ++ told ≡ map reply_of (concat_groups (before_it ++ is.groups))
        ++ (map faulted_for (concat_groups is.faulted) ++ map failed_client_reply is.others)
    replies_more =
        ap (λ (l : List ClientReply). l ++ told) was.replies_are
        ∙ ap (λ (l : List ClientReply). map reply_of (concat_groups before_it) ++ l) is.served.replies_are
        ∙ sym (append_assoc (map reply_of (concat_groups before_it)) (map reply_of (concat_groups is.groups))
        (map faulted_for (concat_groups is.faulted) ++ map failed_client_reply is.others))
        ∙ ap (λ (l : List ClientReply). l ++ (map faulted_for (concat_groups is.faulted) ++ map failed_client_reply is.others))
        (sym (map-append reply_of (concat_groups before_it) (concat_groups is.groups))
        ∙ ap (λ (l : List (Exchange ClientReply)). map reply_of l) (sym (joined_two before_it is.groups)))

    told_well : new.stopped ≡ false → ToldWell start before new after (bodies ++ own) (replies ++ told)
    told_well going =
        let none = is.well going in
        record {
          called = was.called ++ call ∷ [];
          was = record {
            session = now;
            going = going;
            whole = let no : length is.faulted ≡ 0 = ap length none.0 in
                omega (arith, was.was.whole, length-append before_it (is.groups ++ is.faulted), length-append is.groups is.faulted, no);
            run = subst (λ (l : List (Exchange ClientReply)). Trace shared_machine before l after) (sym (joined_two before_it (is.groups ++ is.faulted)))
                (run_append shared_machine before (concat_groups before_it) at (concat_groups (is.groups ++ is.faulted)) after was.was.run is.served.run);
            all = is.all going was.was.all;
          };
          bodies_are = bodies_more ∙ ap (λ (l : List (List ℕ)). map body_of (concat_groups (before_it ++ (is.groups ++ is.faulted))) ++ l) none.1
              ∙ append-nil (map body_of (concat_groups (before_it ++ (is.groups ++ is.faulted))));
          replies_are = replies_more
              ∙ ap (λ (l : List (List ℕ)). map reply_of (concat_groups (before_it ++ is.groups))
              ++ (map faulted_for (concat_groups is.faulted) ++ map failed_client_reply l)) none.1
              ∙ ap (λ (l : Groups). map reply_of (concat_groups (before_it ++ is.groups)) ++ (map faulted_for (concat_groups l) ++ [])) none.0
              ∙ append-nil (map reply_of (concat_groups (before_it ++ is.groups)))
              ∙ ap (λ (l : Groups). map reply_of (concat_groups (before_it ++ l)))
              (sym (append-nil is.groups) ∙ ap (λ (l : Groups). is.groups ++ l) (sym none.0));
        }

    told_fault : ToldLate g start before new.disk after (bodies ++ own) (replies ++ told)
    told_fault = record {
      called = was.called ++ call ∷ [];
      was = now;
      answered = before_it ++ is.groups;
      faulted = is.faulted;
      others = is.others;
      groups_are = sym (append_assoc before_it is.groups is.faulted);
      count_is = omega (arith, was.was.whole, length-append before_it is.groups);
      bodies_are = bodies_more ∙ ap (λ (l : Groups). map body_of (concat_groups l) ++ is.others) (sym (append_assoc before_it is.groups is.faulted));
      replies_are = replies_more;
    }

  told_later : ToldLate g start before old.disk at bodies replies → told ≡ map failed_client_reply own → after ≡ at → new.disk ≡ old.disk
      → ToldLate g start before new.disk after (bodies ++ own) (replies ++ told)
  told_later was none state disk =
      subst (λ (d : D). ToldLate g start before d after (bodies ++ own) (replies ++ told)) (sym disk)
      (subst (λ (s : Shared). ToldLate g start before old.disk s (bodies ++ own) (replies ++ told)) (sym state) (record {
        called = was.called;
        was = was.was;
        answered = was.answered;
        faulted = was.faulted;
        others = was.others ++ own;
        groups_are = was.groups_are;
        count_is = was.count_is;
        bodies_are = ap (λ (l : List (List ℕ)). l ++ own) was.bodies_are
            ∙ append_assoc (map body_of (concat_groups (was.answered ++ was.faulted))) was.others own;
        replies_are = ap (λ (l : List ClientReply). l ++ told) was.replies_are
            ∙ append_assoc (map reply_of (concat_groups was.answered)) (map faulted_for (concat_groups was.faulted) ++ map failed_client_reply was.others) told
            ∙ ap (λ (l : List ClientReply). map reply_of (concat_groups was.answered) ++ l)
            (append_assoc (map faulted_for (concat_groups was.faulted)) (map failed_client_reply was.others) told
            ∙ ap (λ (l : List ClientReply). map faulted_for (concat_groups was.faulted) ++ (map failed_client_reply was.others ++ l)) none
            ∙ ap (λ (l : List ClientReply). map faulted_for (concat_groups was.faulted) ++ l) (sym (map-append failed_client_reply was.others own)));
      }))

  -- one call more
  pub told_more : Told start before old at bodies replies → ServesStretch size old new at (record { bodies = own; told = told }) after
      → Told start before new after (bodies ++ own) (replies ++ told)
  told_more was is = by (either old.stopped)
    where
      by : (old.stopped ≡ false) ⊎ (old.stopped ≡ true) → Told start before new after (bodies ++ own) (replies ++ told)
      by (inl going) = record {
        well = λ goes. told_well (was.well going) (is.served going) goes;
        late = λ stopped. told_fault (was.well going) (is.served going);
      }
      by (inr stopped) =
          let late = is.late stopped in
          record {
            well = λ goes. absurd (true≢false (sym late.stopped ∙ goes));
            late = λ again. told_later (was.late stopped) late.told_is late.state late.disk;
          }
