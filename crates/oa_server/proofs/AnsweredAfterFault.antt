-- What is answered after a fault of the device.
use Rattle.std.proofs.Common.{◌≡◌, inl, inr, ℕ, true, true≢false, List, [], ◌∷◌, ◌++◌, map, refl, sym, ap, ◌∙◌}
use Rattle.std.proofs.lemmas.List.{append-nil, map-append}
use Rattle.oa_disk.specs.declared.disk.Disk.{Ghosts}
use Rattle.oa_group_commit.specs.promise.Groups.{IsAdmitted, IsEnded}
use Rattle.oa_record.specs.promise.Replies.{ReplyValue}
use Rattle.oa_store.specs.declared.store.Store.{Store}
use Rattle.oa_server.specs.promise.ServerMachine.{AnswersAfterFault, failed_reply, server_machine}
use Rattle.oa_server.specs.OpenGroups.{grouping}
use Rattle.oa_decision.specs.promise.States.{State}

module _ {D : Type 0} {g : Ghosts D} where
  -- at the start
  pub late_none : (store : Store D g) (state : State) → store.stopped ≡ true → AnswersAfterFault store store state state [] []
  late_none store state stopped = record { told = refl; state = refl; disk = refl; stopped = stopped }

  -- one request more
  pub late_more : (start old new : Store D g) (first before after : State) (bodies : List (List ℕ)) (replies : List ReplyValue) (size : ℕ) (body : List ℕ)
      (told pending pending' : List ReplyValue) (events events' : List ℕ)
      → AnswersAfterFault start old first before bodies replies → IsAdmitted server_machine size body told (grouping old before pending events)
      (grouping new after pending' events') → AnswersAfterFault start new first after (bodies ++ body ∷ []) (replies ++ told)
  late_more start old new first before after bodies replies size body told pending pending' events events' was (inl held) =
      absurd (true≢false (sym was.stopped ∙ held.was))
  late_more start old new first before after bodies replies size body told pending pending' events events' was (inr (inl filled)) =
      absurd (true≢false (sym was.stopped ∙ filled.was))
  late_more start old new first before after bodies replies size body told pending pending' events events' was (inr (inr (inl faulted))) =
      absurd (true≢false (sym was.stopped ∙ faulted.was))
  late_more start old new first before after bodies replies size body told pending pending' events events' was (inr (inr (inr (inr apart)))) =
      absurd (true≢false (sym was.stopped ∙ apart.was))
  late_more start old new first before after bodies replies size body told pending pending' events events' was (inr (inr (inr (inl late)))) = record {
    told = ap (λ (l : List ReplyValue). l ++ told) was.told ∙ ap (λ (l : List ReplyValue). map failed_reply bodies ++ l) late.told_is
        ∙ sym (map-append failed_reply bodies (body ∷ []));
    state = late.over.state ∙ was.state;
    disk = late.over.disk ∙ was.disk;
    stopped = late.over.is;
  }

  -- and the end
  pub late_ended : (start old new : Store D g) (first before after : State) (bodies : List (List ℕ)) (replies : List ReplyValue)
      (told pending pending' : List ReplyValue) (events events' : List ℕ)
      → AnswersAfterFault start old first before bodies replies → IsEnded server_machine told (grouping old before pending events)
      (grouping new after pending' events') → AnswersAfterFault start new first after bodies (replies ++ told)
  late_ended start old new first before after bodies replies told pending pending' events events' was (inl idle) = record {
    told = ap (λ (l : List ReplyValue). replies ++ l) idle.nothing ∙ append-nil replies ∙ was.told;
    state = idle.state ∙ was.state;
    disk = ap (λ (s : Store D g). s.disk) idle.store ∙ was.disk;
    stopped = ap (λ (s : Store D g). s.stopped) idle.store ∙ was.stopped;
  }
  late_ended start old new first before after bodies replies told pending pending' events events' was (inr (inl last)) =
      absurd (true≢false (sym was.stopped ∙ last.was))
  late_ended start old new first before after bodies replies told pending pending' events events' was (inr (inr left)) = record {
    told = ap (λ (l : List ReplyValue). replies ++ l) left.nothing ∙ append-nil replies ∙ was.told;
    state = left.over.state ∙ was.state;
    disk = left.over.disk ∙ was.disk;
    stopped = left.over.is;
  }
