-- The turns of many clients over a store, up to any of them: the calls that have ended, and what is held since.
use Rattle.std.proofs.Common.{◌≡◌, ⊎_elim, ℕ, IsTrue, List, [], ◌∷◌, ◌++◌, refl, sym, ap, ◌∙◌, subst, append_assoc}
use Rattle.std.proofs.lemmas.List.{append-nil}
use Rattle.oa_disk.specs.declared.disk.Disk.{Ghosts}
use Rattle.oa_store.specs.declared.store.Store.{Store}
use Rattle.oa_record.specs.promise.Replies.{ReplyValue}
use Rattle.oa_server.specs.promise.SharedSessions.{all_frames, shared_group_state_of, told_to, asked_written}
use Rattle.oa_server.specs.promise.SharedMachine.{shared_machine, ClientReply, Shared, shared, tagged_body, all_told}
use Rattle.oa_server.specs.declared.desk.SharedGroup.{SharedGroup}
use Rattle.oa_server.specs.declared.engine.ServerState.{ServerState}
use Rattle.oa_server.specs.declared.storage.Storage.{Storage}
use Rattle.oa_server.specs.declared.storage.Storage.TheVariants.{Disk}
use Rattle.oa_mux.specs.promise.Marks.{Flush, Of, Tagged}
use Rattle.oa_mux.specs.promise.Readers.{Brought}
use Rattle.oa_mux.specs.promise.Talking.{AllTurned}
use Rattle.oa_decision.specs.promise.States.{State}
use Rattle.oa_history.specs.promise.Framed.{requests_in}
use Rattle.oa_history.specs.promise.CrashHistories.{SessionStart}
use Rattle.oa_history.proofs.Turns.{CallIn, SoFar, SoFarIn, begins, requests_more, requests_same, told_none, turned, turned_now}
use Rattle.oa_linearizable.proofs.Parts.{frames_two, requests_two}
use Rattle.oa_linearizable.proofs.Told.{Told, told_more, told_nothing}

told_first : (told : List (ℕ × List ℕ)) (tolds : List (List (ℕ × List ℕ))) → all_told (told ∷ tolds) ≡ told ++ all_told tolds
unfolding all_told
told_first told tolds = refl

told_none_first : all_told [] ≡ []
unfolding all_told
told_none_first = refl

no_frames : all_frames [] ≡ []
unfolding all_frames
no_frames = refl

module _ {D : Type 0} {g : Ghosts D} (only : (d : D) (c : List ℕ) → IsTrue (g.is_honest d) → g.image_since d (g.moment d) c → g.image d c) (size : ℕ)
    (start : D) (before : Shared) where
  -- these requests were asked, and these frames handed out: at the edge the last call has ended
  pub record Front (bodies : List (List ℕ)) (frames : List (ℕ × List ℕ)) (storage : Storage D g) (state : State) (desk : SharedGroup) : Type 0 where
    pub edge : Store D g
    pub at : Shared
    pub own : List (Tagged Brought)
    pub asked : List (List ℕ)
    pub replies : List ClientReply
    pub told : Told start before edge at asked replies
    pub so_far : SoFarIn {g = g} only size edge at storage state desk (requests_in own)
    pub bodies_are : bodies ≡ asked ++ requests_in own
    pub frames_are : frames ≡ all_frames replies

  -- nothing is told
  front_held : (bodies more : List (List ℕ)) (frames told : List (ℕ × List ℕ)) (old new : Storage D g) (state state' : State) (desk desk' : SharedGroup)
      (ask : Tagged Brought)
      → (was : Front bodies frames old state desk) → requests_in (was.own ++ ask ∷ []) ≡ requests_in was.own ++ more → told ≡ []
      → SoFarIn {g = g} only size was.edge was.at new state' desk' (requests_in (was.own ++ ask ∷ []))
      → Front (bodies ++ more) (frames ++ told) new state' desk'
  front_held bodies more frames told old new state state' desk desk' ask was grows none now = record {
    edge = was.edge;
    at = was.at;
    own = was.own ++ ask ∷ [];
    asked = was.asked;
    replies = was.replies;
    told = was.told;
    so_far = now;
    bodies_are = ap (λ (l : List (List ℕ)). l ++ more) was.bodies_are ∙ append_assoc was.asked (requests_in was.own) more
        ∙ ap (λ (l : List (List ℕ)). was.asked ++ l) (sym grows);
    frames_are = ap (λ (l : List (ℕ × List ℕ)). frames ++ l) none ∙ append-nil frames ∙ was.frames_are;
  }

  -- a call ends
  front_called : (bodies more : List (List ℕ)) (frames told : List (ℕ × List ℕ)) (old new : Storage D g) (state state' : State) (desk desk' : SharedGroup)
      (ask : Tagged Brought)
      → (was : Front bodies frames old state desk) → requests_in (was.own ++ ask ∷ []) ≡ requests_in was.own ++ more
      → CallIn {g = g} only size was.edge was.at (was.own ++ ask ∷ []) told new state' desk' → Front (bodies ++ more) (frames ++ told) new state' desk'
  front_called bodies more frames told old new state state' desk desk' ask was grows call = record {
    edge = call.mid;
    at = shared state' desk'.owners;
    own = [];
    asked = was.asked ++ requests_in (was.own ++ ask ∷ []);
    replies = was.replies ++ call.told;
    told = told_more {g = g} start before was.edge call.mid was.at (shared state' desk'.owners) was.asked
        (requests_in (was.own ++ ask ∷ [])) was.replies call.told size was.told call.serves;
    so_far = call.next;
    bodies_are =
        ap (λ (l : List (List ℕ)). l ++ more) was.bodies_are ∙ append_assoc was.asked (requests_in was.own) more
        ∙ ap (λ (l : List (List ℕ)). was.asked ++ l) (sym grows)
        ∙ sym (append-nil (was.asked ++ requests_in (was.own ++ ask ∷ [])));
    frames_are = ap (λ (l : List (ℕ × List ℕ)). l ++ told) was.frames_are ∙ ap (λ (l : List (ℕ × List ℕ)). all_frames was.replies ++ l) call.are
        ∙ sym (frames_two was.replies call.told);
  }

  -- one turn more
  pub front_turned : (bodies : List (List ℕ)) (frames told : List (ℕ × List ℕ)) (old new : ServerState D g) (ask : Tagged Brought)
      → Front bodies frames old.storage old.host old.desk
      → asked_written old ask told new → Front (bodies ++ requests_in (ask ∷ [])) (frames ++ told) new.storage new.host new.desk
  front_turned bodies frames told old new (Of client brought) was is =
      ⊎_elim
      (λ held. front_held bodies (tagged_body client brought ∷ []) frames told old.storage new.storage old.host new.host old.desk new.desk
      (Of client brought) was (requests_more was.own client brought) held.0 held.1)
      (λ call. front_called bodies (tagged_body client brought ∷ []) frames told old.storage new.storage old.host new.host old.desk new.desk
      (Of client brought) was (requests_more was.own client brought) call)
      (turned {g = g} only size was.edge was.at old.storage new.storage old.host new.host old.desk new.desk was.own client brought told was.so_far is)
  front_turned bodies frames told old new Flush was is =
      front_called bodies [] frames told old.storage new.storage old.host new.host old.desk new.desk Flush was
      (requests_same was.own ∙ sym (append-nil (requests_in was.own)))
      (turned_now {g = g} only size was.edge was.at old.storage new.storage old.host new.host old.desk new.desk was.own told was.so_far is)

  -- many turns more
  pub front_all : (bodies : List (List ℕ)) (frames : List (ℕ × List ℕ)) (old new : ServerState D g) (asks : List (Tagged Brought))
      (tolds : List (List (ℕ × List ℕ))) → Front bodies frames old.storage old.host old.desk
      → AllTurned asked_written old asks tolds new → Front (bodies ++ requests_in asks) (frames ++ all_told tolds) new.storage new.host new.desk
  front_all bodies frames old new [] [] was run =
      subst (λ (e : ServerState D g). Front (bodies ++ []) (frames ++ all_told []) e.storage e.host e.desk) (sym run)
      (subst (λ (l : List (List ℕ)). Front l (frames ++ all_told []) old.storage old.host old.desk) (sym (append-nil bodies))
      (subst (λ (l : List (ℕ × List ℕ)). Front bodies l old.storage old.host old.desk)
      (sym (ap (λ (l : List (ℕ × List ℕ)). frames ++ l) told_none_first ∙ append-nil frames)) was))
  front_all bodies frames old new (ask ∷ asks) (told ∷ tolds) was run =
      subst (λ (l : List (List ℕ)). Front l (frames ++ all_told (told ∷ tolds)) new.storage new.host new.desk)
      (append_assoc bodies (requests_in (ask ∷ [])) (requests_in asks) ∙ ap (λ (l : List (List ℕ)). bodies ++ l) (sym (requests_two (ask ∷ []) asks)))
      (subst (λ (l : List (ℕ × List ℕ)). Front ((bodies ++ requests_in (ask ∷ [])) ++ requests_in asks) l new.storage new.host new.desk)
      (append_assoc frames told (all_told tolds) ∙ ap (λ (l : List (ℕ × List ℕ)). frames ++ l) (sym (told_first told tolds)))
      (front_all (bodies ++ requests_in (ask ∷ [])) (frames ++ told) run.0 new asks tolds (front_turned bodies frames told old run.0 ask was run.1) run.2))
  front_all bodies frames old new [] (told ∷ tolds) was run = absurd run
  front_all bodies frames old new (ask ∷ asks) [] was run = absurd run

  -- where no group is open
  pub front_none : (old : ServerState D g) (store : Store D g) → old.storage ≡ Disk store → old.desk.open_group.size ≡ size
      → SessionStart shared_machine start store before → shared old.host old.desk.owners ≡ before
      → old.desk.open_group.replies.items ≡ [] → old.desk.open_group.batch ≡ [] → Front [] [] old.storage old.host old.desk
  front_none old store is size_is sits state none empty = record {
    edge = store;
    at = before;
    own = [];
    asked = [];
    replies = [];
    told = told_nothing {g = g} start before store sits;
    so_far = subst (λ (s : Storage D g). SoFarIn {g = g} only size store before s old.host old.desk (requests_in [])) (sym is) (
      size_is,
      subst (λ (s : Shared). SoFar {g = g} only size store s (shared_group_state_of store old.host old.desk) (requests_in [])) state
          (begins {g = g} only size (shared_group_state_of store old.host old.desk) (λ going. (nothing, empty))),
    );
    bodies_are = refl;
    frames_are = sym no_frames;
  }
    where
      nothing : told_to old.desk.askers.items old.desk.open_group.replies.items ≡ []
      nothing = ap (λ (l : List ReplyValue). told_to old.desk.askers.items l) none ∙ told_none old.desk.askers.items
