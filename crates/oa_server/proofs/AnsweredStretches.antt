-- What many clients were answered, one call behind the other.
use Rattle.std.proofs.Common.{◌≡◌, inl, inr, ℕ, IsTrue, true, false, true≢false, List, [], ◌∷◌, ◌++◌, map, refl, sym, ap, ◌∙◌, subst, append_assoc}
use Rattle.std.proofs.lemmas.List.{append-nil, map-append}
use Rattle.oa_disk.specs.declared.disk.Disk.{Ghosts}
use Rattle.oa_group_commit.specs.Invariants.{GroupInvariant}
use Rattle.oa_group_commit.specs.promise.Groups.{GroupState, IsAdmitted, IsEnded}
use Rattle.oa_group_commit.proofs.Ends.{underway_ended}
use Rattle.oa_group_commit.proofs.Takes.{underway_start, underway_taken}
use Rattle.oa_store.specs.declared.store.Store.{Store}
use Rattle.oa_record.specs.promise.Replies.{ReplyValue}
use Rattle.oa_server.specs.promise.SharedSessions.{all_frames, frames_of, shared_group_state_of, told_to, AsksIn}
use Rattle.oa_server.specs.promise.SharedSessions.{asked_written}
use Rattle.oa_server.specs.SharedSessions.{StretchesAreServed}
use Rattle.oa_server.proofs.Lifted.{told_none}
use Rattle.oa_server.specs.promise.SharedMachine.{shared_machine, ClientReply, Shared, failed_client_reply, shared}
use Rattle.oa_server.specs.promise.SharedMachine.{tagged_body, IsLateFor, ServesStretch, Stretch, all_told}
use Rattle.oa_server.specs.Stretches.{ServesStretches, bodies_of, cut_at_now, told_in}
use Rattle.oa_server.specs.declared.desk.SharedGroup.{SharedGroup}
use Rattle.oa_server.specs.declared.engine.ServerState.{ServerState}
use Rattle.oa_server.specs.declared.storage.Storage.{Storage}
use Rattle.oa_server.specs.declared.storage.Storage.TheVariants.{Disk, Memory}
use Rattle.oa_mux.specs.promise.Marks.{Tagged, Of, Flush}
use Rattle.oa_mux.specs.promise.Readers.{Brought}
use Rattle.oa_mux.specs.promise.Talking.{AllTurned}
use Rattle.oa_decision.specs.promise.States.{State}

frames_both : (one two : List ClientReply) → all_frames (one ++ two) ≡ all_frames one ++ all_frames two
unfolding all_frames
frames_both [] two = refl
frames_both (told ∷ one) two = ap (λ l. frames_of told ++ l) (frames_both one two) ∙ sym (append_assoc (frames_of told) (all_frames one) (all_frames two))

told_first : (stretch : Stretch) (stretches : List Stretch) → told_in (stretch ∷ stretches) ≡ stretch.told ++ told_in stretches
unfolding told_in
told_first stretch stretches = refl

told_nothing : told_in [] ≡ []
unfolding told_in
told_nothing = refl

no_frames : all_frames [] ≡ []
unfolding all_frames
no_frames = refl

handed_first : (told : List (ℕ × List ℕ)) (tolds : List (List (ℕ × List ℕ))) → all_told (told ∷ tolds) ≡ told ++ all_told tolds
unfolding all_told
handed_first told tolds = refl

handed_none : all_told [] ≡ []
unfolding all_told
handed_none = refl

cut_none : (front : List (List ℕ)) → cut_at_now front [] ≡ []
unfolding cut_at_now
cut_none front = refl

cut_of : (front : List (List ℕ)) (client : ℕ) (brought : Brought) (asks : List (Tagged Brought)) → cut_at_now front (Of client brought ∷ asks) ≡ cut_at_now
    (front ++ tagged_body client brought ∷ []) asks
unfolding cut_at_now
cut_of front client brought asks = refl

cut_now : (front : List (List ℕ)) (asks : List (Tagged Brought)) → cut_at_now front (Flush ∷ asks) ≡ front ∷ cut_at_now [] asks
unfolding cut_at_now
cut_now front asks = refl

module _ {D : Type 0} {g : Ghosts D} (only : (d : D) (c : List ℕ) → IsTrue (g.is_honest d) → g.image_since d (g.moment d) c → g.image d c) (size : ℕ) where
  abbrev at_start : Store D g → Shared → GroupState Shared ClientReply D g
  at_start store state = record { store = store; state = state; pending = []; events = [] }

  -- these bodies were taken since the last *now*, and this was told of them
  record SoFar (start : Store D g) (first : Shared) (now : GroupState Shared ClientReply D g) (front : List (List ℕ)) (out : List ClientReply) : Type 0 where
    going : start.stopped ≡ false → GroupInvariant shared_machine size (at_start start first) now front out
    late : start.stopped ≡ true → IsLateFor start now.store first now.state front out

  begins : (now : GroupState Shared ClientReply D g) → now.pending ≡ [] → now.events ≡ [] → SoFar now.store now.state now [] []
  begins now none empty = record {
    going = λ going. subst (λ (n : GroupState Shared ClientReply D g). GroupInvariant shared_machine size (at_start now.store now.state) n [] [])
        (same none empty) (underway_start shared_machine {g = g} only (at_start now.store now.state) size going refl refl);
    late = λ stopped. record { told_is = refl; state = refl; disk = refl; stopped = stopped };
  }
    where
      same : now.pending ≡ [] → now.events ≡ [] → at_start now.store now.state ≡ now
      same p e = ap (λ (l : List ClientReply). at l []) (sym p) ∙ ap (λ (l : List ℕ). at now.pending l) (sym e)
        where
          at : List ClientReply → List ℕ → GroupState Shared ClientReply D g
          at pending events = record { store = now.store; state = now.state; pending = pending; events = events }

  taken_on : (start : Store D g) (first : Shared) (old new : GroupState Shared ClientReply D g) (front : List (List ℕ)) (out : List ClientReply) (body : List ℕ)
      (told : List ClientReply) → SoFar start first old front out → IsAdmitted shared_machine size body told old new
      → SoFar start first new (front ++ body ∷ []) (out ++ told)
  taken_on start first old new front out body told was is = record {
    going = λ going. underway_taken shared_machine {g = g} only (at_start start first) size old new front out body told (was.going going) is;
    late = λ stopped. by (was.late stopped) is;
  }
    where
      by : IsLateFor start old.store first old.state front out → IsAdmitted shared_machine size body told old new
          → IsLateFor start new.store first new.state (front ++ body ∷ []) (out ++ told)
      by late (inl held) = absurd (true≢false (sym late.stopped ∙ held.was))
      by late (inr (inl filled)) = absurd (true≢false (sym late.stopped ∙ filled.was))
      by late (inr (inr (inl faulted))) = absurd (true≢false (sym late.stopped ∙ faulted.was))
      by late (inr (inr (inr (inr apart)))) = absurd (true≢false (sym late.stopped ∙ apart.was))
      by late (inr (inr (inr (inl too_late)))) = record {
        told_is = ap (λ (l : List ClientReply). l ++ told) late.told_is ∙ ap (λ (l : List ClientReply). map failed_client_reply front ++ l) too_late.told_is
            ∙ sym (map-append failed_client_reply front (body ∷ []));
        state = too_late.over.state ∙ late.state;
        disk = too_late.over.disk ∙ late.disk;
        stopped = too_late.over.is;
      }

  ended_on : (start : Store D g) (first : Shared) (old new : GroupState Shared ClientReply D g) (front : List (List ℕ)) (out told : List ClientReply)
      → SoFar start first old front out → IsEnded shared_machine told old new
      → ServesStretch size start new.store first (record { bodies = front; told = out ++ told }) new.state
  ended_on start first old new front out told was is = record {
    served = λ going. underway_ended shared_machine {g = g} only (at_start start first) size old new front out told (was.going going) is;
    late = λ stopped. by (was.late stopped) is;
  }
    where
      by : IsLateFor start old.store first old.state front out → IsEnded shared_machine told old new
          → IsLateFor start new.store first new.state front (out ++ told)
      by late (inl idle) = record {
        told_is = ap (λ (l : List ClientReply). out ++ l) idle.nothing ∙ append-nil out ∙ late.told_is;
        state = idle.state ∙ late.state;
        disk = ap (λ (s : Store D g). s.disk) idle.store ∙ late.disk;
        stopped = ap (λ (s : Store D g). s.stopped) idle.store ∙ late.stopped;
      }
      by late (inr (inl last)) = absurd (true≢false (sym late.stopped ∙ last.was))
      by late (inr (inr left)) = record {
        told_is = ap (λ (l : List ClientReply). out ++ l) left.nothing ∙ append-nil out ∙ late.told_is;
        state = left.over.state ∙ late.state;
        disk = left.over.disk ∙ late.disk;
        stopped = left.over.is;
      }

  -- ---- what the engine was asked

  -- since the last *now*
  abbrev SoFarIn : Store D g → Shared → Storage D g → State → SharedGroup → List (List ℕ) → List ClientReply → Type 0
  SoFarIn start first (Memory disk) state desk front out = ⊥
  SoFarIn start first (Disk store) state desk front out = (desk.open_group.size ≡ size) × SoFar start first (shared_group_state_of store state desk) front out

  record Answered (start : Store D g) (first : Shared) (front : List (List ℕ)) (out : List ClientReply) (asks : List (Tagged Brought))
      (frames : List (ℕ × List ℕ)) (new : ServerState D g) : Type 0 where
    stretches : List Stretch
    are : cut_at_now front asks ≡ map bodies_of stretches
    told : all_frames out ++ frames ≡ all_frames (told_in stretches)
    last : Store D g
    last_is : new.storage ≡ Disk last
    serves : ServesStretches size start last first stretches (shared new.host new.desk.owners)

  taken_in : (start : Store D g) (first : Shared) (old new : Storage D g) (before after : State) (desk desk' : SharedGroup) (front : List (List ℕ))
      (out : List ClientReply) (client : ℕ) (brought : Brought) (frames : List (ℕ × List ℕ))
      → SoFarIn start first old before desk front out → AsksIn old before desk (Of client brought) frames new after desk'
      → (told : List ClientReply) × (frames ≡ all_frames told) × SoFarIn start first new after desk' (front ++ tagged_body client brought ∷ []) (out ++ told)
  taken_in start first (Memory old) new before after desk desk' front out client brought frames was is = absurd was
  taken_in start first (Disk old) (Memory new) before after desk desk' front out client brought frames was is = absurd is
  taken_in start first (Disk old) (Disk new) before after desk desk' front out client brought frames was is = (
    is.told,
    is.are,
    (
      is.size ∙ was.0,
      taken_on start first (shared_group_state_of old before desk) (shared_group_state_of new after desk') front out (tagged_body client brought) is.told was.1
          (subst (λ (n : ℕ). IsAdmitted shared_machine n (tagged_body client brought) is.told (shared_group_state_of old before desk)
          (shared_group_state_of new after desk')) was.0 is.taken),
    ),
  )

  record EndsIn (start : Store D g) (first : Shared) (new : Storage D g) (after : State) (desk : SharedGroup) (front : List (List ℕ)) (out : List ClientReply)
      (frames : List (ℕ × List ℕ)) : Type 0 where
    told : List ClientReply
    are : frames ≡ all_frames told
    mid : Store D g
    mid_is : new ≡ Disk mid
    serves : ServesStretch size start mid first (record { bodies = front; told = out ++ told }) (shared after desk.owners)
    so_far : SoFarIn mid (shared after desk.owners) new after desk [] []

  ended_in : (start : Store D g) (first : Shared) (old new : Storage D g) (before after : State) (desk desk' : SharedGroup) (front : List (List ℕ))
      (out : List ClientReply) (frames : List (ℕ × List ℕ))
      → SoFarIn start first old before desk front out → AsksIn old before desk Flush frames new after desk'
      → EndsIn start first new after desk' front out frames
  ended_in start first (Memory old) new before after desk desk' front out frames was is = absurd was
  ended_in start first (Disk old) (Memory new) before after desk desk' front out frames was is = absurd is
  ended_in start first (Disk old) (Disk new) before after desk desk' front out frames was is = record {
    told = is.told;
    are = is.are;
    mid = new;
    mid_is = refl;
    serves = ended_on start first (shared_group_state_of old before desk) (shared_group_state_of new after desk') front out is.told was.1 is.taken.0;
    so_far = (is.size ∙ was.0, begins (shared_group_state_of new after desk') is.taken.1 is.taken.2);
  }

  -- the last of them is *now*
  answered : (start : Store D g) (first : Shared) (old new : ServerState D g) (front : List (List ℕ)) (out : List ClientReply) (asks : List (Tagged Brought))
      (tolds : List (List (ℕ × List ℕ)))
      → SoFarIn start first old.storage old.host old.desk front out → AllTurned asked_written old (asks ++ Flush ∷ []) tolds new
      → Answered start first front out (asks ++ Flush ∷ []) (all_told tolds) new
  answered start first old new front out [] (told ∷ []) was run =
      let one = ended_in start first old.storage run.0.storage old.host run.0.host old.desk run.0.desk front out told was run.1 in
      record {
        stretches = record { bodies = front; told = out ++ one.told } ∷ [];
        are = cut_now front [] ∙ ap (λ (l : List (List (List ℕ))). front ∷ l) (cut_none []);
        told = ap (λ (l : List (ℕ × List ℕ)). all_frames out ++ l)
            (handed_first told [] ∙ ap (λ (l : List (ℕ × List ℕ)). told ++ l) handed_none ∙ append-nil told ∙ one.are) ∙ sym (frames_both out one.told)
            ∙ ap all_frames (sym (append-nil (out ++ one.told)) ∙ ap (λ (l : List ClientReply). (out ++ one.told) ++ l) (sym told_nothing)
            ∙ sym (told_first (record { bodies = front; told = out ++ one.told }) []));
        last = one.mid;
        last_is = ap (λ (e : ServerState D g). e.storage) run.2 ∙ one.mid_is;
        serves = (one.mid, shared run.0.host run.0.desk.owners, one.serves, (refl, ap (λ (e : ServerState D g). shared e.host e.desk.owners) run.2));
      }
  answered start first old new front out [] [] was run = absurd run
  answered start first old new front out [] (told ∷ (more ∷ tolds)) was run = absurd run.2
  answered start first old new front out (Of client brought ∷ asks) (told ∷ tolds) was run =
      let one = taken_in start first old.storage run.0.storage old.host run.0.host old.desk run.0.desk front out client brought told was run.1 in
      let rest = answered start first run.0 new (front ++ tagged_body client brought ∷ []) (out ++ one.0) asks tolds one.2 run.2 in
      record {
        stretches = rest.stretches;
        are = cut_of front client brought (asks ++ Flush ∷ []) ∙ rest.are;
        told = ap (λ (l : List (ℕ × List ℕ)). all_frames out ++ l) (handed_first told tolds ∙ ap (λ (l : List (ℕ × List ℕ)). l ++ all_told tolds) one.1)
            ∙ sym (append_assoc (all_frames out) (all_frames one.0) (all_told tolds)) ∙ ap (λ (l : List (ℕ × List ℕ)). l ++ all_told tolds)
            (sym (frames_both out one.0)) ∙ rest.told;
        last = rest.last;
        last_is = rest.last_is;
        serves = rest.serves;
      }
  answered start first old new front out (Flush ∷ asks) (told ∷ tolds) was run =
      let one = ended_in start first old.storage run.0.storage old.host run.0.host old.desk run.0.desk front out told was run.1 in
      let rest = answered one.mid (shared run.0.host run.0.desk.owners) run.0 new [] [] asks tolds one.so_far run.2 in
      let first_stretch : Stretch = record { bodies = front; told = out ++ one.told } in
      record {
        stretches = first_stretch ∷ rest.stretches;
        are = cut_now front (asks ++ Flush ∷ []) ∙ ap (λ (l : List (List (List ℕ))). front ∷ l) rest.are;
        told = ap (λ (l : List (ℕ × List ℕ)). all_frames out ++ l) (handed_first told tolds ∙ ap (λ (l : List (ℕ × List ℕ)). l ++ all_told tolds) one.are)
            ∙ sym (append_assoc (all_frames out) (all_frames one.told) (all_told tolds)) ∙ ap (λ (l : List (ℕ × List ℕ)). l ++ all_told tolds)
            (sym (frames_both out one.told))
            ∙ ap (λ (l : List (ℕ × List ℕ)). all_frames (out ++ one.told) ++ l)
            (ap (λ (l : List (ℕ × List ℕ)). l ++ all_told tolds) (sym no_frames) ∙ rest.told)
            ∙ sym (frames_both (out ++ one.told) (told_in rest.stretches)) ∙ ap all_frames (sym (told_first first_stretch rest.stretches));
        last = rest.last;
        last_is = rest.last_is;
        serves = (one.mid, shared run.0.host run.0.desk.owners, one.serves, rest.serves);
      }
  answered start first old new front out (Of client brought ∷ asks) [] was run = absurd run
  answered start first old new front out (Flush ∷ asks) [] was run = absurd run

pub stretches_served : {D : Type 0} {g : Ghosts D} → ((d : D) (c : List ℕ) → IsTrue (g.is_honest d) → g.image_since d (g.moment d) c → g.image d c)
    → StretchesAreServed g
stretches_served {D} {g} only old new start asks tolds is none empty run =
    let first : Shared = shared old.host old.desk.owners in
    let nothing : told_to old.desk.askers.items old.desk.open_group.replies.items ≡ [] = ap (λ (l : List ReplyValue). told_to old.desk.askers.items l) none
    ∙ told_none old.desk.askers.items in
    let begun = subst (λ (s : Storage D g). SoFarIn {g = g} only old.desk.open_group.size start first s old.host old.desk [] []) (sym is)
    (refl, begins {g = g} only old.desk.open_group.size (shared_group_state_of start old.host old.desk) nothing empty) in
    let all = answered {g = g} only old.desk.open_group.size start first old new [] [] asks tolds begun run in (
      all.last,
      all.last_is,
      record {
        stretches = all.stretches;
        are = all.are;
        told = ap (λ (l : List (ℕ × List ℕ)). l ++ all_told tolds) (sym no_frames)
            ∙ all.told;
        serves = all.serves;
      },
    )
