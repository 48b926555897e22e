-- After a fault of the device.
use Rattle.std.proofs.Common.{◌≡◌, inl, inr, ℕ, IsTrue, List, [], ◌∷◌, ◌++◌}
use Rattle.std.proofs.Common.{length, map, sym, ◌∙◌, ap, subst, append_assoc}
use Rattle.std.proofs.lemmas.List.{map-append}
use Rattle.oa_disk.specs.declared.disk.Disk.{Ghosts}
use Rattle.oa_group_commit.specs.promise.Groups.{GroupState, IsAfterFault, IsWholeBefore, concat_groups, AllHoldState}
use Rattle.oa_group_commit.specs.promise.Groups.{IsRun, Sequentially, Trace, Exchange, StateMachine, body_of, reply_of}
use Rattle.oa_group_commit.specs.Invariants.{FailedGroups}

module _ {S R : Type 0} (t : StateMachine S R) where
  -- more bodies behind the fault
  pub still_whole : (size : ℕ) (body : List ℕ) (state : S) (group : List (Exchange R)) (others : List (List ℕ)) → IsWholeBefore t size state group others
      → IsWholeBefore t size state group (others ++ body ∷ [])
  still_whole size body state group others (inl whole) = inl whole
  still_whole size body state group (next ∷ others) (inr begins) = inr begins
  still_whole size body state group [] (inr begins) = absurd begins

  module _ {D : Type 0} {g : Ghosts D} (only : (d : D) (c : List ℕ) → IsTrue (g.is_honest d) → g.image_since d (g.moment d) c → g.image d c)
      (start : GroupState S R D g) where
    abbrev first : S
    first = start.state

    abbrev Begins : Type 0
    Begins = AllHoldState t start.store start.state

    abbrev Moments : GroupState S R D g → List (List (Exchange R)) → ℕ → Type 0
    Moments now groups count = (moments : List ℕ) × IsRun t g.moment g.image_since start.store.disk now.store.disk first groups count moments

    -- after the fault
    over_moments : (old new : GroupState S R D g) (groups : List (List (Exchange R))) (count : ℕ) → new.store.disk ≡ old.store.disk
        → (Begins → Moments old groups count) → Begins → Moments new groups count
    over_moments old new groups count same moments begins =
        let before = moments begins in
        (before.0, subst (λ (d : D). IsRun t g.moment g.image_since start.store.disk d first groups count before.0) (sym same) before.1)

    turn_as : (old new : GroupState S R D g) (groups : List (List (Exchange R))) → new.store.disk ≡ old.store.disk → new.state ≡ old.state
        → Sequentially t start.store.disk first groups old.store.disk old.state → Sequentially t start.store.disk first groups new.store.disk new.state
    turn_as old new groups disk state was =
        subst (λ (d : D). Sequentially t start.store.disk first groups d new.state) (sym disk)
        (subst (λ (s : S). Sequentially t start.store.disk first groups old.store.disk s) (sym state) was)

    pub faulted_as : (size : ℕ) (W W' : S → List (Exchange R) → List (List ℕ) → Type 0)
        → ((state : S) (group : List (Exchange R)) (others : List (List ℕ)) → W state group others → W' state group others)
        → (old new : GroupState S R D g) (bodies : List (List ℕ)) (replies more : List R) → more ≡ replies → new.store.disk ≡ old.store.disk
        → new.state ≡ old.state
        → FailedGroups t size W start old bodies replies → FailedGroups t size W' start new bodies more
    faulted_as size W W' weaker old new bodies replies more told disk state was = record {
      groups = was.groups;
      group = was.group;
      others = was.others;
      committed = was.committed;
      cuts = was.cuts;
      whole = weaker was.committed was.group was.others was.whole;
      bodies_are = was.bodies_are;
      replies_are = told ∙ was.replies_are;
      stands = was.stands;
      runs = subst (λ (s : S). Trace t was.committed was.group s) (sym state) was.runs;
      called = was.called;
      in_turn = turn_as old new (was.groups ++ was.group ∷ []) disk state was.in_turn;
      moments = over_moments old new (was.groups ++ was.group ∷ []) (length was.groups) disk was.moments;
    }

    pub faulted_more : (size : ℕ) (old new : GroupState S R D g) (bodies : List (List ℕ)) (replies : List R) (body : List ℕ) → IsAfterFault old new
        → (W : S → List (Exchange R) → List (List ℕ) → Type 0)
        → ((state : S) (group : List (Exchange R)) (others : List (List ℕ)) → W state group others → IsWholeBefore t size state group (others ++ body ∷ []))
        → FailedGroups t size W start old bodies replies
        → FailedGroups t size (IsWholeBefore t size) start new (bodies ++ body ∷ []) (replies ++ t.failed body ∷ [])
    faulted_more size old new bodies replies body over W then was = record {
      groups = was.groups;
      group = was.group;
      others = was.others ++ body ∷ [];
      committed = was.committed;
      cuts = was.cuts;
      whole = then was.committed was.group was.others was.whole;
      bodies_are = ap (λ (l : List (List ℕ)). l ++ body ∷ []) was.bodies_are ∙ append_assoc (map body_of (concat_groups was.groups ++ was.group)) was.others
          (body ∷ []);
      replies_are = ap (λ (l : List R). l ++ t.failed body ∷ []) was.replies_are ∙ append_assoc (map reply_of (concat_groups was.groups))
          (map (λ asked. t.faulted asked.body) was.group ++ map t.failed was.others) (t.failed body ∷ [])
          ∙ ap (λ (l : List R). map reply_of (concat_groups was.groups) ++ l)
          (append_assoc (map (λ asked. t.faulted asked.body) was.group) (map t.failed was.others) (t.failed body ∷ [])
          ∙ ap (λ (l : List R). map (λ asked. t.faulted asked.body) was.group ++ l) (sym (map-append t.failed was.others (body ∷ []))));
      stands = was.stands;
      runs = subst (λ (s : S). Trace t was.committed was.group s) (sym over.state) was.runs;
      called = was.called;
      in_turn = turn_as old new (was.groups ++ was.group ∷ []) over.disk over.state was.in_turn;
      moments = over_moments old new (was.groups ++ was.group ∷ []) (length was.groups) over.disk was.moments;
    }
