-- How often requests call the device that are taken one by one.
use Rattle.std.proofs.Common.{◌≡◌, ◌⊎◌, inl, inr, ℕ, ◌+◌, ◌*◌, ◌≤◌, true, false, IsTrue, List, [], ◌∷◌, ◌++◌, length, ap, ◌∙◌, subst, arith, length-append}
use Rattle.std.proofs.Math.Nat.{add-mul}
use Rattle.oa_disk.specs.declared.disk.Disk.{Ghosts}
use Rattle.oa_journal.specs.promise.Bank.{body_bytes}
use Rattle.oa_journal.specs.declared.shape.BankFormat.{BankFormat}
use Rattle.oa_store.specs.promise.Stores.{most_checkpoint_calls}
use Rattle.oa_store.specs.declared.store.Store.{Store}
use Rattle.oa_group_commit.specs.promise.Groups.{CallsForRequests, GroupState, IsAdmitted, IsAfterFault, IsApart}
use Rattle.oa_group_commit.specs.promise.Groups.{IsEnded, IsFlushed, StateMachine}
use Rattle.oa_group_commit.proofs.Entries.{either}

added : (before mid now one two most : ℕ) → mid ≤ before + one → now ≤ mid + two → one + two ≤ most → now ≤ before + most
added before mid now one two most first then small = omega (arith, first, then, small)

one_more : (before mid now count counted each : ℕ) → counted ≡ count + 1 → mid ≤ before + (count * each + 2 * 0) → now ≤ mid + each
    → now ≤ before + (counted * each + 2 * 0)
one_more before mid now count counted each is first then =
    let all : counted * each ≡ count * each + 1 * each = ap (λ (n : ℕ). n * each) is ∙ add-mul count 1 each in omega (arith, all, first, then)

at_last : (before mid now all : ℕ) → mid ≤ before + (all + 2 * 0) → now ≤ mid + 8 → now ≤ before + (all + 2 * 4)
at_last before mid now all first then = omega (arith, first, then)

kept : (n : ℕ) → n ≤ n
kept n = omega arith

-- a checkpoint alone, and one behind a commit or before it
barrier : (n : ℕ) → 2 * n + 0 ≤ 2 * (n + 4)
barrier n = omega arith

before_commit : (n : ℕ) → 2 * n + 8 ≤ 2 * (n + 4)
before_commit n = omega arith

behind_commit : (n : ℕ) → 0 + (8 + 2 * n) ≤ 2 * (n + 4)
behind_commit n = omega arith

behind_none : (n : ℕ) → 0 + (0 + 2 * n) ≤ 2 * (n + 4)
behind_none n = omega arith

at_once : (n : ℕ) → n ≤ n + 0
at_once n = omega arith

module _ {S R : Type 0} (t : StateMachine S R) {D : Type 0} {g : Ghosts D} where
  late_calls : (old new : GroupState S R D g) (more : ℕ) → IsAfterFault old new → g.moment new.store.disk ≤ g.moment old.store.disk + more
  late_calls old new more over = let same = ap (λ (d : D). g.moment d) over.disk in omega (arith, same)

  module _ (size : ℕ) (body : List ℕ) (told : List R) (old new : GroupState S R D g) (apart : IsApart t body told old new)
      (honest : IsTrue (g.is_honest old.store.disk)) where
    -- behind the group before it
    behind : (one : ℕ) → g.moment apart.mid.store.disk ≤ g.moment old.store.disk + one → IsTrue (g.is_honest apart.mid.store.disk)
        → apart.mid.store.bank.shape ≡ old.store.bank.shape
        → g.moment new.store.disk ≤ g.moment old.store.disk + (one + 2 * most_checkpoint_calls (body_bytes old.store.bank.shape))
    behind one first still shape = by (either apart.mid.store.stopped)
      where
        by : (apart.mid.store.stopped ≡ false) ⊎ (apart.mid.store.stopped ≡ true)
            → g.moment new.store.disk ≤ g.moment old.store.disk + (one + 2 * most_checkpoint_calls (body_bytes old.store.bank.shape))
        by (inl going) =
            let most = 2 * most_checkpoint_calls (body_bytes old.store.bank.shape) in
            let then : g.moment new.store.disk ≤ g.moment apart.mid.store.disk + 2 * most_checkpoint_calls (body_bytes old.store.bank.shape) =
            subst (λ (s : BankFormat). g.moment new.store.disk ≤ g.moment apart.mid.store.disk + 2 * most_checkpoint_calls (body_bytes s)) shape
            ((apart.going going).1.once still) in
            added (g.moment old.store.disk) (g.moment apart.mid.store.disk) (g.moment new.store.disk) one most (one + most) first then (kept (one + most))
        by (inr stopped) =
            let most = 2 * most_checkpoint_calls (body_bytes old.store.bank.shape) in
            added (g.moment old.store.disk) (g.moment apart.mid.store.disk) (g.moment new.store.disk) one most (one + most) first
            (late_calls apart.mid new most (apart.late stopped).1) (kept (one + most))

    apart_calls : g.moment new.store.disk ≤ g.moment old.store.disk + 2 * (most_checkpoint_calls (body_bytes old.store.bank.shape) + 4)
    apart_calls = by apart.flushed
      where
        by : IsFlushed t apart.before old apart.mid
            → g.moment new.store.disk ≤ g.moment old.store.disk + 2 * (most_checkpoint_calls (body_bytes old.store.bank.shape) + 4)
        by (inl idle) =
            let most = most_checkpoint_calls (body_bytes old.store.bank.shape) in
            let same = ap (λ (s : Store D g). g.moment s.disk) idle.store in
            let all = behind 0 (omega (arith, same)) (ap (λ (s : Store D g). g.is_honest s.disk) idle.store ∙ honest)
            (ap (λ (s : Store D g). s.bank.shape) idle.store) in
            added (g.moment old.store.disk) (g.moment old.store.disk) (g.moment new.store.disk) 0 (0 + 2 * most) (2 * (most + 4))
            (at_once (g.moment old.store.disk)) all (behind_none most)
        by (inr last) =
            let most = most_checkpoint_calls (body_bytes old.store.bank.shape) in
            let all = behind 8 (last.settled.calls honest) (last.settled.goes.honest ∙ honest) last.settled.goes.shape in
            added (g.moment old.store.disk) (g.moment old.store.disk) (g.moment new.store.disk) 0 (8 + 2 * most) (2 * (most + 4))
            (at_once (g.moment old.store.disk)) all (behind_commit most)

  -- one request more
  taken_calls : (size : ℕ) (body : List ℕ) (told : List R) (old new : GroupState S R D g) → IsAdmitted t size body told old new
      → IsTrue (g.is_honest old.store.disk)
      → g.moment new.store.disk ≤ g.moment old.store.disk + 2 * (most_checkpoint_calls (body_bytes old.store.bank.shape) + 4)
  taken_calls size body told old new (inl held_back) honest =
      let most = most_checkpoint_calls (body_bytes old.store.bank.shape) in
      added (g.moment old.store.disk) (g.moment new.store.disk) (g.moment new.store.disk) (2 * most) 0 (2 * (most + 4)) (held_back.held.carries.once honest)
      (at_once (g.moment new.store.disk)) (barrier most)
  taken_calls size body told old new (inr (inl filled)) honest =
      let most = most_checkpoint_calls (body_bytes old.store.bank.shape) in
      added (g.moment old.store.disk) (g.moment filled.mid.store.disk) (g.moment new.store.disk) (2 * most) 8 (2 * (most + 4)) (filled.held.carries.once honest)
      (filled.settled.calls (filled.held.goes.honest ∙ honest)) (before_commit most)
  taken_calls size body told old new (inr (inr (inl faulted))) honest =
      let most = most_checkpoint_calls (body_bytes old.store.bank.shape) in
      added (g.moment old.store.disk) (g.moment new.store.disk) (g.moment new.store.disk) (2 * most) 0 (2 * (most + 4)) (faulted.failed.once honest)
      (at_once (g.moment new.store.disk)) (barrier most)
  taken_calls size body told old new (inr (inr (inr (inl late)))) honest =
      late_calls old new (2 * (most_checkpoint_calls (body_bytes old.store.bank.shape) + 4)) late.over
  taken_calls size body told old new (inr (inr (inr (inr apart)))) honest = apart_calls size body told old new apart honest

  -- the end of the input
  ended_calls : (told : List R) (old new : GroupState S R D g) → IsEnded t told old new → IsTrue (g.is_honest old.store.disk)
      → g.moment new.store.disk ≤ g.moment old.store.disk + 8
  ended_calls told old new (inl idle) honest = let same = ap (λ (s : Store D g). g.moment s.disk) idle.store in omega (arith, same)
  ended_calls told old new (inr (inl last)) honest = last.settled.calls honest
  ended_calls told old new (inr (inr left)) honest = late_calls old new 8 left.over

  module _ (start old new : GroupState S R D g) (shape : old.store.bank.shape ≡ start.store.bank.shape)
      (honest : g.is_honest old.store.disk ≡ g.is_honest start.store.disk) (bodies : List (List ℕ))
      (so_far : CallsForRequests (length bodies) 0 start.store old.store) where
    -- so all that were taken
    pub more_calls : (size : ℕ) (body : List ℕ) (told : List R) → IsAdmitted t size body told old new
        → CallsForRequests (length (bodies ++ body ∷ [])) 0 start.store new.store
    more_calls size body told taken is =
        let each = 2 * (most_checkpoint_calls (body_bytes start.store.bank.shape) + 4) in
        let one : g.moment new.store.disk ≤ g.moment old.store.disk + 2 * (most_checkpoint_calls (body_bytes start.store.bank.shape) + 4) =
        subst (λ (s : BankFormat). g.moment new.store.disk ≤ g.moment old.store.disk + 2 * (most_checkpoint_calls (body_bytes s) + 4)) shape
        (taken_calls size body told old new taken (honest ∙ is)) in
        one_more (g.moment start.store.disk) (g.moment old.store.disk) (g.moment new.store.disk) (length bodies) (length (bodies ++ body ∷ [])) each
        (length-append bodies (body ∷ [])) (so_far is) one

    -- and the end
    pub all_calls : (told : List R) → IsEnded t told old new → CallsForRequests (length bodies) 4 start.store new.store
    all_calls told ended is =
        at_last (g.moment start.store.disk) (g.moment old.store.disk) (g.moment new.store.disk)
        (length bodies * (2 * (most_checkpoint_calls (body_bytes start.store.bank.shape) + 4))) (so_far is) (ended_calls told old new ended (honest ∙ is))
