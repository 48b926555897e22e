-- What an opening finds is the state that was kept.
use Rattle.std.proofs.Common.{◌≡◌, ◌≤◌, ℕ, IsTrue, List, [], ◌∷◌, Option, Some, None, inl, inr, refl, sym, subst}
use Rattle.oa_disk.specs.declared.disk.Disk.{Ghosts}
use Rattle.oa_disk.specs.Moments.{started, weakened}
use Rattle.oa_group_commit.specs.promise.Groups.{concat_groups, HoldsState, Trace, Exchange}
use Rattle.oa_group_commit.proofs.Calling.{session_opened}
use Rattle.oa_printer.specs.promise.Canonical.{canonical}
use Rattle.oa_idl.specs.promise.IsTree.{IsTree}
use Rattle.oa_idl.specs.promise.Trees.{TreeValue}
use Rattle.oa_record.specs.promise.Replies.{ReplyValue}
use Rattle.oa_store.proofs.OneStore.{one_store}
use Rattle.oa_journal.specs.promise.Bank.{body_bytes}
use Rattle.oa_journal.specs.declared.shape.BankFormat.{BankFormat}
use Rattle.oa_journal.specs.declared.shape.BankFormat.TheVariants.{Two}
use Rattle.oa_store.specs.promise.Stores.{IsStoreIn}
use Rattle.oa_compat.specs.promise.Keeps.{first_lost}
use Rattle.oa_compat.specs.declared.lost.Incompatibility.{Incompatibility}
use Rattle.oa_turn.specs.promise.Replacing.{Replacement, after_replacement}
use Rattle.oa_turn.proofs.SameLibrary.{ordinary_library}
use Rattle.oa_server.specs.Laws.{FoundIsKept, OpenedBegins, OpenedJoins}
use Rattle.oa_server.specs.promise.ServerMachine.{OpensToTable, server_machine, text_of_library}
use Rattle.oa_turn.specs.promise.Events.{held_of}
use Rattle.oa_server.specs.promise.SharedMachine.{shared_machine, shared}
use Rattle.oa_decision.specs.promise.States.{State, state_of}
use Rattle.oa_typelib.specs.promise.Checked.{IsChecked}
use Rattle.oa_turn.specs.promise.Turns.{Turn}

-- the library of a turn's body, and so of a run, is one that was checked
replacement_checked : (old new : State) (body : List ℕ) (reply : ReplyValue) → Replacement old body reply new → IsChecked old.library → IsChecked new.library
replacement_checked old new body reply (inl s) is = by (first_lost s.library old.library) s.leaves
  where
    by : (lost : Option Incompatibility) → new ≡ after_replacement old s.library lost → IsChecked new.library
    by None leaves = subst (λ (x : State). IsChecked x.library) (sym leaves) (s.asked.text, s.asked.stands.1)
    by (Some lost) leaves = subst (λ (x : State). IsChecked x.library) (sym leaves) is
replacement_checked old new body reply (inr (inl s)) is = subst (λ (x : State). IsChecked x.library) (sym s.leaves) is
replacement_checked old new body reply (inr (inr s)) is = subst (λ (x : State). IsChecked x.library) (sym s.leaves) is

turn_checked : (old new : State) (body : List ℕ) (reply : ReplyValue) → Turn old body reply new → IsChecked old.library → IsChecked new.library
turn_checked old new body reply (inl s) is = subst IsChecked (sym (ordinary_library old new body reply s.turn)) is
turn_checked old new body reply (inr s) is = replacement_checked old new body reply s.turn is

run_checked : (old new : State) (entries : List (Exchange ReplyValue)) → Trace server_machine old entries new → IsChecked old.library → IsChecked new.library
run_checked old new [] run is = subst (λ (x : State). IsChecked x.library) run is
run_checked old new (asked ∷ entries) run is = run_checked run.0 new entries run.2 (turn_checked old run.0 asked.body asked.reply run.1.turn is)

pub one_size : (m n : ℕ) → Two m ≡ Two n → m ≡ n
one_size m n e = cc

-- libraries of one canonical text are one
module _ (one_tree : (text : List ℕ) (s t : TreeValue) → IsTree text s → IsTree text t → s ≡ t)
    (read : (t : TreeValue) → IsChecked t → IsTree (canonical t) t) where
  pub same_library : (a b : TreeValue) → IsChecked a → IsChecked b → canonical a ≡ canonical b → a ≡ b
  same_library a b one two text = one_tree (canonical b) a b (subst (λ (l : List ℕ). IsTree l a) text (read a one)) (read b two)

  pub found_again : FoundIsKept
  found_again bank library first count groups image table checked begins after holds unlocked =
      let same = one_store image (text_of_library after.state) (canonical library) (held_of after.state) table (Two after.state.bank, after.holds)
      (Two bank, holds) in
      let size : after.state.bank ≡ bank = one_size after.state.bank bank same.shape_same in
      let text : canonical after.state.library ≡ canonical library = same.library_same in
      let one = same_library after.state.library library (run_checked first after.state (concat_groups after.done) after.run begins) checked text in
      rw (size, one, same.table_same) refl

-- an opening of a disk of which a crash leaves its contents alone begins a session
pub session_begun : {D : Type 0} {g : Ghosts D} → OpenedBegins server_machine (λ state. state) g
session_begun {D} {g} disk library store table opened honest barrier =
    let found = opened.found honest in
    let first = state_of (body_bytes store.bank.shape) library table in
    let holds : HoldsState server_machine first (g.contents disk) =
    rw opened.unlocked (subst (λ (s : BankFormat). IsStoreIn s (g.contents disk) (canonical library) table) opened.shape found.contents) in
    session_opened server_machine {g = g} disk store first
    (weakened g.moment g.image_since disk store.disk (g.image disk) (HoldsState server_machine first) found.reads.moments (λ c is. rw (barrier c is) holds))
    (record { shape = opened.shape; has = opened.text; all = (honest, λ c is. rw opened.unlocked (found.each c is)) })

-- one of many clients, too
pub begun_for_many : {D : Type 0} {g : Ghosts D} → OpenedBegins shared_machine (λ state. shared state []) g
begun_for_many {D} {g} disk library store table opened honest barrier =
    let found = opened.found honest in
    let first = shared (state_of (body_bytes store.bank.shape) library table) [] in
    let holds : HoldsState shared_machine first (g.contents disk) =
    rw opened.unlocked (subst (λ (s : BankFormat). IsStoreIn s (g.contents disk) (canonical library) table) opened.shape found.contents) in
    session_opened shared_machine {g = g} disk store first
    (weakened g.moment g.image_since disk store.disk (g.image disk) (HoldsState shared_machine first) found.reads.moments (λ c is. rw (barrier c is) holds))
    (record { shape = opened.shape; has = opened.text; all = (honest, λ c is. rw opened.unlocked (found.each c is)) })

-- An opening takes what the disk holds for what a stop has left.
module _ {D : Type 0} {g : Ghosts D} (now : (d : D) (t : ℕ) (c : List ℕ) → IsTrue (g.is_honest d) → t ≤ g.moment d → g.image d c → g.image_since d t c)
    (only : (d : D) (c : List ℕ) → IsTrue (g.is_honest d) → g.image_since d (g.moment d) c → g.image d c)
    (held : (d : D) → IsTrue (g.is_honest d) → g.image d (g.contents d)) where
  pub opening_joins : OpenedJoins g
  opening_joins disk library store table opened honest = (
    session_opened server_machine {g = g} store.disk store first
        (started g.moment g.image_since store.disk (HoldsState server_machine first) (λ c left. holds c (only store.disk c honest left)))
        (record { shape = opened.shape; has = opened.text; all = (honest, λ c is. rw opened.unlocked (found.each c is)) }),
    λ m le. left_before m le (g.contents store.disk) (found.reads.images (g.contents store.disk) (held store.disk honest)),
    holds (g.contents store.disk) (held store.disk honest),
    λ m c le left k below. left_before k below c (found.reads.moments.each c (left (g.moment disk) le)),
  )
    where
      found : OpensToTable g disk library store table
      found = opened.found honest

      first : State
      first = state_of (body_bytes store.bank.shape) library table

      holds : (c : List ℕ) → g.image store.disk c → HoldsState server_machine first c
      holds c is = rw opened.unlocked
          (subst (λ (l : List ℕ). IsStoreIn (Two (body_bytes store.bank.shape)) c l table) opened.text
          (subst (λ (s : BankFormat). IsStoreIn s c store.library.items table) opened.shape (store.chosen, store.bank.gate, found.each c is)))

      left_before : (k : ℕ) → k ≤ g.moment disk → (c : List ℕ) → g.image disk c → g.image_since disk k c
      left_before k le c is = now disk k c found.honest le is
