-- Locks that are taken back, one after another; and one for whose owner no memory was found.
use Rattle.std.proofs.Common.{◌≡◌, inl, inr, ℕ, zero, suc, ◌+◌, ◌-◌, ◌<◌, ◌≤◌, arith, true, true≢false, List, [], ◌∷◌, ◌++◌, Some, Result, Ok, Err, refl, sym}
use Rattle.std.proofs.Common.{ap, ◌∙◌}
use Rattle.oa_turn.proofs.Counted.{lock_back}
use Rattle.oa_turn.specs.Kept.{all_locked_cells, copies, each_counted}
use Rattle.oa_record.specs.promise.Asks.{tag_at}
use Rattle.oa_record.specs.promise.Replies.{ReplyValue}
use Rattle.oa_record.specs.declared.request.Request.{Request}
use Rattle.oa_server.proofs.Ledgered.{fault_told, relock_of}
use Rattle.oa_server.proofs.LockTurns.{OneRequest}
use Rattle.oa_server.specs.promise.SharedMachine.{taken_back}
use Rattle.oa_table.specs.promise.Locks.{with_lock}
use Rattle.oa_table.specs.promise.Tables.{TableValue}
use Rattle.oa_table.specs.declared.fault.TableFault.{TableFault}
use Rattle.oa_table.specs.declared.name.CellName.{CellName}
use Rattle.oa_decision.specs.promise.Decided.{decided}
use Rattle.oa_decision.specs.promise.States.{State}
use Rattle.oa_decision.specs.declared.decision.Decision.{Decision}
use Rattle.oa_decision.specs.declared.decision.Decision.TheVariants.{Relock}
use Rattle.oa_decision.specs.declared.decision.LockChange.TheVariants.{Lock, Unlock}
use Rattle.oa_decision.specs.declared.refusal.Refusal.{Refusal}
use Rattle.oa_turn.specs.promise.Events.{is_done}
use Rattle.oa_turn.specs.promise.Locking.{AsksLock, changes_lock, lock_asked_by}
use Rattle.oa_turn.specs.promise.Steps.{after_locks, after_outcome, outcome_of, relocking, reply_with, with_table}
use Rattle.oa_turn.specs.promise.Turns.{Ordinary, Steps}

-- ---- locks of one cell, of one client and of all
abbrev pub taken_counts : List (CellName × ℕ) → State → State
taken_counts [] state = state
taken_counts (e ∷ es) state = taken_counts es (taken_back (copies e.1 e.0 []) state)

abbrev pub taken_clients : List (ℕ × List CellName) → State → State
taken_clients [] state = state
taken_clients (c ∷ cs) state = taken_clients cs (taken_back c.1 state)

more_back : (n : ℕ) (name : CellName) (rest : List CellName) (state : State) → taken_back (copies n name rest) state ≡ taken_back rest
    (taken_back (copies n name []) state)
more_back zero name rest state = refl
more_back (suc n) name rest state = more_back n name rest (after_locks state (Some (Unlock name)))

both_back : (one two : List CellName) (state : State) → taken_back (one ++ two) state ≡ taken_back two (taken_back one state)
both_back [] two state = refl
both_back (name ∷ one) two state = both_back one two (after_locks state (Some (Unlock name)))

counts_are : (es : List (CellName × ℕ)) (state : State) → taken_counts es state ≡ taken_back (each_counted es) state
counts_are [] state = refl
counts_are (e ∷ es) state = counts_are es (taken_back (copies e.1 e.0 []) state) ∙ sym (more_back e.1 e.0 (each_counted es) state)

pub counts_begin : (es : List (CellName × ℕ)) (cells : List CellName) (state : State) → each_counted es ≡ cells → taken_counts es state ≡ taken_back cells state
counts_begin es cells state is = counts_are es state ∙ ap (λ (l : List CellName). taken_back l state) is

clients_are : (cs : List (ℕ × List CellName)) (state : State) → taken_clients cs state ≡ taken_back (all_locked_cells cs) state
clients_are [] state = refl
clients_are (c ∷ cs) state = clients_are cs (taken_back c.1 state) ∙ sym (both_back c.1 (all_locked_cells cs) state)

pub clients_begin : (cs : List (ℕ × List CellName)) (cells : List CellName) (state : State) → all_locked_cells cs ≡ cells
    → taken_clients cs state ≡ taken_back cells state
clients_begin cs cells state is = clients_are cs state ∙ ap (λ (l : List CellName). taken_back l state) is

pub times_begin : (name : CellName) (count : ℕ) (state : State) → taken_back (copies (count - 0) name []) state ≡ taken_back (copies count name []) state
times_begin name count state = ap (λ (n : ℕ). taken_back (copies n name []) state) (whole count)
  where
    whole : (n : ℕ) → n - 0 ≡ n
    whole n = omega arith

pub times_next : (name : CellName) (count i : ℕ) (state after last : State) → i < count → after ≡ after_locks state (Some (Unlock name))
    → taken_back (copies (count - i) name []) state ≡ last → taken_back (copies (count - (i + 1)) name []) after ≡ last
times_next name count i state after last within is so_far =
    let more : count - i ≡ suc (count - (i + 1)) = omega (arith, within) in
    ap (λ (s : State). taken_back (copies (count - (i + 1)) name []) s) is ∙ sym (ap (λ (n : ℕ). taken_back (copies n name []) state) more) ∙ so_far

pub times_end : (name : CellName) (count i : ℕ) (state last : State) → count ≤ i → taken_back (copies (count - i) name []) state ≡ last → state ≡ last
times_end name count i state last over so_far =
    let none : count - i ≡ 0 = omega (arith, over) in sym (ap (λ (n : ℕ). taken_back (copies n name []) state) none) ∙ so_far

-- ---- a lock that was taken, and is given back for want of memory
module _ (one_request : OneRequest) where
  steps_back : (old new : State) (body : List ℕ) (name : CellName) (reply : ReplyValue) → Steps old body reply new → AsksLock old body (Lock name)
      → is_done reply ≡ true → after_locks new (Some (Unlock name)) ≡ old
  steps_back old new body name reply s asks done = ap (λ (x : State). after_locks x (Some (Unlock name))) (s.leaves ∙ ap (λ o. after_outcome old o) is_outcome)
      ∙ by (with_lock name old.table) refl told
    where
      due : (fields : List ℕ) × (decided old s.request ≡ Ok (Relock (Lock name) fields)) × (changes_lock s.request ≡ true)
      due =
          relock_of old s.request (Lock name) (ap (λ (r : Request). lock_asked_by old r) (one_request body s.request asks.request s.asked asks.asked) ∙ asks.is)

      is_outcome : outcome_of old (decided old s.request) ≡ relocking (Lock name) due.0 (with_lock name old.table)
      is_outcome = ap (λ (d : Result Decision Refusal). outcome_of old d) due.1

      told : is_done (reply_with (tag_at body) (relocking (Lock name) due.0 (with_lock name old.table))) ≡ true
      told = sym (ap is_done s.answers ∙ ap (λ (d : Result Decision Refusal). is_done (reply_with (tag_at body) (outcome_of old d))) due.1) ∙ done

      by : (r : Result TableValue TableFault) → with_lock name old.table ≡ r → is_done (reply_with (tag_at body) (relocking (Lock name) due.0 r)) ≡ true
          → after_locks (after_outcome old (relocking (Lock name) due.0 r)) (Some (Unlock name)) ≡ old
      by (Ok table) is said =
          ap (λ (r : Result TableValue TableFault). after_locks (with_table old r) (Some (Unlock name))) is
          ∙ ap (λ (r : Result TableValue TableFault). with_table (record old { table = table }) r) (lock_back name old.table table is)
      by (Err fault) is said = absurd (true≢false (sym said ∙ fault_told (tag_at body) (Lock name) due.0 fault))

  pub lock_undone : (old new : State) (body : List ℕ) (name : CellName) (reply : ReplyValue) → Ordinary old body reply new → AsksLock old body (Lock name)
      → is_done reply ≡ true → after_locks new (Some (Unlock name)) ≡ old
  lock_undone old new body name reply (inl s) asks done = steps_back old new body name reply s asks done
  lock_undone old new body name reply (inr (inl t)) asks done = absurd (true≢false (sym done ∙ ap is_done t.answers))
  lock_undone old new body name reply (inr (inr (inl t))) asks done = absurd (true≢false (sym done ∙ ap is_done t.answers))
  lock_undone old new body name reply (inr (inr (inr t))) asks done = absurd (true≢false (sym done ∙ ap is_done t.answers))
