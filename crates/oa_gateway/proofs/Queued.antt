-- In which order clients have their turns.
use Rattle.std.proofs.Common.{◌≡◌, ◌≢◌, ◌≤◌, ℕ, Bool, true, false, if◌then◌else◌, suc, ◌+◌, List, [], ◌∷◌, ◌++◌, length, refl, sym, ap, ◌∙◌, subst}
use Rattle.std.proofs.Common.{append_assoc, append-nil, length-append, arith}
use Rattle.oa_gateway.specs.Queues.{ClientQueue, IsNotOvertaken, IsQueuedBehind, IsWithout, WaitsInQueue, after_turns, begun_queue, count_kept, enqueued}
use Rattle.oa_gateway.specs.Queues.{next_batch, next_turn, turn_of}
use Rattle.oa_gateway.specs.declared.queue.NextTurn.{NextTurn}
use Rattle.oa_gateway.specs.declared.queue.NextTurn.TheVariants.{Never, Last, Kept}

abbrev pub clients : List ℕ → List ℕ → ClientQueue
clients kept waiting = record { kept = kept; waiting = waiting }

-- after these turns: the clients that were before it, fewer by one for each turn, and those that have the first turns of the next batch
pub record Nearer (client before : ℕ) (turns : List NextTurn) (kept : List ℕ) (q : ClientQueue) : Type 0 where
  front : List ℕ
  back : List ℕ
  there : q.waiting ≡ front ++ client ∷ back
  count : length front + length turns ≡ before
  ahead : length q.kept ≡ length kept + count_kept turns

one_less : (client before : ℕ) (next : NextTurn) (turns : List NextTurn) (less more : List ℕ) (q : ClientQueue)
    → length more + count_kept turns ≡ length less + count_kept (next ∷ turns) → Nearer client before turns more q
    → Nearer client (suc before) (next ∷ turns) less q
one_less client before next turns less more q few n =
    let count = n.count in
    record { front = n.front; back = n.back; there = n.there; count = omega (arith, count); ahead = n.ahead ∙ few }

longer : (kept : List ℕ) (b n : ℕ) → length (kept ++ b ∷ []) + n ≡ length kept + (1 + n)
longer kept b n = let both = length-append kept (b ∷ []) in omega (arith, both)

pub nearer : (client : ℕ) (before back kept : List ℕ) (turns : List NextTurn) → length turns ≤ length before
    → Nearer client (length before) turns kept (after_turns (clients kept (before ++ client ∷ back)) turns)
unfolding after_turns count_kept
nearer client before back kept [] few = record { front = before; back = back; there = refl; count = omega arith; ahead = omega arith }
nearer client [] back kept (next ∷ turns) few = absurd (omega (arith, few))
nearer client (b ∷ before) back kept (Never ∷ turns) few =
    one_less client (length before) Never turns kept kept _ refl (nearer client before back kept turns (omega (arith, few)))
nearer client (b ∷ before) back kept (Kept ∷ turns) few =
    one_less client (length before) Kept turns kept (kept ++ b ∷ []) _ (longer kept b (count_kept turns))
    (nearer client before back (kept ++ b ∷ []) turns (omega (arith, few)))
nearer client (b ∷ before) back kept (Last ∷ turns) few =
    one_less client (length before) Last turns kept kept _ refl
    (subst (λ w. Nearer client (length before) turns kept (after_turns (clients kept w) turns)) (sym (append_assoc before (client ∷ back) (b ∷ [])))
    (nearer client before (back ++ b ∷ []) kept turns (omega (arith, few))))

-- ---- as it is stated

pub gets_its_turn : (client before : ℕ) (all : List ℕ) (turns : List NextTurn) → IsQueuedBehind client before all → length turns ≤ before
    → WaitsInQueue client before all turns
gets_its_turn client before all turns is few =
    let n = nearer client is.front is.back [] turns (subst (λ k. length turns ≤ k) (sym is.count) few) in
    let m = subst (λ w. Nearer client (length is.front) turns [] (after_turns (clients [] w) turns)) (sym is.there) n in
    record {
      left = length m.front;
      fewer = m.count ∙ is.count;
      there = record { front = m.front; back = m.back; there = m.there; count = refl };
    }

pub keeps_its_place : (client before : ℕ) (all : List ℕ) (turns : List NextTurn) → IsQueuedBehind client before all → length turns ≤ before
    → IsNotOvertaken client before all turns
keeps_its_place client before all turns is few =
    let n = nearer client is.front is.back [] turns (subst (λ k. length turns ≤ k) (sym is.count) few) in
    let m = subst (λ w. Nearer client (length is.front) turns [] (after_turns (clients [] w) turns)) (sym is.there) n in
    let q = after_turns (clients [] all) turns in
    let both = length-append q.kept m.front in
    let ahead = m.ahead in
    let total = is.count in
    let count = m.count in
    record {
      left = length (q.kept ++ m.front);
      fewer = omega (arith, both, ahead, total, count);
      there = record {
        front = q.kept ++ m.front;
        back = m.back;
        there = ap (λ w. q.kept ++ w) m.there ∙ sym (append_assoc q.kept m.front (client ∷ m.back));
        count = refl;
      };
    }

took_something : (took : Bool) → (if took then Last else Kept) ≡ Kept → took ≡ false
took_something true e = absurd cc
took_something false e = refl

pub kept_had_nothing : (waits took : Bool) → next_turn waits took ≡ Kept → took ≡ false
kept_had_nothing true took e = took_something took e
kept_had_nothing false took e = absurd cc

-- ---- a client whose own turn got nothing

-- what is kept stays so, in its place
record KeptOn (kept : List ℕ) (q : ClientQueue) : Type 0 where
  later : List ℕ
  are : q.kept ≡ kept ++ later

kept_more : (kept : List ℕ) (b : ℕ) (q : ClientQueue) → KeptOn (kept ++ b ∷ []) q → KeptOn kept q
kept_more kept b q is = record { later = b ∷ is.later; are = is.are ∙ append_assoc kept (b ∷ []) is.later }

kept_on : (kept waiting : List ℕ) (turns : List NextTurn) → KeptOn kept (after_turns (clients kept waiting) turns)
unfolding after_turns
kept_on kept waiting [] = record { later = []; are = sym (append-nil kept) }
kept_on kept [] (next ∷ turns) = kept_on kept [] turns
kept_on kept (b ∷ waiting) (Never ∷ turns) = kept_on kept waiting turns
kept_on kept (b ∷ waiting) (Last ∷ turns) = kept_on kept (waiting ++ b ∷ []) turns
kept_on kept (b ∷ waiting) (Kept ∷ turns) = kept_more kept b _ (kept_on (kept ++ b ∷ []) waiting turns)

turns_two : (q : ClientQueue) (turns more : List NextTurn) → after_turns q (turns ++ more) ≡ after_turns (after_turns q turns) more
unfolding after_turns
turns_two q [] more = refl
turns_two q (next ∷ turns) more = turns_two (turn_of q next) turns more

kept_first : (client : ℕ) (back kept : List ℕ) (more : List NextTurn) → KeptOn (kept ++ client ∷ []) (after_turns (clients kept (client ∷ back)) (Kept ∷ more))
unfolding after_turns
kept_first client back kept more = kept_on (kept ++ client ∷ []) back more

none_before : (front : List ℕ) (n b : ℕ) → length front + n ≡ b → n ≡ b → front ≡ []
none_before [] n b is same = refl
none_before (x ∷ front) n b is same = absurd (omega (arith, is, same))

pub keeps_its_turn : (client before : ℕ) (all : List ℕ) (turns more : List NextTurn) → IsQueuedBehind client before all → length turns ≡ before
    → IsQueuedBehind client (count_kept turns) (next_batch (after_turns (begun_queue all) (turns ++ Kept ∷ more)))
keeps_its_turn client before all turns more is same =
    let total = is.count in
    let n = nearer client is.front is.back [] turns (omega (arith, same, total)) in
    let m = subst (λ w. Nearer client (length is.front) turns [] (after_turns (clients [] w) turns)) (sym is.there) n in
    let q = after_turns (clients [] all) turns in
    let none : m.front ≡ [] = none_before m.front (length turns) (length is.front) m.count (same ∙ sym total) in
    let own : q.waiting ≡ client ∷ m.back = m.there ∙ ap (λ (l : List ℕ). l ++ client ∷ m.back) none in
    let on = subst (λ (w : List ℕ). KeptOn (q.kept ++ client ∷ []) (after_turns (clients q.kept w) (Kept ∷ more))) (sym own)
    (kept_first client m.back q.kept more) in
    let last = subst (λ (r : ClientQueue). KeptOn (q.kept ++ client ∷ []) r) (sym (turns_two (clients [] all) turns (Kept ∷ more))) on in
    let end = after_turns (clients [] all) (turns ++ Kept ∷ more) in
    let ahead = m.ahead in
    record {
      front = q.kept;
      back = last.later ++ end.waiting;
      there = ap (λ (l : List ℕ). l ++ end.waiting) last.are ∙ append_assoc (q.kept ++ client ∷ []) last.later end.waiting
          ∙ append_assoc q.kept (client ∷ []) (last.later ++ end.waiting);
      count = omega (arith, ahead);
    }

pub still_waits : (took : Bool) → next_turn true took ≢ Never
still_waits true e = cc
still_waits false e = cc

-- ---- others join and leave

pub still_behind : (client other before : ℕ) (q : ClientQueue) → IsQueuedBehind client before q.waiting
    → IsQueuedBehind client before (enqueued other q).waiting
still_behind client other before q is = record {
  front = is.front;
  back = is.back ++ other ∷ [];
  there = ap (λ (l : List ℕ). l ++ other ∷ []) is.there ∙ append_assoc is.front (client ∷ is.back) (other ∷ []);
  count = is.count;
}

-- another one is gone from the list
record Left (client most : ℕ) (rest : List ℕ) : Type 0 where
  front : List ℕ
  back : List ℕ
  there : rest ≡ front ++ client ∷ back
  few : length front ≤ most

one_gone : (client other : ℕ) (front back before behind : List ℕ) → client ≢ other → front ++ client ∷ back ≡ before ++ other ∷ behind
    → Left client (length front) (before ++ behind)
one_gone client other [] back [] behind apart is = absurd (apart cc)
one_gone client other [] back (y ∷ before) behind apart is =
    let same : client ≡ y = cc in
    record { front = []; back = before ++ behind; there = ap (λ (n : ℕ). n ∷ before ++ behind) (sym same); few = omega arith }
one_gone client other (x ∷ front) back [] behind apart is =
    let rest : front ++ client ∷ back ≡ behind = cc in
    record { front = front; back = back; there = sym rest; few = omega arith }
one_gone client other (x ∷ front) back (y ∷ before) behind apart is =
    let same : x ≡ y = cc in
    let rest : front ++ client ∷ back ≡ before ++ other ∷ behind = cc in
    let more = one_gone client other front back before behind apart rest in
    let few = more.few in
    record { front = y ∷ more.front; back = more.back; there = ap (λ (l : List ℕ). y ∷ l) more.there; few = omega (arith, few) }

pub waits_nearer : (client other before : ℕ) (old new : ClientQueue) → IsQueuedBehind client before old.waiting → client ≢ other → IsWithout other old new
    → (left : ℕ) × (left ≤ before) × IsQueuedBehind client left new.waiting
waits_nearer client other before old new is apart without =
    let gone = one_gone client other is.front is.back without.front without.back apart (sym is.there ∙ without.before) in
    let few = gone.few in
    let count = is.count in (
      length gone.front,
      omega (arith, few, count),
      record { front = gone.front; back = gone.back; there = without.after ∙ gone.there; count = refl },
    )
