-- The queue in its array.
use Rattle.std.proofs.Common.{◌≡◌, ◌<◌, ◌≤◌, ℕ, suc, ◌+◌, ◌-◌, List, [], ◌∷◌, ◌++◌, length, take, drop, set, get_or, refl, sym, ap, ◌∙◌, append_assoc}
use Rattle.std.proofs.Common.{length-append, arith, take_at}
use Rattle.std.proofs.lemmas.List.{drop-append-le, drop-drop, drop-set-lt, drop_at, drop_more, get_or-set_same, length-set, length-take-le, take-append-drop}
use Rattle.std.proofs.lemmas.List.{take-append-le, take-set, take-take, take_more_set}
use Rattle.std.proofs.lemmas.Bool.{le-ltb, ltb-false}
use Rattle.std.proofs.lemmas.List.Edits.{between_more, length-between}
use Rattle.std.proofs.lemmas.Slice.{between_from_start, between_is}
use Rattle.std.specs.List.{between}
use Rattle.std.specs.Prelude.{◌↔◌, false}
use Rattle.oa_gateway.specs.Exclusive.{waits}
use Rattle.oa_gateway.proofs.Queued.{clients}
use Rattle.oa_gateway.specs.Queues.{ClientQueue, IsQueue, IsWithout, enqueued, goes_on, queue_of, turn_of}
use Rattle.oa_gateway.specs.declared.queue.NextTurn.{NextTurn}
use Rattle.oa_gateway.specs.declared.queue.NextTurn.TheVariants.{Never, Last, Kept}
use Rattle.oa_gateway.specs.declared.queue.Queue.{Queue}

pub clients_are : (kept kept' waiting waiting' : List ℕ) → kept ≡ kept' → waiting ≡ waiting' → clients kept waiting ≡ clients kept' waiting'
clients_are kept kept' waiting waiting' e f = rw (e, f) refl

-- ---- one element

pub first_of : (xs : List ℕ) (i j : ℕ) → i < j → i < length xs → between i j xs ≡ get_or xs i 0 ∷ between (i + 1) j xs
first_of xs i j some within =
    let e : j - i ≡ suc (j - (i + 1)) = omega (arith, some) in
    rw (drop_more xs i 0 within, e) refl

-- one is added at the end
pub added : (xs : List ℕ) (i j client : ℕ) → i ≤ j → j < length xs → between i (j + 1) (set xs j client) ≡ between i j xs ++ client ∷ []
added xs i j client after within =
    let long = length-set xs j client in
    between_more (set xs j client) i j 0 after (omega (arith, long, within))
    ∙ ap (λ l. l ++ get_or (set xs j client) j 0 ∷ []) (between_is (set xs j client) i j ∙ ap (λ l. drop i l) (take-set xs j client) ∙ sym (between_is xs i j))
    ∙ ap (λ x. between i j xs ++ x ∷ []) (get_or-set_same xs j client 0 within)

-- one before them is changed
pub others_same : (xs : List ℕ) (k i j client : ℕ) → k < i → between i j (set xs k client) ≡ between i j xs
others_same xs k i j client before = ap (λ l. take (j - i) l) (drop-set-lt i xs k client before)

-- ---- a part is turned

-- this list, of which the part from a to e is turned by so many
abbrev pub turned : List ℕ → ℕ → ℕ → ℕ → List ℕ
turned xs a e by = take a xs ++ ((drop by (between a e xs) ++ take by (between a e xs)) ++ drop (e - a) (drop a xs))

mid_from : (xs : List ℕ) (a e by : ℕ) → drop by (between a e xs) ≡ between (a + by) e xs
mid_from xs a e by = ap (λ l. drop by l) (between_is xs a e) ∙ drop-drop by a (take e xs) ∙ sym (between_is xs (a + by) e)

pub before_same : (xs : List ℕ) (a e by k : ℕ) → k ≤ a → a ≤ length xs → take k (turned xs a e by) ≡ take k xs
before_same xs a e by k before within =
    let long = length-take-le a xs within in
    take-append-le k (take a xs) _ (omega (arith, long, before)) ∙ take-take k a xs before

-- up to where the part that was moved down ends
up_to : (xs : List ℕ) (a e by : ℕ) → a + by ≤ e → e ≤ length xs → take (e - by) (turned xs a e by) ≡ take a xs ++ between (a + by) e xs
up_to xs a e by few within =
    let front = length-take-le a xs (omega (arith, few, within)) in
    let rest = length-between xs (a + by) e within in
    let part = length-append (take a xs) (between (a + by) e xs) in
    ap (λ l. take (e - by) (take a xs ++ ((l ++ take by (between a e xs)) ++ drop (e - a) (drop a xs)))) (mid_from xs a e by)
    ∙ ap (λ l. take (e - by) (take a xs ++ l)) (append_assoc (between (a + by) e xs) (take by (between a e xs)) (drop (e - a) (drop a xs)))
    ∙ ap (λ l. take (e - by) l) (sym (append_assoc (take a xs) (between (a + by) e xs) _))
    ∙ take_at (take a xs ++ between (a + by) e xs) _ (e - by) (omega (arith, front, rest, part, few))

pub moved_down : (xs : List ℕ) (a e by : ℕ) → a + by ≤ e → e ≤ length xs → between a (e - by) (turned xs a e by) ≡ between (a + by) e xs
moved_down xs a e by few within =
    between_is (turned xs a e by) a (e - by) ∙ ap (λ l. drop a l) (up_to xs a e by few within)
    ∙ drop_at (take a xs) (between (a + by) e xs) a (length-take-le a xs (omega (arith, few, within)))

-- one of them is left out
pub left_out : (xs : List ℕ) (i a e : ℕ) → i ≤ a → a < e → e ≤ length xs → between i (e - 1) (turned xs a e 1) ≡ between i a xs ++ between (a + 1) e xs
left_out xs i a e after some within =
    let front = length-take-le a xs (omega (arith, some, within)) in
    between_is (turned xs a e 1) i (e - 1) ∙ ap (λ l. drop i l) (up_to xs a e 1 (omega (arith, some)) within)
    ∙ drop-append-le i (take a xs) (between (a + 1) e xs) (omega (arith, front, after)) ∙ ap (λ l. l ++ between (a + 1) e xs) (sym (between_is xs i a))

pub split_at : (xs : List ℕ) (i a e : ℕ) → i ≤ a → a < e → e ≤ length xs → between i e xs ≡ between i a xs ++ get_or xs a 0 ∷ between (a + 1) e xs
split_at xs i a e after some within =
    let front = length-take-le a (take e xs) (omega (arith, length-take-le e xs within, some)) in
    between_is xs i e ∙ ap (λ l. drop i l) (sym (take-append-drop a (take e xs)))
    ∙ drop-append-le i (take a (take e xs)) (drop a (take e xs)) (omega (arith, front, after))
    ∙ ap (λ l. drop i l ++ drop a (take e xs)) (take-take a e xs (omega (arith, some)))
    ∙ ap (λ l. l ++ drop a (take e xs)) (sym (between_is xs i a))
    ∙ ap (λ l. between i a xs ++ l) (sym (between_is xs a e) ∙ first_of xs a e some (omega (arith, some, within)))

-- both parts, one after the other
pub joined_up : (xs : List ℕ) (k e : ℕ) → k ≤ e → take k xs ++ between k e xs ≡ take e xs
joined_up xs k e before =
    ap (λ l. l ++ between k e xs) (sym (take-take k e xs before)) ∙ ap (λ l. take k (take e xs) ++ l) (between_is xs k e) ∙ take-append-drop k (take e xs)

-- ---- the calls

pub moved_up : (xs ys : List ℕ) (k n e : ℕ) → k ≤ n → n ≤ e → e ≤ length xs → ys ≡ drop (n - k) (between k e xs) ++ take (n - k) (between k e xs)
    → clients (take k (take k xs ++ (ys ++ drop (e - k) (drop k xs)))) (between (n - (n - k)) (e - (n - k)) (take k xs ++ (ys ++ drop (e - k) (drop k xs))))
    ≡ clients (take k xs) (between n e xs)
moved_up xs ys k n e before some within it =
    let from : n - (n - k) ≡ k = omega (arith, before) in
    let to : k + (n - k) ≡ n = omega (arith, before) in
    let front = before_same xs k e (n - k) k (omega arith) (omega (arith, before, some, within)) in
    let rest = moved_down xs k e (n - k) (omega (arith, before, some)) within in
    rw (it, from) (clients_are _ _ _ _ front (rest ∙ ap (λ i. between i e xs) to))

pub all_wait : (xs : List ℕ) (k n e : ℕ) → k ≡ n → n ≤ e → between 0 e xs ≡ take k xs ++ between n e xs
all_wait xs k n e same before = between_from_start xs e ∙ sym (rw same (joined_up xs n e before))

never_again : (kept xs : List ℕ) (n e : ℕ) → n < e → n < length xs → goes_on kept (between n e xs) Never ≡ clients kept (between (n + 1) e xs)
never_again kept xs n e some within = rw (first_of xs n e some within) refl

last_again : (kept xs : List ℕ) (n e : ℕ) → n < e → n < length xs
    → goes_on kept (between n e xs) Last ≡ clients kept (between (n + 1) e xs ++ get_or xs n 0 ∷ [])
last_again kept xs n e some within = rw (first_of xs n e some within) refl

keeps : (kept xs : List ℕ) (n e : ℕ) → n < e → n < length xs
    → goes_on kept (between n e xs) Kept ≡ clients (kept ++ get_or xs n 0 ∷ []) (between (n + 1) e xs)
keeps kept xs n e some within = rw (first_of xs n e some within) refl

pub has_gone : (xs : List ℕ) (q : Queue) (next : NextTurn) → q.next < q.end → q.end ≤ length xs → next ≡ Never
    → queue_of (record { kept = q.kept; next = q.next + 1; end = q.end }) xs ≡ turn_of (queue_of q xs) next
has_gone xs q next some within is = rw is (sym (never_again (take q.kept xs) xs q.next q.end some (omega (arith, some, within))))

pub is_last : (xs : List ℕ) (q : Queue) (next : NextTurn) (all : ClientQueue) → q.next < q.end → q.end ≤ length xs → next ≡ Last
    → all ≡ enqueued (get_or xs q.next 0) (queue_of (record { kept = q.kept; next = q.next + 1; end = q.end }) xs) → all ≡ turn_of (queue_of q xs) next
is_last xs q next all some within is it = it ∙ rw is (sym (last_again (take q.kept xs) xs q.next q.end some (omega (arith, some, within))))

pub is_kept : (xs : List ℕ) (q : Queue) (next : NextTurn) → q.kept ≤ q.next → q.next < q.end → q.end ≤ length xs → next ≡ Kept
    → queue_of (record { kept = q.kept + 1; next = q.next + 1; end = q.end }) (set xs q.kept (get_or xs q.next 0)) ≡ turn_of (queue_of q xs) next
is_kept xs q next before some within is =
    let one = get_or xs q.next 0 in
    clients_are _ _ _ _ (take_more_set xs q.kept one (omega (arith, before, some, within)))
    (others_same xs q.kept (q.next + 1) q.end one (omega (arith, before)))
    ∙ rw is (sym (keeps (take q.kept xs) xs q.next q.end some (omega (arith, some, within))))

pub has_left : (xs ys : List ℕ) (q : Queue) (client at : ℕ) → q.kept ≤ q.next → q.next ≤ at → at < q.end → q.end ≤ length xs → get_or xs at 0 ≡ client
    → ys ≡ drop 1 (between at q.end xs) ++ take 1 (between at q.end xs)
    → IsWithout client (queue_of q xs) (queue_of (record { kept = q.kept; next = q.next; end = q.end - 1 })
    (take at xs ++ (ys ++ drop (q.end - at) (drop at xs))))
has_left xs ys q client at before after some within is it = rw it (record {
  kept = before_same xs at q.end 1 q.kept (omega (arith, before, after)) (omega (arith, some, within));
  front = between q.next at xs;
  back = between (at + 1) q.end xs;
  before = split_at xs q.next at q.end after some within ∙ ap (λ x. between q.next at xs ++ x ∷ between (at + 1) q.end xs) is;
  after = left_out xs q.next at q.end after some within;
})

pub nobody_waits : (q : Queue) (places : List ℕ) → IsQueue q (length places) → (waits q ≡ false) ↔ ((queue_of q places).waiting ≡ [])
nobody_waits q places is = (none, empty)
  where
    none : waits q ≡ false → between q.next q.end places ≡ []
    none e = let zero : q.end - q.next ≡ 0 = omega (arith, ltb-false q.next q.end e) in rw zero refl

    empty : between q.next q.end places ≡ [] → waits q ≡ false
    empty e = le-ltb q.next q.end (omega (arith, length-between places q.next q.end is.2, ap length e))
