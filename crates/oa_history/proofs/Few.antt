-- A call of few bodies is one group.
use Rattle.std.proofs.Common.{rules, ◌≡◌, ℕ, suc, ◌+◌, ◌<◌, ◌≤◌, nat_le, ◌||◌, if◌then◌else◌, Bool, true, false, List, [], ◌∷◌, ◌++◌, map, length, refl, sym}
use Rattle.std.proofs.Common.{◌∙◌, ap, subst, arith, length-append}
use Rattle.oa_model.specs.promise.Limits.{group_bytes}
use Rattle.oa_group_commit.specs.promise.Groups.{HasNoBarrier, concat_groups, cut, events_in, fills, is_full, rest_of}
use Rattle.oa_group_commit.specs.promise.Groups.{Exchange, StateMachine, body_of}
use Rattle.oa_history.specs.OneGroup.{FewAreOneGroup}

rest_few : {R : Type 0} (held : List (Exchange R)) → length (rest_of held) ≤ 1
rest_few [] = omega arith
rest_few (asked ∷ held) = omega arith

events_push : {R : Type 0} (held : List (Exchange R)) (asked : Exchange R) → length (events_in (held ++ asked ∷ [])) ≡ length (events_in held)
    + length asked.event
events_push [] asked = omega (arith, length-append asked.event [])
events_push (x ∷ held) asked =
    omega (arith, events_push held asked, length-append x.event (events_in (held ++ asked ∷ [])), length-append x.event (events_in held))

-- what fills a group that has few bytes is its count
filled_by_count : (size count bytes : ℕ) → bytes < group_bytes → fills size count bytes ≡ true → size ≤ count
unfolding fills
filled_by_count size count bytes few is = by (nat_le size count) (nat_le group_bytes bytes) refl refl is
  where
    by : (a b : Bool) → nat_le size count ≡ a → nat_le group_bytes bytes ≡ b → (a || b) ≡ true → size ≤ count
    by true b one two is = search (one, rules)
    by false true one two is = let more : group_bytes ≤ bytes = search (two, rules) in absurd (omega (arith, few, more))
    by false false one two is = absurd (cc is)

module _ {R : Type 0} (barrier : List ℕ → Bool) (size : ℕ) where
  few_cut : (held entries : List (Exchange R)) → length held + length entries ≤ size → length (events_in held) + length (events_in entries) < group_bytes
      → HasNoBarrier barrier (map body_of entries) → length (cut barrier size held entries) ≤ 1
  few_cut held [] short small none = rest_few held
  few_cut held (asked ∷ entries) short small none =
      rw none.0 (by (is_full size (held ++ asked ∷ [])) refl (λ few bytes. few_cut (held ++ asked ∷ []) entries few bytes none.1))
    where
      long : length (held ++ asked ∷ []) ≡ length held + 1
      long = length-append held (asked ∷ [])

      bytes : length (events_in (held ++ asked ∷ [])) ≡ length (events_in held) + length asked.event
      bytes = events_push held asked

      all : length (events_in (asked ∷ entries)) ≡ length asked.event + length (events_in entries)
      all = length-append asked.event (events_in entries)

      by : (b : Bool) → is_full size (held ++ asked ∷ []) ≡ b
          → (length (held ++ asked ∷ []) + length entries ≤ size → length (events_in (held ++ asked ∷ [])) + length (events_in entries) < group_bytes
          → length (cut barrier size (held ++ asked ∷ []) entries) ≤ 1)
          → length (if b then (held ++ asked ∷ []) ∷ cut barrier size [] entries else cut barrier size (held ++ asked ∷ []) entries) ≤ 1
      by true full again = last entries short
        where
          here : size ≤ length (held ++ asked ∷ [])
          here = filled_by_count size (length (held ++ asked ∷ [])) (length (events_in (held ++ asked ∷ []))) (omega (arith, bytes, all, small)) full

          last : (others : List (Exchange R)) → length held + length (asked ∷ others) ≤ size → length ((held ++ asked ∷ []) ∷ cut barrier size [] others) ≤ 1
          last [] le = omega arith
          last (next ∷ others) le = absurd (omega (arith, here, long, le))
      by false going again = again (omega (arith, long, short)) (omega (arith, bytes, all, small))

none_front : (barrier : List ℕ → Bool) (front back : List (List ℕ)) → HasNoBarrier barrier (front ++ back) → HasNoBarrier barrier front
none_front barrier [] back none = tt
none_front barrier (body ∷ front) back none = (none.0, none_front barrier front back none.1)

length-map : {X Y : Type 0} (f : X → Y) (xs : List X) → length (map f xs) ≡ length xs
length-map f [] = refl
length-map f (x ∷ xs) = ap suc (length-map f xs)

pub few_are_one : {S R : Type 0} (t : StateMachine S R) → FewAreOneGroup t
few_are_one {S} {R} t was first call groups count is last called few none small =
    let served = called.served in
    let own = called.answered ++ called.faulted in
    let entries = concat_groups own in
    let within = none_front t.barrier (map body_of entries) called.others (subst (λ (l : List (List ℕ)). HasNoBarrier t.barrier l) served.bodies_are none) in
    let size : 0 + length entries ≤ call.size =
    omega (arith, few, ap length served.bodies_are, length-append (map body_of entries) called.others, length-map body_of entries) in
    let bytes : length (events_in entries) < group_bytes =
    subst (λ (l : List (List (Exchange R))). length (events_in (concat_groups l)) < group_bytes) called.groups_are small in
    let from : 0 + length (events_in entries) < group_bytes = omega (arith, bytes) in
    let cut_few = few_cut t.barrier call.size [] entries size from within in
    subst (λ (l : List (List (Exchange R))). length l ≤ 1) (served.groups_are ∙ sym called.groups_are) cut_few
