-- Facts on lists of calls.
use Rattle.std.proofs.Common.{inl, ◌≡◌, ⊎_elim, ℕ, zero, suc, ◌+◌, ◌*◌, ◌<◌, ◌≤◌, List, [], ◌∷◌, ◌++◌, length, take, drop, get_or, Some}
use Rattle.std.proofs.Common.{slice_get, refl, sym, ◌∙◌, ap, subst, arith}
use Rattle.std.proofs.lemmas.List.{drop-drop, take-append-drop}
use Rattle.oa_disk.specs.declared.call.DeviceCall.{DeviceCall}
use Rattle.oa_disk.specs.declared.call.DeviceCall.TheVariants.{Read, Write, Sync}
use Rattle.oa_disk.specs.promise.Disk.{DiskState, IsImage, IsOutside, after_call, last_state, count_of, count_all}
use Rattle.oa_disk.specs.promise.Disk.{overwritten}
use Rattle.oa_disk.specs.Replay.{IsImageOfSome, AllInside, during_call, states}
use Rattle.oa_disk.specs.Overwritten.{length-overwritten, overwritten_below, overwritten_above}

-- the call is inside
abbrev pub OneInside : ℕ → DeviceCall → Type 0
OneInside size Read = Unit {0}
OneInside size (Write at count) = at + count ≤ size
OneInside size Sync = Unit {0}

-- none of them is a sync
abbrev pub NoSync : List DeviceCall → Type 0
NoSync calls = (k : ℕ) → slice_get calls k ≡ Some Sync → ⊥

one_inside : (size : ℕ) (call : DeviceCall) (at count : ℕ) → OneInside size call → Some call ≡ Some (Write at count) → at + count ≤ size
one_inside size Read at count fits is = absurd (cc)
one_inside size (Write from n) at count fits is = let same_at : from ≡ at = cc in let same_n : n ≡ count = cc in omega arith
one_inside size Sync at count fits is = absurd (cc)

pub inside_push : (size : ℕ) (calls : List DeviceCall) (call : DeviceCall) → AllInside size calls → OneInside size call
    → AllInside size (calls ++ call ∷ [])
inside_push size [] call all one zero at count is = one_inside size call at count one is
inside_push size [] call all one (suc k) at count is = absurd (cc)
inside_push size (first ∷ calls) call all one zero at count is = all zero at count is
inside_push size (first ∷ calls) call all one (suc k) at count is = inside_push size calls call (λ j. all (suc j)) one k at count is

-- so is a larger disk
pub inside_more : (size more : ℕ) (calls : List DeviceCall) → size ≤ more → AllInside size calls → AllInside more calls
inside_more size more calls le all k at count is = omega (arith, all k at count is)

get_drop : (calls : List DeviceCall) (n k : ℕ) (call : DeviceCall) → slice_get (drop n calls) k ≡ Some call → slice_get calls (n + k) ≡ Some call
get_drop calls zero k call is = let same : k ≡ 0 + k = omega arith in subst (λ (j : ℕ). slice_get calls j ≡ Some call) same is
get_drop [] (suc n) k call is = absurd (cc)
get_drop (first ∷ calls) (suc n) k call is =
    let same : suc (n + k) ≡ suc n + k = omega arith in subst (λ (j : ℕ). slice_get (first ∷ calls) j ≡ Some call) same (get_drop calls n k call is)

get_take : (calls : List DeviceCall) (n k : ℕ) (call : DeviceCall) → slice_get (take n calls) k ≡ Some call → slice_get calls k ≡ Some call
get_take calls zero k call is = absurd (cc)
get_take [] (suc n) k call is = is
get_take (first ∷ calls) (suc n) zero call is = is
get_take (first ∷ calls) (suc n) (suc k) call is = get_take calls n k call is

pub inside_drop : (size : ℕ) (calls : List DeviceCall) (n : ℕ) → AllInside size calls → AllInside size (drop n calls)
inside_drop size calls n all k at count is = all (n + k) at count (get_drop calls n k (Write at count) is)

pub inside_take : (size : ℕ) (calls : List DeviceCall) (n : ℕ) → AllInside size calls → AllInside size (take n calls)
inside_take size calls n all k at count is = all k at count (get_take calls n k (Write at count) is)

pub no_sync_drop : (calls : List DeviceCall) (n : ℕ) → ((k : ℕ) → n ≤ k → slice_get calls k ≡ Some Sync → ⊥) → NoSync (drop n calls)
no_sync_drop calls n none k is = none (n + k) (omega arith) (get_drop calls n k Sync is)

pub count_all-append : (xs ys : List DeviceCall) → count_all (xs ++ ys) ≡ count_all xs + count_all ys
count_all-append [] ys = omega arith
count_all-append (x ∷ xs) ys = omega (arith, count_all-append xs ys)

pub last_state-append : (xs ys : List DeviceCall) (state : DiskState) (bytes : List ℕ)
    → last_state state (xs ++ ys) bytes ≡ last_state (last_state state xs bytes) ys (drop (count_all xs) bytes)
last_state-append [] ys state bytes = refl
last_state-append (x ∷ xs) ys state bytes =
    last_state-append xs ys (after_call state x (take (count_of x) bytes)) (drop (count_of x) bytes)
    ∙ ap (λ (l : List ℕ). last_state (last_state (after_call state x (take (count_of x) bytes)) xs (drop (count_of x) bytes)) ys l)
    (drop-drop (count_all xs) (count_of x) bytes)

-- the contents do not depend on what is pending
pub same_contents : (calls : List DeviceCall) (one other : DiskState) (bytes : List ℕ) → one.contents ≡ other.contents
    → (last_state one calls bytes).contents ≡ (last_state other calls bytes).contents
same_contents [] one other bytes is = is
same_contents (Read ∷ calls) one other bytes is = same_contents calls one other (drop 0 bytes) is
same_contents (Write at count ∷ calls) one other bytes is =
    same_contents calls (after_call one (Write at count) (take count bytes)) (after_call other (Write at count) (take count bytes)) (drop count bytes)
    (ap (λ (l : List ℕ). overwritten l at (take count bytes)) is)
same_contents (Sync ∷ calls) one other bytes is = same_contents calls (after_call one Sync (take 0 bytes)) (after_call other Sync (take 0 bytes))
    (drop 0 bytes) is

-- the same outside the pending ranges
pub record AgreesOutsidePending (state : DiskState) (image : List ℕ) : Type 0 where
  pub size : length image ≡ length state.contents
  pub outside : (i : ℕ) → IsOutside state.pending i → get_or image i 0 ≡ get_or state.contents i 0

-- the same outside one range
pub record Keeps (at n : ℕ) (old new : List ℕ) : Type 0 where
  pub size : length new ≡ length old
  pub below : (i : ℕ) → i < at → get_or new i 0 ≡ get_or old i 0
  pub above : (i : ℕ) → at + n ≤ i → get_or new i 0 ≡ get_or old i 0

-- a torn write leaves what lies in the state within it and in the state after it
pub torn_within : (state : DiskState) (at count : ℕ) (old new : List ℕ) → Keeps at count old new → AgreesOutsidePending state old
    → AgreesOutsidePending (during_call state (Write at count)) new
torn_within state at count old new torn is = record {
  size = torn.size ∙ is.size;
  outside = λ i out. ⊎_elim (torn.below i) (torn.above i) out.0 ∙ is.outside i out.1;
}

pub torn_after : (state : DiskState) (at count : ℕ) (bytes old new : List ℕ) → count ≡ length bytes → at + count ≤ length old
    → Keeps at count old new → AgreesOutsidePending state old → AgreesOutsidePending (after_call state (Write at count) bytes) new
torn_after state at count bytes old new same inside torn is =
    let fits : at + length bytes ≤ length state.contents = omega (arith, is.size) in
    record {
      size = torn.size ∙ is.size ∙ sym (length-overwritten state.contents bytes at fits);
      outside = λ i out. ⊎_elim (torn.below i) (torn.above i) out.0 ∙ is.outside i out.1
          ∙ sym (⊎_elim (overwritten_below state.contents bytes at fits i) (λ le. overwritten_above state.contents bytes at fits i (omega arith)) out.0);
    }

-- the state at an even moment, and at an odd one
pub even_state : (calls : List DeviceCall) (state : DiskState) (bytes : List ℕ) (n moment : ℕ) → moment ≡ 2 * n → n ≤ length calls
    → slice_get (state ∷ states state calls bytes) moment ≡ Some (last_state state (take n calls) bytes)
even_state calls state bytes zero zero is le = refl
even_state calls state bytes zero (suc moment) is le = absurd (omega arith)
even_state calls state bytes (suc n) zero is le = absurd (omega arith)
even_state calls state bytes (suc n) (suc zero) is le = absurd (omega arith)
even_state [] state bytes (suc n) (suc (suc moment)) is le = absurd (omega arith)
even_state (call ∷ calls) state bytes (suc n) (suc (suc moment)) is le = even_state calls (after_call state call (take (count_of call) bytes))
    (drop (count_of call) bytes) n moment (omega arith) (omega arith)

pub odd_state : (calls : List DeviceCall) (state : DiskState) (bytes : List ℕ) (n moment : ℕ) (call : DeviceCall) → moment ≡ 2 * n + 1
    → slice_get calls n ≡ Some call
    → slice_get (state ∷ states state calls bytes) moment ≡ Some (during_call (last_state state (take n calls) bytes) call)
odd_state [] state bytes n moment call is there = absurd (cc)
odd_state (first ∷ calls) state bytes zero zero call is there = absurd (omega arith)
odd_state (first ∷ calls) state bytes zero (suc zero) call is there = ap (λ (c : DeviceCall). Some (during_call state c)) (some_is first call there)
  where
    some_is : (x y : DeviceCall) → Some x ≡ Some y → x ≡ y
    some_is x y e = cc
odd_state (first ∷ calls) state bytes zero (suc (suc moment)) call is there = absurd (omega arith)
odd_state (first ∷ calls) state bytes (suc n) zero call is there = absurd (omega arith)
odd_state (first ∷ calls) state bytes (suc n) (suc zero) call is there = absurd (omega arith)
odd_state (first ∷ calls) state bytes (suc n) (suc (suc moment)) call is there = odd_state calls (after_call state first (take (count_of first) bytes))
    (drop (count_of first) bytes) n moment call (omega arith) there

-- the calls in two parts
pub count_parts : (calls : List DeviceCall) (n : ℕ) → count_all (take n calls) + count_all (drop n calls) ≡ count_all calls
count_parts calls n = sym (count_all-append (take n calls) (drop n calls)) ∙ ap count_all (take-append-drop n calls)

-- the state at a moment is one of those from then on
pub since_state : (all : List DiskState) (t : ℕ) (state : DiskState) (c : List ℕ) → slice_get all t ≡ Some state → IsImage state c
    → IsImageOfSome (drop t all) c
since_state [] t state c is image = absurd (cc)
since_state (first ∷ all) zero state c is image = let same : first ≡ state = cc in inl (subst (λ (s : DiskState). IsImage s c) (sym same) image)
since_state (first ∷ all) (suc t) state c is image = since_state all t state c is image
