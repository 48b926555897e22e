-- What a tear leaves is an image of that moment.
use Rattle.std.proofs.Common.{inl, inr, ◌≡◌, ℕ, suc, ◌+◌, ◌*◌, ◌-◌, ◌/◌, ◌<◌, ◌≤◌, List, [], ◌∷◌, ◌++◌, length, take, drop, get_or}
use Rattle.std.proofs.Common.{replicate, Some, slice_get, refl, sym, ◌∙◌, ap, subst, arith, length-drop, length-take}
use Rattle.std.proofs.lemmas.Bool.{cases_eq}
use Rattle.std.proofs.lemmas.List.{length-replicate, length-take-le, take-append-drop, drop-take, take-take, take_more, get_or-drop}
use Rattle.oa_disk.specs.promise.Disk.{AllBytes, DiskState, IsImage, after_call, last_state, synced, contents_after}
use Rattle.oa_disk.specs.promise.Disk.{overwritten, count_all, torn, tear_behind, torn_all, IsTorn}
use Rattle.oa_disk.specs.declared.call.DeviceCall.{DeviceCall}
use Rattle.oa_disk.specs.declared.call.DeviceCall.TheVariants.{Read, Write, Sync}
use Rattle.oa_disk.specs.declared.crash.Tear.{Tear}
use Rattle.oa_disk.specs.declared.crash.Tear.TheVariants.{Lost, Kept, Filled, Cut}
use Rattle.oa_disk.specs.Overwritten.{length-overwritten, overwritten_below, overwritten_above}
use Rattle.oa_disk.specs.Replay.{AllInside, during_call, states}
use Rattle.oa_disk.specs.Replaying.{state_size}
use Rattle.oa_disk.proofs.Calls.{AgreesOutsidePending, Keeps, last_state-append, torn_within, torn_after, even_state, odd_state}
use Rattle.oa_disk.proofs.Calls.{NoSync, no_sync_drop, inside_drop}
use Rattle.oa_disk.proofs.Calls.{inside_take, count_parts}
use Rattle.oa_disk.proofs.Steps.{get_at}

overwritten_keeps : (disk bytes : List ℕ) (at n : ℕ) → length bytes ≤ n → at + n ≤ length disk → Keeps at n disk (overwritten disk at bytes)
overwritten_keeps disk bytes at n le inside = record {
  size = length-overwritten disk bytes at (omega arith);
  below = λ i lt. overwritten_below disk bytes at (omega arith) i lt;
  above = λ i past. overwritten_above disk bytes at (omega arith) i (omega arith);
}

-- one write tears its range alone
range_torn : (tear : Tear) (disk : List ℕ) (at n : ℕ) (bytes : List ℕ) → length bytes ≡ n → at + n ≤ length disk
    → Keeps at n disk (torn tear disk at bytes)
range_torn Lost disk at n bytes is inside = record { size = refl; below = λ i lt. refl; above = λ i le. refl }
range_torn Kept disk at n bytes is inside = overwritten_keeps disk bytes at n (omega (arith, is)) inside
range_torn (Filled byte) disk at n bytes is inside = overwritten_keeps disk (replicate (length bytes) byte) at n
    (omega (arith, length-replicate (length bytes) byte, is)) inside
range_torn (Cut m) disk at n bytes is inside = overwritten_keeps disk (take m bytes) at n (omega (arith, length-take m bytes, is)) inside

inside_of : (disk new : List ℕ) (call : DeviceCall) (calls : List DeviceCall) → length new ≡ length disk → AllInside (length disk) (call ∷ calls)
    → AllInside (length new) calls
inside_of disk new call calls same all k at count is = omega (arith, all (suc k) at count is, same)

-- the calls that have ended, none of them a sync
pub ended_image : (tear : Tear) (calls : List DeviceCall) (s : DiskState) (disk written : List ℕ) → AllInside (length disk) calls → NoSync calls
    → count_all calls ≤ length written
    → AgreesOutsidePending s disk → AgreesOutsidePending (last_state s calls written) (torn_all tear disk calls written)
ended_image tear [] s disk written inside none fits is = is
ended_image tear (Read ∷ calls) s disk written inside none fits is = ended_image (tear_behind tear 0) calls s disk (drop 0 written) (λ k. inside (suc k))
    (λ k. none (suc k)) (omega arith) is
ended_image tear (Sync ∷ calls) s disk written inside none fits is = absurd (none 0 refl)
ended_image tear (Write at n ∷ calls) s disk written inside none fits is =
    let long : length (take n written) ≡ n = length-take-le n written (omega arith) in
    let here = range_torn tear disk at n (take n written) long (inside 0 at n refl) in
    ended_image (tear_behind tear n) calls (after_call s (Write at n) (take n written)) (torn tear disk at (take n written)) (drop n written)
    (inside_of disk (torn tear disk at (take n written)) (Write at n) calls here.size inside) (λ k. none (suc k)) (omega (arith, length-drop n written))
    (torn_after s at n (take n written) disk (torn tear disk at (take n written)) (sym long) (inside 0 at n refl) here is)

-- and one that has only begun
pub begun_image : (tear : Tear) (calls : List DeviceCall) (last : DeviceCall) (s : DiskState) (disk written : List ℕ)
    → AllInside (length disk) (calls ++ last ∷ []) → NoSync calls → count_all (calls ++ last ∷ []) ≤ length written
    → AgreesOutsidePending s disk → AgreesOutsidePending (during_call (last_state s calls written) last)
    (torn_all tear disk (calls ++ last ∷ []) written)
begun_image tear [] Read s disk written inside none fits is = is
begun_image tear [] Sync s disk written inside none fits is = is
begun_image tear [] (Write at n) s disk written inside none fits is =
    torn_within s at n disk (torn tear disk at (take n written))
    (range_torn tear disk at n (take n written) (length-take-le n written (omega arith)) (inside 0 at n refl)) is
begun_image tear (Read ∷ calls) last s disk written inside none fits is = begun_image (tear_behind tear 0) calls last s disk (drop 0 written)
    (λ k. inside (suc k)) (λ k. none (suc k)) (omega arith) is
begun_image tear (Sync ∷ calls) last s disk written inside none fits is = absurd (none 0 refl)
begun_image tear (Write at n ∷ calls) last s disk written inside none fits is =
    let long : length (take n written) ≡ n = length-take-le n written (omega arith) in
    let here = range_torn tear disk at n (take n written) long (inside 0 at n refl) in
    begun_image (tear_behind tear n) calls last (after_call s (Write at n) (take n written)) (torn tear disk at (take n written)) (drop n written)
    (inside_of disk (torn tear disk at (take n written)) (Write at n) (calls ++ last ∷ []) here.size inside) (λ k. none (suc k))
    (omega (arith, length-drop n written))
    (torn_after s at n (take n written) disk (torn tear disk at (take n written)) (sym long) (inside 0 at n refl) here is)

module _ (tear : Tear) (first : List ℕ) (calls : List DeviceCall) (written : List ℕ) (moment : ℕ) (image : List ℕ)
    (among : moment ≤ 2 * length calls) (inside : AllInside (length first) calls) (fits : count_all calls ≤ length written)
    (is : IsTorn tear first calls written moment image) (all : AllBytes image) where
  low : is.synced ≤ moment / 2
  low = omega (arith, is.last.among, length-take (moment / 2) calls)

  front : take (moment / 2) calls ≡ take is.synced calls ++ take (moment / 2 - is.synced) (drop is.synced calls)
  front =
      let sum : is.synced + (moment / 2 - is.synced) ≡ moment / 2 = omega (arith, low) in
      sym (take-append-drop is.synced (take (moment / 2) calls))
      ∙ ap (λ (l : List DeviceCall). l ++ drop is.synced (take (moment / 2) calls)) (take-take is.synced (moment / 2) calls low)
      ∙ ap (λ (k : ℕ). take is.synced calls ++ drop is.synced (take k calls)) (sym sum)
      ∙ ap (λ (l : List DeviceCall). take is.synced calls ++ l) (drop-take is.synced (moment / 2 - is.synced) calls)

  no_sync : NoSync (take (moment / 2 - is.synced) (drop is.synced calls))
  no_sync =
      let sum : is.synced + (moment / 2 - is.synced) ≡ moment / 2 = omega (arith, low) in
      subst (λ (l : List DeviceCall). NoSync l) (ap (λ (k : ℕ). drop is.synced (take k calls)) (sym sum) ∙ drop-take is.synced (moment / 2 - is.synced) calls)
      (no_sync_drop (take (moment / 2) calls) is.synced is.last.none_later)

  base_size : length (contents_after first (take is.synced calls) written) ≡ length first
  base_size = state_size (take is.synced calls) (synced first) written (length first) refl (inside_take (length first) calls is.synced inside)
      (omega (arith, count_parts calls is.synced))

  inside_rest : AllInside (length (contents_after first (take is.synced calls) written)) (drop is.synced calls)
  inside_rest = subst (λ (k : ℕ). AllInside k (drop is.synced calls)) (sym base_size) (inside_drop (length first) calls is.synced inside)

  base_image : AgreesOutsidePending (last_state (synced first) (take is.synced calls) written) (contents_after first (take is.synced calls) written)
  base_image = record { size = refl; outside = λ i out. refl }

  with_bytes : (state : DiskState) → AgreesOutsidePending state image → IsImage state image
  with_bytes state lies = record { size = lies.size; outside = lies.outside; bytes = all }

  state_is : last_state (last_state (synced first) (take is.synced calls) written) (take (moment / 2 - is.synced) (drop is.synced calls))
      (drop (count_all (take is.synced calls)) written) ≡ last_state (synced first) (take (moment / 2) calls) written
  state_is =
      sym (ap (λ (l : List DeviceCall). last_state (synced first) l written) front
      ∙ last_state-append (take is.synced calls) (take (moment / 2 - is.synced) (drop is.synced calls)) (synced first) written)

  fits_rest : count_all (drop is.synced calls) ≤ length (drop (count_all (take is.synced calls)) written)
  fits_rest = omega (arith, count_parts calls is.synced, fits, length-drop (count_all (take is.synced calls)) written)

  even : moment ≡ 2 * (moment / 2) → (state : DiskState) × (slice_get (synced first ∷ states (synced first) calls written) moment ≡ Some state)
      × IsImage state image
  even e =
      let same : (moment + 1) / 2 ≡ moment / 2 = omega (arith, e) in
      let torn_is = is.torn
      ∙ ap (λ (k : ℕ). torn_all tear (contents_after first (take is.synced calls) written) (take (k - is.synced) (drop is.synced calls))
      (drop (count_all (take is.synced calls)) written)) same in
      let made = ended_image tear (take (moment / 2 - is.synced) (drop is.synced calls)) (last_state (synced first) (take is.synced calls) written)
      (contents_after first (take is.synced calls) written) (drop (count_all (take is.synced calls)) written)
      (inside_take (length (contents_after first (take is.synced calls) written)) (drop is.synced calls) (moment / 2 - is.synced) inside_rest) no_sync
      (omega (arith, fits_rest, count_parts (drop is.synced calls) (moment / 2 - is.synced))) base_image in (
        last_state (synced first) (take (moment / 2) calls) written,
        even_state calls (synced first) written (moment / 2) moment e (omega (arith, among)),
        with_bytes (last_state (synced first) (take (moment / 2) calls) written)
            (subst (λ (c : List ℕ). AgreesOutsidePending (last_state (synced first) (take (moment / 2) calls) written) c) (sym torn_is)
            (subst (λ (s : DiskState). AgreesOutsidePending s
            (torn_all tear (contents_after first (take is.synced calls) written) (take (moment / 2 - is.synced) (drop is.synced calls))
            (drop (count_all (take is.synced calls)) written))) state_is made)),
      )

  odd : moment ≡ 2 * (moment / 2) + 1 → (state : DiskState)
      × (slice_get (synced first ∷ states (synced first) calls written) moment ≡ Some state) × IsImage state image
  odd o =
      let call = get_or calls (moment / 2) Read in
      let more = moment / 2 - is.synced in
      let behind = drop is.synced calls in
      let w = drop (count_all (take is.synced calls)) written in
      let lt : moment / 2 < length calls = omega (arith, o, among) in
      let place : is.synced + (moment / 2 - is.synced) ≡ moment / 2 = omega (arith, low) in
      let here : get_or (drop is.synced calls) (moment / 2 - is.synced) Read ≡ get_or calls (moment / 2) Read =
      get_or-drop is.synced calls (moment / 2 - is.synced) Read ∙ ap (λ (k : ℕ). get_or calls k Read) place in
      let next : (moment + 1) / 2 - is.synced ≡ moment / 2 - is.synced + 1 = omega (arith, o, low) in
      let begun : take ((moment + 1) / 2 - is.synced) (drop is.synced calls) ≡ take (moment / 2 - is.synced) (drop is.synced calls) ++ get_or calls
      (moment / 2) Read ∷ [] =
      ap (λ (k : ℕ). take k (drop is.synced calls)) next ∙ take_more (drop is.synced calls) (moment / 2 - is.synced) Read
      (omega (arith, length-drop is.synced calls, lt, low))
      ∙ ap (λ (c : DeviceCall). take (moment / 2 - is.synced) (drop is.synced calls) ++ c ∷ []) here in
      let torn_is = is.torn
      ∙ ap (λ (l : List DeviceCall). torn_all tear (contents_after first (take is.synced calls) written) l (drop (count_all (take is.synced calls)) written))
      begun in
      let inside_begun = subst (λ (l : List DeviceCall). AllInside (length (contents_after first (take is.synced calls) written)) l) begun
      (inside_take (length (contents_after first (take is.synced calls) written)) (drop is.synced calls) ((moment + 1) / 2 - is.synced) inside_rest) in
      let fits_begun : count_all (take (moment / 2 - is.synced) (drop is.synced calls) ++ get_or calls (moment / 2) Read ∷ []) ≤ length
      (drop (count_all (take is.synced calls)) written) =
      omega (arith, fits_rest, count_parts (drop is.synced calls) ((moment + 1) / 2 - is.synced), ap count_all begun) in
      let made = begun_image tear (take (moment / 2 - is.synced) (drop is.synced calls)) call (last_state (synced first) (take is.synced calls) written)
      (contents_after first (take is.synced calls) written) w inside_begun no_sync fits_begun base_image in
      let image_is = torn_all tear (contents_after first (take is.synced calls) written)
      (take (moment / 2 - is.synced) (drop is.synced calls) ++ get_or calls (moment / 2) Read ∷ []) (drop (count_all (take is.synced calls)) written) in (
        during_call (last_state (synced first) (take (moment / 2) calls) written) (get_or calls (moment / 2) Read),
        odd_state calls (synced first) written (moment / 2) moment (get_or calls (moment / 2) Read) o
            (get_at calls (moment / 2) (get_or calls (moment / 2) Read) lt refl),
        with_bytes (during_call (last_state (synced first) (take (moment / 2) calls) written) (get_or calls (moment / 2) Read))
            (subst (λ (c : List ℕ). AgreesOutsidePending
            (during_call (last_state (synced first) (take (moment / 2) calls) written) (get_or calls (moment / 2) Read)) c) (sym torn_is)
            (subst (λ (s : DiskState). AgreesOutsidePending (during_call s (get_or calls (moment / 2) Read)) image_is) state_is made)),
      )

  -- the image of that moment
  pub torn_at : (state : DiskState) × (slice_get (synced first ∷ states (synced first) calls written) moment ≡ Some state) × IsImage state image
  torn_at = elim (cases_eq moment (2 * (moment / 2))) [ inl e ↦ even e | inr other ↦ odd (omega (arith, other)) ]
