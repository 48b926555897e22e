-- One more call joins a history.
use Rattle.std.proofs.Common.{◌≡◌, ◌⊎◌, inl, inr, ⊎_elim, ℕ, ◌+◌, ◌*◌, ◌-◌, ◌<◌, ◌≤◌, List, [], ◌∷◌, ◌++◌, length, take, drop, get_or, refl}
use Rattle.std.proofs.Common.{sym, ◌∙◌, ap, subst, arith, length-append, length-drop}
use Rattle.std.proofs.lemmas.List.{take_all, take-append-le, drop-append-le, length-take-le, get_or-take, get_or-drop, ext_get_or}
use Rattle.std.proofs.lemmas.Bool.{cases_lt}
use Rattle.oa_disk.specs.Disk.{HasBytesAt, Reaches, Stays}
use Rattle.oa_disk.specs.promise.Disk.{Torn, Follows, AllBytes, WritesUnsynced, Syncs, Elapses, DiskState, IsImage}
use Rattle.oa_disk.specs.promise.Disk.{IsOutside, last_state, synced, after_call, count_of, count_all, overwritten}
use Rattle.oa_disk.specs.promise.Disk.{DiskHistory, disk_state, contents_of, image_of, moment_of}
use Rattle.oa_disk.specs.declared.call.DeviceCall.{DeviceCall}
use Rattle.oa_disk.specs.declared.call.DeviceCall.TheVariants.{Read, Write, Sync}
use Rattle.oa_disk.specs.Replay.{IsImageOfSome, states, during_call}
use Rattle.oa_disk.specs.History.{IsHistory, FitsDisk, with_call, image_since_of}
use Rattle.oa_disk.specs.Overwritten.{take_bytes, drop_bytes, append_bytes, overwritten_bytes, length-overwritten, overwritten_below}
use Rattle.oa_disk.specs.Overwritten.{overwritten_in, overwritten_above, overwritten_holds, overwritten_torn, torn_from}
use Rattle.oa_disk.proofs.Ranges.{Torn_refl}
use Rattle.oa_disk.specs.Replaying.{length-states, counts_last, contents_size, contents_bytes}
use Rattle.oa_disk.proofs.Calls.{OneInside, inside_push}

pub last_push : (calls : List DeviceCall) (state : DiskState) (bytes : List ℕ) (call : DeviceCall) (more : List ℕ) → count_all calls ≡ length bytes
    → count_of call ≡ length more
    → last_state state (calls ++ call ∷ []) (bytes ++ more) ≡ after_call (last_state state calls bytes) call more
last_push [] state [] call more all one = ap (λ (l : List ℕ). after_call state call l) (take_all (count_of call) more (omega (arith, one)))
last_push [] state (b ∷ bytes) call more all one = absurd (omega (arith, all))
last_push (first ∷ calls) state bytes call more all one =
    let n = count_of first in
    ap (λ (l : List ℕ). last_state (after_call state first l) (calls ++ call ∷ []) (drop n (bytes ++ more))) (take-append-le n bytes more (omega (arith, all)))
    ∙ ap (λ (l : List ℕ). last_state (after_call state first (take n bytes)) (calls ++ call ∷ []) l) (drop-append-le n bytes more (omega (arith, all)))
    ∙ last_push calls (after_call state first (take n bytes)) (drop n bytes) call more (omega (arith, all, length-drop n bytes)) one

states_push : (calls : List DeviceCall) (state : DiskState) (bytes : List ℕ) (call : DeviceCall) (more : List ℕ) → count_all calls ≡ length bytes
    → count_of call ≡ length more
    → states state (calls ++ call ∷ []) (bytes ++ more) ≡ states state calls bytes ++ during_call (last_state state calls bytes) call ∷ after_call
    (last_state state calls bytes) call more ∷ []
states_push [] state [] call more all one = ap (λ (l : List ℕ). during_call state call ∷ after_call state call l ∷ [])
    (take_all (count_of call) more (omega (arith, one)))
states_push [] state (b ∷ bytes) call more all one = absurd (omega (arith, all))
states_push (first ∷ calls) state bytes call more all one =
    let n = count_of first in
    ap (λ (l : List ℕ). during_call state first ∷ after_call state first l ∷ states (after_call state first l) (calls ++ call ∷ []) (drop n (bytes ++ more)))
    (take-append-le n bytes more (omega (arith, all)))
    ∙ ap (λ (l : List ℕ). during_call state first ∷ after_call state first (take n bytes) ∷ states (after_call state first (take n bytes))
    (calls ++ call ∷ []) l) (drop-append-le n bytes more (omega (arith, all)))
    ∙ ap (λ (l : List DiskState). during_call state first ∷ after_call state first (take n bytes) ∷ l)
    (states_push calls (after_call state first (take n bytes)) (drop n bytes) call more (omega (arith, all, length-drop n bytes)) one)

some_split : (xs ys : List DiskState) (c : List ℕ) → IsImageOfSome (xs ++ ys) c → IsImageOfSome xs c ⊎ IsImageOfSome ys c
some_split [] ys c some = inr some
some_split (x ∷ xs) ys c (inl is) = inl (inl is)
some_split (x ∷ xs) ys c (inr some) = ⊎_elim (λ left. inl (inr left)) (λ right. inr right) (some_split xs ys c some)

some_left : (xs ys : List DiskState) (c : List ℕ) → IsImageOfSome xs c → IsImageOfSome (xs ++ ys) c
some_left [] ys c none = absurd none
some_left (x ∷ xs) ys c (inl is) = inl is
some_left (x ∷ xs) ys c (inr some) = inr (some_left xs ys c some)

-- facts on a call that fits
count_of_is : (size : ℕ) (call : DeviceCall) (more : List ℕ) → FitsDisk size call more → count_of call ≡ length more
count_of_is size Read more fits = sym (ap length fits)
count_of_is size (Write at count) more fits = fits.0
count_of_is size Sync more fits = sym (ap length fits)

no_bytes : AllBytes []
no_bytes i = omega arith

bytes_are : (size : ℕ) (call : DeviceCall) (more : List ℕ) → FitsDisk size call more → AllBytes more
bytes_are size Read more fits = subst AllBytes (sym fits) no_bytes
bytes_are size (Write at count) more fits = fits.2
bytes_are size Sync more fits = subst AllBytes (sym fits) no_bytes

is_inside : (size : ℕ) (call : DeviceCall) (more : List ℕ) → FitsDisk size call more → OneInside size call
is_inside size Read more fits = tt
is_inside size (Write at count) more fits = fits.1
is_inside size Sync more fits = tt

-- the write's range takes any bytes, so the new contents serve as well as the old
written_image : (state : DiskState) (at count : ℕ) (more c : List ℕ) → count ≡ length more → at + length more ≤ length state.contents
    → IsImage (during_call state (Write at count)) c → IsImage (after_call state (Write at count) more) c
written_image state at count more c same inside is = record {
  size = is.size ∙ sym (length-overwritten state.contents more at inside);
  outside = λ i out. is.outside i out
      ∙ sym (⊎_elim (overwritten_below state.contents more at inside i) (λ le. overwritten_above state.contents more at inside i (omega arith)) out.0);
  bytes = is.bytes;
}

in_call : (size : ℕ) (state : DiskState) (call : DeviceCall) (more c : List ℕ) → length state.contents ≡ size → FitsDisk size call more
    → IsImage (during_call state call) c → IsImage state c ⊎ IsImage (after_call state call more) c
in_call size state Read more c long fits is = inl is
in_call size state (Write at count) more c long fits is = inr (written_image state at count more c fits.0 (omega (arith, fits.0, fits.1, long)) is)
in_call size state Sync more c long fits is = inl is

count_push : (before : List DeviceCall) (call : DeviceCall) → count_all (before ++ call ∷ []) ≡ count_all before + count_of call
count_push [] call = omega arith
count_push (c ∷ before) call = omega (arith, count_push before call)

module _ (size : ℕ) (h : DiskHistory) (whole : IsHistory size h) (call : DeviceCall) (more : List ℕ) (fits : FitsDisk size call more) where
  one : count_of call ≡ length more
  one = count_of_is size call more fits

  joined : disk_state (with_call h call more) ≡ after_call (disk_state h) call more
  joined = last_push h.calls (synced h.first) h.written call more whole.count_of_all one

  all_states : (t : ℕ) → t ≤ 2 * length h.calls
      → drop t (synced h.first ∷ states (synced h.first) (h.calls ++ call ∷ []) (h.written ++ more))
      ≡ drop t (synced h.first ∷ states (synced h.first) h.calls h.written) ++ (during_call (disk_state h) call ∷ after_call (disk_state h) call more ∷ [])
  all_states t le =
      ap (λ (l : List DiskState). drop t (synced h.first ∷ l)) (states_push h.calls (synced h.first) h.written call more whole.count_of_all one)
      ∙ drop-append-le t (synced h.first ∷ states (synced h.first) h.calls h.written)
      (during_call (disk_state h) call ∷ after_call (disk_state h) call more ∷ []) (omega (arith, length-states h.calls (synced h.first) h.written))

  new_or_past : (t : ℕ) (c : List ℕ) → t ≤ 2 * length h.calls
      → IsImageOfSome (during_call (disk_state h) call ∷ after_call (disk_state h) call more ∷ []) c
      → image_since_of h t c ⊎ IsImage (after_call (disk_state h) call more) c
  new_or_past t c le (inl is) = ⊎_elim (λ past. inl (counts_last h.calls (synced h.first) h.written c t le past)) (λ now. inr now)
      (in_call size (disk_state h) call more c (contents_size size h whole) fits is)
  new_or_past t c le (inr (inl is)) = inr is
  new_or_past t c le (inr (inr none)) = absurd none

  elapses : Elapses (moment_of h) (moment_of (with_call h call more)) (image_since_of h) (image_since_of (with_call h call more))
      (image_of (with_call h call more))
  elapses = record {
    later = omega (arith, length-append h.calls (call ∷ []));
    soon = omega (arith, length-append h.calls (call ∷ []));
    nothing_else = λ t c le since. ⊎_elim (λ past. inl past)
        (λ new. ⊎_elim (λ past. inl past) (λ now. inr (subst (λ (s : DiskState). IsImage s c) (sym joined) now)) (new_or_past t c le new))
        (some_split (drop t (synced h.first ∷ states (synced h.first) h.calls h.written))
        (during_call (disk_state h) call ∷ after_call (disk_state h) call more ∷ []) c
        (subst (λ (l : List DiskState). IsImageOfSome l c) (all_states t le) since));
    keeps = λ t c le past. subst (λ (l : List DiskState). IsImageOfSome l c) (sym (all_states t le))
        (some_left (drop t (synced h.first ∷ states (synced h.first) h.calls h.written))
        (during_call (disk_state h) call ∷ after_call (disk_state h) call more ∷ []) c past);
  }

  still_whole : IsHistory size (with_call h call more)
  still_whole = record {
    bytes_of_first = whole.bytes_of_first;
    size_of_first = whole.size_of_first;
    bytes_of_all = append_bytes h.written more whole.bytes_of_all (bytes_are size call more fits);
    count_of_all = omega (arith, count_push h.calls call, whole.count_of_all, one, length-append h.written more);
    inside = inside_push size h.calls call whole.inside (is_inside size call more fits);
  }

  module _ (new : DiskHistory) (is : new ≡ with_call h call more) where
    pub state_is : disk_state new ≡ after_call (disk_state h) call more
    state_is = ap (λ (x : DiskHistory). disk_state x) is ∙ joined

    -- time goes on by one call
    pub time_is : Elapses (moment_of h) (moment_of new) (image_since_of h) (image_since_of new) (image_of new)
    time_is = subst (λ (x : DiskHistory). Elapses (moment_of h) (moment_of x) (image_since_of h) (image_since_of x) (image_of x)) (sym is) elapses

    pub whole_is : IsHistory size new
    whole_is = subst (λ (x : DiskHistory). IsHistory size x) (sym is) still_whole

-- no call was made
module _ (size : ℕ) (h new : DiskHistory) (is : new ≡ h) where
  pub same_whole : IsHistory size h → IsHistory size new
  same_whole whole = subst (λ (x : DiskHistory). IsHistory size x) (sym is) whole

  pub same_stays : Stays (contents_of h) (contents_of new) (image_of h) (image_of new)
  same_stays = record {
    contents = ap (λ (x : DiskHistory). contents_of x) is;
    images = λ c left. subst (λ (x : DiskHistory). image_of x c) is left;
    stay = λ c left. subst (λ (x : DiskHistory). image_of x c) (sym is) left;
  }

  pub same_writes : (at n : ℕ) → WritesUnsynced at n (contents_of h) (contents_of new) (image_of h) (image_of new)
  same_writes at n = record {
    others = subst (λ (x : DiskHistory). Torn at n (contents_of h) (contents_of x)) (sym is) (Torn_refl at n (contents_of h));
    images = λ c left. (c, subst (λ (x : DiskHistory). image_of x c) is left, Torn_refl at n c);
    stay = λ c left. subst (λ (x : DiskHistory). image_of x c) (sym is) left;
  }

  pub same_time : Elapses (moment_of h) (moment_of new) (image_since_of h) (image_since_of new) (image_of new)
  same_time = record {
    later = omega (arith, ap (λ (x : DiskHistory). moment_of x) is);
    soon = omega (arith, ap (λ (x : DiskHistory). moment_of x) is);
    nothing_else = λ t c le left. inl (subst (λ (x : DiskHistory). image_since_of x t c) is left);
    keeps = λ t c le left. subst (λ (x : DiskHistory). image_since_of x t c) (sym is) left;
  }

-- each image after a write is an image before it, with any bytes in the range
write_follows : (state : DiskState) (at count : ℕ) (more : List ℕ) → AllBytes state.contents → count ≡ length more
    → at + length more ≤ length state.contents
    → Follows (Torn at (length more)) (IsImage state) (IsImage (after_call state (Write at count) more))
write_follows state at count more all same inside c is =
    (older, older_is, subst (λ (n : ℕ). Torn at n older c) length_old (torn_from c old_bytes at fits_c is.bytes))
  where
    size_is : length c ≡ length state.contents
    size_is = is.size ∙ length-overwritten state.contents more at inside

    old_bytes : List ℕ
    old_bytes = take (length more) (drop at state.contents)

    older : List ℕ
    older = overwritten c at (take (length more) (drop at state.contents))

    length_old : length (take (length more) (drop at state.contents)) ≡ length more
    length_old = length-take-le (length more) (drop at state.contents) (omega (arith, length-drop at state.contents))

    fits_c : at + length (take (length more) (drop at state.contents)) ≤ length c
    fits_c = omega (arith, length_old, size_is)

    at_each : (i : ℕ) → IsOutside state.pending i → (i < at) ⊎ (at ≤ i) → (i < at + count) ⊎ (at + count ≤ i)
        → get_or (overwritten c at (take (length more) (drop at state.contents))) i 0 ≡ get_or state.contents i 0
    at_each i out (inl lt) other =
        overwritten_below c (take (length more) (drop at state.contents)) at fits_c i lt ∙ is.outside i (inl lt, out)
        ∙ overwritten_below state.contents more at inside i lt
    at_each i out (inr le) (inr past) =
        overwritten_above c (take (length more) (drop at state.contents)) at fits_c i (omega (arith, length_old)) ∙ is.outside i (inr past, out)
        ∙ overwritten_above state.contents more at inside i (omega arith)
    at_each i out (inr le) (inl here) =
        let k = i - at in
        let place : at + (i - at) ≡ i = omega arith in
        let low : i - at < length more = omega arith in
        ap (λ (j : ℕ). get_or (overwritten c at (take (length more) (drop at state.contents))) j 0) (sym place)
        ∙ overwritten_in c (take (length more) (drop at state.contents)) at fits_c (i - at) (omega (arith, length_old))
        ∙ get_or-take (length more) (drop at state.contents) (i - at) 0 low
        ∙ get_or-drop at state.contents (i - at) 0
        ∙ ap (λ (j : ℕ). get_or state.contents j 0) place

    older_is : IsImage state (overwritten c at (take (length more) (drop at state.contents)))
    older_is = record {
      size = length-overwritten c (take (length more) (drop at state.contents)) at fits_c ∙ size_is;
      outside = λ i out. at_each i out (cases_lt i at) (cases_lt i (at + count));
      bytes = overwritten_bytes c at (take (length more) (drop at state.contents)) is.bytes
          (take_bytes (length more) (drop at state.contents) (drop_bytes at state.contents all));
    }

-- any bytes in the range of a write are left by an image after it
write_reaches : (state : DiskState) (at count : ℕ) (more : List ℕ) → count ≡ length more → at + length more ≤ length state.contents
    → Reaches (Torn at (length more)) (IsImage state) (IsImage (after_call state (Write at count) more))
write_reaches state at count more same inside d c was torn = record {
  size = torn.size ∙ was.size ∙ sym (length-overwritten state.contents more at inside);
  outside = λ i out. ⊎_elim
      (λ lt. torn.below i lt ∙ was.outside i out.1 ∙ sym (overwritten_below state.contents more at inside i lt))
      (λ le. torn.above i (omega arith) ∙ was.outside i out.1 ∙ sym (overwritten_above state.contents more at inside i (omega arith)))
      out.0;
  bytes = λ i. ⊎_elim (λ unchanged. omega (arith, unchanged, was.bytes i)) (λ lt. lt) (torn.bytes i);
}

-- an image before a write is one after it
write_stays : (state : DiskState) (at count : ℕ) (more c : List ℕ) → count ≡ length more → at + length more ≤ length state.contents
    → IsImage state c → IsImage (after_call state (Write at count) more) c
write_stays state at count more c same inside was = write_reaches state at count more same inside c c was (Torn_refl at (length more) c)

-- a sync drops what is pending
synced_image : (state : DiskState) (c : List ℕ) → IsImage (after_call state Sync []) c → IsImage state c
synced_image state c is = record { size = is.size; outside = λ i out. is.outside i tt; bytes = is.bytes }

module _ (size : ℕ) (h : DiskHistory) (whole : IsHistory size h) (new : DiskHistory) where
  pub read_stays : new ≡ with_call h Read [] → Stays (contents_of h) (contents_of new) (image_of h) (image_of new)
  read_stays is = let now = state_is size h whole Read [] refl new is in record {
    contents = ap (λ (s : DiskState). s.contents) now;
    images = λ c left. subst (λ (s : DiskState). IsImage s c) now left;
    stay = λ c left. subst (λ (s : DiskState). IsImage s c) (sym now) left;
  }

  pub sync_syncs : new ≡ with_call h Sync [] → Syncs (contents_of h) (contents_of new) (image_of new)
  sync_syncs is = let now = state_is size h whole Sync [] refl new is in record {
    contents = ap (λ (s : DiskState). s.contents) now;
    durable = λ c left. let image = subst (λ (s : DiskState). IsImage s c) now left in ext_get_or 0 c (contents_of h) image.size (λ i lt. image.outside i tt);
  }

  pub sync_images : new ≡ with_call h Sync [] → (c : List ℕ) → image_of new c → image_of h c
  sync_images is c left = synced_image (disk_state h) c (subst (λ (s : DiskState). IsImage s c) (state_is size h whole Sync [] refl new is) left)

  module _ (at : ℕ) (bytes : List ℕ) (fits : at + length bytes ≤ size) (all : AllBytes bytes)
      (is : new ≡ with_call h (Write at (length bytes)) bytes) where
    now : disk_state new ≡ after_call (disk_state h) (Write at (length bytes)) bytes
    now = state_is size h whole (Write at (length bytes)) bytes (refl, fits, all) new is

    inside : at + length bytes ≤ length (contents_of h)
    inside = omega (arith, fits, contents_size size h whole)

    contents_are : contents_of new ≡ overwritten (contents_of h) at bytes
    contents_are = ap (λ (s : DiskState). s.contents) now

    pub write_holds : HasBytesAt (contents_of new) at bytes
    write_holds = subst (λ (l : List ℕ). HasBytesAt l at bytes) (sym contents_are) (overwritten_holds (contents_of h) bytes at inside)

    pub write_writes : WritesUnsynced at (length bytes) (contents_of h) (contents_of new) (image_of h) (image_of new)
    write_writes = record {
      others = subst (λ (l : List ℕ). Torn at (length bytes) (contents_of h) l) (sym contents_are) (overwritten_torn (contents_of h) bytes at inside all);
      images = λ c left. write_follows (disk_state h) at (length bytes) bytes (contents_bytes size h whole) refl inside c
          (subst (λ (s : DiskState). IsImage s c) now left);
      stay = λ c was. subst (λ (s : DiskState). IsImage s c) (sym now) (write_stays (disk_state h) at (length bytes) bytes c refl inside was);
    }

    pub write_all : Reaches (Torn at (length bytes)) (image_of h) (image_of new)
    write_all d c was torn = subst (λ (s : DiskState). IsImage s c) (sym now) (write_reaches (disk_state h) at (length bytes) bytes refl inside d c was torn)
