-- Lemmas about histories.
use Rattle.std.proofs.Common.{◌≡◌, inl, inr, ℕ, zero, suc, ◌*◌, ◌≤◌, List, [], ◌∷◌, length, take, drop, refl, sym, ◌∙◌}
use Rattle.std.proofs.Common.{ap, subst, arith, length-drop}
use Rattle.std.proofs.lemmas.List.{length-take-le}
use Rattle.oa_disk.specs.promise.Disk.{AllBytes, DiskState, IsImage, last_state, after_call, synced, count_of}
use Rattle.oa_disk.specs.promise.Disk.{count_all, DiskHistory, contents_of, image_of, moment_of}
use Rattle.oa_disk.specs.declared.call.DeviceCall.{DeviceCall}
use Rattle.oa_disk.specs.declared.call.DeviceCall.TheVariants.{Read, Write, Sync}
use Rattle.oa_disk.specs.Replay.{IsImageOfSome, AllInside, states, during_call}
use Rattle.oa_disk.specs.History.{IsHistory, image_since_of}
use Rattle.oa_disk.specs.Overwritten.{take_bytes, drop_bytes, overwritten_bytes, length-overwritten}

pub length-states : (calls : List DeviceCall) (state : DiskState) (bytes : List ℕ)
    → length (states state calls bytes) ≡ 2 * length calls
length-states [] state bytes = refl
length-states (call ∷ calls) state bytes =
    omega (arith, length-states calls (after_call state call (take (count_of call) bytes)) (drop (count_of call) bytes))

-- the last state is one of those from any point in time on
pub counts_last : (calls : List DeviceCall) (state : DiskState) (bytes c : List ℕ) (t : ℕ) → t ≤ 2 * length calls
    → IsImage (last_state state calls bytes) c
    → IsImageOfSome (drop t (state ∷ states state calls bytes)) c
counts_last [] state bytes c zero le is = inl is
counts_last [] state bytes c (suc t) le is = absurd (omega arith)
counts_last (call ∷ calls) state bytes c zero le is =
    inr (inr (counts_last calls (after_call state call (take (count_of call) bytes)) (drop (count_of call) bytes) c zero
    (omega arith) is))
counts_last (call ∷ calls) state bytes c (suc zero) le is =
    inr (counts_last calls (after_call state call (take (count_of call) bytes)) (drop (count_of call) bytes) c zero
    (omega arith) is)
counts_last (call ∷ calls) state bytes c (suc (suc t)) le is =
    counts_last calls (after_call state call (take (count_of call) bytes)) (drop (count_of call) bytes) c t
    (omega arith) is

-- from the last point in time on there is only the last state
only_at_length : (calls : List DeviceCall) (state : DiskState) (bytes c : List ℕ)
    → IsImageOfSome (drop (length (states state calls bytes)) (state ∷ states state calls bytes)) c
    → IsImage (last_state state calls bytes) c
only_at_length [] state bytes c (inl is) = is
only_at_length [] state bytes c (inr none) = absurd none
only_at_length (call ∷ calls) state bytes c left =
    only_at_length calls (after_call state call (take (count_of call) bytes)) (drop (count_of call) bytes) c left

-- what is left since a later point in time is left since the first
since_first : (all : List DiskState) (c : List ℕ) (t : ℕ) → IsImageOfSome (drop t all) c → IsImageOfSome all c
since_first all c zero is = is
since_first [] c (suc t) is = is
since_first (state ∷ rest) c (suc t) is = inr (since_first rest c t is)

earlier : (all : List DiskState) (c : List ℕ) (s t : ℕ) → s ≤ t → IsImageOfSome (drop t all) c
    → IsImageOfSome (drop s all) c
earlier all c zero t le is = since_first all c t is
earlier all c (suc s) zero le is = absurd (omega arith)
earlier [] c (suc s) (suc t) le is = is
earlier (state ∷ rest) c (suc s) (suc t) le is = earlier rest c s t (omega arith) is

pub after_bytes : (state : DiskState) (call : DeviceCall) (more : List ℕ) → AllBytes state.contents → AllBytes more
    → AllBytes (after_call state call more).contents
after_bytes state Read more old new = old
after_bytes state (Write at count) more old new = overwritten_bytes state.contents at more old new
after_bytes state Sync more old new = old

-- calls leave bytes
pub state_bytes : (calls : List DeviceCall) (state : DiskState) (bytes : List ℕ) → AllBytes state.contents
    → AllBytes bytes → AllBytes (last_state state calls bytes).contents
state_bytes [] state bytes old new = old
state_bytes (call ∷ calls) state bytes old new =
    state_bytes calls (after_call state call (take (count_of call) bytes)) (drop (count_of call) bytes)
    (after_bytes state call (take (count_of call) bytes) old (take_bytes (count_of call) bytes new))
    (drop_bytes (count_of call) bytes new)

within_contents : (state : DiskState) (call : DeviceCall) → (during_call state call).contents ≡ state.contents
within_contents state Read = refl
within_contents state (Write at count) = refl
within_contents state Sync = refl

one_size : (state : DiskState) (call : DeviceCall) (calls : List DeviceCall) (bytes : List ℕ) (size : ℕ)
    → length state.contents ≡ size → AllInside size (call ∷ calls) → count_all (call ∷ calls) ≤ length bytes
    → length (after_call state call (take (count_of call) bytes)).contents ≡ size
one_size state Read calls bytes size is inside fits = is
one_size state (Write at n) calls bytes size is inside fits =
    let long : length (take n bytes) ≡ n = length-take-le n bytes (omega arith) in
    length-overwritten state.contents (take n bytes) at (omega (arith, long, inside 0 at n refl, is)) ∙ is
one_size state Sync calls bytes size is inside fits = is

-- calls keep the size
pub state_size : (calls : List DeviceCall) (state : DiskState) (bytes : List ℕ) (size : ℕ)
    → length state.contents ≡ size → AllInside size calls
    → count_all calls ≤ length bytes → length (last_state state calls bytes).contents ≡ size
state_size [] state bytes size is inside fits = is
state_size (call ∷ calls) state bytes size is inside fits =
    state_size calls (after_call state call (take (count_of call) bytes))
    (drop (count_of call) bytes) size (one_size state call calls bytes size is inside fits) (λ k. inside (suc k))
    (omega (arith, length-drop (count_of call) bytes))

some_size : (calls : List DeviceCall) (state : DiskState) (bytes c : List ℕ) (size : ℕ) → length state.contents ≡ size
    → AllInside size calls
    → count_all calls ≤ length bytes → IsImageOfSome (state ∷ states state calls bytes) c → length c ≡ size
some_size calls state bytes c size is inside fits (inl image) = image.size ∙ is
some_size [] state bytes c size is inside fits (inr none) = absurd none
some_size (call ∷ calls) state bytes c size is inside fits (inr (inl image)) =
    image.size ∙ ap length (within_contents state call) ∙ is
some_size (call ∷ calls) state bytes c size is inside fits (inr (inr some)) =
    some_size calls (after_call state call (take (count_of call) bytes))
    (drop (count_of call) bytes) c size (one_size state call calls bytes size is inside fits) (λ k. inside (suc k))
    (omega (arith, length-drop (count_of call) bytes)) some

module _ (size : ℕ) (h : DiskHistory) (whole : IsHistory size h) where
  pub contents_size : length (contents_of h) ≡ size
  contents_size =
      state_size h.calls (synced h.first) h.written size whole.size_of_first whole.inside
      (omega (arith, whole.count_of_all))

  pub contents_bytes : AllBytes (contents_of h)
  contents_bytes = state_bytes h.calls (synced h.first) h.written whole.bytes_of_first whole.bytes_of_all

  pub contents_is_image : image_of h (contents_of h)
  contents_is_image = record { size = refl; outside = λ i out. refl; bytes = contents_bytes }

  pub images_have_size : (c : List ℕ) → image_of h c → length c ≡ size
  images_have_size c is = is.size ∙ contents_size

  pub since_have_size : (t : ℕ) (c : List ℕ) → image_since_of h t c → length c ≡ size
  since_have_size t c left =
      some_size h.calls (synced h.first) h.written c size whole.size_of_first whole.inside
      (omega (arith, whole.count_of_all))
      (since_first (synced h.first ∷ states (synced h.first) h.calls h.written) c t left)

module _ (h : DiskHistory) where
  pub counts_now : (t : ℕ) (c : List ℕ) → t ≤ moment_of h → image_of h c → image_since_of h t c
  counts_now t c le is = counts_last h.calls (synced h.first) h.written c t le is

  pub since_falls : (s t : ℕ) (c : List ℕ) → s ≤ t → image_since_of h t c → image_since_of h s c
  since_falls s t c le left = earlier (synced h.first ∷ states (synced h.first) h.calls h.written) c s t le left

  pub only_now : (c : List ℕ) → image_since_of h (moment_of h) c → image_of h c
  only_now c left =
      only_at_length h.calls (synced h.first) h.written c
      (subst (λ (n : ℕ). IsImageOfSome (drop n (synced h.first ∷ states (synced h.first) h.calls h.written)) c)
      (sym (length-states h.calls (synced h.first) h.written)) left)

-- a disk of no bytes has only images of that size
pub no_bytes : (c : List ℕ) → c ≡ [] → length c ≡ 0
no_bytes c is = ap length is
