-- A frame that brings one whole record of a client that stands between two.
use Rattle.std.proofs.Common.{◌≡◌, ◌⊎◌, inl, inr, ◌≤◌, ◌<◌, ℕ, ◌+◌, ◌-◌, Bool, true, false, List, [], ◌∷◌, ◌++◌, length, take, drop, Some, take-take, refl}
use Rattle.std.proofs.Common.{sym, ap, ◌∙◌, subst, arith, true≢false}
use Rattle.std.specs.Prelude.{slice_range, nat_lt, if◌then◌else◌, ◌==◌}
use Rattle.std.specs.Int.{w32, from_le_bytes}
use Rattle.std.proofs.Math.Seq.{take-add}
use Rattle.std.proofs.lemmas.Bool.{cases_lt}
use Rattle.std.proofs.lemmas.List.{drop-drop, drop-take, length-drop, length-take-le}
use Rattle.oa_mux.specs.promise.Marks.{Of, tag_all}
use Rattle.oa_mux.specs.promise.Readers.{Body, Held, ClientState, said}
use Rattle.oa_mux.specs.Readers.{ClientBrings, IsWholeRecord}
use Rattle.oa_mux.specs.promise.Frames.{InHead, Within, all_clients, frame_head_of, max_frame_bytes}
use Rattle.oa_mux.specs.Shared.{Begins, BringsRecord, IsRecordFrame, frame_place}
use Rattle.oa_mux.specs.promise.Shared.{Demultiplexes, SharedState, StopsAtUnknown, reads_nothing}
use Rattle.oa_mux.specs.promise.Steps.{client_state}
use Rattle.oa_mux.specs.declared.frame.FrameHead.{FrameHead}
use Rattle.oa_mux.specs.declared.frame.FrameHead.TheVariants as head
use Rattle.oa_mux.proofs.Advances.{whole_at}
use Rattle.oa_mux.proofs.Taking.{asks_then, at_head, begins_plain, broken_asks, is_broken, place_left, stops_open, whole_asks, within_asks}

-- ---- a head of a client's bytes says that they are few
is_short : (all none long : Bool) (client n c m : ℕ)
    → (if all then (if none then head.Flush else head.Unknown) else if none then head.Last client else if long then head.Unknown else head.Bytes client n)
    ≡ head.Bytes c m → long ≡ false
is_short true true long client n c m e = cc
is_short true false long client n c m e = cc
is_short false true long client n c m e = cc
is_short false false true client n c m e = cc
is_short false false false client n c m e = refl

is_said : (all none long : Bool) (client n c m : ℕ)
    → (if all then (if none then head.Flush else head.Unknown) else if none then head.Last client else if long then head.Unknown else head.Bytes client n)
    ≡ head.Bytes c m → n ≡ m
is_said true true long client n c m e = cc
is_said true false long client n c m e = cc
is_said false true long client n c m e = cc
is_said false false true client n c m e = cc
is_said false false false client n c m e = cc

few : (n m : ℕ) → n ≡ m → nat_lt max_frame_bytes n ≡ false → (max_frame_bytes < n) ⊎ (n ≤ max_frame_bytes) → m ≤ max_frame_bytes
few n m same short (inl more) =
    let a : nat_lt max_frame_bytes n ≡ true = search (arith, more) in
    absurd (true≢false (sym a ∙ short))
few n m same short (inr less) = omega (arith, same, less)

head_short : (bytes : List ℕ) (c m : ℕ) → frame_head_of bytes ≡ head.Bytes c m → m ≤ max_frame_bytes
head_short bytes c m e =
    let client : ℕ = from_le_bytes w32 (take 4 bytes) in
    let n : ℕ = from_le_bytes w32 (drop 4 bytes) in
    few n m (is_said (client == all_clients) (n == 0) (nat_lt max_frame_bytes n) client n c m e)
    (is_short (client == all_clients) (n == 0) (nat_lt max_frame_bytes n) client n c m e) (cases_lt max_frame_bytes n)

-- ---- the frame, by what is read of it
pub is_record_frame : (bytes front rest len : List ℕ) (client count n : ℕ) → front ≡ take 8 bytes → rest ≡ drop 8 bytes → len ≡ take 4 rest
    → head.Bytes client count ≡ frame_head_of front → n ≡ from_le_bytes w32 len
    → 0 < n → count ≡ 4 + n → count ≤ length rest → length rest + 8 ≡ length bytes → IsRecordFrame bytes client (8 + count)
is_record_frame bytes front rest len client count n a b c d e some is inside all =
    let behind : 8 + count - 8 ≡ count = omega arith in
    let here : slice_range bytes 8 (8 + count) ≡ take count rest = ap (λ k. take k (drop 8 bytes)) behind ∙ ap (take count) (sym b) in
    let says : frame_head_of (take 8 bytes) ≡ head.Bytes client count = ap frame_head_of (sym a) ∙ sym d in
    let short = head_short (take 8 bytes) client count says in
    let length_said : said (take count rest) ≡ n = ap (from_le_bytes w32) (take-take 4 count rest (omega (arith, is)) ∙ sym c) ∙ sym e in
    let long = length-take-le count rest inside in
    record {
      some = omega (arith, is, some);
      within = omega (arith, inside, all);
      says = says ∙ ap (head.Bytes client) (sym behind);
      whole =
          subst IsWholeRecord (sym here) (record {
            some = omega (arith, length_said, some);
            short = omega (arith, length_said, is, short);
            all = omega (arith, long, length_said, is);
          });
    }

-- ---- what it brings
module _ (old : SharedState) (bytes : List ℕ) (client count : ℕ) (at : old.place ≡ InHead []) (between : client_state old.clients client ≡ Some (Held []))
    (f : IsRecordFrame bytes client count) where
  abbrev mid : SharedState
  mid = record { place = Within client (count - 8); clients = old.clients }

  abbrev part : List ℕ
  part = slice_range bytes 8 count

  long : length part ≡ count - 8
  long = let h = length-drop 8 bytes in let w = f.within in length-take-le (count - 8) (drop 8 bytes) (omega (arith, h, w))

  eight : length (take 8 bytes) ≡ 8
  eight = let s = f.some in let w = f.within in length-take-le 8 bytes (omega (arith, s, w))

  head_taken : Demultiplexes old (take 8 bytes) [] mid
  head_taken = whole_asks old mid mid [] (take 8 bytes) [] at (omega (arith, eight)) eight refl
      (subst (λ (h : FrameHead). Begins h mid [] mid) (sym f.says) (begins_plain (head.Bytes client (count - 8)) mid mid [] refl refl refl refl))

  record_brings : ClientBrings (client_state old.clients client) part (Body (drop 4 part) ∷ []) (client_state old.clients client)
  record_brings = let s = f.some in subst (λ z. ClientBrings z part (Body (drop 4 part) ∷ []) z) (sym between)
      (whole_at [] part (omega (arith, long, s)) f.whole)

  record_taken : Demultiplexes mid part (Of client (Body (drop 4 part)) ∷ []) old
  unfolding tag_all
  record_taken =
      let s = f.some in
      let none : count - 8 - length part ≡ 0 = omega (arith, long) in
      within_asks mid old client (count - 8) part (Body (drop 4 part) ∷ []) refl (omega (arith, long, s)) (omega (arith, long)) record_brings
      (λ other apart. refl) (at ∙ ap (place_left client) (sym none))

  body_is : drop 4 part ≡ slice_range bytes 12 count
  body_is =
      let s = f.some in
      let n : count - 8 ≡ 4 + (count - 12) = omega (arith, s) in
      ap (λ k. drop 4 (take k (drop 8 bytes))) n ∙ drop-take 4 (count - 12) (drop 8 bytes) ∙ ap (take (count - 12)) (drop-drop 4 8 bytes)

  all_is : take 8 bytes ++ part ≡ take count bytes
  all_is =
      let s = f.some in
      let n : 8 + (count - 8) ≡ count = omega (arith, s) in
      sym (take-add 8 (count - 8) bytes) ∙ ap (λ k. take k bytes) n

  pub brings_record : BringsRecord old bytes client count
  brings_record = record {
    some = f.some;
    within = f.within;
    apart = subst (λ b. Demultiplexes old (take count bytes) (Of client (Body b) ∷ []) old) body_is
        (subst (λ l. Demultiplexes old l (Of client (Body (drop 4 part)) ∷ []) old) all_is
        (asks_then old mid old (take 8 bytes) part [] (Of client (Body (drop 4 part)) ∷ []) head_taken record_taken));
  }

-- as the stream is kept
pub kept_brings : (old : SharedState) (clients : List (ℕ × ClientState)) (broken : Bool) (left number have : ℕ) (front bytes : List ℕ) (client count : ℕ)
    → record { place = frame_place broken left number have front; clients = clients } ≡ old → broken ≡ false → left ≡ 0 → have ≡ 0
    → client_state clients client ≡ Some (Held []) → IsRecordFrame bytes client count → BringsRecord old bytes client count
kept_brings old clients broken left number have front bytes client count is well none empty between f =
    brings_record old bytes client count
    (sym (ap (λ (s : SharedState). s.place) is) ∙ at_head broken left number have front well none ∙ ap (λ n. InHead (take n front)) empty)
    (ap (λ (s : SharedState). client_state s.clients client) (sym is) ∙ between) f

pub some_front : (streams : SharedState) (bytes : List ℕ) (client count : ℕ) → BringsRecord streams bytes client count → 0 < length (take count bytes)
some_front streams bytes client count b =
    let some = b.some in
    let len = length-take-le count bytes b.within in
    omega (arith, some, len)

-- behind a head that says nothing it would bring nothing
pub record_stops : (streams : SharedState) (bytes : List ℕ) (client count : ℕ) → BringsRecord streams bytes client count
    → StopsAtUnknown streams.place (take count bytes)
record_stops streams bytes client count b = by (reads_nothing streams.place) refl
  where
    by : (t : Bool) → reads_nothing streams.place ≡ t → StopsAtUnknown streams.place (take count bytes)
    by false clear = stops_open streams.place (take count bytes) (ap reads_nothing b.apart.place ∙ clear)
    by true none =
        let nothing = broken_asks streams (take count bytes) (is_broken streams.place none) in
        let one = ap length (sym nothing.brought ∙ b.apart.brought) in
        absurd (omega (arith, one))
