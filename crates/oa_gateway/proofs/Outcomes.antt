-- What becomes of a frame.
use Rattle.std.proofs.Common.{◌≡◌, ◌⊎◌, inl, inr, ◌<◌, ◌≤◌, ℕ, ◌+◌, ◌*◌, Bool, true, false, if◌then◌else◌, List, [], ◌∷◌, ◌++◌, length, take, drop, get_or}
use Rattle.std.proofs.Common.{set, refl, sym, ap, ◌∙◌, subst, arith}
use Rattle.std.specs.Prelude.{slice_range, ◌==◌}
use Rattle.std.specs.Int.{w32, from_le_bytes, to_le_bytes}
use Rattle.std.proofs.lemmas.Bool.{cases_lt}
use Rattle.std.proofs.lemmas.List.{append_assoc, drop-drop, get_or-drop, get_or-take, get_or_past, length-drop, length-take-le, set-get_or, take-append-drop}
use Rattle.std.proofs.lemmas.Nat.{le_bytes_4}
use Rattle.std.proofs.lemmas.Option.{slice_get-get_or}
use Rattle.oa_mux.specs.promise.Frames.{frame_of}
use Rattle.oa_gateway.specs.Frames.{gateway_number}
use Rattle.oa_gateway.specs.Hearing.{what_of, FirstFrame, HeardEnd, HeardReplies, Hearing, HearsAt, HearsFrame, IsNobodys, deed_of}
use Rattle.oa_gateway.specs.Places.{Deed, Dropped, Ended, Given, Hears, HearsEnd, Number, Told, Wrong, after_deed, deed_outcome, hears_own, hears_own_end}
use Rattle.oa_gateway.specs.Places.{place_number}
use Rattle.oa_gateway.specs.declared.place.Fate.{Fate}
use Rattle.oa_gateway.specs.declared.place.Fate.TheVariants as fate
use Rattle.oa_gateway.specs.declared.place.NumberState.{NumberState}
use Rattle.oa_gateway.specs.declared.place.Standing.{Standing}
use Rattle.oa_gateway.specs.declared.place.Standing.TheVariants.{Absent, Present, Ending, Over}
use Rattle.oa_gateway.specs.declared.hearing.Heard.{Heard}
use Rattle.oa_gateway.specs.declared.hearing.Heard.TheVariants as heard

-- ---- of the first frame
pub end_heard : (h : Heard) (number : ℕ) (bytes : List ℕ) (old new : List NumberState) → FirstFrame bytes number [] → (FirstFrame bytes gateway_number [] → ⊥)
    → HeardEnd h number old new → Hearing h bytes old new
end_heard heard.More number bytes old new f o h = absurd h
end_heard heard.Answered number bytes old new f o h = absurd h
end_heard (heard.Given client count) number bytes old new f o h = absurd h
end_heard (heard.Ended client) number bytes old new f o h =
    subst (λ k. HearsFrame k [] Ended bytes old new) (sym h.0) (record { first = f; heard = h.1 })
end_heard (heard.Dropped client count) number bytes old new f o h =
    ([], sym h.1, subst (λ k. HearsFrame k [] Dropped bytes old new) (sym h.0) (record { first = f; heard = h.2 }))
end_heard heard.Wrong number bytes old new f o h = (record { number = number; inside = []; first = f; nobody = inr h.0; other = o }, h.1)

deed_is : (inside : List ℕ) → 0 < length inside → Hears inside ≡ deed_of inside
deed_is [] some = absurd (omega (arith, some))
deed_is (x ∷ xs) some = refl

pub replies_heard : (h : Heard) (number : ℕ) (bytes inside : List ℕ) (places : List NumberState) → 0 < length inside → FirstFrame bytes number inside
    → (FirstFrame bytes gateway_number [] → ⊥) → HeardReplies h number inside places → Hearing h bytes places places
replies_heard heard.More number bytes inside places some f o h = absurd h
replies_heard heard.Answered number bytes inside places some f o h = absurd h
replies_heard (heard.Given client count) number bytes inside places some f o h = (
  inside,
  sym h.1,
  subst (λ k. HearsFrame k inside (Given inside) bytes places places) (sym h.0)
      (record { first = f; heard = subst (λ d. HearsAt number d (Given inside) places places) (deed_is inside some) h.2 }),
)
replies_heard (heard.Ended client) number bytes inside places some f o h = absurd h
replies_heard (heard.Dropped client count) number bytes inside places some f o h = (
  inside,
  sym h.1,
  subst (λ k. HearsFrame k inside Dropped bytes places places) (sym h.0)
      (record { first = f; heard = subst (λ d. HearsAt number d Dropped places places) (deed_is inside some) h.2 }),
)
replies_heard heard.Wrong number bytes inside places some f o h =
    (record { number = number; inside = inside; first = f; nobody = inr (subst (λ d. IsNobodys number d places) (deed_is inside some) h); other = o }, refl)

small_part : (bytes : List ℕ) (at : ℕ) → ((i : ℕ) → get_or bytes i 0 < 256) → 4 ≤ length (drop at bytes) → (i : ℕ) → get_or (take 4 (drop at bytes)) i 0 < 256
small_part bytes at small room i = by (cases_lt i 4)
  where
    by : (i < 4) ⊎ (4 ≤ i) → get_or (take 4 (drop at bytes)) i 0 < 256
    by (inl h) =
        let a = get_or-take 4 (drop at bytes) i 0 h in
        let b = get_or-drop at bytes i 0 in
        let c = small (at + i) in
        omega (arith, a, b, c)
    by (inr h) =
        let len = length-take-le 4 (drop at bytes) room in
        let a = get_or_past (take 4 (drop at bytes)) i 0 (omega (arith, len, h)) in
        omega (arith, a)

-- what four bytes can say
four_say : (a b c d n : ℕ) → a < 256 → b < 256 → c < 256 → d < 256 → n ≡ a + b * 256 + c * 65536 + d * 16777216 → n < 4294967296
four_say a b c d n one two three four is = omega arith

says_less : (bytes : List ℕ) (n : ℕ) → ((i : ℕ) → get_or bytes i 0 < 256) → n ≡ from_le_bytes w32 bytes → n < 4294967296
says_less bytes n small is = four_say _ _ _ _ n (small 0) (small 1) (small 2) (small 3) is

-- a frame that has come whole
pub frame_there : (bytes first rest second inside : List ℕ) (number count : ℕ) → ((i : ℕ) → get_or bytes i 0 < 256) → first ≡ take 4 bytes → rest ≡ drop 4 bytes
    → length rest + 4 ≡ length bytes
    → second ≡ take 4 rest → inside ≡ drop 4 rest → length inside + 4 ≡ length rest → number ≡ from_le_bytes w32 first → count ≡ from_le_bytes w32 second
    → count ≤ length inside
    → (8 + count ≤ length bytes) × FirstFrame bytes number (slice_range bytes 8 (8 + count))
frame_there bytes first rest second inside number count small a b c d e f g h room =
    let none = length-drop 0 bytes in
    let four : length (take 4 bytes) ≡ 4 = length-take-le 4 bytes (omega (arith, c)) in
    let four' : length (take 4 (drop 4 bytes)) ≡ 4 = length-take-le 4 (drop 4 bytes) (omega (arith, ap length b, c, f)) in
    let body : drop 8 bytes ≡ inside = sym (drop-drop 4 4 bytes) ∙ sym (e ∙ ap (drop 4) b) in
    let part : slice_range bytes 8 (8 + count) ≡ take count inside = ap (λ k. take k (drop 8 bytes)) (omega arith) ∙ ap (take count) body in
    let long : length (take count inside) ≡ count = length-take-le count inside room in
    let client : number < 4294967296 = says_less (take 4 bytes) number (small_part bytes 0 small (omega (arith, none, c))) (g ∙ ap (from_le_bytes w32) a) in
    let said : count < 4294967296 = says_less (take 4 (drop 4 bytes)) count (small_part bytes 4 small (omega (arith, ap length b, c, f)))
    (h ∙ ap (from_le_bytes w32) (d ∙ ap (take 4) b)) in
    let one : to_le_bytes w32 number ≡ take 4 bytes = le_bytes_4 (take 4 bytes) number four (small_part bytes 0 small (omega (arith, none, c)))
    (g ∙ ap (from_le_bytes w32) a) in
    let two : to_le_bytes w32 (length (take count inside)) ≡ take 4 (drop 4 bytes) =
    le_bytes_4 (take 4 (drop 4 bytes)) (length (take count inside)) four' (small_part bytes 4 small (omega (arith, ap length b, c, f)))
    (long ∙ h ∙ ap (from_le_bytes w32) (d ∙ ap (take 4) b)) in
    let all : bytes ≡ frame_of number (take count inside) ++ drop count inside =
    sym (take-append-drop 4 bytes)
    ∙ ap (λ l. take 4 bytes ++ l) (sym (take-append-drop 4 (drop 4 bytes))
    ∙ ap (λ l. take 4 (drop 4 bytes) ++ l) (drop-drop 4 4 bytes ∙ body ∙ sym (take-append-drop count inside)))
    ∙ sym (append_assoc (take 4 bytes) (take 4 (drop 4 bytes)) (take count inside ++ drop count inside))
    ∙ sym (append_assoc (take 4 bytes ++ take 4 (drop 4 bytes)) (take count inside) (drop count inside))
    ∙ ap (λ l. ((l ++ take 4 (drop 4 bytes)) ++ take count inside) ++ drop count inside) (sym one)
    ∙ ap (λ l. ((to_le_bytes w32 number ++ l) ++ take count inside) ++ drop count inside) (sym two) in (
      omega (arith, c, f, room),
      subst (FirstFrame bytes number) (sym part) (record { client = client; short = omega (arith, long, said); rest = drop count inside; whole = all }),
    )

-- the gateway's own end says these numbers
pub own_end_says : (bytes first rest second : List ℕ) (number count : ℕ) → first ≡ take 4 bytes → rest ≡ drop 4 bytes → second ≡ take 4 rest
    → number ≡ from_le_bytes w32 first
    → count ≡ from_le_bytes w32 second → FirstFrame bytes gateway_number [] → (number ≡ gateway_number) × (count ≡ 0)
own_end_says bytes first rest second number count a b d g h f = (
  g ∙ ap (from_le_bytes w32) (a ∙ ap (take 4) f.whole),
  h ∙ ap (from_le_bytes w32) (d ∙ ap (take 4) (b ∙ ap (drop 4) f.whole)),
)

pub is_end : (bytes : List ℕ) (number count : ℕ) → count ≡ 0 → FirstFrame bytes number (slice_range bytes 8 (8 + count)) → FirstFrame bytes number []
is_end bytes number count e f = subst (λ k. FirstFrame bytes number (slice_range bytes 8 (8 + k))) e f

-- ---- of a number
num : Standing → ℕ → Number
num s owed = record { standing = s; owed = owed }

replies_stay : (s : Standing) (owed : ℕ) (inside : List ℕ) → num s owed ≡ after_deed (num s owed) (Hears inside)
unfolding num
replies_stay Absent owed inside = refl
replies_stay Present owed inside = refl
replies_stay Ending owed inside = refl
replies_stay Over owed inside = refl

pub stays : (n : Number) (inside : List ℕ) → n ≡ after_deed n (Hears inside)
unfolding num
stays n inside = replies_stay n.standing n.owed inside

none_ended : (b : Bool) (s : Standing) (inside : List ℕ) → (if b then hears_own s inside else Dropped) ≡ Ended → ⊥
none_ended true Absent inside e = cc
none_ended true Present inside e = cc
none_ended true Ending inside e = cc
none_ended true Over inside e = cc
none_ended false s inside e = cc

pub replies_end_nothing : (n : Number) (inside : List ℕ) → deed_outcome n (Hears inside) ≡ Ended → ⊥
replies_end_nothing n inside e = none_ended (n.owed == 0) n.standing inside e

none_given : (b : Bool) (s : Standing) (inside : List ℕ) → (if b then hears_own_end s else Dropped) ≡ Given inside → ⊥
none_given true Absent inside e = cc
none_given true Present inside e = cc
none_given true Ending inside e = cc
none_given true Over inside e = cc
none_given false s inside e = cc

pub end_gives_nothing : (n : Number) (inside : List ℕ) → deed_outcome n HearsEnd ≡ Given inside → ⊥
end_gives_nothing n inside e = none_given (n.owed == 0) n.standing inside e

-- ---- at a place

pub heard_at : (places : List NumberState) (client : ℕ) (d : NumberState) (inside : List ℕ) (what : Told) → client < length places
    → deed_outcome (place_number (get_or places client d)) (Hears inside) ≡ what
    → HearsAt client (Hears inside) what places places
heard_at places client d inside what there says = record {
  place = get_or places client d;
  is = slice_get-get_or places client d there;
  says = says;
  place' = get_or places client d;
  goes = stays (place_number (get_or places client d)) inside;
  others = sym (set-get_or places client d);
}

pub nobodys : (places : List NumberState) (client : ℕ) (d : NumberState) (deed : Deed) → client < length places
    → deed_outcome (place_number (get_or places client d)) deed ≡ Wrong → IsNobodys client deed places
nobodys places client d deed there says = record { place = get_or places client d; is = slice_get-get_or places client d there; says = says }

pub replies_wrong : (f : Fate) (n : Number) (inside : List ℕ) → (f ≡ fate.Ended) ⊎ (f ≡ fate.Wrong) → deed_outcome n (Hears inside) ≡ what_of f inside
    → deed_outcome n (Hears inside) ≡ Wrong
replies_wrong f n inside (inl e) h = absurd (replies_end_nothing n inside (h ∙ ap (λ (g : Fate). what_of g inside) e))
replies_wrong f n inside (inr e) h = h ∙ ap (λ (g : Fate). what_of g inside) e

pub end_wrong : (f : Fate) (n : Number) → (f ≡ fate.Given) ⊎ (f ≡ fate.Wrong) → deed_outcome n HearsEnd ≡ what_of f [] → f ≡ fate.Wrong
end_wrong f n (inl e) h = absurd (end_gives_nothing n [] (h ∙ ap (λ (g : Fate). what_of g []) e))
end_wrong f n (inr e) h = e

pub end_nobodys : (f : Fate) (places : List NumberState) (client : ℕ) (d new : NumberState) → client < length places → (f ≡ fate.Given) ⊎ (f ≡ fate.Wrong)
    → deed_outcome (place_number (get_or places client d)) HearsEnd ≡ what_of f [] → (f ≡ fate.Wrong → new ≡ get_or places client d)
    → IsNobodys client HearsEnd places × (set places client new ≡ places)
end_nobodys f places client d new there either says same =
    let w : f ≡ fate.Wrong = end_wrong f (place_number (get_or places client d)) either says in (
      nobodys places client d HearsEnd there (says ∙ ap (λ (g : Fate). what_of g []) w),
      ap (λ (p : NumberState). set places client p) (same w) ∙ set-get_or places client d,
    )
