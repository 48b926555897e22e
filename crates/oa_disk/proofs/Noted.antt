-- A record with one call more.
use Rattle.std.proofs.Common.{◌≡◌, ◌⊎◌, ℕ, zero, suc, ◌+◌, ◌%◌, ◌≤◌, ◌&&◌, Bool, true, false, true≢false, IsTrue, Result, Ok, Err, OnOk}
use Rattle.std.proofs.Common.{OnErr, MatchResult, inl, inr, List, [], ◌∷◌, map, length, take, drop, get_or, refl, sym, ◌∙◌, ap, subst}
use Rattle.std.proofs.Common.{arith, length-drop}
use Rattle.std.proofs.lemmas.Bool.{and_parts}
use Rattle.std.proofs.lemmas.Slice.Eq.{bytes_eq-Decides}
use Rattle.std.proofs.lemmas.List.{get_or-take, get_or-drop, length-take-le, ext_get_or}
use Rattle.std.proofs.lemmas.List.FromFn.{length-map-range_with_len}
use Rattle.std.proofs.lemmas.Nat.{mod_below}
use Rattle.std.specs.List.{range_with_len}
use Rattle.oa_disk.specs.Disk.{HasBytesAt}
use Rattle.oa_disk.specs.promise.Disk.{AllBytes, Only, contents_of, image_of, IsImage, synced}
use Rattle.oa_disk.specs.History.{IsHistory}
use Rattle.oa_disk.specs.declared.call.DeviceCall.TheVariants.{Read}
use Rattle.oa_disk.specs.declared.record.Record.{Record}
use Rattle.oa_disk.specs.Record.{noted, beginning, file_bytes, recorded_history}
use Rattle.oa_disk.specs.Replay.{AllInside, agrees}

-- the parts of what a call has noted
module _ {E : Type 0} where
  pub at_ok : (A : Type 0) (B : E → Type 0) (r : Result (Unit {0}) E) → MatchResult r (λ _. A) B → OnOk r A
  at_ok A B (Ok x) a = a
  at_ok A B (Err e) b = tt

  pub at_err : (A C : Type 0) (B : E → Type 0) (r : Result (Unit {0}) E) → ((e : E) → B e → C) → MatchResult r (λ _. A) B → OnErr r C
  at_err A C B (Ok x) from a = tt
  at_err A C B (Err e) from b = from e b

  pub at_either : (A : Type 0) (B : E → Type 0) (r : Result (Unit {0}) E) → MatchResult r (λ _. A) B → A ⊎ ((e : E) × B e)
  at_either A B (Ok x) a = inl a
  at_either A B (Err e) b = inr (e, b)

  -- what holds in either case
  pub on_ok : {A : Type 0} (r : Result (Unit {0}) E) → A → OnOk r A
  on_ok (Ok x) a = a
  on_ok (Err e) a = tt

  -- a read has given some bytes
  pub some_read : (C : E → Type 0) (r : Result (Unit {0}) E) (old new : Record) (at : ℕ) (bytes : List ℕ)
      → MatchResult r (λ _. new ≡ noted old Read [] at bytes) (λ e. (new ≡ noted old Read [] at []) × C e)
      → (given : List ℕ) × (new ≡ noted old Read [] at given)
  some_read C (Ok x) old new at bytes is = (bytes, is)
  some_read C (Err e) old new at bytes is = ([], is.0)

-- a disk agrees with no bytes
pub agrees_none : (disk : List ℕ) (at : ℕ) (b : Bool) → (b && agrees disk at []) ≡ b
unfolding agrees
agrees_none disk at true = refl
agrees_none disk at false = refl

agrees_same : (disk : List ℕ) (at : ℕ) (bytes : List ℕ) → IsTrue (agrees disk at bytes) → take (length bytes) (drop at disk) ≡ bytes
unfolding agrees
agrees_same disk at bytes is = (bytes_eq-Decides (take (length bytes) (drop at disk)) bytes).0 is

-- a disk that agrees with the bytes has them
pub agrees_holds : (disk : List ℕ) (at : ℕ) (bytes : List ℕ) (b : Bool) → at + length bytes ≤ length disk
    → IsTrue (b && agrees disk at bytes) → HasBytesAt disk at bytes
agrees_holds disk at bytes b inside is = let same = agrees_same disk at bytes (and_parts b (agrees disk at bytes) is).1 in record {
  within = inside;
  each = λ i lt. sym (get_or-take (length bytes) (drop at disk) i 0 lt ∙ get_or-drop at disk i 0) ∙ ap (λ (l : List ℕ). get_or l i 0) same;
}

-- a disk that has the bytes agrees with them
pub holds_agrees : (disk : List ℕ) (at : ℕ) (bytes : List ℕ) (b : Bool) → IsTrue b → HasBytesAt disk at bytes
    → IsTrue (b && agrees disk at bytes)
unfolding agrees
holds_agrees disk at bytes true is holds = (bytes_eq-Decides (take (length bytes) (drop at disk)) bytes).1 same
  where
    count : length (take (length bytes) (drop at disk)) ≡ length bytes
    count = length-take-le (length bytes) (drop at disk) (omega (arith, length-drop at disk, holds.within))

    same : take (length bytes) (drop at disk) ≡ bytes
    same = ext_get_or 0 (take (length bytes) (drop at disk)) bytes count
        (λ i lt. get_or-take (length bytes) (drop at disk) i 0 (omega (arith, count)) ∙ get_or-drop at disk i 0 ∙ holds.each i (omega (arith, count)))
holds_agrees disk at bytes false is holds = absurd (true≢false (sym is))

-- before the first call nothing is pending
pub first_only : (first : List ℕ) → Only first (IsImage (synced first))
first_only first c image = ext_get_or 0 c first image.size (λ i lt. image.outside i tt)

-- a file of which this is the beginning
module _ (held : ℕ → ℕ) (size : ℕ) where
  all_bytes : (places : List ℕ) → AllBytes (map (λ i. held i % 256) places)
  all_bytes [] i = omega arith
  all_bytes (place ∷ places) zero = mod_below (held place) 256 (omega arith)
  all_bytes (place ∷ places) (suc i) = all_bytes places i

  no_call : AllInside size []
  no_call k at count is = absurd (cc)

  pub beginning_whole : IsHistory size (recorded_history (beginning held size))
  beginning_whole = record {
    bytes_of_first = all_bytes (range_with_len 0 size);
    size_of_first = length-map-range_with_len (λ i. held i % 256) 0 size;
    bytes_of_all = λ i. omega arith;
    count_of_all = refl;
    inside = no_call;
  }

  pub beginning_settled : (r : Record) → r ≡ beginning held size → Only (contents_of (recorded_history r)) (image_of (recorded_history r))
  beginning_settled r is = subst (λ (x : Record). Only (contents_of (recorded_history x)) (image_of (recorded_history x))) (sym is)
      (first_only (file_bytes held size))
