-- The turns and the exits of the loops that read several values.
use Rattle.std.proofs.Common.{◌≡◌, ℕ, ◌+◌, ◌-◌, ◌<◌, ◌≤◌, List, length, get_or, set, take, drop, Option, Some, Err, arith}
use Rattle.std.proofs.lemmas.List.{take_more_set, take_all}
use Rattle.std.specs.Global.{Vec}
use Rattle.oa_ndr.specs.promise.Reading.{Cursor, Decoder, many}
use Rattle.oa_ndr.specs.Reading.{map_at}
use Rattle.oa_ndr.proofs.Loop.{with_front, many_goes_on, many_ends, many_is_done, map_goes_on, map_ends, map_is_done}
use Rattle.oa_wire_text.specs.declared.fault.StubFault.{StubFault}
use Rattle.oa_wire_text.specs.declared.fault.StubFault.TheVariants.{BadStub, Memory}
use Rattle.oa_wire_text.specs.Reading.{ReadsField}
use Rattle.oa_wire_array.specs.ArrayReading.{ReadsFieldBy}

pub many_err : {A : Type 0} (read : Decoder A) (e : StubFault) (front : List A) (n i : ℕ) (s t u : Cursor) (total : Option (List A × Cursor)) → i < n
    → ReadsField {A = A} (Err e) t (read s)
    → with_front front (many read (n - i) s) ≡ total → ReadsFieldBy {X = Vec A} (λ v. v.items) (Err e) u total
many_err read BadStub front n i s t u total lt h so_far = many_ends read front n i s total lt h so_far
many_err read Memory front n i s t u total lt h so_far = tt

-- ---- cells that are filled one by one

pub cells_err : {A : Type 0} (read : Decoder A) (e : StubFault) (front : List A) (n i : ℕ) (s t u : Cursor) (total : Option (List A × Cursor)) → i < n
    → ReadsField {A = A} (Err e) t (read s)
    → with_front front (many read (n - i) s) ≡ total → ReadsField {A = List A} (Err e) u total
cells_err read BadStub front n i s t u total lt h so_far = many_ends read front n i s total lt h so_far
cells_err read Memory front n i s t u total lt h so_far = tt

pub cells_put : {A : Type 0} (read : Decoder A) (cells : List A) (n i : ℕ) (s t : Cursor) (x : A) (total : Option (List A × Cursor)) → length cells ≡ n → i < n
    → read s ≡ Some (x, t)
    → with_front (take i cells) (many read (n - i) s) ≡ total → with_front (take (i + 1) (set cells i x)) (many read (n - (i + 1)) t) ≡ total
cells_put read cells n i s t x total len lt h so_far =
    rw (take_more_set cells i x (omega (arith, len, lt))) (many_goes_on read (take i cells) n i s t x total lt h so_far)

pub cells_full : {A : Type 0} (read : Decoder A) (cells : List A) (n i : ℕ) (s0 s : Cursor) → length cells ≡ n → n ≤ i
    → with_front (take i cells) (many read (n - i) s) ≡ many read n s0 → many read n s0 ≡ Some (cells, s)
cells_full read cells n i s0 s len le so_far =
    many_is_done read cells n i s (many read n s0) le (rw (← take_all i cells (omega (arith, len, le))) so_far)

pub map_err : {A B : Type 0} (read : A → Decoder B) (e : StubFault) (front : List B) (xs : List A) (i : ℕ) (d : A) (s t u : Cursor)
    (total : Option (List B × Cursor)) → i < length xs → ReadsField {A = B} (Err e) t (read (get_or xs i d) s)
    → with_front front (map_at read (drop i xs) s) ≡ total → ReadsField {A = List B} (Err e) u total
map_err read BadStub front xs i d s t u total lt h so_far = map_ends read front xs i d s total lt h so_far
map_err read Memory front xs i d s t u total lt h so_far = tt

pub map_put : {A B : Type 0} (read : A → Decoder B) (cells : List B) (xs : List A) (i : ℕ) (d : A) (s t : Cursor) (y : B) (total : Option (List B × Cursor))
    → length cells ≡ length xs → i < length xs → read (get_or xs i d) s ≡ Some (y, t)
    → with_front (take i cells) (map_at read (drop i xs) s) ≡ total → with_front (take (i + 1) (set cells i y)) (map_at read (drop (i + 1) xs) t) ≡ total
map_put read cells xs i d s t y total len lt h so_far =
    rw (take_more_set cells i y (omega (arith, len, lt))) (map_goes_on read (take i cells) xs i d s t y total lt h so_far)

pub map_full : {A B : Type 0} (read : A → Decoder B) (cells : List B) (xs : List A) (i : ℕ) (s0 s : Cursor) → length cells ≡ length xs → length xs ≤ i
    → with_front (take i cells) (map_at read (drop i xs) s) ≡ map_at read xs s0 → map_at read xs s0 ≡ Some (cells, s)
map_full read cells xs i s0 s len le so_far =
    map_is_done read cells xs i s (map_at read xs s0) le (rw (← take_all i cells (omega (arith, len, le))) so_far)
