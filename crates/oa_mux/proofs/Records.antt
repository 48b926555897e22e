-- What the bytes of one client bring, record by record.
use Rattle.std.proofs.Common.{◌≡◌, ◌⊎◌, ◌≤◌, ◌<◌, ℕ, ◌+◌, true, false, List, [], ◌∷◌, ◌++◌, length, drop, Option, Some, None, refl, sym, ap, ◌∙◌, subst, inl}
use Rattle.std.proofs.Common.{inr, arith}
use Rattle.std.specs.Prelude.{nat_lt, ◌==◌}
use Rattle.std.proofs.lemmas.Bool.{cases_lt, eq-eqb}
use Rattle.std.proofs.lemmas.List.{append-nil, append_assoc, length-append, take-append-le}
use Rattle.std.specs.Int.{w32, from_le_bytes}
use Rattle.oa_model.specs.promise.Limits.{max_request_bytes}
use Rattle.oa_frame.specs.declared.ends.End.{End}
use Rattle.oa_frame.specs.declared.ends.End.TheVariants.{Closed, Cut, TooLong, BadHex, ReadFault, WriteFault}
use Rattle.oa_mux.specs.promise.Marks.{StreamPiece, Byte}
use Rattle.oa_mux.specs.Marks.{pieces}
use Rattle.oa_mux.specs.promise.Readers.{Body, Brought, Ends, Held, Over, ClientState, Reads, record_of, recorded}
use Rattle.oa_mux.specs.promise.Readers.{records_of, said}
use Rattle.oa_mux.specs.Readers.{ClientBrings, IsEnd, IsPartRecord, IsWholeRecord, after_pieces, brought_in}

-- ---- what the bytes of a record bring
few : (bytes : List ℕ) → length bytes < 4 → recorded bytes ≡ ([], Some (Held bytes))
unfolding recorded
few bytes h =
    let a : nat_lt (length bytes) 4 ≡ true = search (arith, h) in
    rw a refl

four : (bytes : List ℕ) → 4 ≤ length bytes → recorded bytes ≡ record_of (said bytes) bytes
unfolding recorded
four bytes h =
    let a : nat_lt (length bytes) 4 ≡ false = search (arith, h) in
    rw a refl

not_zero : (n : ℕ) → 0 < n → (n == 0) ≡ false
not_zero n h = search (arith, h)

part : (bytes : List ℕ) → IsPartRecord bytes → recorded bytes ≡ ([], Some (Held bytes))
part bytes (inl h) = few bytes h
part bytes (inr p) = by (cases_lt (length bytes) 4)
  where
    by : (length bytes < 4) ⊎ (4 ≤ length bytes) → recorded bytes ≡ ([], Some (Held bytes))
    by (inl h) = few bytes h
    by (inr h) =
        let a = not_zero (said bytes) p.some in
        let short = p.short in
        let less = p.few in
        let b : nat_lt max_request_bytes (said bytes) ≡ false = search (arith, short) in
        let c : nat_lt (length bytes) (4 + said bytes) ≡ true = search (arith, less) in
        four bytes h ∙ rw (a, b, c) refl

whole : (bytes : List ℕ) → IsWholeRecord bytes → recorded bytes ≡ (Body (drop 4 bytes) ∷ [], Some (Held []))
whole bytes w =
    let a = not_zero (said bytes) w.some in
    let short = w.short in
    let all = w.all in
    let b : nat_lt max_request_bytes (said bytes) ≡ false = search (arith, short) in
    let c : nat_lt (length bytes) (4 + said bytes) ≡ false = search (arith, all) in
    let d : 4 ≤ length bytes = omega (arith, all) in
    four bytes d ∙ rw (a, b, c) refl

stop : (why : End) (bytes : List ℕ) → IsEnd why bytes → recorded bytes ≡ (Ends why ∷ [], Some Over)
stop Closed bytes e =
    let n = e.0 in
    let d : 4 ≤ length bytes = omega (arith, n) in
    let a = eq-eqb (said bytes) 0 e.1 in
    four bytes d ∙ rw a refl
stop TooLong bytes e =
    let n = e.0 in
    let long = e.1 in
    let d : 4 ≤ length bytes = omega (arith, n) in
    let some : 0 < said bytes = omega (arith, long) in
    let a = not_zero (said bytes) some in
    let b : nat_lt max_request_bytes (said bytes) ≡ true = search (arith, long) in
    four bytes d ∙ rw (a, b) refl
stop Cut bytes e = absurd e
stop (BadHex line) bytes e = absurd e
stop ReadFault bytes e = absurd e
stop WriteFault bytes e = absurd e

-- ---- a first part of a part of a record is one
front_part : (xs ys : List ℕ) → IsPartRecord (xs ++ ys) → IsPartRecord xs
front_part xs ys (inl h) = let e = length-append xs ys in inl (omega (arith, h, e))
front_part xs ys (inr p) = by (cases_lt (length xs) 4)
  where
    by : (length xs < 4) ⊎ (4 ≤ length xs) → IsPartRecord xs
    by (inl h) = inl h
    by (inr h) =
        let e = length-append xs ys in
        let s : said (xs ++ ys) ≡ said xs = ap (from_le_bytes w32) (take-append-le 4 xs ys h) in
        let some = p.some in
        let short = p.short in
        let less = p.few in
        inr (record { some = omega (arith, some, s); short = omega (arith, short, s); few = omega (arith, less, s, e) })

-- so is what stands before the last byte of a whole record, and of four bytes
front_whole : (xs : List ℕ) (y : ℕ) (ys : List ℕ) → IsWholeRecord (xs ++ y ∷ ys) → IsPartRecord xs
front_whole xs y ys w = by (cases_lt (length xs) 4)
  where
    by : (length xs < 4) ⊎ (4 ≤ length xs) → IsPartRecord xs
    by (inl h) = inl h
    by (inr h) =
        let e = length-append xs (y ∷ ys) in
        let s : said (xs ++ y ∷ ys) ≡ said xs = ap (from_le_bytes w32) (take-append-le 4 xs (y ∷ ys) h) in
        let some = w.some in
        let short = w.short in
        let all = w.all in
        inr (record { some = omega (arith, some, s); short = omega (arith, short, s); few = omega (arith, all, s, e) })

front_four : (xs : List ℕ) (y : ℕ) (ys : List ℕ) → length (xs ++ y ∷ ys) ≡ 4 → length xs < 4
front_four xs y ys h = let e = length-append xs (y ∷ ys) in omega (arith, h, e)

end_four : (why : End) (bytes : List ℕ) → IsEnd why bytes → length bytes ≡ 4
end_four Closed bytes e = e.0
end_four TooLong bytes e = e.0
end_four Cut bytes e = absurd e
end_four (BadHex line) bytes e = absurd e
end_four ReadFault bytes e = absurd e
end_four WriteFault bytes e = absurd e

-- ---- pieces one after another
module _ {Z : Type 0} (reads : Reads Z) where
  pub brought_append : (at : Z) (ps qs : List StreamPiece) → brought_in reads at (ps ++ qs) ≡ brought_in reads at ps ++ brought_in reads
      (after_pieces reads at ps) qs
  unfolding brought_in after_pieces
  brought_append at [] qs = refl
  brought_append at (p ∷ ps) qs =
      ap (λ l. (reads at p).0 ++ l) (brought_append (reads at p).1 ps qs)
      ∙ sym (append_assoc (reads at p).0 (brought_in reads (reads at p).1 ps) (brought_in reads (after_pieces reads (reads at p).1 ps) qs))

pub pieces_append : (xs ys : List ℕ) → pieces (xs ++ ys) ≡ pieces xs ++ pieces ys
unfolding pieces
pieces_append [] ys = refl
pieces_append (x ∷ xs) ys = ap (λ l. Byte x ∷ l) (pieces_append xs ys)

-- a byte and the others
one_more : (front : List ℕ) (y : ℕ) (ys : List ℕ) (all others : List Brought) (mid new : Option ClientState) → recorded (front ++ y ∷ []) ≡ (all, mid)
    → ClientBrings mid ys others new → ClientBrings (Some (Held front)) (y ∷ ys) (all ++ others) new
unfolding brought_in after_pieces pieces records_of
one_more front y ys all others mid new e b = record {
  brought = ap (λ (r : List Brought × Option ClientState). r.0 ++ brought_in records_of r.1 (pieces ys)) e ∙ ap (λ l. all ++ l) b.brought;
  after = ap (λ (r : List Brought × Option ClientState). after_pieces records_of r.1 (pieces ys)) e ∙ b.after;
}

none_more : (at : Option ClientState) → ClientBrings at [] [] at
unfolding brought_in after_pieces pieces
none_more at = record { brought = refl; after = refl }

regroup : (front : List ℕ) (y : ℕ) (ys : List ℕ) → (front ++ y ∷ []) ++ ys ≡ front ++ y ∷ ys
regroup front y ys = append_assoc front (y ∷ []) ys

pub brings_part : (front ys : List ℕ) → IsPartRecord (front ++ ys) → ClientBrings (Some (Held front)) ys [] (Some (Held (front ++ ys)))
brings_part front [] p = subst (λ l. ClientBrings (Some (Held front)) [] [] (Some (Held l))) (sym (append-nil front)) (none_more (Some (Held front)))
brings_part front (y ∷ ys) p =
    let q : IsPartRecord ((front ++ y ∷ []) ++ ys) = subst IsPartRecord (sym (regroup front y ys)) p in
    subst (λ l. ClientBrings (Some (Held front)) (y ∷ ys) [] (Some (Held l))) (regroup front y ys)
    (one_more front y ys [] [] (Some (Held (front ++ y ∷ []))) _ (part (front ++ y ∷ []) (front_part (front ++ y ∷ []) ys q))
    (brings_part (front ++ y ∷ []) ys q))

pub brings_whole : (front : List ℕ) (y : ℕ) (ys : List ℕ) → IsWholeRecord (front ++ y ∷ ys)
    → ClientBrings (Some (Held front)) (y ∷ ys) (Body (drop 4 (front ++ y ∷ ys)) ∷ []) (Some (Held []))
brings_whole front y [] w = one_more front y [] (Body (drop 4 (front ++ y ∷ [])) ∷ []) [] (Some (Held [])) (Some (Held [])) (whole (front ++ y ∷ []) w)
    (none_more (Some (Held [])))
brings_whole front y (z ∷ zs) w =
    let e = regroup front y (z ∷ zs) in
    let v : IsWholeRecord ((front ++ y ∷ []) ++ z ∷ zs) = subst IsWholeRecord (sym e) w in
    subst (λ l. ClientBrings (Some (Held front)) (y ∷ (z ∷ zs)) (Body (drop 4 l) ∷ []) (Some (Held []))) e
    (one_more front y (z ∷ zs) [] (Body (drop 4 ((front ++ y ∷ []) ++ z ∷ zs)) ∷ []) (Some (Held (front ++ y ∷ []))) _
    (part (front ++ y ∷ []) (front_whole (front ++ y ∷ []) z zs v))
    (brings_whole (front ++ y ∷ []) z zs v))

pub brings_end : (why : End) (front : List ℕ) (y : ℕ) (ys : List ℕ) → IsEnd why (front ++ y ∷ ys) → ClientBrings (Some (Held front)) (y ∷ ys) (Ends why ∷ [])
    (Some Over)
brings_end why front y [] e = one_more front y [] (Ends why ∷ []) [] (Some Over) (Some Over) (stop why (front ++ y ∷ []) e) (none_more (Some Over))
brings_end why front y (z ∷ zs) e =
    let f : IsEnd why ((front ++ y ∷ []) ++ z ∷ zs) = subst (IsEnd why) (sym (regroup front y (z ∷ zs))) e in
    one_more front y (z ∷ zs) [] (Ends why ∷ []) (Some (Held (front ++ y ∷ []))) _
    (few (front ++ y ∷ []) (front_four (front ++ y ∷ []) z zs (end_four why ((front ++ y ∷ []) ++ z ∷ zs) f)))
    (brings_end why (front ++ y ∷ []) z zs f)

pub brings_over : (ys : List ℕ) → ClientBrings (Some Over) ys [] (Some Over)
unfolding brought_in after_pieces pieces records_of
brings_over [] = record { brought = refl; after = refl }
brings_over (y ∷ ys) = let b = brings_over ys in record { brought = b.brought; after = b.after }

-- a client that was not there is as one that has sent nothing yet
pub from_none : (ys : List ℕ) (all : List Brought) (new : Option ClientState) → 0 < length ys → ClientBrings (Some (Held [])) ys all new
    → ClientBrings None ys all new
unfolding brought_in after_pieces pieces records_of
from_none [] all new some b = absurd (omega (arith, some))
from_none (y ∷ ys) all new some b = record { brought = b.brought; after = b.after }
