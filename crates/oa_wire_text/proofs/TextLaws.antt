-- Reading a text reads its form.
use Rattle.std.proofs.Common.{◌≡◌, ℕ, ◌%◌, ◌≤◌, Bool, true, false, eqb, leb, ◌&&◌, List, [], length, Option, Some, None, refl, sym, ap, ◌∙◌}
use Rattle.std.proofs.Common.{arith}
use Rattle.std.proofs.lemmas.Bool.{eqb-true, eqb-false, eq-eqb, le-leb, leb-true, and_parts}
use Rattle.oa_ndr.specs.promise.Forms.{unit, exactly}
use Rattle.oa_ndr.specs.promise.Reading.{give}
use Rattle.oa_ndr.specs.Reading.{choose}
use Rattle.oa_ndr.proofs.Laws.{Reads, Always, give_reads, none_reads, fail_reads, choose_reads, unit_reads, bytes_reads, referent_reads}
use Rattle.oa_ndr.proofs.Laws.{bind_reads, with_reads, any_then, made_reads}
use Rattle.oa_model.specs.promise.Limits.{max_text_bytes}
use Rattle.oa_wire_text.specs.promise.Texts.{units, text_len, text_units, text_body, text_bytes, blob, pointee, bstr}
use Rattle.oa_wire_text.specs.Reading.{body_at, text_at, blob_at, bstr_at}

-- The length of an encoded text is within the limit.
body_limit : (text : List ℕ) (p : ℕ) (bytes : List ℕ) → text_body text p bytes → length text ≤ max_text_bytes
body_limit text p bytes form = form.second.second.fact

body_reads : (len : ℕ) → len ≤ max_text_bytes → Reads (λ text. length text ≡ len) text_body (body_at len)
unfolding body_at
body_reads len small =
    bind_reads exactly (λ text. text) (bytes_reads len) (λ text h. h) (λ text is_len.
    any_then (len % 2) (λ c. length c % 2) (λ c h. ap (λ (n : ℕ). n % 2) h.0)
    (give_reads text (is_len, refl) (omega arith) (λ c h _. h.1)))

-- The facts about a text that its three numbers give.
abbrev Told : ℕ → ℕ → ℕ → Option (List ℕ) → Type 0
Told maximum len size t = ((Always t × (text_units t ≡ maximum)) × (text_len t ≡ len)) × (text_units t ≡ size)

null_only : (maximum len size : ℕ) → len ≡ 4294967295 → (t : Option (List ℕ)) (p : ℕ) (bytes : List ℕ) → Told maximum len size t → text_bytes t p bytes
    → (t ≡ None) × (bytes ≡ [])
null_only maximum len size is_null None p bytes h form = (refl, form)
null_only maximum len size is_null (Some text) p bytes h form = absurd (omega (arith, is_null, body_limit text p bytes form, h.0.1))

null_told : (maximum len size : ℕ) → len ≡ 4294967295 → (eqb maximum 0 && eqb size 0) ≡ false → (t : Option (List ℕ)) (p : ℕ) (bytes : List ℕ)
    → Told maximum len size t → text_bytes t p bytes → ⊥
null_told maximum len size is_null test None p bytes h form =
    let e : (eqb maximum 0 && eqb size 0) ≡ true = rw (← h.0.0.1, ← h.1) refl in
    absurd cc
null_told maximum len size is_null test (Some text) p bytes h form = omega (arith, is_null, body_limit text p bytes form, h.0.1)

some_only : (maximum len size : ℕ) → eqb len 4294967295 ≡ false → (t : Option (List ℕ)) (p : ℕ) (bytes : List ℕ) → Told maximum len size t
    → text_bytes t p bytes → (text : List ℕ) × (length text ≡ len) × (Some text ≡ t)
some_only maximum len size some None p bytes h form = absurd (eqb-false _ _ some (sym h.0.1))
some_only maximum len size some (Some text) p bytes h form = (text, h.0.1, refl)

some_told : (maximum len size : ℕ) → eqb len 4294967295 ≡ false → (eqb maximum (units len) && eqb size (units len) && leb len max_text_bytes) ≡ false
    → (t : Option (List ℕ)) (p : ℕ) (bytes : List ℕ) → Told maximum len size t → text_bytes t p bytes → ⊥
some_told maximum len size some test None p bytes h form = absurd (eqb-false _ _ some (sym h.0.1))
some_told maximum len size some test (Some text) p bytes h form =
    let small : leb (length text) max_text_bytes ≡ true = le-leb _ _ (body_limit text p bytes form) in
    let same : eqb (units (length text)) (units (length text)) ≡ true = eq-eqb _ _ refl in
    let e : (eqb maximum (units len) && eqb size (units len) && leb len max_text_bytes) ≡ true = rw (← h.0.0.1, ← h.1, ← h.0.1, same, small) refl in
    absurd cc

pub blob_reads : Reads Always blob blob_at
unfolding blob_at text_at
blob_reads =
    bind_reads (unit 4) text_units (unit_reads 4) (λ _ _. tt) (λ maximum _.
    bind_reads (unit 4) text_len (unit_reads 4) (λ _ _. tt) (λ len _.
    bind_reads (unit 4) text_units (unit_reads 4) (λ _ _. tt) (λ size _.
    choose_reads (eqb len 4294967295)
    (λ null. choose_reads (eqb maximum 0 && eqb size 0)
    (λ zero.
    let z = and_parts (eqb maximum 0) (eqb size 0) zero in
    none_reads None (((tt, sym (eqb-true _ _ z.0)), sym (eqb-true _ _ null)), sym (eqb-true _ _ z.1)) (λ p. refl)
    (null_only maximum len size (eqb-true _ _ null)))
    (λ not_zero. fail_reads (null_told maximum len size (eqb-true _ _ null) not_zero)))
    (λ some. choose_reads (eqb maximum (units len) && eqb size (units len) && leb len max_text_bytes)
    (λ fits.
    let f = and_parts (eqb maximum (units len) && eqb size (units len)) (leb len max_text_bytes) fits in
    let g = and_parts (eqb maximum (units len)) (eqb size (units len)) f.0 in
    made_reads Some (body_reads len (leb-true _ _ f.1))
    (λ text h. (((tt, ap units h ∙ sym (eqb-true _ _ g.0)), h), ap units h ∙ sym (eqb-true _ _ g.1)))
    (some_only maximum len size some))
    (λ not_fits. fail_reads (some_told maximum len size some not_fits))))))

pub pointee_reads : (is_set : Bool) → Reads Always (pointee is_set) (choose is_set blob_at (give None))
pointee_reads true = choose_reads true (λ _. blob_reads) (λ e. absurd cc)
pointee_reads false = choose_reads false (λ e. absurd cc) (λ _. give_reads None tt refl (λ t _ e. e))

pub bstr_reads : Reads Always bstr bstr_at
unfolding bstr_at
bstr_reads = with_reads referent_reads (λ c a p text _ _. tt) (λ is_set _. pointee_reads is_set)
