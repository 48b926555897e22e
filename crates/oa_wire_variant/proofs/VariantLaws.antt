-- Decoding a whole field agrees with its form, and written bytes are of the form.
use Rattle.std.proofs.Common.{◌≡◌, ℕ, ◌+◌, ◌-◌, ◌/◌, ◌%◌, ◌^◌, ◌<◌, ◌≤◌, ◌⊎◌, inl, inr, Bool, true, false, eqb, ltb, ◌&&◌, ◌||◌, is_some}
use Rattle.std.proofs.Common.{List, [], ◌++◌, length, Result, Ok, Err, Option, Some, None, refl, sym, ap, ◌∙◌, arith}
use Rattle.std.specs.Option.{IsSome}
use Rattle.std.specs.Result.{IsErrAnd, MatchResult}
use Rattle.std.proofs.lemmas.Bool.{eqb-true, eq-eqb, ltb-true, ltb-false, and_parts, and_from, or_left, or_right, true≢false}
use Rattle.oa_ndr.specs.promise.Forms.{unit, referent}
use Rattle.oa_ndr.specs.promise.Reading.{Cursor, at}
use Rattle.oa_ndr.proofs.Laws.{Reads, Always, made_reads, fail_reads, choose_reads, unit_reads, referent_reads, bind_reads, with_reads}
use Rattle.oa_ndr.proofs.Laws.{ignored_then, align_then, same_values}
use Rattle.oa_ndr.proofs.WritingLaws.{Writes, then_writes, with_writes, unit_writes, ignored_writes}
use Rattle.oa_ndr.proofs.WritingLaws.{align_writes, given_writes, referent_writes}
use Rattle.oa_model.specs.promise.Types.{vt_of, type_at, sf_type_of}
use Rattle.oa_model.specs.declared.var_type.VarType.{VarType}
use Rattle.oa_array.specs.promise.Arrays.{ArrayValue}
use Rattle.oa_variant.specs.promise.Scalars.{type_of}
use Rattle.oa_variant.specs.Variants.{IsVariant}
use Rattle.oa_variant.specs.promise.Variants.{unlocked}
use Rattle.oa_variant.specs.declared.scalar.Scalar.{Scalar}
use Rattle.oa_variant.specs.declared.variant.Variant.{Variant}
use Rattle.oa_variant.specs.declared.variant.Variant.TheVariants.{One, Array}
use Rattle.oa_wire_array.specs.declared.fault.WireFault.{WireFault}
use Rattle.oa_wire_array.specs.declared.fault.WireFault.TheVariants.{BadStub, BadVarType, Memory}
use Rattle.oa_wire_text.specs.declared.fault.StubFault.{StubFault}
use Rattle.oa_wire_text.specs.declared.fault.StubFault.TheVariants as faults
use Rattle.oa_wire_text.specs.Reading.{ReadsField, OnMemory, ReadSpan}
use Rattle.oa_wire_text.proofs.Memory.{anyhow}
use Rattle.oa_wire_array.specs.promise.Arrays.{array}
use Rattle.oa_wire_array.specs.Arrays.{IsArrayFront}
use Rattle.oa_wire_array.specs.ArrayReading.{array_at}
use Rattle.oa_wire_array.specs.promise.ArrayCanon.{put_array}
use Rattle.oa_wire_array.proofs.ScalarLaws.{union_reads, type_at_vt, vt_from_type_at, same_type}
use Rattle.oa_wire_array.proofs.ArrayLaws.{array_reads, given_part}
use Rattle.oa_wire_array.proofs.Written.{scalar_writes, vt_small}
use Rattle.oa_wire_array.proofs.ArrayWritten.{array_writes}
use Rattle.oa_wire_variant.specs.promise.Variants.{value_vt, array_union, value_union, variant}
use Rattle.oa_wire_variant.specs.Reading.{scalar_value_at, array_union_at, array_value_at, variant_at}
use Rattle.oa_wire_variant.specs.promise.Canon.{array_len, put_array_head, put_variant, canon}

scalar_value_reads : (vt : ℕ) → vt < 8192 → Reads (λ v. value_vt v ≡ vt) value_union (scalar_value_at vt)
unfolding scalar_value_at
scalar_value_reads vt small = made_reads One (union_reads vt) (λ s h. h) of
  where
    of : (v : Variant) (p : ℕ) (text : List ℕ) → value_vt v ≡ vt → value_union v p text → (s : Scalar) × (value_vt (One s) ≡ vt) × (One s ≡ v)
    of (One s) p text h form = (s, h, refl)
    of (Array a) p text h form = absurd (omega (arith, small, h))

-- the test of the discriminant
either : (d vt : ℕ) → ((d ≡ 8192) ⊎ (d ≡ vt)) → (eqb d 8192 || eqb d vt) ≡ true
either d vt (inl e) = or_left (eqb d 8192) (eqb d vt) (eq-eqb _ _ e)
either d vt (inr e) = or_right (eqb d 8192) (eqb d vt) (eq-eqb _ _ e)

one_of : (d vt : ℕ) → (eqb d 8192 || eqb d vt) ≡ true → (d ≡ 8192) ⊎ (d ≡ vt)
one_of d vt e = by_test (eqb d 8192) refl e
  where
    by_test : (b : Bool) → eqb d 8192 ≡ b → (b || eqb d vt) ≡ true → (d ≡ 8192) ⊎ (d ≡ vt)
    by_test true h e = inl (eqb-true _ _ h)
    by_test false h e = inr (eqb-true _ _ e)

array_union_reads : (t : VarType) (vt : ℕ) → vt ≡ vt_of t + 8192 → Reads (λ a. a.elem ≡ t) array_union (array_union_at t vt)
unfolding array_union_at
array_union_reads t vt is =
    with_reads (unit_reads 4) (λ _ _ _ _ _ _. tt) (λ d _.
    given_part (λ (a : ArrayValue Scalar). (d ≡ 8192) ⊎ (d ≡ vt_of a.elem + 8192))
    (bind_reads referent (λ _. true) referent_reads (λ _ _. tt) (λ is_set _.
    choose_reads ((eqb d 8192 || eqb d vt) && is_set)
    (λ both.
    let b = and_parts (eqb d 8192 || eqb d vt) is_set both in
    same_values (array_reads t) (λ a h. ((h, own a h (one_of d vt b.0)), sym b.1)) (λ a h. h.0.0))
    (λ other. fail_reads (λ a p text h form.
    let named : (eqb d 8192 || eqb d vt) ≡ true = either d vt (whole a h.0.0 h.0.1) in
    let both = and_from (eqb d 8192 || eqb d vt) is_set named (sym h.1) in
    absurd (true≢false (sym both ∙ other)))))))
  where
    number : (a : ArrayValue Scalar) → a.elem ≡ t → vt_of a.elem + 8192 ≡ vt
    number a e = ap (λ (j : VarType). vt_of j + 8192) e ∙ sym is

    own : {d : ℕ} (a : ArrayValue Scalar) → a.elem ≡ t → (d ≡ 8192) ⊎ (d ≡ vt) → (d ≡ 8192) ⊎ (d ≡ vt_of a.elem + 8192)
    own a e (inl h) = inl h
    own a e (inr h) = inr (h ∙ sym (number a e))

    whole : {d : ℕ} (a : ArrayValue Scalar) → a.elem ≡ t → (d ≡ 8192) ⊎ (d ≡ vt_of a.elem + 8192) → (d ≡ 8192) ⊎ (d ≡ vt)
    whole a e (inl h) = inl h
    whole a e (inr h) = inr (h ∙ number a e)

-- a scalar has a small vt, and an array that of its cells and VT_ARRAY
no_scalar : (s : Scalar) (vt : ℕ) → 8192 ≤ vt → vt_of (type_of s) ≡ vt → ⊥
no_scalar s vt large h = omega (arith, vt_small (type_of s), large, h)

its_type : (a : ArrayValue Scalar) (vt : ℕ) → vt_of a.elem + 8192 ≡ vt → type_at (vt - 8192) ≡ Some a.elem
its_type a vt h = let n : vt - 8192 ≡ vt_of a.elem = omega (arith, h) in ap type_at n ∙ type_at_vt a.elem

array_value_reads : (vt : ℕ) (o : Option VarType) → 8192 ≤ vt → type_at (vt - 8192) ≡ o → Reads (λ v. value_vt v ≡ vt) value_union (array_value_at o vt)
unfolding array_value_at
array_value_reads vt None large e = fail_reads never
  where
    never : (v : Variant) (p : ℕ) (text : List ℕ) → value_vt v ≡ vt → value_union v p text → ⊥
    never (One s) p text h form = no_scalar s vt large h
    never (Array a) p text h form = let some : type_at (vt - 8192) ≡ Some a.elem = its_type a vt h in absurd cc
array_value_reads vt (Some t) large e = made_reads Array (array_union_reads t vt number) (λ a h. ap (λ (j : VarType). vt_of j + 8192) h ∙ sym number) of
  where
    number : vt ≡ vt_of t + 8192
    number = omega (arith, large, vt_from_type_at (vt - 8192) t e)

    of : (v : Variant) (p : ℕ) (text : List ℕ) → value_vt v ≡ vt → value_union v p text → (a : ArrayValue Scalar) × (a.elem ≡ t) × (Array a ≡ v)
    of (One s) p text h form = absurd (no_scalar s vt large h)
    of (Array a) p text h form = (a, same_type a.elem t (sym (its_type a vt h) ∙ e), refl)

pub variant_reads : Reads Always variant variant_at
unfolding variant_at
variant_reads =
    align_then 8 (ignored_then 4 (ignored_then 4 (bind_reads (unit 2) value_vt (unit_reads 2) (λ _ _. tt) (λ vt _.
    ignored_then 2 (ignored_then 2 (ignored_then 2 (choose_reads (ltb vt 8192)
    (λ small. same_values (scalar_value_reads vt (ltb-true _ _ small)) (λ v h. (tt, h)) (λ v h. h.1))
    (λ large. same_values (array_value_reads vt (type_at (vt - 8192)) (ltb-false _ _ large) refl) (λ v h. (tt, h)) (λ v h. h.1)))))))))

pub variant_writes : (v : Variant) → IsVariant v → Writes (variant (unlocked v)) (put_variant v)
variant_writes (One s) h = scalar_writes s h
variant_writes (Array a) h =
    let small = vt_small a.elem in
    then_writes (align_writes 8) (then_writes (ignored_writes 4 ((array_len a + 7) / 8 % 2 ^ 32))
    (then_writes (ignored_writes 4 0) (then_writes (unit_writes 2 (vt_of a.elem + 8192) (omega (arith, small)))
    (then_writes (ignored_writes 2 0) (then_writes (ignored_writes 2 0) (then_writes (ignored_writes 2 0)
    (with_writes 8192 (then_writes (unit_writes 4 8192 (omega arith))
    (then_writes (given_writes (inl refl)) (then_writes (referent_writes true) (array_writes a h.0 h.1 h.2)))))))))))

-- The result of `read_array` is that of the decoder.
abbrev AsRead : Result (ArrayValue Scalar) WireFault → Cursor → Option (ArrayValue Scalar × Cursor) → Type 0
AsRead (Ok a) new read = read ≡ Some (a, new)
AsRead (Err BadStub) new read = read ≡ None
AsRead (Err BadVarType) new read = read ≡ None
AsRead (Err Memory) new read = Unit {0}

no_array : (t : VarType) (old : Cursor) → ((a : ArrayValue Scalar) (end : Cursor) → a.elem ≡ t → ReadSpan (array a) old end → ⊥) → array_at t old ≡ None
no_array t old never = nothing_read (array_at t old) refl
  where
    nothing_read : (o : Option (ArrayValue Scalar × Cursor)) → array_at t old ≡ o → o ≡ None
    nothing_read None e = refl
    nothing_read (Some y) e =
        let one = (array_reads t).takes old.position old.rest y.0 y.1 e in
        absurd (never y.0 y.1 one.0 (record { text = one.1.text; parts = one.1.parts; place = one.1.place; form = one.1.form }))

untyped : (t : VarType) (a : ArrayValue Scalar) (old end : Cursor) → sf_type_of t ≡ None → a.elem ≡ t → ReadSpan (array a) old end → ⊥
untyped t a old end none e stretch =
    let typed : is_some (sf_type_of a.elem) ≡ true = stretch.form.first.fact.0.shape.typed in
    let no : is_some (sf_type_of a.elem) ≡ false = ap (λ (j : VarType). is_some (sf_type_of j)) e ∙ ap is_some none in
    true≢false (sym typed ∙ no)

abbrev done : ArrayValue Scalar → Cursor → Option (ArrayValue Scalar × Cursor)
done a s = Some (a, s)

array_answers : (t : VarType) (result : Result (ArrayValue Scalar) WireFault) (old new : Cursor) → IsArrayFront t result old new
    → AsRead result new (array_at t old)
array_answers t (Ok a) old new h =
    let s = h.1 in
    let again = (array_reads t).again old.position s.text new.rest a h.0 s.form in
    let same : array_at t old ≡ array_at t (at old.position (s.text ++ new.rest)) = ap (λ (y : List ℕ). array_at t (at old.position y)) s.parts in
    let end : at (old.position + length s.text) new.rest ≡ new = ap (λ (n : ℕ). at n new.rest) (sym s.place) in
    same ∙ again ∙ ap (λ (z : Cursor). done a z) end
array_answers t (Err BadStub) old new h = no_array t old h.1
array_answers t (Err BadVarType) old new h = no_array t old (λ a end e stretch. untyped t a old end h.0 e stretch)
array_answers t (Err Memory) old new h = tt

-- The result made of it: the array, or the conversion of each error.
pub array_told : (P : WireFault → StubFault → Type 0) (t : VarType) (from : Result (ArrayValue Scalar) WireFault) (to : Result (ArrayValue Scalar) StubFault)
    (old new : Cursor)
    → IsArrayFront t from old new → MatchResult from (λ a. to ≡ Ok a) (λ e. IsErrAnd to (P e))
    → ((f : StubFault) → P BadStub f → f ≡ faults.BadStub) → ((f : StubFault) → P BadVarType f → f ≡ faults.BadStub)
    → ((f : StubFault) → P Memory f → f ≡ faults.Memory)
    → ReadsField to new (array_at t old)
array_told P t (Ok a) to old new h is stub type memory = rw is (array_answers t (Ok a) old new h)
array_told P t (Err e) (Ok a) old new h is stub type memory = absurd is
array_told P t (Err BadStub) (Err f) old new h is stub type memory = rw (stub f is) (array_answers t (Err BadStub) old new h)
array_told P t (Err BadVarType) (Err f) old new h is stub type memory = rw (type f is) (array_answers t (Err BadVarType) old new h)
array_told P t (Err Memory) (Err f) old new h is stub type memory = rw (memory f is) tt

-- `Memory` is the result only of `Memory`.
pub array_starved : (P : WireFault → StubFault → Type 0) (t : VarType) (from : Result (ArrayValue Scalar) WireFault) (to : Result (ArrayValue Scalar) StubFault)
    (old new : Cursor)
    → IsArrayFront t from old new → MatchResult from (λ a. to ≡ Ok a) (λ e. IsErrAnd to (P e))
    → ((f : StubFault) → P BadStub f → f ≡ faults.BadStub) → ((f : StubFault) → P BadVarType f → f ≡ faults.BadStub)
    → OnMemory to (IsSome (sf_type_of t) × (32 ≤ length old.rest))
array_starved P t (Ok a) to old new h is stub type = rw is tt
array_starved P t (Err e) (Ok a) old new h is stub type = tt
array_starved P t (Err BadStub) (Err f) old new h is stub type = rw (stub f is) tt
array_starved P t (Err BadVarType) (Err f) old new h is stub type = rw (type f is) tt
array_starved P t (Err Memory) (Err f) old new h is stub type = anyhow {A = ArrayValue Scalar} (Err f) (h.0, h.1)

-- ---- lengths

pub as_long : (a : ArrayValue Scalar) (n : ℕ) → ((out : List ℕ) → length out ≡ 24 → length (put_array a out) ≡ n) → n ≡ array_len a
unfolding array_len
as_long a n h = sym (h (put_array_head 0 (vt_of a.elem + 8192) []) refl)

pub canon_len : (a : ArrayValue Scalar) (n : ℕ) → ((out : List ℕ) → length out ≡ 24 → length (put_array a out) ≡ n) → n ≡ length (canon (Array a))
canon_len a n h = sym (h (put_array_head ((array_len a + 7) / 8 % 2 ^ 32) (vt_of a.elem + 8192) []) refl)
