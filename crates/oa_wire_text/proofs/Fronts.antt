-- The result of a call on a reader, from the theorem about its decoder.
use Rattle.std.proofs.Common.{◌≡◌, true, false, ◌+◌, ◌++◌, length, List, ℕ, Option, Some, None, Result, Ok, Err, refl, sym, ap, ◌∙◌}
use Rattle.std.specs.Result.{is_ok}
use Rattle.oa_ndr.specs.promise.Reading.{Cursor, at, Decoder}
use Rattle.oa_ndr.proofs.Laws.{Reads, Always}
use Rattle.oa_wire_text.specs.declared.fault.StubFault.{StubFault}
use Rattle.oa_wire_text.specs.declared.fault.StubFault.TheVariants.{BadStub, Memory}
use Rattle.oa_wire_text.specs.Reading.{ReadsField, ReadSpan, IsFront}

abbrev done : {A : Type 0} → A → Cursor → Option (A × Cursor)
done x t = Some (x, t)

-- If the decoder returns None, no bytes at the reader are of the form.
no_front : {A : Type 0} {F : A → ℕ → List ℕ → Type 0} {read : Decoder A} → Reads Always F read → (old : Cursor) → read old ≡ None → (x : A) (end : Cursor)
    → ReadSpan (F x) old end → ⊥
no_front {A} {F} {read} r old none x end stretch =
    let again = r.again old.position stretch.text end.rest x tt stretch.form in
    let same : read old ≡ read (at old.position (stretch.text ++ end.rest)) = ap (λ (y : List ℕ). read (at old.position y)) stretch.parts in
    absurd cc

pub front_ok : {A : Type 0} {F : A → ℕ → List ℕ → Type 0} {read : Decoder A} → Reads Always F read
    → (result : Result A StubFault) (old ahead new : Cursor) → ahead ≡ old → ReadsField result new (read ahead) → is_ok result ≡ true → IsFront F result old new
front_ok {A} {F} {read} r (Ok x) old ahead new same h e =
    let one = (r.takes old.position old.rest x new (ap read (sym same) ∙ h)).1 in
    record { text = one.text; parts = one.parts; place = one.place; form = one.form }
front_ok r (Err f) old ahead new same h e = absurd cc

pub front_err : {A : Type 0} {F : A → ℕ → List ℕ → Type 0} {read : Decoder A} → Reads Always F read
    → (result : Result A StubFault) (old ahead new : Cursor) → ahead ≡ old → ReadsField result new (read ahead) → is_ok result ≡ false
    → IsFront F result old old
front_err r (Ok x) old ahead new same h e = absurd cc
front_err {A} {F} {read} r (Err BadStub) old ahead new same h e = (no_front r old (ap read (sym same) ∙ h), refl)
front_err r (Err Memory) old ahead new same h e = refl

-- Conversely, the result of a call is that of the decoder.
pub front_answers : {A : Type 0} {F : A → ℕ → List ℕ → Type 0} {read : Decoder A} → Reads Always F read
    → (result : Result A StubFault) (old new : Cursor) → IsFront F result old new → ReadsField result new (read old)
front_answers {A} {F} {read} r (Ok x) old new h =
    let again = r.again old.position h.text new.rest x tt h.form in
    let same : read old ≡ read (at old.position (h.text ++ new.rest)) = ap (λ (y : List ℕ). read (at old.position y)) h.parts in
    let end : at (old.position + length h.text) new.rest ≡ new = ap (λ (n : ℕ). at n new.rest) (sym h.place) in
    same ∙ again ∙ ap (λ (t : Cursor). done x t) end
front_answers {A} {F} {read} r (Err BadStub) old new h = nothing_read (read old) refl
  where
    nothing_read : (o : Option (A × Cursor)) → read old ≡ o → o ≡ None
    nothing_read None e = refl
    nothing_read (Some y) e =
        let one = (r.takes old.position old.rest y.0 y.1 e).1 in
        absurd (h.0 y.0 y.1 (record { text = one.text; parts = one.parts; place = one.place; form = one.form }))
front_answers r (Err Memory) old new h = tt

-- As above, for the values with the property P.
pub front_of : {A : Type 0} {P : A → Type 0} {F : A → ℕ → List ℕ → Type 0} {read : Decoder A} → Reads P F read → (old ahead new : Cursor) (x : A) → ahead ≡ old
    → read ahead ≡ Some (x, new) → P x × ReadSpan (F x) old new
front_of {A} {P} {F} {read} r old ahead new x same h =
    let one = r.takes old.position old.rest x new (ap read (sym same) ∙ h) in
    (one.0, record { text = one.1.text; parts = one.1.parts; place = one.1.place; form = one.1.form })

pub no_front_of : {A : Type 0} {P : A → Type 0} {F : A → ℕ → List ℕ → Type 0} {read : Decoder A} → Reads P F read → (old ahead : Cursor) → ahead ≡ old
    → read ahead ≡ None → (x : A) (end : Cursor) → P x → ReadSpan (F x) old end → ⊥
no_front_of {A} {P} {F} {read} r old ahead same none x end h stretch =
    let again = r.again old.position stretch.text end.rest x h stretch.form in
    let here : read old ≡ read (at old.position (stretch.text ++ end.rest)) = ap (λ (y : List ℕ). read (at old.position y)) stretch.parts in
    let nothing : read old ≡ None = ap read (sym same) ∙ none in
    absurd cc
