-- A body asks one request, or is refused.
use Rattle.std.proofs.Common.{◌≡◌, inl, inr, ℕ, ℤ, ◌+◌, ◌<◌, ◌≤◌, List, [], ◌∷◌, ◌++◌, length, Option, Some, None, Result, Ok, Err, refl, sym}
use Rattle.std.proofs.Common.{ap, subst, ◌∙◌, arith}
use Rattle.oa_model.specs.promise.Limits.{max_request_bytes}
use Rattle.oa_ndr.specs.Reading.{whole}
use Rattle.oa_ndr.proofs.Laws.{one_value, whole_takes, whole_again}
use Rattle.oa_variant.specs.declared.variant.Variant.{Variant}
use Rattle.oa_wire_variant.specs.promise.Variants.{Spells}
use Rattle.oa_wire_array.specs.declared.fault.WireFault.{WireFault}
use Rattle.oa_record.specs.promise.CallParts.{CallParts}
use Rattle.oa_record.specs.promise.Layouts.{Layout, opcode_of, variant_fields}
use Rattle.oa_record.specs.promise.Opcodes.{opcode_number, opcode_at, before_memory, some_before_memory}
use Rattle.oa_record.specs.promise.Opcodes.{opcode_before_memory}
use Rattle.oa_record.specs.Reading.{parts_of_element, put_of, layout_at, ReadingFails, IsStarvedBody}
use Rattle.oa_record.specs.Judging.{Requests, RefusesFields, TakesRequest, put_fault, put_index}
use Rattle.oa_record.specs.declared.opcode.Opcode.TheVariants as opcodes
use Rattle.oa_record.specs.declared.fault.RecordFault.{RecordFault}
use Rattle.oa_record.specs.declared.fault.RecordFault.TheVariants.{Stub, BadVarType, Memory}
use Rattle.oa_record.specs.declared.request.Request.TheVariants as requests
use Rattle.oa_record.specs.promise.Asks.{HasLayout, AllSpell, call_of, field_index, split_last, request_of}
use Rattle.oa_record.specs.promise.Asks.{request_opcode, Asks, SpellsNothing, HasBroken, HasBadType, HasNoLayout}
use Rattle.oa_record.specs.promise.Asks.{IsStub, IsBadVarType}
use Rattle.oa_record.specs.Asks.{IsRequest}
use Rattle.oa_record.specs.declared.request.Request.{Request}
use Rattle.oa_record.specs.declared.request.Call.{Call}
use Rattle.oa_record.proofs.LayoutLaws.{layout_reads}
use Rattle.oa_record.proofs.OpcodeLaws.{named_back}
use Rattle.oa_record.proofs.HeadLengths.{layout_length}
use Rattle.oa_record.proofs.Header.{opcode_lies}

-- Bytes that encode a value encode no other one.
abbrev pub OneValue : Type 0
OneValue = (bytes : List ℕ) (v w : Variant) → Spells bytes v → Spells bytes w → v ≡ w

same_spelled : OneValue → (fs : List (List ℕ)) (vs ws : List Variant) → AllSpell fs vs → AllSpell fs ws → vs ≡ ws
same_spelled one [] [] [] a b = refl
same_spelled one (f ∷ fs) (v ∷ vs) (w ∷ ws) a b =
    let e : v ≡ w = one f v w a.0 b.0 in
    let es : vs ≡ ws = same_spelled one fs vs ws a.1 b.1 in
    rw (e, es) refl
same_spelled one [] (v ∷ vs) ws a b = absurd a
same_spelled one [] [] (w ∷ ws) a b = absurd b
same_spelled one (f ∷ fs) [] ws a b = absurd a
same_spelled one (f ∷ fs) (v ∷ vs) [] a b = absurd b

pub one_layout : (body : List ℕ) (p q : Layout) → HasLayout p body → HasLayout q body → p ≡ q
one_layout body p q a b = one_value layout_reads body p q tt a.form tt b.form

abbrev some_request : Request → Option Request
some_request q = Some q

same_request : (p q : Request) → some_request p ≡ Some q → p ≡ q
same_request p q e = cc

pub one_request : OneValue → (body : List ℕ) (p q : Request) → Asks body p → Asks body q → p ≡ q
one_request one body p q a b =
    let parts : a.parts ≡ b.parts = one_layout body a.parts b.parts a.lies b.lies in
    let values : a.values ≡ b.values = same_spelled one (variant_fields b.parts) a.values b.values
    (subst (λ (l : Layout). AllSpell (variant_fields l) a.values) parts a.spelled) b.spelled in
    same_request p q (sym a.is ∙ (λ i. request_of (parts i) (values i)) ∙ b.is)

-- values that make a PUTELEM
opcode_put : (call : CallParts) (indices : List ℤ) (vs : List Variant) (f : List Variant → Variant → Request) (q : Request)
    → ((arguments : List Variant) (value : Variant) → request_opcode (f arguments value) ≡ opcodes.PutElement)
    → split_last vs (λ arguments value. Some (f arguments value)) ≡ Some q → request_opcode q ≡ opcodes.PutElement
opcode_put call indices [] f q h e = absurd cc
opcode_put call indices (v ∷ []) f q h e = ap request_opcode (sym (same_request (f [] v) q e)) ∙ h [] v
opcode_put call indices (v ∷ w ∷ ws) f q h e = opcode_put call indices (w ∷ ws) (λ arguments value. f (v ∷ arguments) value) q
    (λ arguments value. h (v ∷ arguments) value) e

opcode_same : (l : Layout) (vs : List Variant) (q : Request) → request_of l vs ≡ Some q → request_opcode q ≡ opcode_of l
opcode_same (Layout.CreateBody class) vs q e = ap request_opcode (sym (same_request _ q e))
opcode_same (Layout.NumberBody kind number) vs q e = ap request_opcode (sym (same_request _ q e))
opcode_same (Layout.GetIdsBody call) vs q e = ap request_opcode (sym (same_request _ q e))
opcode_same (Layout.CallBody kind call) vs q e = ap request_opcode (sym (same_request _ q e))
opcode_same (Layout.GetElementBody element) vs q e = ap request_opcode (sym (same_request _ q e))
opcode_same (Layout.PutElementBody put) vs q e = opcode_put put.element.call put.element.indices vs
    (λ arguments value. requests.PutElement (call_of put.element.call arguments) put.element.indices value) q (λ arguments value. refl) e
opcode_same (Layout.RedimensionBody redim) vs q e = ap request_opcode (sym (same_request _ q e))
opcode_same (Layout.QueryBody query) vs q e = ap request_opcode (sym (same_request _ q e))

pub opcode_stands : (body : List ℕ) (q : Request) → Asks body q → (8 ≤ length body) × (opcode_at body ≡ opcode_number (request_opcode q))
opcode_stands body q a =
    let h = opcode_lies a.parts body a.lies.form in
    (h.0, h.1 ∙ ap opcode_number (sym (opcode_same a.parts a.values q a.is)))

-- a field that spells nothing is no field of values
not_spelled : (why : WireFault) (front back : List (List ℕ)) (field : List ℕ) (vs : List Variant) → SpellsNothing field why
    → AllSpell (front ++ field ∷ back) vs → ⊥
not_spelled why [] back field [] bad s = absurd s
not_spelled why [] back field (v ∷ vs) bad s = bad.nothing v s.0
not_spelled why (f ∷ front) back field [] bad s = absurd s
not_spelled why (f ∷ front) back field (v ∷ vs) bad s = not_spelled why front back field vs bad s.1

spoilt_asks_nothing : (why : WireFault) (body : List ℕ) (q : Request) (parts : Layout) (front back : List (List ℕ)) (field : List ℕ) → HasLayout parts body
    → variant_fields parts ≡ front ++ field ∷ back → SpellsNothing field why → Asks body q → ⊥
spoilt_asks_nothing why body q parts front back field lies is bad a =
    let same : a.parts ≡ parts = one_layout body a.parts parts a.lies lies in
    not_spelled why front back field a.values bad (subst (λ (fs : List (List ℕ)). AllSpell fs a.values) (ap variant_fields same ∙ is) a.spelled)

pub stub_asks_nothing : (body : List ℕ) (q : Request) → IsStub body → Asks body q → ⊥
stub_asks_nothing body q (inl none) a = none a.parts a.lies
stub_asks_nothing body q (inr b) a = spoilt_asks_nothing _ body q b.parts b.broken.front b.broken.back b.broken.field b.lies b.broken.whole b.broken.broken a

pub bad_type_asks_nothing : (body : List ℕ) (index : Option ℕ) (q : Request) → IsBadVarType body index → Asks body q → ⊥
bad_type_asks_nothing body index q b a = spoilt_asks_nothing _ body q b.parts b.bad.front b.bad.back b.bad.field b.lies b.bad.whole b.bad.bad a

-- ---- The result of decoding a body.

no_layout : (body : List ℕ) → whole layout_at body ≡ None → HasNoLayout body
no_layout body none parts lies = let some = whole_again layout_reads body parts tt lies.form in absurd (clash (whole layout_at body) none parts some)
  where
    clash : (o : Option Layout) → o ≡ None → (parts : Layout) → o ≡ Some parts → ⊥
    clash None a parts b = cc
    clash (Some x) a parts b = cc

lies_so : (body : List ℕ) (parts : Layout) → length body ≤ max_request_bytes → whole layout_at body ≡ Some parts → HasLayout parts body
lies_so body parts short e = record { short = short; form = (whole_takes layout_reads body parts e).1 }

pub no_parts : (body : List ℕ) (e : RecordFault) → length body ≤ max_request_bytes → ReadingFails e (whole layout_at body) → IsStarvedBody e body
    → IsRequest body (Err e)
no_parts body Stub short none s = inl (no_layout body none)
no_parts body (BadVarType i) short none s = absurd none
no_parts body Memory short none s = record { opcode = s.0; long = s.1; short = short }

-- The result for the values of a layout is the result for the body.
pub asks : (body : List ℕ) (parts : Layout) (q : Request) → length body ≤ max_request_bytes → whole layout_at body ≡ Some parts → TakesRequest parts q
    → Asks body q
asks body parts q short read t = record { parts = parts; lies = lies_so body parts short read; values = t.values; spelled = t.spelled; is = t.is }

refuses : (body : List ℕ) (parts : Layout) (e : RecordFault) → length body ≤ max_request_bytes → whole layout_at body ≡ Some parts
    → Requests parts (Err e) → IsRequest body (Err e)
refuses body parts Stub short read h = inr (record { parts = parts; lies = lies_so body parts short read; broken = h })
refuses body parts (BadVarType index) short read h = record {
  parts = parts;
  lies = lies_so body parts short read;
  place = h.place;
  bad = h.bad;
  named = h.named;
}
refuses body parts Memory short read h =
    let lies = lies_so body parts short read in
    let at = opcode_lies parts body lies.form in
    let same : opcode_before_memory (opcode_at body) ≡ before_memory (opcode_of parts) = ap opcode_before_memory at.1
    ∙ ap some_before_memory (named_back (opcode_of parts)) in
    record {
      opcode = subst (λ (k : ℕ). 0 < k) (sym same) h;
      long = subst (λ (k : ℕ). 8 + k ≤ length body) (sym same) (layout_length parts body lies.form);
      short = short;
    }

pub answered : (body : List ℕ) (parts : Layout) (r : Result Request RecordFault) → length body ≤ max_request_bytes
    → whole layout_at body ≡ Some parts → Requests parts r → IsRequest body r
answered body parts (Ok q) short read h = asks body parts q short read h
answered body parts (Err e) short read h = refuses body parts e short read h

-- ---- the values of a layout

-- If the arguments are the only values.
pub refuses_call : (parts : Layout) (c : CallParts) (e : RecordFault) → variant_fields parts ≡ c.fields → ((place : ℕ) → field_index parts place ≡ Some place)
    → 0 < before_memory (opcode_of parts) → RefusesFields c.fields e → Requests parts (Err e)
refuses_call parts c Stub fields place memory h = subst HasBroken (sym fields) h
refuses_call parts c (BadVarType index) fields place memory h = record {
  place = h.0;
  bad = subst (λ (fs : List (List ℕ)). HasBadType fs h.0) (sym fields) h.2;
  named = h.1 ∙ sym (place h.0);
}
refuses_call parts c Memory fields place memory h = memory

-- The new value of an element, after the arguments.
last_is : (values : List Variant) (v : Variant) (f : List Variant → Variant → Option Request) → split_last (values ++ v ∷ []) f ≡ f values v
last_is [] v f = refl
last_is (x ∷ []) v f = refl
last_is (x ∷ y ∷ values) v f = last_is (y ∷ values) v (λ more last. f (x ∷ more) last)

abbrev put_body : CallParts → List ℤ → List ℕ → Layout
put_body call indices value = Layout.PutElementBody (put_of (parts_of_element call indices) value)

pub takes_put : (call : CallParts) (indices : List ℤ) (value : List ℕ) (all values : List Variant) (last : Variant) (q : Call)
    → AllSpell (call.fields ++ value ∷ []) all → all ≡ values ++ last ∷ [] → q ≡ call_of call values
    → TakesRequest (put_body call indices value) (requests.PutElement q indices last)
takes_put call indices value all values last q spelled parts is = record {
  values = values ++ last ∷ [];
  spelled = subst (λ (vs : List Variant). AllSpell (call.fields ++ value ∷ []) vs) parts spelled;
  is = last_is values last (λ arguments v. Some (requests.PutElement (call_of call arguments) indices v))
      ∙ ap (λ (x : Call). some_request (requests.PutElement x indices last)) (sym is);
}

pub refuses_put : (call : CallParts) (indices : List ℤ) (value : List ℕ) (e : RecordFault) → RefusesFields (call.fields ++ value ∷ []) e
    → Requests (put_body call indices value) (Err (put_fault (length call.fields) e))
refuses_put call indices value Stub h = h
refuses_put call indices value (BadVarType index) h = record { place = h.0; bad = h.2; named = ap (put_index (length call.fields)) h.1 }
refuses_put call indices value Memory h = omega arith
