-- The opcode of a body is at the offset 4.
use Rattle.std.proofs.Common.{◌≡◌, ℕ, ◌+◌, ◌<◌, ◌≤◌, List, [], ◌∷◌, ◌++◌, length, drop, Some, ap, subst, sym, ◌∙◌, arith}
use Rattle.std.proofs.lemmas.List.{drop_at, length-append}
use Rattle.byteorder.specs.Endian.{little_number}
use Rattle.oa_ndr.specs.promise.Forms.{padding, unit}
use Rattle.oa_ndr.specs.promise.Reading.{Cursor, at}
use Rattle.oa_ndr.specs.Reading.{unit_at}
use Rattle.oa_ndr.proofs.Laws.{unit_reads}
use Rattle.oa_record.specs.promise.Layouts.{Layout, opcode_of, layout}
use Rattle.oa_record.specs.promise.Opcodes.{opcode_number, opcode_named, opcode_at, before_memory, some_before_memory}
use Rattle.oa_record.specs.promise.Opcodes.{opcode_before_memory}
use Rattle.oa_record.specs.declared.opcode.Opcode.{Opcode}
use Rattle.oa_record.specs.Reading.{IsStarved, IsStarvedBody}
use Rattle.oa_record.specs.declared.fault.RecordFault.{RecordFault}
use Rattle.oa_record.specs.declared.fault.RecordFault.TheVariants.{Stub, BadVarType, Memory}

-- the number of two bytes, whatever follows them
two_bytes : (b more : List ℕ) (n : ℕ) → length b ≡ 2 → little_number 2 b ≡ n → little_number 2 (b ++ more) ≡ n
two_bytes [] more n len is = absurd (omega arith)
two_bytes (x ∷ []) more n len is = absurd (omega arith)
two_bytes (x ∷ y ∷ []) more n len is = is
two_bytes (x ∷ y ∷ z ∷ b) more n len is = absurd (omega arith)

-- a unit of two bytes at the place 4
at_4 : (n p : ℕ) (b : List ℕ) → p ≡ 4 → unit 2 n p b → (length b ≡ 2) × (little_number 2 b ≡ n)
at_4 n p b is form = let here : unit 2 n 4 b = subst (λ (q : ℕ). unit 2 n q b) is form in (here.len, here.value)

header : (body a b c : List ℕ) (n p : ℕ) → body ≡ a ++ (b ++ c) → length a ≡ 4 → p ≡ 4 → unit 2 n p b → 2 ≤ length c → (8 ≤ length body) × (opcode_at body ≡ n)
header body a b c n p parts len_a is form len_c =
    let two = at_4 n p b is form in
    let opcode : opcode_at body ≡ n = ap (λ (y : List ℕ). little_number 2 (drop 4 y)) parts ∙ ap (little_number 2) (drop_at a (b ++ c) 4 len_a)
    ∙ two_bytes b c n two.0 two.1 in
    (omega (arith, ap length parts, length-append a (b ++ c), length-append b c, len_a, two.0, len_c), opcode)

pub opcode_lies : (parts : Layout) (body : List ℕ) → layout parts 0 body → (8 ≤ length body) × (opcode_at body ≡ opcode_number (opcode_of parts))
opcode_lies parts body form =
    let two = form.second in
    let three = two.second in
    let len_a : length form.front ≡ 4 = form.first in
    let start : 0 + length form.front ≡ 4 = omega (arith, len_a) in
    let len_b = (at_4 (opcode_number (opcode_of parts)) (0 + length form.front) two.front start two.first).0 in
    let place : 0 + length form.front + length two.front ≡ 6 = omega (arith, len_a, len_b) in
    let len_c : length three.front ≡ 2 = subst (λ (q : ℕ). length three.front ≡ padding 2 q + 2) place three.first in
    header body form.front two.front two.back (opcode_number (opcode_of parts)) (0 + length form.front)
    (form.parts ∙ ap (λ (y : List ℕ). form.front ++ y) two.parts) len_a start two.first
    (omega (arith, ap length three.parts, length-append three.front three.back, len_c))

-- The opcode of a body, as it is decoded.
pub opcode_read : (body : List ℕ) (x n y : ℕ) (s t u : Cursor) → unit_at 4 (at 0 body) ≡ Some (x, s) → unit_at 2 s ≡ Some (n, t) → unit_at 2 t ≡ Some (y, u)
    → (8 ≤ length body) × (opcode_at body ≡ n)
opcode_read body x n y s t u e f g =
    let one = ((unit_reads 4).takes 0 body x s e).1 in
    let two = ((unit_reads 2).takes s.position s.rest n t f).1 in
    let three = ((unit_reads 2).takes t.position t.rest y u g).1 in
    let len_a : length one.text ≡ 4 = one.form.len in
    let p : s.position ≡ 4 = omega (arith, one.place, len_a) in
    let len_b = (at_4 n s.position two.text p two.form).0 in
    let q : t.position ≡ 6 = omega (arith, two.place, p, len_b) in
    let len_c : length three.text ≡ 2 = (subst (λ (r : ℕ). unit 2 y r three.text) q three.form).len in
    header body one.text two.text t.rest n s.position (one.parts ∙ ap (λ (r : List ℕ). one.text ++ r) two.parts) len_a p two.form
    (omega (arith, ap length three.parts, length-append three.text u.rest, len_c))

-- A failed allocation is then that of a body.
pub starves : (e : RecordFault) (body : List ℕ) (n : ℕ) (opcode : Opcode) (s : Cursor) → 8 + length s.rest ≤ length body → opcode_at body ≡ n
    → opcode_named n ≡ Some opcode → IsStarved e opcode s → IsStarvedBody e body
starves Stub body n opcode s long at is h = tt
starves (BadVarType i) body n opcode s long at is h = tt
starves Memory body n opcode s long at is h =
    let same : opcode_before_memory (opcode_at body) ≡ before_memory opcode = ap opcode_before_memory at ∙ ap some_before_memory is in
    (subst (λ (k : ℕ). 0 < k) (sym same) h.0, subst (λ (k : ℕ). 8 + k ≤ length body) (sym same) (omega (arith, long, h.1)))
