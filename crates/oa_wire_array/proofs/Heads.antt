-- The offset of the vt of a wireVARIANT that has been read, the bytes after its head, and the bytes of a head that is
-- written.
use Rattle.std.proofs.Common.{◌≡◌, ℕ, ◌+◌, ◌%◌, List, [], ◌++◌, length, drop, replicate, append_assoc, Some, Result, Ok, Err}
use Rattle.std.proofs.Common.{OnOk, refl, sym, ap, ◌∙◌, arith}
use Rattle.std.proofs.lemmas.List.{take_at, drop_at, drop-drop, length-append}
use Rattle.byteorder.specs.Endian.{little_bytes, little_number, little_from}
use Rattle.byteorder.specs.Numbers.{little_from-take}
use Rattle.oa_ndr.specs.promise.Forms.{padding}
use Rattle.oa_ndr.specs.Writing.{FieldOutput, in_field}
use Rattle.oa_ndr.specs.promise.Writing.{put_align, put_bytes, put_unit}
use Rattle.oa_ndr.specs.promise.Reading.{Cursor}
use Rattle.oa_ndr.specs.Reading.{align_at, unit_at}
use Rattle.oa_ndr.proofs.Laws.{unit_reads, align_reads}
use Rattle.oa_wire_array.specs.promise.Scalars.{own_vt}
use Rattle.oa_wire_array.specs.promise.Canon.{put_head}
use Rattle.oa_wire_text.specs.Reading.{from_multiple}
use Rattle.oa_wire_array.proofs.ArrayLengths.{align_len, lands, no_padding}
use Rattle.oa_wire_array.proofs.Widths.{eight}

-- The cursor is k bytes after another one.
abbrev Behind : Cursor → ℕ → Cursor → Type 0
Behind base k s = (s.position ≡ base.position + k) × (k + length s.rest ≡ length base.rest) × (s.rest ≡ drop k base.rest)

first_bytes : (n : ℕ) (text rest : List ℕ) → length text ≡ n → little_number n (text ++ rest) ≡ little_number n text
first_bytes n text rest len = sym (little_from-take 0 n n (text ++ rest) (omega arith)) ∙ ap (little_from 0 n) (take_at text rest n len)

unit_behind : (n k : ℕ) (base s t : Cursor) (x : ℕ) → Behind base k s → padding n (base.position + k) ≡ 0 → unit_at n s ≡ Some (x, t)
    → (x ≡ little_number n (drop k base.rest)) × Behind base (k + n) t
unit_behind n k base s t x here none e =
    let one = ((unit_reads n).takes s.position s.rest x t e).1 in
    let pad : padding n s.position ≡ 0 = ap (padding n) here.0 ∙ none in
    let len : length one.text ≡ n = omega (arith, one.form.len, pad) in
    let value : little_number n one.text ≡ x = ap (λ (i : ℕ). little_number n (drop i one.text)) (sym pad) ∙ one.form.value in
    let at_k : little_number n (drop k base.rest) ≡ x = ap (little_number n) (sym here.2 ∙ one.parts) ∙ first_bytes n one.text t.rest len ∙ value in
    let rest : t.rest ≡ drop (k + n) base.rest = sym (drop_at one.text t.rest n len) ∙ ap (drop n) (sym one.parts ∙ here.2) ∙ drop-drop n k base.rest in
    (sym at_k, (omega (arith, one.place, here.0, len), omega (arith, ap length one.parts, length-append one.text t.rest, here.1, len), rest))

pub head_lies : (r s0 s1 s2 s3 s4 s5 s6 : Cursor) (u : Unit {0}) (a b vt c d e : ℕ)
    → align_at 8 r ≡ Some (u, s0) → unit_at 4 s0 ≡ Some (a, s1) → unit_at 4 s1 ≡ Some (b, s2) → unit_at 2 s2 ≡ Some (vt, s3) → unit_at 2 s3 ≡ Some (c, s4)
    → unit_at 2 s4 ≡ Some (d, s5) → unit_at 2 s5 ≡ Some (e, s6)
    → (vt ≡ own_vt (from_multiple 8 r)) × (16 + length s6.rest ≡ length (from_multiple 8 r))
head_lies r s0 s1 s2 s3 s4 s5 s6 u a b vt c d e h0 h1 h2 h3 h4 h5 h6 =
    let zero = ((align_reads 8).takes r.position r.rest u s0 h0).1 in
    let start : s0.position % 8 ≡ 0 = ap (λ (i : ℕ). i % 8) (zero.place ∙ ap (λ (i : ℕ). r.position + i) zero.form) ∙ lands r.position 8 eight in
    let rest : from_multiple 8 r ≡ s0.rest = ap (drop (padding 8 r.position)) zero.parts ∙ drop_at zero.text s0.rest (padding 8 r.position) zero.form in
    let q = s0.position in
    let one = unit_behind 4 0 s0 s0 s1 a (omega arith, omega arith, refl) (no_padding 4 (q + 0) (omega (arith, start))) h1 in
    let two = unit_behind 4 4 s0 s1 s2 b one.1 (no_padding 4 (q + 4) (omega (arith, start))) h2 in
    let three = unit_behind 2 8 s0 s2 s3 vt two.1 (no_padding 2 (q + 8) (omega (arith, start))) h3 in
    let four = unit_behind 2 10 s0 s3 s4 c three.1 (no_padding 2 (q + 10) (omega (arith, start))) h4 in
    let five = unit_behind 2 12 s0 s4 s5 d four.1 (no_padding 2 (q + 12) (omega (arith, start))) h5 in
    let six = unit_behind 2 14 s0 s5 s6 e five.1 (no_padding 2 (q + 14) (omega (arith, start))) h6 in
    (three.0 ∙ ap own_vt (sym rest), six.1.1 ∙ ap length (sym rest))

unit_adds : (n x : ℕ) (out : List ℕ) → length out % n ≡ 0 → put_unit n x out ≡ out ++ little_bytes n x
unit_adds n x out even = ap (λ (i : ℕ). out ++ (replicate i 0 ++ little_bytes n x)) (no_padding n (length out) even)

-- a head at a multiple of 8 is that of a field without bytes
pub head_adds : (size vt : ℕ) (out : List ℕ) → put_head size vt out ≡ put_align 8 out ++ put_head size vt []
head_adds size vt out =
    let start = put_align 8 out in
    let even : length start % 8 ≡ 0 = ap (λ (i : ℕ). i % 8) (align_len 8 out) ∙ lands (length out) 8 eight in
    let a = little_bytes 4 size in
    let b = little_bytes 4 0 in
    let c = little_bytes 2 vt in
    let d = little_bytes 2 0 in
    let at_a : length (start ++ a) ≡ length start + 4 = length-append start a in
    let at_b : length ((start ++ a) ++ b) ≡ length start + 8 = omega (arith, length-append (start ++ a) b, at_a) in
    let at_c : length (((start ++ a) ++ b) ++ c) ≡ length start + 10 = omega (arith, length-append ((start ++ a) ++ b) c, at_b) in
    let at_d : length ((((start ++ a) ++ b) ++ c) ++ d) ≡ length start + 12 = omega (arith, length-append (((start ++ a) ++ b) ++ c) d, at_c) in
    let at_e : length (((((start ++ a) ++ b) ++ c) ++ d) ++ d) ≡ length start + 14 = omega (arith, length-append ((((start ++ a) ++ b) ++ c) ++ d) d, at_d) in
    let one = unit_adds 4 size start (omega (arith, even)) in
    let two = ap (put_unit 4 0) one ∙ unit_adds 4 0 (start ++ a) (omega (arith, even, at_a)) in
    let three = ap (put_unit 2 vt) two ∙ unit_adds 2 vt ((start ++ a) ++ b) (omega (arith, even, at_b)) in
    let four = ap (put_unit 2 0) three ∙ unit_adds 2 0 (((start ++ a) ++ b) ++ c) (omega (arith, even, at_c)) in
    let five = ap (put_unit 2 0) four ∙ unit_adds 2 0 ((((start ++ a) ++ b) ++ c) ++ d) (omega (arith, even, at_d)) in
    let six = ap (put_unit 2 0) five ∙ unit_adds 2 0 (((((start ++ a) ++ b) ++ c) ++ d) ++ d) (omega (arith, even, at_e)) in
    six ∙ simp append_assoc refl

pub head_then : {X E : Type 0} (r : Result X E) (old aligned new : FieldOutput) (size vt : ℕ) (bytes : List ℕ) → bytes ≡ put_head size vt []
    → aligned ≡ in_field (put_align 8) old → OnOk r (new ≡ in_field (put_bytes bytes) aligned) → OnOk r (new ≡ in_field (put_head size vt) old)
head_then (Ok x) old aligned new size vt bytes is first more = rw (more, first, is, head_adds size vt old.field) refl
head_then (Err e) old aligned new size vt bytes is first more = tt
