-- The number of bytes that are there before an allocation: those of a head and its counts.
use Rattle.std.proofs.Common.{◌≡◌, ℕ, ℤ, ◌+◌, ◌≤◌, List, length, Some, ap, arith}
use Rattle.std.proofs.lemmas.List.{length-append}
use Rattle.oa_ndr.specs.promise.Forms.{◌▸◌, ignored, unit}
use Rattle.oa_ndr.specs.promise.Reading.{Cursor, at}
use Rattle.oa_ndr.specs.Reading.{unit_at}
use Rattle.oa_ndr.proofs.Laws.{unit_reads}
use Rattle.oa_record.specs.promise.CallParts.{CallParts}
use Rattle.oa_record.specs.promise.Layouts.{Layout, opcode_of, guid, dispid, call_head, call_parts, get_ids, fields}
use Rattle.oa_record.specs.promise.Layouts.{layout}
use Rattle.oa_record.specs.promise.Opcodes.{before_memory}
use Rattle.oa_record.specs.Reading.{guid_at, call_head_at, FaultIsBehind}
use Rattle.oa_record.specs.declared.request.CallHead.{CallHead}
use Rattle.oa_record.specs.declared.request.GetIds.{GetIds}
use Rattle.oa_record.specs.declared.fault.RecordFault.{RecordFault}
use Rattle.oa_record.specs.declared.fault.RecordFault.TheVariants.{Stub, BadVarType, Memory}
use Rattle.oa_record.proofs.LayoutLaws.{guid_reads, call_head_reads}

-- The sequences of a form have at least this many bytes.
abbrev HasAtLeast : ℕ → (ℕ → List ℕ → Type 0) → Type 0
HasAtLeast n F = (place : ℕ) (bytes : List ℕ) → F place bytes → n ≤ length bytes

any_has : (F : ℕ → List ℕ → Type 0) → HasAtLeast 0 F
any_has F place bytes form = omega arith

then_has : {F G : ℕ → List ℕ → Type 0} (m n : ℕ) → HasAtLeast m F → HasAtLeast n G → HasAtLeast (m + n) (F ▸ G)
then_has m n first second place bytes a =
    omega (arith, ap length a.parts, length-append a.front a.back, first place a.front a.first, second (place + length a.front) a.back a.second)

ignored_has : (n : ℕ) → HasAtLeast n (ignored n)
ignored_has n place bytes form = omega (arith, form)

unit_has : (n x : ℕ) → HasAtLeast n (unit n x)
unit_has n x place bytes form = omega (arith, form.len)

guid_has : (g : List ℕ) → HasAtLeast 16 (guid g)
guid_has g place bytes form =
    let a = form.form in
    omega (arith, ap length a.parts, length-append a.front a.back, ap length a.second, a.first.fact)

dispid_has : (z : ℤ) → HasAtLeast 4 (dispid z)
dispid_has z place bytes form =
    let a = form.form in
    omega (arith, ap length a.parts, length-append a.front a.back, a.first.len)

head_has : (h : CallHead) → HasAtLeast 48 (call_head h)
head_has h =
    then_has 4 44 (unit_has 4 h.object) (then_has 4 40 (dispid_has h.dispid) (then_has 16 24 (guid_has h.interface) (then_has 16 8 (guid_has h.riid)
    (then_has 4 4 (unit_has 4 h.lcid) (then_has 2 2 (unit_has 2 h.flags) (then_has 2 0 (ignored_has 2) (any_has _)))))))

call_has : (c : CallParts) → HasAtLeast 56 (call_parts c)
call_has c = then_has 48 8 (head_has c.head) (then_has 4 4 (unit_has 4 (length c.fields)) (then_has 4 0 (unit_has 4 (length c.named)) (any_has _)))

get_ids_has : (q : GetIds) → HasAtLeast 48 (get_ids q)
get_ids_has q =
    then_has 4 44 (unit_has 4 q.object) (then_has 4 40 (ignored_has 4) (then_has 16 24 (guid_has q.interface) (then_has 16 8 (guid_has q.riid)
    (then_has 4 4 (unit_has 4 q.lcid) (then_has 4 0 (unit_has 4 (length q.names)) (any_has _))))))

fields_have : (parts : Layout) → HasAtLeast (before_memory (opcode_of parts)) (fields parts)
fields_have (Layout.CreateBody class) = any_has _
fields_have (Layout.NumberBody kind n) = any_has _
fields_have (Layout.GetIdsBody call) = get_ids_has call
fields_have (Layout.CallBody kind call) = call_has call
fields_have (Layout.GetElementBody element) = then_has 56 0 (call_has element.call) (any_has _)
fields_have (Layout.PutElementBody put) = then_has 56 0 (then_has 56 0 (call_has put.element.call) (any_has _)) (any_has _)
fields_have (Layout.RedimensionBody redim) = then_has 56 0 (call_has redim.call) (any_has _)
fields_have (Layout.QueryBody query) = any_has _

pub layout_length : (parts : Layout) (body : List ℕ) → layout parts 0 body → 8 + before_memory (opcode_of parts) ≤ length body
layout_length parts body form =
    let n = before_memory (opcode_of parts) in
    let long : 4 + (2 + (2 + n)) ≤ length body =
    then_has 4 (2 + (2 + n)) (ignored_has 4) (then_has 2 (2 + n) (unit_has 2 _) (then_has 2 n (ignored_has 2) (fields_have parts))) 0 body form in
    omega (arith, long)

-- Bytes that have been read are there.
pub unit_there : (n : ℕ) (s t : Cursor) (x : ℕ) → unit_at n s ≡ Some (x, t) → n + length t.rest ≤ length s.rest
unit_there n s t x e =
    let one = ((unit_reads n).takes s.position s.rest x t e).1 in
    omega (arith, ap length one.parts, length-append one.text t.rest, one.form.len)

pub guid_there : (s t : Cursor) (g : List ℕ) → guid_at s ≡ Some (g, t) → 16 + length t.rest ≤ length s.rest
guid_there s t g e =
    let one = (guid_reads.takes s.position s.rest g t e).1 in
    omega (arith, ap length one.parts, length-append one.text t.rest, guid_has g s.position one.text one.form)

pub head_there : (s t : Cursor) (h : CallHead) → call_head_at s ≡ Some (h, t) → 48 + length t.rest ≤ length s.rest
head_there s t h e =
    let one = (call_head_reads.takes s.position s.rest h t e).1 in
    omega (arith, ap length one.parts, length-append one.text t.rest, head_has h s.position one.text one.form)

-- the 8 bytes before the fields
pub start_there : (body : List ℕ) (x n y : ℕ) (s t u : Cursor) → unit_at 4 (at 0 body) ≡ Some (x, s) → unit_at 2 s ≡ Some (n, t) → unit_at 2 t ≡ Some (y, u)
    → 8 + length u.rest ≤ length body
start_there body x n y s t u e f g =
    let a : 4 + length s.rest ≤ length body = unit_there 4 (at 0 body) s x e in
    omega (arith, a, unit_there 2 s t n f, unit_there 2 t u y g)

-- If they are there in any case.
pub behind_anyhow : (n : ℕ) (e : RecordFault) (s : Cursor) → n ≤ length s.rest → FaultIsBehind n e s
behind_anyhow n Stub s h = tt
behind_anyhow n (BadVarType i) s h = tt
behind_anyhow n Memory s h = h
