-- The fields of an INVOKE before its lists, read by their offsets.
use Rattle.std.proofs.Common.{◌≡◌, ℕ, ◌+◌, ◌≤◌, ◌==◌, ◌&&◌, nat_le, nat_lt, Bool, true, false, true≢false, if◌then◌else◌, List, length, take, drop}
use Rattle.std.proofs.Common.{Option, Some, None, refl, sym, ap, ◌∙◌, arith}
use Rattle.std.proofs.lemmas.Bool.Decides.{nat_tests}
use Rattle.std.proofs.lemmas.List.{drop-drop, length-drop}
use Rattle.std.specs.Int.{w32, cast_signed}
use Rattle.byteorder.specs.Endian.{little_number}
use Rattle.oa_model.specs.promise.Guids.{wire_order}
use Rattle.oa_model.specs.promise.Limits.{max_arguments}
use Rattle.oa_ndr.specs.promise.Forms.{padding}
use Rattle.oa_ndr.specs.promise.Reading.{Cursor, at, moved, and_then, bytes_at}
use Rattle.oa_ndr.specs.Reading.{steps, slot_at, unit_at, whole}
use Rattle.oa_record.specs.promise.CallParts.{CallParts}
use Rattle.oa_record.specs.promise.Layouts.{Layout}
use Rattle.oa_record.specs.declared.opcode.ByCall.TheVariants as by_call
use Rattle.oa_record.specs.Reading.{guid_at, dispid_at, call_head_at, call_at, fields_at, lists_at, layout_by_opcode, layout_at}
use Rattle.oa_record.specs.declared.request.CallHead.{CallHead}
use Rattle.oa_record.specs.ValueCalls.{guid_in, head_in, body_number, lists_behind}

-- the reader at a place of a body
abbrev place_of : ℕ → List ℕ → Cursor
place_of p body = at p (drop p body)

there : (n p g : ℕ) (body : List ℕ) → g ≡ 0 → p + n ≤ length body → nat_lt (length (drop p body)) (g + n) ≡ false
there n p g body aligned h = let e = length-drop p body in grind (arith, nat_tests, e, aligned, h)

module _ (body : List ℕ) where
  slot_there : (n p : ℕ) → padding n p ≡ 0 → p + n ≤ length body → slot_at n (place_of p body) ≡ Some (take n (drop p body), place_of (p + n) body)
  unfolding slot_at
  slot_there n p aligned h = by (padding n p) (nat_lt (length (drop p body)) (padding n p + n)) aligned (there n p (padding n p) body aligned h)
    where
      by : (g : ℕ) (b : Bool) → g ≡ 0 → b ≡ false → if◌then◌else◌ {A = Option (List ℕ × Cursor)} b None
          (Some (take n (drop g (drop p body)), moved (g + n) (place_of p body))) ≡ Some (take n (drop p body), place_of (p + n) body)
      by g true aligned isnt = absurd (true≢false isnt)
      by g false aligned isnt = let n_is : g + n ≡ n = omega (arith, aligned) in rw (n_is, aligned, drop-drop n p body) refl

  unit_there : (n p : ℕ) → padding n p ≡ 0 → p + n ≤ length body → unit_at n (place_of p body) ≡ Some (body_number n p body, place_of (p + n) body)
  unfolding steps unit_at
  unit_there n p aligned h = ap (λ (o : Option (List ℕ × Cursor)). and_then o (λ slot s. Some (little_number n slot, s))) (slot_there n p aligned h)

  dispid_there : (p : ℕ) → padding 4 p ≡ 0 → p + 4 ≤ length body
      → dispid_at (place_of p body) ≡ Some (cast_signed w32 (body_number 4 p body), place_of (p + 4) body)
  unfolding steps dispid_at
  dispid_there p aligned h = ap (λ (o : Option (ℕ × Cursor)). and_then o (λ n s. Some (cast_signed w32 n, s))) (unit_there 4 p aligned h)

  bytes_there : (n p : ℕ) → p + n ≤ length body → bytes_at n (place_of p body) ≡ Some (take n (drop p body), place_of (p + n) body)
  unfolding bytes_at
  bytes_there n p h = by (nat_lt (length (drop p body)) n) (let e = length-drop p body in grind (arith, nat_tests, e, h))
    where
      by : (b : Bool) → b ≡ false → if◌then◌else◌ {A = Option (List ℕ × Cursor)} b None (Some (take n (drop p body), moved n (place_of p body))) ≡ Some
          (take n (drop p body), place_of (p + n) body)
      by true isnt = absurd (true≢false isnt)
      by false isnt = rw (drop-drop n p body) refl

  guid_there : (p : ℕ) → p + 16 ≤ length body → guid_at (place_of p body) ≡ Some (guid_in p body, place_of (p + 16) body)
  unfolding steps guid_at
  guid_there p h = ap (λ (o : Option (List ℕ × Cursor)). and_then o (λ bytes s. Some (wire_order bytes, s))) (bytes_there 16 p h)

  module _ (h : 64 ≤ length body) where
    head_there : call_head_at (place_of 8 body) ≡ Some (head_in body, place_of 56 body)
    unfolding steps call_head_at
    head_there =
        rw (
          unit_there 4 8 refl (omega (arith, h)),
          dispid_there 12 refl (omega (arith, h)),
          guid_there 16 (omega (arith, h)),
          guid_there 32 (omega (arith, h)),
          unit_there 4 48 refl (omega (arith, h)),
          unit_there 2 52 refl (omega (arith, h)),
          unit_there 2 54 refl (omega (arith, h)),
        )
        refl

    call_there : call_at (place_of 8 body) ≡ lists_behind body (place_of 64 body)
    unfolding steps call_at lists_behind
    call_there = rw (head_there, unit_there 4 56 refl (omega (arith, h)), unit_there 4 60 refl (omega (arith, h))) refl

    laid : body_number 2 4 body ≡ 4 → layout_at (place_of 0 body) ≡ and_then (lists_behind body (place_of 64 body))
        (λ call s. Some (Layout.CallBody by_call.Invoke call, s))
    unfolding steps layout_at layout_by_opcode fields_at
    laid invoke =
        rw (unit_there 4 0 refl (omega (arith, h)), unit_there 2 4 refl (omega (arith, h)), unit_there 2 6 refl (omega (arith, h)), invoke, call_there)
        refl

same_inside : {X : Type 0} (x y : X) → Some x ≡ Some y → x ≡ y
same_inside x y e = cc

-- an INVOKE whose lists are read to its end
pub call_laid : (body front : List ℕ) (r s t : Cursor) (call : CallParts) → 64 ≤ length body → body_number 2 4 body ≡ 4 → r ≡ at 0 body
    → bytes_at 64 r ≡ Some (front, s) → lists_behind body s ≡ Some (call, t) → (length t.rest == 0) ≡ true
    → whole layout_at body ≡ Some (Layout.CallBody by_call.Invoke call)
call_laid body front r s t call h invoke start moves read none =
    let first : Some (front, s) ≡ Some (take 64 body, place_of 64 body) = sym moves ∙ ap (bytes_at 64) start ∙ bytes_there body 64 0 h in
    let behind : s ≡ place_of 64 body = ap (λ (p : List ℕ × Cursor). p.1) (same_inside (front, s) (take 64 body, place_of 64 body) first) in
    rw (laid body h invoke, ← behind, read, none) refl

-- The lists after the counts.
pub lists_are : (body : List ℕ) (head : CallHead) (count named_count : ℕ) (s t : Cursor) (call : CallParts) → head ≡ head_in body
    → count ≡ body_number 4 56 body → named_count ≡ body_number 4 60 body → (nat_le count max_arguments && nat_le named_count max_arguments) ≡ true
    → lists_at head count named_count s ≡ Some (call, t) → lists_behind body s ≡ Some (call, t)
unfolding steps lists_behind
lists_are body head count named_count s t call heads counts names few read = rw (← heads, ← counts, ← names, few) read
