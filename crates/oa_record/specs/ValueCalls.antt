-- Calls without arguments, or with a property's new value only.
use Rattle.std.specs.Prelude.{ℕ, ℤ, negsuc, ◌&&◌, nat_le, List, [], ◌∷◌, take, drop, Option, Some, None}
use Rattle.std.specs.Int.{w32, cast_signed}
use Rattle.byteorder.specs.Endian.{little_number}
use Rattle.oa_model.specs.promise.Guids.{wire_order}
use Rattle.oa_model.specs.promise.Limits.{max_arguments}
use Rattle.oa_ndr.specs.promise.Reading.{Decoder, fail}
use Rattle.oa_ndr.specs.Reading.{choose}
use Rattle.oa_variant.specs.declared.variant.Variant.{Variant}
use Rattle.oa_wire_variant.specs.promise.Variants.{Spells}
use Rattle.oa_record.specs.promise.CallParts.{CallParts}
use Rattle.oa_record.specs.declared.request.Call.{Call}
use Rattle.oa_record.specs.Reading.{head_of, lists_at}
use Rattle.oa_record.specs.declared.request.CallHead.{CallHead}

-- The named arguments of such a call: DISPID_PROPERTYPUT for a new value (MS-OAUT section 2.2.32.1), none otherwise.
abbrev pub names_of : {X : Type 0} → Option X → List ℤ
names_of None = []
names_of (Some x) = negsuc 2 ∷ []

-- The list of the value, or the empty list.
abbrev pub all_of : {X : Type 0} → Option X → List X
all_of None = []
all_of (Some x) = x ∷ []

-- The call without arguments, or with this one argument, named as the new value.
abbrev pub bringing : CallHead → Option Variant → Call
bringing head value = record { head = head; named = names_of value; arguments = all_of value }

-- The field is an encoding of the new value, or there is neither.
abbrev pub SpellsNew : Option (List ℕ) → Option Variant → Type 0
SpellsNew None None = Unit {0}
SpellsNew (Some field) (Some value) = Spells field value
SpellsNew field value = ⊥

-- The call without arguments, or with the field of this one argument, named as the new value.
abbrev pub parts_bringing : CallHead → Option (List ℕ) → CallParts
parts_bringing head field = record { head = head; named = names_of field; fields = all_of field }

-- The number of bytes of an INVOKE before its lists.
abbrev pub invoke_front : ℕ
invoke_front = 64

-- The number of `n` bytes at an offset of the body, little-endian.
abbrev pub body_number : ℕ → ℕ → List ℕ → ℕ
body_number n place body = little_number n (take n (drop place body))

-- The GUID at an offset of the body.
abbrev pub guid_in : ℕ → List ℕ → List ℕ
guid_in place body = wire_order (take 16 (drop place body))

-- The head of an INVOKE, from the offsets of its fields.
abbrev pub head_in : List ℕ → CallHead
head_in body =
    head_of (body_number 4 8 body) (cast_signed w32 (body_number 4 12 body)) (guid_in 16 body) (guid_in 32 body)
    (body_number 4 48 body) (body_number 2 52 body)

-- Reads the lists of an INVOKE, after the counts in `body`; fails if a count is above `max_arguments`.
unfoldable pub lists_behind : List ℕ → Decoder CallParts
lists_behind body =
    choose (nat_le (body_number 4 56 body) max_arguments && nat_le (body_number 4 60 body) max_arguments)
    (lists_at (head_in body) (body_number 4 56 body) (body_number 4 60 body)) fail
