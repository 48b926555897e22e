-- The bytes of a reply (this project's choice): tag, code, index and a reserved number, followed by the fields of its
-- body.
use Rattle.std.specs.Prelude.{ℕ, ℤ, List, ◌++◌, length, replicate, Option, Some, None}
use Rattle.std.specs.Int.{to_le_bytes, cast_unsigned, w16, w32}
use Rattle.std.specs.List.{flat_map}
use Rattle.oa_ndr.specs.promise.Forms.{padding}
use Rattle.oa_model.specs.promise.Guids.{wire_order}
use Rattle.oa_model.specs.declared.hresult.HResult.{HResult}
use Rattle.oa_variant.specs.declared.variant.Variant.{Variant}
use Rattle.oa_wire_variant.specs.promise.Canon.{canon}

-- A reply: the tag of its request, a code, the index in rgvarg that the code is about, and the bytes of its fields.
pub record ReplyValue : Type 0 where
  pub tag : ℕ
  pub code : HResult
  pub index : Option ℕ
  pub body : List ℕ

-- A u32, little-endian.
unfoldable pub word : ℕ → List ℕ
word n = to_le_bytes w32 n

-- The number that encodes an index; 0xFFFFFFFF for None.
abbrev pub index_word : Option ℕ → ℕ
index_word None = 4294967295
index_word (Some i) = i

-- The 16 bytes before the fields: tag, code, index, reserved.
abbrev pub reply_head : ReplyValue → List ℕ
reply_head r = word r.tag ++ (word r.code.0 ++ (word (index_word r.index) ++ word 0))

-- A reply without the length before it.
abbrev pub reply_record : ReplyValue → List ℕ
reply_record r = reply_head r ++ r.body

-- ---- fields of replies

-- A number and a reserved number.
abbrev pub number_field : ℕ → List ℕ
number_field n = word n ++ word 0

-- An object in a list of objects: its number, a reserved number, the GUID of its coclass.
abbrev pub object_field : ℕ → List ℕ → List ℕ
object_field number class = number_field number ++ wire_order class

-- The bytes and zeros up to a multiple of 8.
abbrev pub padded : List ℕ → List ℕ
padded bytes = bytes ++ replicate (padding 8 (length bytes)) 0

-- A value: the number of its bytes, a reserved number, its canonical encoding, padding.
abbrev pub variant_field : Variant → List ℕ
variant_field v = number_field (length (canon v)) ++ padded (canon v)

-- A u16, little-endian.
unfoldable pub half_word : ℕ → List ℕ
half_word n = to_le_bytes w16 n

-- An i32, little-endian.
abbrev pub signed_word : ℤ → List ℕ
signed_word z = word (cast_unsigned w32 z)

-- DISPIDs: their number, a reserved number, the DISPIDs, padding.
abbrev pub ids_field : List ℤ → List ℕ
ids_field ids = number_field (length ids) ++ padded (flat_map signed_word ids)

-- A string of ASCII characters: their number, a reserved number, the UTF-16 unit of each, padding.
abbrev pub string_field : List ℕ → List ℕ
string_field text = number_field (length text) ++ padded (flat_map half_word text)

-- The first loss if a library is replaced: the GUID of its interface or coclass, the DISPID of its member, a reserved
-- number.
abbrev pub lost_field : List ℕ → ℤ → List ℕ
lost_field guid dispid = wire_order guid ++ (signed_word dispid ++ word 0)
