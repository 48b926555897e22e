-- Definitions for contracts and proofs, beside promise/Numbers.
use Rattle.std.specs.Prelude.{⊤}
use Rattle.oa_formats.specs.promise.Numbers.{u8, u16, u32, u64, i8, i16, i32, i64, guid_format, truth_format}

-- ---- a truth value: one byte, 0 or 1

-- ---- what a proof opens to count the bytes of a number
unfoldable pub numbers : ⊤
unfolding u8 u16 u32 u64 i8 i16 i32 i64 guid_format truth_format
numbers = tt
