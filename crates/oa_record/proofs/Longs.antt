-- The field of a long, laid out at once.
use Rattle.std.proofs.Common.{◌≡◌, ℤ, ◌++◌, [], refl}
use Rattle.std.specs.Int.{w32, cast_unsigned}
use Rattle.oa_ndr.specs.promise.Writing.{put_unit}
use Rattle.oa_variant.specs.declared.scalar.Scalar.TheVariants.{I4}
use Rattle.oa_variant.specs.declared.variant.Variant.TheVariants.{One}
use Rattle.oa_wire_array.specs.promise.Canon.{put_head, scalar_len}
use Rattle.oa_record.specs.promise.Replies.{number_field, variant_field}

pub long_is : (z : ℤ) → number_field 24 ++ put_unit 4 (cast_unsigned w32 z) (put_unit 4 3 (put_head 3 3 [])) ≡ variant_field (One (I4 z))
unfolding scalar_len
long_is z = refl
