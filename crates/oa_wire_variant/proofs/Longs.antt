-- The field of a long, read at once.
use Rattle.std.proofs.Common.{◌≡◌, ℕ, zero, suc, List, [], ◌∷◌, length, take, drop, get_or, Some, refl, sym, ap, subst}
use Rattle.std.specs.Int.{w32, cast_signed}
use Rattle.byteorder.specs.Endian.{little_number}
use Rattle.oa_ndr.specs.promise.Reading.{bind, give, bytes_at}
use Rattle.oa_ndr.specs.Reading.{choose, align_at, slot_at, unit_at, whole}
use Rattle.oa_variant.specs.declared.scalar.Scalar.TheVariants.{I4}
use Rattle.oa_variant.specs.declared.variant.Variant.TheVariants.{One}
use Rattle.oa_wire_array.specs.Reading.{arm_at, arm_of, integer_at, signed_at, union_at}
use Rattle.oa_wire_variant.specs.Reading.{scalar_value_at, variant_at}

-- the first n of a list, one by one
abbrev firsts : ℕ → List ℕ → List ℕ
firsts zero xs = []
firsts (suc n) xs = get_or xs 0 0 ∷ firsts n (drop 1 xs)

one_by_one : (n : ℕ) (xs : List ℕ) → length xs ≡ n → xs ≡ firsts n xs
one_by_one zero [] is = refl
one_by_one zero (x ∷ xs) is = absurd cc
one_by_one (suc n) [] is = absurd cc
one_by_one (suc n) (x ∷ xs) is = ap (λ (ys : List ℕ). x ∷ ys) (one_by_one n xs cc)

-- The value of a field of 24 bytes whose vt and discriminant are those of longs.
abbrev LongReads : List ℕ → Type 0
LongReads xs = little_number 2 (take 2 (drop 8 xs)) ≡ 3 → little_number 4 (take 4 (drop 16 xs)) ≡ 3
    → whole variant_at xs ≡ Some (One (I4 (cast_signed w32 (little_number 4 (take 4 (drop 20 xs))))))

of_firsts : (xs : List ℕ) → LongReads (firsts 24 xs)
unfolding variant_at scalar_value_at union_at arm_of arm_at integer_at signed_at bind give choose bytes_at align_at slot_at unit_at
of_firsts xs vt discriminant = rw (vt, discriminant) refl

pub long_reads : (xs : List ℕ) → length xs ≡ 24 → LongReads xs
long_reads xs is = subst LongReads (sym (one_by_one 24 xs is)) (of_firsts xs)
