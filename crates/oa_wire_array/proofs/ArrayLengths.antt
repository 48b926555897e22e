-- How many bytes are written.
use Rattle.std.proofs.Common.{◌≡◌, ℕ, ◌+◌, ◌-◌, ◌*◌, ◌%◌, ◌<◌, ◌≤◌, inl, inr, Bool, true, false, cond, eqb, List, [], ◌∷◌, ◌++◌}
use Rattle.std.proofs.Common.{ℤ, length, drop, get_or, replicate, Option, Some, None, All, is_some, refl, sym, ap, subst, ◌∙◌, arith}
use Rattle.std.specs.List.{AllByRecursion}
use Rattle.std.specs.Option.{unwrap_or}
use Rattle.std.specs.Int.{w32, cast_unsigned}
use Rattle.std.proofs.lemmas.Bool.{eqb-true, true≢false}
use Rattle.std.proofs.lemmas.List.{length-append, length-replicate, drop_more, drop_all}
use Rattle.byteorder.specs.Endian.{little_bytes}
use Rattle.byteorder.specs.Numbers.{length-bytes_low_first}
use Rattle.oa_ndr.specs.promise.Forms.{padding}
use Rattle.oa_ndr.specs.promise.Writing.{put_align, put_unit, put_bytes, put_referent, put_all}
use Rattle.oa_model.specs.promise.Types.{vt_of, is_signed_type, sf_type_of, element_size_of}
use Rattle.oa_model.specs.declared.bound.Bound.{Bound}
use Rattle.oa_model.specs.declared.var_type.VarType.{VarType}
use Rattle.oa_model.specs.declared.var_type.VarType.TheVariants as types
use Rattle.oa_array.specs.promise.Arrays.{ArrayValue}
use Rattle.oa_variant.specs.promise.Decimals.{DecimalValue}
use Rattle.oa_variant.specs.promise.Keys.{key_number}
use Rattle.oa_variant.specs.promise.Scalars.{type_of, FitsType}
use Rattle.oa_variant.specs.declared.scalar.Scalar.{Scalar}
use Rattle.oa_variant.specs.declared.scalar.Scalar.TheVariants as scalars
use Rattle.oa_wire_text.specs.promise.Texts.{units}
use Rattle.oa_wire_array.specs.promise.Scalars.{scalar_vt, sign_of}
use Rattle.oa_wire_text.specs.promise.Canon.{put_blob, put_bstr}
use Rattle.oa_wire_array.specs.promise.Canon.{put_decimal, put_number, put_arm, put_sized, put_scalar, scalar_len}
use Rattle.oa_wire_array.specs.promise.Canon.{cl_size}
use Rattle.oa_wire_array.specs.promise.ArrayCanon.{put_bound, has_pointee, put_pointee, put_cell_referent, put_pointed}
use Rattle.oa_wire_array.specs.promise.ArrayCanon.{put_elements, features_of, put_shape, put_size}
use Rattle.oa_wire_array.specs.ArrayCanon.{is_pointed}
use Rattle.oa_wire_array.proofs.ArrayLaws.{Fits, by_recursion}
use Rattle.oa_wire_array.proofs.Widths.{IsWidth, of_width, one, two, four, eight, width_by, number_bytes}

-- ---- places

unit_len : (n x : ℕ) (out : List ℕ) → length (put_unit n x out) ≡ length out + padding n (length out) + n
unit_len n x out =
    let zeros : List ℕ = replicate (padding n (length out)) 0 in
    omega (
      arith,
      length-append out (zeros ++ little_bytes n x),
      length-append zeros (little_bytes n x),
      length-replicate {A = ℕ} (padding n (length out)) 0,
      length-bytes_low_first 0 n x,
    )

pub align_len : (n : ℕ) (out : List ℕ) → length (put_align n out) ≡ length out + padding n (length out)
align_len n out = omega (arith, length-append {A = ℕ} out (replicate (padding n (length out)) 0), length-replicate {A = ℕ} (padding n (length out)) 0)

pub no_padding : (n p : ℕ) → p % n ≡ 0 → padding n p ≡ 0
no_padding n p h = rw h refl

unit_on : (n x : ℕ) (out : List ℕ) → length out % n ≡ 0 → length (put_unit n x out) ≡ length out + n
unit_on n x out h = omega (arith, unit_len n x out, no_padding n (length out) h)

stays : (p w : ℕ) → IsWidth w → p % w ≡ 0 → (p + w) % w ≡ 0
stays p = of_width (λ w. p % w ≡ 0 → (p + w) % w ≡ 0) (λ h. omega (arith, h)) (λ h. omega (arith, h)) (λ h. omega (arith, h)) (λ h. omega (arith, h))

pub lands : (p w : ℕ) → IsWidth w → (p + padding w p) % w ≡ 0
lands p = of_width (λ w. (p + padding w p) % w ≡ 0) (at_one 1 (omega arith)) (at_two (eqb (p % 2) 0) refl) (at_four (eqb (p % 4) 0) refl)
    (at_eight (eqb (p % 8) 0) refl)
  where
    at_one : (w : ℕ) → (p + padding 1 p) % 1 ≡ 0 → (p + padding 1 p) % 1 ≡ 0
    at_one w h = h

    at_two : (b : Bool) → eqb (p % 2) 0 ≡ b → (p + cond b 0 (2 - p % 2)) % 2 ≡ 0
    at_two true e = omega (arith, eqb-true _ _ e)
    at_two false e = omega arith

    at_four : (b : Bool) → eqb (p % 4) 0 ≡ b → (p + cond b 0 (4 - p % 4)) % 4 ≡ 0
    at_four true e = omega (arith, eqb-true _ _ e)
    at_four false e = omega arith

    at_eight : (b : Bool) → eqb (p % 8) 0 ≡ b → (p + cond b 0 (8 - p % 8)) % 8 ≡ 0
    at_eight true e = omega (arith, eqb-true _ _ e)
    at_eight false e = omega arith

more_cells : (n w : ℕ) → IsWidth w → w + w * n ≡ w * (n + 1)
more_cells n = of_width (λ w. w + w * n ≡ w * (n + 1)) (omega arith) (omega arith) (omega arith) (omega arith)

-- ---- The number of bytes is the same at offsets that differ by a multiple of 8.

record Alike (f g : List ℕ → List ℕ) : Type 0 where
  adds : (a b : List ℕ) → length a % 8 ≡ length b % 8 → length (f a) + length b ≡ length (g b) + length a

then_alike : {f g h k : List ℕ → List ℕ} → Alike f g → Alike h k → Alike (λ out. h (f out)) (λ out. k (g out))
then_alike {f} {g} {h} {k} one two = record {
  adds = λ a b e.
      let first = one.adds a b e in
      let second = two.adds (f a) (g b) (omega (arith, first, e)) in
      omega (arith, first, second);
}

same_padding : (p q w : ℕ) → IsWidth w → p % 8 ≡ q % 8 → padding w p ≡ padding w q
same_padding p q = of_width (λ w. p % 8 ≡ q % 8 → padding w p ≡ padding w q)
    (λ e. from 1 (omega arith)) (λ e. from 2 (omega (arith, e))) (λ e. from 4 (omega (arith, e))) (λ e. from 8 e)
  where
    from : (w : ℕ) → p % w ≡ q % w → padding w p ≡ padding w q
    from w e = ap (λ (r : ℕ). cond (eqb r 0) 0 (w - r)) e

unit_alike : (n x y : ℕ) → IsWidth n → Alike (put_unit n x) (put_unit n y)
unit_alike n x y is = record { adds = λ a b e. omega (arith, unit_len n x a, unit_len n y b, same_padding (length a) (length b) n is e) }

bytes_alike : (text : List ℕ) → Alike (put_bytes text) (put_bytes text)
bytes_alike text = record { adds = λ a b e. omega (arith, length-append a text, length-append b text) }

nothing_alike : Alike (λ out. out) (λ out. out)
nothing_alike = record { adds = λ a b e. omega arith }

align_alike : Alike (put_align 8) (put_align 8)
align_alike = record { adds = λ a b e. omega (arith, align_len 8 a, align_len 8 b, same_padding (length a) (length b) 8 eight e) }

blob_alike : (text : List ℕ) → Alike (put_blob (Some text)) (put_blob (Some text))
blob_alike text =
    then_alike (unit_alike 4 (units (length text)) (units (length text)) four) (then_alike (unit_alike 4 (length text) (length text) four)
    (then_alike (unit_alike 4 (units (length text)) (units (length text)) four) (then_alike (bytes_alike text) (bytes_alike (replicate (length text % 2) 0)))))

bstr_alike : (t : Option (List ℕ)) → Alike (put_bstr t) (put_bstr t)
bstr_alike None = unit_alike 4 0 0 four
bstr_alike (Some text) = then_alike (unit_alike 4 131072 131072 four) (blob_alike text)

decimal_alike : (d : DecimalValue) → Alike (put_decimal d) (put_decimal d)
decimal_alike d =
    then_alike align_alike (then_alike (unit_alike 2 0 0 two)
    (then_alike (unit_alike 1 d.scale d.scale one) (then_alike (unit_alike 1 (sign_of d.negative) (sign_of d.negative) one)
    (then_alike (unit_alike 4 _ _ four) (unit_alike 8 _ _ eight)))))

number_alike : (signed : Bool) (n : ℕ) → IsWidth n → (z : ℤ) → Alike (put_number signed n z) (put_number signed n z)
number_alike true n is z = unit_alike n _ _ is
number_alike false n is z = unit_alike n _ _ is

arm_alike : (v : Scalar) → Alike (put_arm v) (put_arm v)
arm_alike scalars.Empty = nothing_alike
arm_alike scalars.Null = nothing_alike
arm_alike (scalars.Bool b) = unit_alike 2 _ _ two
arm_alike (scalars.Bstr t) = bstr_alike t
arm_alike (scalars.Decimal d) = decimal_alike d
arm_alike v = number_alike (is_signed_type (type_of v)) (number_bytes (type_of v)) (width_by (number_bytes (type_of v)) refl) (key_number v)

-- After the padding up to a multiple of 8.
abbrev put_rest : ℕ → Scalar → List ℕ → List ℕ
put_rest size v out =
    put_arm v (put_unit 4 (scalar_vt v) (put_unit 2 0 (put_unit 2 0 (put_unit 2 0 (put_unit 2 (scalar_vt v) (put_unit 4 0 (put_unit 4 size out)))))))

rest_alike : (size other : ℕ) (v : Scalar) → Alike (put_rest size v) (put_rest other v)
rest_alike size other v =
    then_alike (unit_alike 4 size other four) (then_alike (unit_alike 4 0 0 four) (then_alike (unit_alike 2 (scalar_vt v) (scalar_vt v) two)
    (then_alike (unit_alike 2 0 0 two) (then_alike (unit_alike 2 0 0 two)
    (then_alike (unit_alike 2 0 0 two) (then_alike (unit_alike 4 (scalar_vt v) (scalar_vt v) four) (arm_alike v)))))))

-- A scalar has the same number of bytes at any offset.
pub scalar_at_place : (v : Scalar) (out : List ℕ) → length (put_scalar v out) ≡ length out + padding 8 (length out) + scalar_len v
unfolding scalar_len
scalar_at_place v out =
    let start = put_align 8 out in
    let place : length start ≡ length out + padding 8 (length out) = align_len 8 out in
    let even : length start % 8 ≡ 0 = ap (λ (n : ℕ). n % 8) place ∙ lands (length out) 8 eight in
    let same : length (put_rest (cl_size v) v start) + 0 ≡ length (put_rest 0 v []) + length start = (rest_alike (cl_size v) 0 v).adds start [] even in
    let at_nothing : length (put_rest 0 v []) ≡ length (put_sized 0 v []) = refl in
    omega (arith, same, place, at_nothing)

-- ---- cells

pub referents_len : (t : VarType) (cells : List Scalar) (out : List ℕ) → length out % 4 ≡ 0 → length (put_all (put_cell_referent t) cells out) ≡ length out + 4
    * length cells
referents_len t [] out h = omega arith
referents_len t (v ∷ cells) out h =
    let first : length (put_cell_referent t v out) ≡ length out + 4 = unit_on 4 (cond (has_pointee t v) 131072 0) out h in
    let others = referents_len t cells (put_cell_referent t v out) (omega (arith, first, h)) in
    omega (arith, first, others)

-- a loop over the pointees
abbrev pub Runs : VarType → List Scalar → ℕ → ℕ → ℕ → Type 0
Runs t cells i start now =
    (out : List ℕ) → length out ≡ start → (mid : List ℕ) × (length mid ≡ now) × (put_all (put_pointee t) (drop i cells) mid ≡ put_all (put_pointee t) cells out)

pub runs_on : (t : VarType) (cells : List Scalar) (i start now next : ℕ) (d : Scalar) → i < length cells
    → ((out : List ℕ) → length out ≡ now → length (put_pointee t (get_or cells i d) out) ≡ next) → Runs t cells i start now → Runs t cells (i + 1) start next
runs_on t cells i start now next d lt step so_far out e =
    let m = so_far out e in
    let k : put_all (put_pointee t) (drop i cells) m.0 ≡ put_all (put_pointee t) (drop (i + 1) cells) (put_pointee t (get_or cells i d) m.0) =
    ap (λ (xs : List Scalar). put_all (put_pointee t) xs m.0) (drop_more cells i d lt) in
    (put_pointee t (get_or cells i d) m.0, step m.0 m.1, sym k ∙ m.2)

pub runs_end : (t : VarType) (cells : List Scalar) (i start now : ℕ) → length cells ≤ i → Runs t cells i start now → (out : List ℕ) → length out ≡ start
    → length (put_all (put_pointee t) cells out) ≡ now
runs_end t cells i start now le so_far out e =
    let m = so_far out e in
    let k : put_all (put_pointee t) (drop i cells) m.0 ≡ m.0 = ap (λ (xs : List Scalar). put_all (put_pointee t) xs m.0) (drop_all i cells le) in
    ap length (sym m.2 ∙ k) ∙ m.1

-- ---- cells without pointees

abbrev some_width : ℕ → Option ℕ
some_width w = Some w

width_is : (w k x : ℕ) (out : List ℕ) → some_width k ≡ Some w → length (put_unit k x out) ≡ length out + padding w (length out) + w
width_is w k x out e = let same : k ≡ w = cc in subst (λ (n : ℕ). length (put_unit k x out) ≡ length out + padding n (length out) + n) same (unit_len k x out)

number_width : (signed : Bool) (n w : ℕ) (z : ℤ) (out : List ℕ) → some_width n ≡ Some w → length (put_number signed n z out) ≡ length out + padding w
    (length out) + w
number_width true n w z out e = width_is w n _ out e
number_width false n w z out e = width_is w n _ out e

plain_arm : (v : Scalar) (w : ℕ) → element_size_of (type_of v) ≡ Some w → is_pointed (type_of v) ≡ false → (out : List ℕ)
    → length (put_arm v out) ≡ length out + padding w (length out) + w
plain_arm scalars.Empty w e h out = absurd cc
plain_arm scalars.Null w e h out = absurd cc
plain_arm (scalars.Bool b) w e h out = width_is w 2 _ out e
plain_arm (scalars.Error n) w e h out = absurd cc
plain_arm (scalars.Bstr t) w e h out = absurd cc
plain_arm (scalars.Decimal d) w e h out = absurd cc
plain_arm v w e h out = number_width (is_signed_type (type_of v)) (number_bytes (type_of v)) w (key_number v) out e

row : (t : VarType) (w : ℕ) → IsWidth w → element_size_of t ≡ Some w → is_pointed t ≡ false → (cells : List Scalar) → AllByRecursion (λ v. type_of v ≡ t) cells
    → (out : List ℕ) → length out % w ≡ 0
    → length (put_all put_arm cells out) ≡ length out + w * length cells
row t w is e h [] all out even = of_width (λ k. length out ≡ length out + k * 0) (omega arith) (omega arith) (omega arith) (omega arith) w is
row t w is e h (v ∷ cells) all out even =
    let first : length (put_arm v out) ≡ length out + padding w (length out) + w = plain_arm v w (ap element_size_of all.0 ∙ e) (ap is_pointed all.0 ∙ h) out in
    let place : length (put_arm v out) ≡ length out + w = omega (arith, first, no_padding w (length out) even) in
    let others = row t w is e h cells all.1 (put_arm v out) (ap (λ (n : ℕ). n % w) place ∙ stays (length out) w is even) in
    omega (arith, place, others, more_cells (length cells) w is)

-- The end of elements without pointees, if there are some.
pub row_from : (t : VarType) (w : ℕ) → IsWidth w → element_size_of t ≡ Some w → is_pointed t ≡ false → (cells : List Scalar)
    → AllByRecursion (λ v. type_of v ≡ t) cells → 0 < length cells → (out : List ℕ)
    → length (put_all put_arm cells out) ≡ length out + padding w (length out) + w * length cells
row_from t w is e h [] all some out = absurd (omega (arith, some))
row_from t w is e h (v ∷ cells) all some out =
    let first : length (put_arm v out) ≡ length out + padding w (length out) + w = plain_arm v w (ap element_size_of all.0 ∙ e) (ap is_pointed all.0 ∙ h) out in
    let even : (length out + padding w (length out) + w) % w ≡ 0 = stays (length out + padding w (length out)) w is (lands (length out) w is) in
    let others = row t w is e h cells all.1 (put_arm v out) (ap (λ (n : ℕ). n % w) first ∙ even) in
    omega (arith, first, others, more_cells (length cells) w is)

-- the widths that there are
pub size_is : (t : VarType) → is_some (sf_type_of t) ≡ true → is_pointed t ≡ false → (element_size_of t ≡ Some (unwrap_or (element_size_of t) 0))
    × IsWidth (unwrap_or (element_size_of t) 0)
size_is types.Bstr h p = absurd cc
size_is types.Variant h p = absurd cc
size_is types.Empty h p = absurd cc
size_is types.Null h p = absurd cc
size_is types.Error h p = absurd cc
size_is types.Decimal h p = absurd cc
size_is t h p = (refl, width_by (number_bytes t) refl)

pub width_bounds : (w : ℕ) → IsWidth w → (0 < w) × (w ≤ 8)
width_bounds = of_width (λ w. (0 < w) × (w ≤ 8)) (omega arith, omega arith) (omega arith, omega arith) (omega arith, omega arith) (omega arith, omega arith)

pub row_small : (n w : ℕ) → IsWidth w → w * n ≤ 8 * n
row_small n = of_width (λ w. w * n ≤ 8 * n) (omega arith) (omega arith) (omega arith) (omega arith)

-- cells of a type without referents are of that very type
pub own_types : (t : VarType) → is_pointed t ≡ false → (cells : List Scalar) → All (λ v. FitsType v t) cells → AllByRecursion (λ v. type_of v ≡ t) cells
own_types t plain cells fits = own cells (by_recursion (Fits t) cells fits)
  where
    of_one : (v : Scalar) → FitsType v t → type_of v ≡ t
    of_one v (inl e) = let pointed : is_pointed t ≡ true = ap is_pointed e in absurd (true≢false (sym pointed ∙ plain))
    of_one v (inr e) = e

    own : (cells : List Scalar) → AllByRecursion (Fits t) cells → AllByRecursion (λ v. type_of v ≡ t) cells
    own [] h = tt
    own (v ∷ cells) h = (of_one v h.0, own cells h.1)

pub pointee_is_scalar : (t : VarType) (v : Scalar) (out : List ℕ) → (t ≡ types.Bstr → ⊥) → put_pointee t v out ≡ put_scalar v out
pointee_is_scalar types.Bstr v out other = absurd (other refl)
pointee_is_scalar t v out other = refl

pub elements_are_pointed : (t : VarType) (cells : List Scalar) (out : List ℕ) → is_pointed t ≡ true → put_elements t cells out ≡ put_pointed t cells out
elements_are_pointed types.Bstr cells out h = refl
elements_are_pointed types.Variant cells out h = refl
elements_are_pointed t cells out h = absurd cc

pub elements_are_plain : (t : VarType) (cells : List Scalar) (out : List ℕ) → is_pointed t ≡ false → put_elements t cells out ≡ put_all put_arm cells out
elements_are_plain types.Bstr cells out h = absurd cc
elements_are_plain types.Variant cells out h = absurd cc
elements_are_plain t cells out h = refl

-- ---- the parts before the cells

shape_len : (t : VarType) (dims : ℕ) (out : List ℕ) → length out % 4 ≡ 0 → length (put_shape t dims out) ≡ length out + 16
shape_len t dims out h =
    let a = put_referent true out in
    let b = put_unit 4 dims a in
    let c = put_unit 2 dims b in
    let d = put_unit 2 (features_of t) c in
    let la : length a ≡ length out + 4 = unit_on 4 131072 out h in
    let lb : length b ≡ length a + 4 = unit_on 4 dims a (omega (arith, la, h)) in
    let lc : length c ≡ length b + 2 = unit_on 2 dims b (omega (arith, la, lb, h)) in
    let ld : length d ≡ length c + 2 = unit_on 2 (features_of t) c (omega (arith, la, lb, lc, h)) in
    let le = unit_on 4 (unwrap_or (element_size_of t) 0) d (omega (arith, la, lb, lc, ld, h)) in
    omega (arith, la, lb, lc, ld, le)

size_len : (t : VarType) (count : ℕ) (out : List ℕ) → length out % 4 ≡ 0 → length (put_size t count out) ≡ length out + 16
size_len t count out h =
    let a = put_unit 4 (vt_of t * 65536) out in
    let b = put_unit 4 (unwrap_or (sf_type_of t) 0) a in
    let c = put_unit 4 count b in
    let la : length a ≡ length out + 4 = unit_on 4 (vt_of t * 65536) out h in
    let lb : length b ≡ length a + 4 = unit_on 4 (unwrap_or (sf_type_of t) 0) a (omega (arith, la, h)) in
    let lc : length c ≡ length b + 4 = unit_on 4 count b (omega (arith, la, lb, h)) in
    let ld = unit_on 4 131072 c (omega (arith, la, lb, lc, h)) in
    omega (arith, la, lb, lc, ld)

bounds_len : (bounds : List Bound) (out : List ℕ) → length out % 4 ≡ 0 → length (put_all put_bound bounds out) ≡ length out + 8 * length bounds
bounds_len [] out h = omega arith
bounds_len (b ∷ bounds) out h =
    let a = put_unit 4 b.count out in
    let la : length a ≡ length out + 4 = unit_on 4 b.count out h in
    let lb : length (put_bound b out) ≡ length a + 4 = unit_on 4 (cast_unsigned w32 b.lower) a (omega (arith, la, h)) in
    let others = bounds_len bounds (put_bound b out) (omega (arith, la, lb, h)) in
    omega (arith, la, lb, others)

-- all before the cells
abbrev pub before_cells : ArrayValue Scalar → List ℕ → List ℕ
before_cells a out = put_unit 4 (length a.cells) (put_all put_bound a.bounds (put_size a.elem (length a.cells) (put_shape a.elem (length a.bounds) out)))

pub before_len : (a : ArrayValue Scalar) (out : List ℕ) → length out % 4 ≡ 0 → length (before_cells a out) ≡ length out + 36 + 8 * length a.bounds
before_len a out h =
    let s = put_shape a.elem (length a.bounds) out in
    let z = put_size a.elem (length a.cells) s in
    let b = put_all put_bound a.bounds z in
    let ls : length s ≡ length out + 16 = shape_len a.elem (length a.bounds) out h in
    let lz : length z ≡ length s + 16 = size_len a.elem (length a.cells) s (omega (arith, ls, h)) in
    let lb : length b ≡ length z + 8 * length a.bounds = bounds_len a.bounds z (omega (arith, ls, lz, h)) in
    let lc = unit_on 4 (length a.cells) b (omega (arith, ls, lz, lb, h)) in
    omega (arith, ls, lz, lb, lc)
