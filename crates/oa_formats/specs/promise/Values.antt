-- The images of texts, DECIMAL and scalars (this project's choice).
use Rattle.std.proofs.Common.{◌≡◌, ℕ, ◌+◌, ◌*◌, ◌<◌, ◌≤◌, ◌^◌, Bool, true, false, cond, eqb, leb, List, length, Option}
use Rattle.std.proofs.Common.{Some, None, refl, sym, ap, subst, arith, rules}
use Rattle.std.specs.Prelude.{◌==◌, nat_le, if◌then◌else◌}
use Rattle.std.proofs.lemmas.Bool.{eqb-true, leb-true, le-leb}
use Rattle.oa_model.specs.promise.Limits.{max_text_bytes}
use Rattle.oa_model.specs.declared.var_type.VarType.{VarType}
use Rattle.oa_model.specs.declared.var_type.VarType.TheVariants as types
use Rattle.oa_model.specs.promise.Types.{vt_of, type_at}
use Rattle.oa_bstr.specs.promise.Text.{bytes_of}
use Rattle.oa_variant.specs.promise.Decimals.{DecimalValue, high_of, low_of, halves}
use Rattle.oa_variant.specs.promise.Keys.{key_number, unsigned_in, truth_in, decimal_of, is_made}
use Rattle.oa_variant.specs.promise.Scalars.{type_of, text_of}
use Rattle.oa_variant.specs.declared.scalar.Scalar.{Scalar}
use Rattle.oa_variant.specs.declared.scalar.Scalar.TheVariants as scalars
use Rattle.oa_formats.specs.promise.Formats.{Format, some, same_content, raw, ◌▸◌, next_by, made_where, coded, nothing}
use Rattle.oa_formats.specs.promise.Formats.{never, case, tagged}
use Rattle.oa_formats.specs.promise.Numbers.{u8, u16, u32, u64, i8, i16, i32, i64, truth_format}
use Rattle.oa_formats.specs.promise.TypeNumbers.{type_there, type_here, vt_low}

-- ---- texts: how many bytes, 0xFFFFFFFF for null; and the bytes

abbrev pub text_size : Option (List ℕ) → Option ℕ
text_size None = None
text_size (Some text) = Some (length text)

abbrev pub size_of : ℕ → Option (Option ℕ)
size_of n = if n == 4294967295 then Some None else if nat_le n max_text_bytes then Some (Some n) else None

abbrev pub size_code : Option ℕ → ℕ
size_code None = 4294967295
size_code (Some n) = n

abbrev pub IsSize : Option ℕ → Type 0
IsSize None = Unit {0}
IsSize (Some n) = n ≤ max_text_bytes

pub size_chosen : (p q : Bool) (n : ℕ) (s : Option ℕ) → (p ≡ true → n ≡ 4294967295) → (q ≡ true → n ≤ max_text_bytes)
    → cond p (Some None) (cond q (Some (Some n)) None) ≡ Some s → IsSize s × (size_code s ≡ n)
size_chosen true q n s is le e =
    subst (λ (o : Option ℕ). IsSize o × (size_code o ≡ n)) (same_content None s e) (tt, sym (is refl))
size_chosen false true n s is le e =
    subst (λ (o : Option ℕ). IsSize o × (size_code o ≡ n)) (same_content (Some n) s e) (le refl, refl)
size_chosen false false n s is le e = absurd cc

pub size_here : (s : Option ℕ) → IsSize s → (size_code s < 2 ^ 32) × (size_of (size_code s) ≡ Some s)
size_here None h = (omega arith, refl)
size_here (Some n) h =
    let other : eqb n 4294967295 ≡ false = search (rules, arith, h) in
    let le : leb n max_text_bytes ≡ true = le-leb _ _ h in
    (omega (arith, h), rw (other, le) refl)

unfoldable pub text_header : Format (Option ℕ)
unfolding u32 made_where
text_header =
    coded IsSize size_of size_code u32
    (λ n s _ e. size_chosen (eqb n 4294967295) (leb n max_text_bytes) n s (eqb-true _ _)
    (leb-true _ _) e) size_here

pub null_text : (t : Option (List ℕ)) → text_size t ≡ None → None ≡ t
null_text None e = refl
null_text (Some text) e = absurd cc

pub some_text : (n : ℕ) (t : Option (List ℕ)) → text_size t ≡ Some n → Some (bytes_of t) ≡ t
some_text n None e = absurd cc
some_text n (Some text) e = refl

unfoldable pub text_of_size : Option ℕ → Format (Option (List ℕ))
unfolding raw
text_of_size None = case text_size None (λ u. None) (λ t. tt) nothing (λ u is. refl) (λ u. refl) null_text
text_of_size (Some n) =
    case text_size (Some n) (λ xs. Some xs) bytes_of (raw n) (λ xs len. ap some len) (λ xs. refl) (some_text n)

pub size_agrees : (s : Option ℕ) (t : Option (List ℕ)) → (text_of_size s).Is t → text_size t ≡ s
unfolding text_of_size case
size_agrees None t h = h.0
size_agrees (Some n) t h = h.0

unfoldable pub text : Format (Option (List ℕ))
unfolding raw nothing
text = tagged text_size text_header text_of_size size_agrees

-- ---- DECIMAL: scale, whether the sign is minus, Hi32, Lo64

-- the four parts of an image, nested in their order
abbrev pub DecimalParts : Type 0
DecimalParts = ℕ × (Bool × (ℕ × ℕ))

abbrev pub decimal_with : DecimalParts → DecimalValue
decimal_with p = record { scale = p.0; negative = p.1.0; magnitude = p.1.1.0 * 2 ^ 64 + p.1.1.1 }

abbrev pub decimal_of_parts : DecimalParts → Option DecimalValue
decimal_of_parts p = if nat_le p.0 28 then Some (decimal_with p) else None

abbrev pub decimal_parts : DecimalValue → DecimalParts
decimal_parts d = (d.scale, (d.negative, (high_of d.magnitude, low_of d.magnitude)))

abbrev pub IsDecimal : DecimalValue → Type 0
IsDecimal d = (d.scale ≤ 28) × (d.magnitude < 2 ^ 96)

abbrev pub decimal_fields : Format DecimalParts
decimal_fields = u8 ▸ truth_format ▸ u32 ▸ u64

pub decimal_chosen : (b : Bool) (p : DecimalParts) (d : DecimalValue) → (b ≡ true → p.0 ≤ 28) → p.1.1.0 < 2 ^ 32
    → p.1.1.1 < 2 ^ 64 → cond b (Some (decimal_with p)) None ≡ Some d → IsDecimal d × (decimal_parts d ≡ p)
decimal_chosen false p d small high low e = absurd cc
decimal_chosen true p d small high low e =
    let back = halves p.1.1.0 p.1.1.1 low in
    subst (λ (x : DecimalValue). IsDecimal x × (decimal_parts x ≡ p)) (same_content (decimal_with p) d e)
    ((small refl, omega (arith, high, low)), rw (back.0, back.1) refl)

pub decimal_there : (p : DecimalParts) (d : DecimalValue) → decimal_fields.Is p → decimal_of_parts p ≡ Some d
    → IsDecimal d × (decimal_parts d ≡ p)
unfolding next_by u8 u32 u64 made_where truth_format coded
decimal_there p d is e = decimal_chosen (leb p.0 28) p d (leb-true _ _) is.1.1.0 is.1.1.1 e

pub decimal_here : (d : DecimalValue) → IsDecimal d
    → decimal_fields.Is (decimal_parts d) × (decimal_of_parts (decimal_parts d) ≡ Some d)
unfolding next_by u8 u32 u64 made_where truth_format coded
decimal_here d h =
    let small : leb d.scale 28 ≡ true = le-leb _ _ h.0 in
    let whole : high_of d.magnitude * 2 ^ 64 + low_of d.magnitude ≡ d.magnitude = omega arith in
    ((omega (arith, h.0), (tt, (omega (arith, h.1), omega arith))), rw (small, whole) refl)

unfoldable pub decimal_format : Format DecimalValue
decimal_format = coded IsDecimal decimal_of_parts decimal_parts decimal_fields decimal_there decimal_here

-- ---- scalars: the number of the type, and the content

pub truth_again : (b : Bool) → truth_in (scalars.Bool b) ≡ b
truth_again false = refl
truth_again true = refl

-- the part of a scalar's image after the number of the type; there is none for VARIANT
unfoldable pub of_type : VarType → Format Scalar
of_type types.Empty =
    case type_of types.Empty (λ u. scalars.Empty) (λ s. tt) nothing (λ u is. refl) (λ u. refl) (is_made types.Empty)
of_type types.Null =
    case type_of types.Null (λ u. scalars.Null) (λ s. tt) nothing (λ u is. refl) (λ u. refl) (is_made types.Null)
of_type types.I1 = case type_of types.I1 scalars.I1 key_number i8 (λ x is. refl) (λ x. refl) (is_made types.I1)
of_type types.I2 = case type_of types.I2 scalars.I2 key_number i16 (λ x is. refl) (λ x. refl) (is_made types.I2)
of_type types.I4 = case type_of types.I4 scalars.I4 key_number i32 (λ x is. refl) (λ x. refl) (is_made types.I4)
of_type types.I8 = case type_of types.I8 scalars.I8 key_number i64 (λ x is. refl) (λ x. refl) (is_made types.I8)
of_type types.Int = case type_of types.Int scalars.Int key_number i32 (λ x is. refl) (λ x. refl) (is_made types.Int)
of_type types.Cy = case type_of types.Cy scalars.Cy key_number i64 (λ x is. refl) (λ x. refl) (is_made types.Cy)
of_type types.Ui1 = case type_of types.Ui1 scalars.Ui1 unsigned_in u8 (λ x is. refl) (λ x. refl) (is_made types.Ui1)
of_type types.Ui2 = case type_of types.Ui2 scalars.Ui2 unsigned_in u16 (λ x is. refl) (λ x. refl) (is_made types.Ui2)
of_type types.Ui4 = case type_of types.Ui4 scalars.Ui4 unsigned_in u32 (λ x is. refl) (λ x. refl) (is_made types.Ui4)
of_type types.Ui8 = case type_of types.Ui8 scalars.Ui8 unsigned_in u64 (λ x is. refl) (λ x. refl) (is_made types.Ui8)
of_type types.Uint =
    case type_of types.Uint scalars.Uint unsigned_in u32 (λ x is. refl) (λ x. refl) (is_made types.Uint)
of_type types.Error =
    case type_of types.Error scalars.Error unsigned_in u32 (λ x is. refl) (λ x. refl) (is_made types.Error)
of_type types.Bool = case type_of types.Bool scalars.Bool truth_in truth_format (λ x is. refl) truth_again
    (is_made types.Bool)
of_type types.Bstr = case type_of types.Bstr scalars.Bstr text_of text (λ x is. refl) (λ x. refl) (is_made types.Bstr)
of_type types.Decimal =
    case type_of types.Decimal scalars.Decimal decimal_of decimal_format (λ x is. refl) (λ x. refl)
    (is_made types.Decimal)
of_type types.Variant = never

pub type_agrees : (t : VarType) (s : Scalar) → (of_type t).Is s → type_of s ≡ t
unfolding of_type case never
type_agrees types.Variant s h = absurd h
type_agrees t s h = h.0

unfoldable pub vt : Format VarType
unfolding u16 made_where
vt =
    coded (λ t. Unit {0}) type_at vt_of u16 (λ n t is e. (tt, type_there n t e))
    (λ t is. (omega (arith, vt_low t), type_here t))

unfoldable pub scalar_format : Format Scalar
scalar_format = tagged type_of vt of_type type_agrees
