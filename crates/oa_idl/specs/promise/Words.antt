-- Words of a text: keywords, marks, names, types, numbers and GUIDs.
use Rattle.std.specs.Prelude.{ℕ, ◌+◌, ◌-◌, ◌*◌, ◌^◌, ◌==◌, ◌&&◌, ◌||◌, not, Bool, true, false, nat_lt, nat_le}
use Rattle.std.specs.Prelude.{if◌then◌else◌, List, [], ◌∷◌, ◌++◌, take, drop, get_or, map, codes, Option, Some, None, ℤ}
use Rattle.std.specs.Prelude.{pos, negsuc, neg_ℤ, is_some}
use Rattle.std.specs.Int.{cast_signed, w32}
use Rattle.std.specs.Char.{is_ascii_alphabetic}
use Rattle.std.specs.Str.{bytes_eq}
use Rattle.uuid.specs.Text.{parsed_hyphenated}
use Rattle.oa_model.specs.declared.var_type.VarType.{VarType}
use Rattle.oa_model.specs.declared.var_type.VarType.TheVariants as types
use Rattle.oa_model.specs.promise.Types.{sf_type_of}
use Rattle.oa_tokens.specs.declared.lexer.TokenKind.{TokenKind}
use Rattle.oa_tokens.specs.declared.lexer.TokenKind.TheVariants as kinds
use Rattle.oa_tokens.specs.declared.lexer.Token.{Token}
use Rattle.oa_idl.specs.promise.Forms.{Word}

-- The kind of a keyword or mark, by its bytes: a name, a mark, or the end of the text, which has none.
abbrev pub kind_of : List ℕ → TokenKind
kind_of [] = kinds.End
kind_of (b ∷ bs) = if is_ascii_alphabetic b then kinds.Name else kinds.Mark

-- Both kinds are equal.
abbrev pub same_kind : TokenKind → TokenKind → Bool
same_kind kinds.Guid kinds.Guid = true
same_kind kinds.Name kinds.Name = true
same_kind kinds.Number kinds.Number = true
same_kind kinds.Text kinds.Text = true
same_kind kinds.Mark kinds.Mark = true
same_kind kinds.Junk kinds.Junk = true
same_kind kinds.End kinds.End = true
same_kind k l = false

-- The word is this keyword or mark.
unfoldable pub passes : List ℕ → Word → Bool
passes sign w = same_kind w.kind (kind_of sign) && bytes_eq w.text sign

-- The word is a string in double quotes.
unfoldable pub is_text : Word → Bool
is_text w = same_kind w.kind kinds.Text

-- ---- types

-- The scalar type with this name (MS-OAUT section 2.2.7, under their IDL names).
unfoldable pub plain_type : List ℕ → Option VarType
plain_type text =
    if bytes_eq text (codes "char") then Some types.I1
    else if bytes_eq text (codes "short") then Some types.I2
    else if bytes_eq text (codes "long") then Some types.I4
    else if bytes_eq text (codes "int") then Some types.Int
    else if bytes_eq text (codes "hyper") then Some types.I8
    else if bytes_eq text (codes "CURRENCY") then Some types.Cy
    else if bytes_eq text (codes "VARIANT_BOOL") then Some types.Bool
    else if bytes_eq text (codes "SCODE") then Some types.Error
    else if bytes_eq text (codes "DECIMAL") then Some types.Decimal
    else if bytes_eq text (codes "BSTR") then Some types.Bstr
    else if bytes_eq text (codes "VARIANT") then Some types.Variant
    else None

-- The scalar type with this name after `unsigned`.
unfoldable pub unsigned_type : List ℕ → Option VarType
unsigned_type text =
    if bytes_eq text (codes "char") then Some types.Ui1
    else if bytes_eq text (codes "short") then Some types.Ui2
    else if bytes_eq text (codes "long") then Some types.Ui4
    else if bytes_eq text (codes "int") then Some types.Uint
    else if bytes_eq text (codes "hyper") then Some types.Ui8
    else None

-- The scalar type with this name, after `unsigned` or not.
abbrev pub type_named : Bool → List ℕ → Option VarType
type_named true text = unsigned_type text
type_named false text = plain_type text

-- The type, unless it is that of an array's elements and has no sfType.
abbrev pub if_cell : Bool → Option VarType → Option VarType
if_cell in_array None = None
if_cell true (Some t) = if is_some (sf_type_of t) then Some t else None
if_cell false (Some t) = Some t

-- The scalar type that a word is the name of.
unfoldable pub word_type : Bool → Bool → Word → Option VarType
word_type in_array unsigned w = if same_kind w.kind kinds.Name then if_cell in_array (type_named unsigned w.text)
    else None

-- ---- names

-- The name is a keyword of the structure of a text.
abbrev pub is_structure : List ℕ → Bool
is_structure text = bytes_eq text (codes "library") || (bytes_eq text (codes "importlib")
    || (bytes_eq text (codes "dispinterface") || (bytes_eq text (codes "interface")
    || (bytes_eq text (codes "coclass") || bytes_eq text (codes "properties")))))

-- The name is another keyword that is not the name of a type.
abbrev pub is_type_mark : List ℕ → Bool
is_type_mark text =
    bytes_eq text (codes "methods") || (bytes_eq text (codes "void")
    || (bytes_eq text (codes "unsigned") || bytes_eq text (codes "SAFEARRAY")))

-- The name is a keyword or the name of a type. Case matters.
unfoldable pub is_reserved : List ℕ → Bool
is_reserved text = is_structure text || (is_type_mark text || is_some (plain_type text))

-- The bytes of a name that is not reserved.
unfoldable pub name_of : Word → Option (List ℕ)
name_of w = if same_kind w.kind kinds.Name && not (is_reserved w.text) then Some w.text else None

-- ---- GUIDs and numbers

-- The GUID of a word.
unfoldable pub guid_of : Word → Option (List ℕ)
guid_of w = if same_kind w.kind kinds.Guid then parsed_hyphenated w.text else None

-- The value of a decimal or hexadecimal digit.
abbrev pub digit_of : ℕ → ℕ
digit_of b = if nat_le b 57 then b - 48 else if nat_le 97 b then b - 87 else b - 55

-- The number with these digits after the digits of `n`.
unfoldable pub number_from : ℕ → ℕ → List ℕ → ℕ
number_from base n [] = n
number_from base n (d ∷ ds) = number_from base (base * n + digit_of d) ds

-- The number begins with `0x`.
abbrev pub is_hexadecimal : List ℕ → Bool
is_hexadecimal text = get_or text 0 0 == 48 && get_or text 1 0 == 120

-- The number that the text of a number denotes.
abbrev pub value_of : List ℕ → ℕ
value_of text = if is_hexadecimal text then number_from 16 0 (drop 2 text) else number_from 10 0 text

-- The number, if it is below the bound.
abbrev pub below : ℕ → ℕ → Option ℕ
below bound n = if nat_lt n bound then Some n else None

-- The value of a number below 2^96; larger ones are allowed nowhere.
unfoldable pub number_of : List ℕ → Option ℕ
number_of text = below (2 ^ 96) (value_of text)

-- A part of a version: from 0 to 65,535 if it counts, otherwise 0 for any number.
abbrev pub part_from : Bool → Option ℕ → Option ℕ
part_from true None = None
part_from true (Some n) = below 65536 n
part_from false n = Some 0

-- The part of a version in a word.
unfoldable pub part_of : Bool → Word → Option ℕ
part_of counts w = if same_kind w.kind kinds.Number then part_from counts (number_of w.text) else None

-- The number of an `id` with its sign, in 32 bits. A hexadecimal number without a sign is read as two's complement.
abbrev pub id_number : Bool → Bool → ℕ → Option ℤ
id_number true hexadecimal n = if nat_le n 2147483648 then Some (neg_ℤ (pos n)) else None
id_number false true n = if nat_lt n 4294967296 then Some (cast_signed w32 n) else None
id_number false false n = if nat_lt n 2147483648 then Some (pos n) else None

-- The DISPID, unless it is -1 (DISPID_UNKNOWN) or -3 (DISPID_PROPERTYPUT), which no `id` may have (MS-OAUT section
-- 2.2.32).
abbrev pub usable : Option ℤ → Option ℤ
usable None = None
usable (Some (pos n)) = Some (pos n)
usable (Some (negsuc n)) = if n == 0 || n == 2 then None else Some (negsuc n)

-- The DISPID of an `id` with this number.
abbrev pub id_from : Bool → Bool → Option ℕ → Option ℤ
id_from negative hexadecimal None = None
id_from negative hexadecimal (Some n) = usable (id_number negative hexadecimal n)

-- The DISPID of the number in a word.
unfoldable pub id_of : Bool → Word → Option ℤ
id_of negative w = if same_kind w.kind kinds.Number then id_from negative (is_hexadecimal w.text) (number_of w.text)
    else None

-- ---- defaults of parameters

-- The number of a default with its sign.
abbrev pub signed_number : Bool → ℕ → ℤ
signed_number true n = neg_ℤ (pos n)
signed_number false n = pos n

-- The number of a default with its sign, if there is one.
abbrev pub amount_from : Bool → Option ℕ → Option ℤ
amount_from negative None = None
amount_from negative (Some n) = Some (signed_number negative n)

-- The number of a default in a word.
unfoldable pub amount_of : Bool → Word → Option ℤ
amount_of negative w = if same_kind w.kind kinds.Number then amount_from negative (number_of w.text) else None

-- The character is allowed in a default string: ASCII from the space to the tilde.
abbrev pub is_printable : ℕ → Bool
is_printable b = nat_le 32 b && nat_le b 126

-- The character may follow a backslash: a quote or a backslash.
abbrev pub is_escaped : ℕ → Bool
is_escaped b = b == 34 || b == 92

-- The character before the others, if there are any.
abbrev pub with_character : ℕ → Option (List ℕ) → Option (List ℕ)
with_character b None = None
with_character b (Some bs) = Some (b ∷ bs)

-- The characters up to the quote that closes a string; `marked` is whether a backslash came before. None if one of them
-- is not allowed.
unfoldable pub characters_from : Bool → List ℕ → Option (List ℕ)
characters_from marked [] = None
characters_from true (b ∷ bs) = if is_escaped b then with_character b (characters_from false bs) else None
characters_from false (b ∷ bs) = if b == 34 then Some []
    else if b == 92 then characters_from true bs
    else if is_printable b then with_character b (characters_from false bs)
    else None

-- The characters of the default string in a word.
unfoldable pub characters_of : Word → Option (List ℕ)
characters_of w = if same_kind w.kind kinds.Text then characters_from false (drop 1 w.text) else None

-- ---- the words of a text

-- A token with its bytes in the text.
abbrev pub word_of : List ℕ → Token → Word
word_of text t = record { kind = t.kind; text = take (t.end - t.start) (drop t.start text) }

-- The end of a text is read as a word.
abbrev pub end_word : Word
end_word = record { kind = kinds.End; text = [] }

-- The words of a text: its tokens, and the end.
abbrev pub words_of : List ℕ → List Token → List Word
words_of text tokens = map (word_of text) tokens ++ end_word ∷ []
