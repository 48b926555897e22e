-- The members of an interface are spelled by their printed texts.
use Rattle.std.proofs.Common.{◌≡◌, ℕ, suc, ◌+◌, ◌^◌, ◌<◌, ◌≤◌, Bool, true, false, List, [], ◌∷◌, ◌++◌, length, Option, Some, None, refl}
use Rattle.std.proofs.Common.{sym, ap, subst, ◌∙◌, append_assoc, arith, ltb-false, leb-false}
use Rattle.std.specs.Prelude.{codes, ℤ, pos, negsuc, is_some, ◌==◌, ◌||◌, nat_lt, nat_le}
use Rattle.std.specs.Fmt.{decimal, signed_decimal}
use Rattle.std.specs.List.{AllByRecursion, flat_map}
use Rattle.std.proofs.Math.Logic.{inl, inr}
use Rattle.std.proofs.lemmas.List.{length-append}
use Rattle.uuid.proofs.RoundTrips.{parses_hyphenated_text}
use Rattle.uuid.proofs.TextLemmas.{by_index_length}
use Rattle.oa_model.specs.declared.var_type.VarType.{VarType}
use Rattle.oa_model.specs.declared.var_type.VarType.TheVariants as types
use Rattle.oa_model.specs.declared.var_type.ValueType.{ValueType}
use Rattle.oa_model.specs.declared.var_type.ValueType.TheVariants as values
use Rattle.oa_model.specs.promise.Types.{sf_type_of}
use Rattle.oa_tokens.specs.declared.lexer.TokenKind.TheVariants as kinds
use Rattle.oa_tokens.specs.declared.lexer.Piece.TheVariants.{Word}
use Rattle.oa_idl.specs.declared.parts.Property.{Property}
use Rattle.oa_idl.specs.declared.parts.Literal.{Literal}
use Rattle.oa_idl.specs.declared.parts.Literal.TheVariants as literals
use Rattle.oa_idl.specs.declared.parts.MethodKind.{MethodKind}
use Rattle.oa_idl.specs.declared.parts.MethodKind.TheVariants as methods_of
use Rattle.oa_idl.specs.declared.parts.Parameter.{Parameter}
use Rattle.oa_idl.specs.declared.seen.MethodHead.{MethodHead}
use Rattle.oa_idl.specs.declared.seen.ParameterSeen.{ParameterSeen}
use Rattle.oa_idl.specs.promise.MethodValues.{MethodValue}
use Rattle.oa_tokens.specs.promise.Bytes.{is_in, run}
use Rattle.oa_tokens.specs.promise.Tokens.{front}
use Rattle.oa_idl.specs.promise.Forms.{◌▸◌, nothing, one, optional, listed, nowhere}
use Rattle.oa_idl.specs.promise.Forms as forms
use Rattle.oa_idl.specs.promise.Words.{passes, name_of, is_printable, guid_of, part_of, id_of, amount_of, characters_of}
use Rattle.oa_idl.specs.promise.Words.{word_type, type_named, plain_type, unsigned_type}
use Rattle.oa_idl.specs.promise.Grammar.{symbol, type_word, value_type, property_attribute, id_form, numbered}
use Rattle.oa_idl.specs.promise.Grammar.{no_property, property_head, property, amount, literal, parameter_attribute}
use Rattle.oa_idl.specs.promise.Grammar.{no_parameter, parameter_head, parameter, method_attribute, no_method}
use Rattle.oa_idl.specs.promise.Grammar.{method_head, result_type, separated, next_parameter, one_more, may_end}
use Rattle.oa_idl.specs.promise.Grammar.{last_parameter, method}
use Rattle.oa_idl.specs.promise.Grammar.PropertyAttribute.{Id, Readonly}
use Rattle.oa_idl.specs.promise.Grammar.ParameterAttribute.{IsIn, IsOptional, HasDefault}
use Rattle.oa_idl.specs.promise.Grammar.MethodAttribute.{MethodId, Propget, Propput}
use Rattle.oa_printer.specs.promise.Canonical.{type_text, value_type_text, result_text, named_text, character_text}
use Rattle.oa_printer.specs.promise.Canonical.{literal_text, mark_text, default_text, parameter_marks, parameter_text}
use Rattle.oa_printer.specs.promise.Canonical.{further_text, parameters_text, id_text, readonly_text, property_text}
use Rattle.oa_printer.specs.promise.Canonical.{kind_text, list_text, method_text, digits_text}
use Rattle.oa_printer.specs.Printable.{IsGuid, IsNameText, IsName, IsId, IsType, IsValueType, IsLiteral, IsDefault, IsPrintableParameter, IsProperty}
use Rattle.oa_printer.specs.Printable.{IsResult, IsMethod}
use Rattle.oa_printer.proofs.PrintedTokens.{word, by_test, clash, is_not, EndsWord, AreDigits, number_front}
use Rattle.oa_printer.proofs.PrintedParts.{decimal_is, number_is, guid_front, string_front, string_value}
use Rattle.oa_printer.proofs.Spelled.{Spells, ◌▹◌, at, said, nothing_spelled, left_out, blank, left_mark, right_mark, comma_mark}
use Rattle.oa_printer.proofs.Spelled.{semicolon_mark, minus_mark, sign_word, meant_word, whole_word, last_spelled, next_spelled}
use Rattle.oa_printer.proofs.Spelled.{attributes_spelled, then_blank, then_line}

-- ---- names and types

pub name_spelled : (name : List ℕ) (b : ℕ) (x : List ℕ) → IsName name → EndsWord (b ∷ x) → Spells (one name_of name) (name ++ b ∷ x) (b ∷ x)
unfolding name_of
name_spelled name b x h ends = meant_word name_of name name b x h.0 ends (rw h.1 refl)

type_means : (in_array unsigned : Bool) (t : VarType) (text : List ℕ) → type_named unsigned text ≡ Some t
    → (in_array ≡ true → is_some (sf_type_of t) ≡ true) → word_type in_array unsigned (word kinds.Name text) ≡ Some t
unfolding word_type
type_means true unsigned t text e some = rw (e, some refl) refl
type_means false unsigned t text e some = rw e refl

-- one word for a type
plain_spelled : (in_array : Bool) (t : VarType) (text : List ℕ) (b : ℕ) (x : List ℕ) → IsNameText text → EndsWord (b ∷ x)
    → plain_type text ≡ Some t → (in_array ≡ true → is_some (sf_type_of t) ≡ true) → Spells (type_word in_array t) (text ++ b ∷ x) (b ∷ x)
plain_spelled in_array t text b x is ends e some =
    said (λ ws f. inr f) (meant_word (word_type in_array false) t text b x is ends (type_means in_array false t text e some))

-- and `unsigned` before it
unsigned_spelled : (in_array : Bool) (t : VarType) (text : List ℕ) (b : ℕ) (x : List ℕ) → IsNameText text → EndsWord (b ∷ x)
    → unsigned_type text ≡ Some t → (in_array ≡ true → is_some (sf_type_of t) ≡ true)
    → Spells (type_word in_array t) (codes "unsigned " ++ (text ++ b ∷ x)) (b ∷ x)
unfolding is_in run passes
unsigned_spelled in_array t text b x is ends e some = said (λ ws f. inl f)
    (sign_word (codes "unsigned") (codes "unsigned") 32 (text ++ b ∷ x) (refl, refl) (refl, refl) refl ▹ blank
    (meant_word (word_type in_array true) t text b x is ends (type_means in_array true t text e some)))

pub type_spelled : (in_array : Bool) (t : VarType) (b : ℕ) (x : List ℕ) → IsType in_array t → EndsWord (b ∷ x)
    → Spells (type_word in_array t) (type_text t ++ b ∷ x) (b ∷ x)
unfolding type_text is_in run plain_type unsigned_type
type_spelled in_array types.Empty b x h ends = absurd h
type_spelled in_array types.Null b x h ends = absurd h
type_spelled in_array types.Ui1 b x h ends = unsigned_spelled in_array types.Ui1 (codes "char") b x (refl, refl) ends refl (λ _. refl)
type_spelled in_array types.Ui2 b x h ends = unsigned_spelled in_array types.Ui2 (codes "short") b x (refl, refl) ends refl (λ _. refl)
type_spelled in_array types.Ui4 b x h ends = unsigned_spelled in_array types.Ui4 (codes "long") b x (refl, refl) ends refl (λ _. refl)
type_spelled in_array types.Uint b x h ends = unsigned_spelled in_array types.Uint (codes "int") b x (refl, refl) ends refl (λ _. refl)
type_spelled in_array types.Ui8 b x h ends = unsigned_spelled in_array types.Ui8 (codes "hyper") b x (refl, refl) ends refl (λ _. refl)
type_spelled true types.Error b x h ends = absurd (clash h refl)
type_spelled false types.Error b x h ends = plain_spelled false types.Error (codes "SCODE") b x (refl, refl) ends refl (λ e. absurd (clash e refl))
type_spelled true types.Decimal b x h ends = absurd (clash h refl)
type_spelled false types.Decimal b x h ends = plain_spelled false types.Decimal (codes "DECIMAL") b x (refl, refl) ends refl (λ e. absurd (clash e refl))
type_spelled in_array t b x h ends = plain_spelled in_array t (type_text t) b x (refl, refl) ends refl (λ _. refl)

pub value_type_spelled : (t : ValueType) (x : List ℕ) → IsValueType t → Spells (value_type t) (value_type_text t ++ 32 ∷ x) (32 ∷ x)
unfolding value_type value_type_text is_in run passes
value_type_spelled (values.One t) x h = type_spelled false t 32 x h (refl, refl)
value_type_spelled (values.Array t) x h = at (ap (λ (bs : List ℕ). codes "SAFEARRAY(" ++ bs) (append_assoc (type_text t) (codes ")") (32 ∷ x)))
    (sign_word (codes "SAFEARRAY") (codes "SAFEARRAY") 40 (type_text t ++ 41 ∷ 32 ∷ x) (refl, refl) (refl, refl) refl ▹ left_mark ▹ type_spelled true t 41
    (32 ∷ x) h (refl, refl) ▹ right_mark)

-- ---- numbers

digits_front : (ds : List ℕ) (b : ℕ) (x : List ℕ) → 0 < length ds → AreDigits ds → EndsWord (b ∷ x)
    → front (ds ++ b ∷ x) ≡ Word kinds.Number (length ds)
digits_front [] b x some h ends = absurd (omega (arith, some))
digits_front (d ∷ ds) b x some h ends = number_front d ds b x h ends ∙ ap (λ (n : ℕ). Word kinds.Number n) (one_plus (length ds))
  where
    one_plus : (n : ℕ) → 1 + n ≡ suc n
    one_plus n = omega arith

number_spelled : {A : Type 0} (meaning : forms.Word → Option A) (v : A) (n b : ℕ) (x : List ℕ) → n < 2 ^ 96 → EndsWord (b ∷ x)
    → meaning (word kinds.Number (decimal n)) ≡ Some v → Spells (one meaning v) (decimal n ++ b ∷ x) (b ∷ x)
number_spelled meaning v n b x small ends means =
    let h = decimal_is n small in
    whole_word kinds.Number (decimal n) (b ∷ x) h.some (digits_front (decimal n) b x h.some h.digits ends)
    (record { word = word kinds.Number (decimal n); parts = refl; is = means })

less : (a b : ℕ) → a < b → nat_lt a b ≡ true
less a b lt = by_test (nat_lt a b) (λ (e : nat_lt a b ≡ true). e) (λ (e : nat_lt a b ≡ false). absurd (omega (arith, lt, ltb-false a b e)))

most : (a b : ℕ) → a ≤ b → nat_le a b ≡ true
most a b le = by_test (nat_le a b) (λ (e : nat_le a b ≡ true). e) (λ (e : nat_le a b ≡ false). absurd (omega (arith, le, leb-false a b e)))

small_id : (n : ℕ) → n < 2147483648 → n < 2 ^ 96
small_id n h = omega (arith, h)

id_means : (n : ℕ) → n < 2147483648 → id_of false (word kinds.Number (decimal n)) ≡ Some (pos n)
unfolding id_of
id_means n h = let k = number_is n (decimal n) (small_id n h) (decimal_is n (small_id n h)) in rw (k.0, k.1, less n 2147483648 h) refl

small_minus : (n : ℕ) → n < 2147483648 → suc n < 2 ^ 96
small_minus n h = omega (arith, h)

minus_means : (n : ℕ) → n < 2147483648 → (n == 0 || n == 2) ≡ false → id_of true (word kinds.Number (decimal (suc n))) ≡ Some (negsuc n)
unfolding id_of
minus_means n h ok = let k = number_is (suc n) (decimal (suc n)) (small_minus n h) (decimal_is (suc n) (small_minus n h)) in
    rw (k.0, k.1, most (suc n) 2147483648 (omega (arith, h))) (rw ok refl)

pub id_spelled : (i : ℤ) (b : ℕ) (x : List ℕ) → IsId i → EndsWord (b ∷ x) → Spells (id_form i) (signed_decimal i ++ b ∷ x) (b ∷ x)
id_spelled (pos n) b x h ends = said (λ ws f. inr f) (number_spelled (id_of false) (pos n) n b x (small_id n h) ends (id_means n h))
id_spelled (negsuc n) b x h ends =
    said (λ ws f. inl f) (minus_mark ▹ number_spelled (id_of true) (negsuc n) (suc n) b x (small_minus n h.0) ends (minus_means n h.0 h.1))

amount_means : (n : ℕ) → n < 2 ^ 96 → amount_of false (word kinds.Number (decimal n)) ≡ Some (pos n)
unfolding amount_of
amount_means n h = let k = number_is n (decimal n) h (decimal_is n h) in rw k.1 refl

less_means : (n : ℕ) → suc n < 2 ^ 96 → amount_of true (word kinds.Number (decimal (suc n))) ≡ Some (negsuc n)
unfolding amount_of
less_means n h = let k = number_is (suc n) (decimal (suc n)) h (decimal_is (suc n) h) in rw k.1 refl

amount_spelled : (i : ℤ) (b : ℕ) (x : List ℕ) → IsLiteral (literals.Number i) → EndsWord (b ∷ x)
    → Spells (amount i) (signed_decimal i ++ b ∷ x) (b ∷ x)
amount_spelled (pos n) b x h ends = said (λ ws f. inr f) (number_spelled (amount_of false) (pos n) n b x h ends (amount_means n h))
amount_spelled (negsuc n) b x h ends =
    said (λ ws f. inl f) (minus_mark ▹ number_spelled (amount_of true) (negsuc n) (suc n) b x (omega (arith, h)) ends (less_means n (omega (arith, h))))

part_means : (n : ℕ) → n < 65536 → part_of true (word kinds.Number (decimal n)) ≡ Some n
unfolding part_of
part_means n h = let small : n < 2 ^ 96 = omega (arith, h) in let k = number_is n (decimal n) small (decimal_is n small) in rw (k.1, less n 65536 h) refl

pub part_spelled : (n b : ℕ) (x : List ℕ) → n < 65536 → EndsWord (b ∷ x) → Spells (one (part_of true) n) (decimal n ++ b ∷ x) (b ∷ x)
part_spelled n b x h ends = number_spelled (part_of true) n n b x (omega (arith, h)) ends (part_means n h)

-- ---- GUIDs

guid_length : (g : List ℕ) → length (digits_text g) ≡ 36
unfolding digits_text
guid_length g = by_index_length 36 _

guid_means : (g : List ℕ) → IsGuid g → guid_of (word kinds.Guid (digits_text g)) ≡ Some g
unfolding guid_of digits_text
guid_means g h = sym (parses_hyphenated_text 97 g (inl refl) h.0 h.1)

pub guid_spelled : (g x : List ℕ) → IsGuid g → Spells (one guid_of g) (digits_text g ++ 41 ∷ x) (41 ∷ x)
unfolding is_in
guid_spelled g x h = whole_word kinds.Guid (digits_text g) (41 ∷ x) (omega (arith, guid_length g))
    (guid_front g 41 x refl ∙ ap (λ (n : ℕ). Word kinds.Guid n) (sym (guid_length g)))
    (record { word = word kinds.Guid (digits_text g); parts = refl; is = guid_means g h })

-- ---- literals

string_means : (cs : List ℕ) → AllByRecursion (λ b. is_printable b ≡ true) cs
    → characters_of (word kinds.Text (34 ∷ (flat_map character_text cs ++ 34 ∷ []))) ≡ Some cs
unfolding characters_of
string_means cs h = string_value cs h

string_length : (cs : List ℕ) → 1 + suc (length (flat_map character_text cs)) ≡ length (34 ∷ (flat_map character_text cs ++ 34 ∷ []))
string_length cs = omega (arith, length-append (flat_map character_text cs) (34 ∷ []))

string_spelled : (cs x : List ℕ) → AllByRecursion (λ b. is_printable b ≡ true) cs
    → Spells (one characters_of cs) (34 ∷ (flat_map character_text cs ++ 34 ∷ x)) x
string_spelled cs x h = at (ap (λ (bs : List ℕ). 34 ∷ bs) (sym (append_assoc (flat_map character_text cs) (34 ∷ []) x)))
    (whole_word kinds.Text (34 ∷ (flat_map character_text cs ++ 34 ∷ [])) x (omega arith)
    (ap (λ (bs : List ℕ). front (34 ∷ bs)) (append_assoc (flat_map character_text cs) (34 ∷ []) x) ∙ string_front cs x
    ∙ ap (λ (n : ℕ). Word kinds.Text n) (string_length cs))
    (record { word = word kinds.Text (34 ∷ (flat_map character_text cs ++ 34 ∷ [])); parts = refl; is = string_means cs h }))

-- before the bracket that closes a default
literal_spelled : (v : Literal) (x : List ℕ) → IsLiteral v → Spells (literal v) (literal_text v ++ 41 ∷ x) (41 ∷ x)
unfolding literal literal_text is_in run passes
literal_spelled (literals.Number i) x h = amount_spelled i 41 x h (refl, refl)
literal_spelled (literals.Text cs) x h = at (ap (λ (bs : List ℕ). 34 ∷ bs) (append_assoc (flat_map character_text cs) (34 ∷ []) (41 ∷ x)))
    (string_spelled cs (41 ∷ x) h)
literal_spelled (literals.Bool true) x h = sign_word (codes "TRUE") (codes "TRUE") 41 x (refl, refl) (refl, refl) refl
literal_spelled (literals.Bool false) x h = sign_word (codes "FALSE") (codes "FALSE") 41 x (refl, refl) (refl, refl) refl

-- ---- properties

numbered_spelled : (i : ℤ) (x : List ℕ) → IsId i → Spells (numbered i) (codes "id(" ++ (signed_decimal i ++ 41 ∷ x)) x
unfolding is_in run passes
numbered_spelled i x h = sign_word (codes "id") (codes "id") 40 (signed_decimal i ++ 41 ∷ x) (refl, refl) (refl, refl) refl ▹ left_mark ▹ id_spelled i 41 x h
    (refl, refl) ▹ right_mark

property_head_spelled : (i : ℤ) (readonly : Bool) (x : List ℕ) → IsId i
    → Spells (property_head (record { id = i; readonly = readonly }))
    (codes "[id(" ++ (signed_decimal i ++ (readonly_text readonly ++ x))) x
unfolding property_head is_in run passes
property_head_spelled i false x h =
    then_blank (attributes_spelled {attribute = property_attribute} no_property (record { id = i; readonly = false }) (Id i) refl
    (numbered_spelled i (93 ∷ 32 ∷ x) h) (last_spelled _ (record { id = i; readonly = false }) refl))
property_head_spelled i true x h =
    then_blank (attributes_spelled {attribute = property_attribute} no_property (record { id = i; readonly = true }) (Id i) refl
    (numbered_spelled i (codes ", readonly] " ++ x) h)
    (next_spelled _ (record { id = i; readonly = true }) Readonly refl
    (blank (sign_word (codes "readonly") (codes "readonly") 93 (32 ∷ x) (refl, refl) (refl, refl) refl))
    (last_spelled _ (record { id = i; readonly = true }) refl)))

member_layout : (a b c d e x : List ℕ) → (((a ++ b) ++ ((c ++ 32 ∷ []) ++ d)) ++ e) ++ x ≡ a ++ (b ++ (c ++ 32 ∷ (d ++ (e ++ x))))
member_layout a b c d e x = append_assoc ((a ++ b) ++ ((c ++ 32 ∷ []) ++ d)) e x ∙ append_assoc (a ++ b) ((c ++ 32 ∷ []) ++ d) (e ++ x)
    ∙ append_assoc a b (((c ++ 32 ∷ []) ++ d) ++ (e ++ x))
    ∙ ap (λ (bs : List ℕ). a ++ (b ++ bs)) (append_assoc (c ++ 32 ∷ []) d (e ++ x) ∙ append_assoc c (32 ∷ []) (d ++ (e ++ x)))

property_layout : (p : Property) (x : List ℕ)
    → property_text p ++ x ≡ codes "[id(" ++ (signed_decimal p.id
    ++ (readonly_text p.readonly ++ (value_type_text p.value_type ++ 32 ∷ (p.name ++ 59 ∷ 10 ∷ x))))
unfolding property_text id_text named_text
property_layout p x =
    ap (λ (bs : List ℕ). codes "[id(" ++ bs)
    (member_layout (signed_decimal p.id) (readonly_text p.readonly) (value_type_text p.value_type) p.name (codes ";\n") x)

pub property_spelled : (p : Property) (x : List ℕ) → IsProperty p → Spells (property p) (property_text p ++ x) x
unfolding is_in
property_spelled p x h =
    at (property_layout p x) (property_head_spelled p.id p.readonly _ h.0 ▹ value_type_spelled p.value_type _ h.1 ▹ blank
    (name_spelled p.name 59 (10 ∷ x) h.2 (refl, refl)) ▹ semicolon_mark ▹ then_line nothing_spelled)

-- ---- parameters

typed_spelled : (t : ValueType) (name : List ℕ) (b : ℕ) (x : List ℕ) → IsValueType t → IsName name → EndsWord (b ∷ x)
    → Spells (value_type t ▸ one name_of name ▸ nothing) (named_text (value_type_text t) name ++ b ∷ x) (b ∷ x)
unfolding named_text
typed_spelled t name b x h k ends = at (append_assoc (value_type_text t ++ 32 ∷ []) name (b ∷ x) ∙ append_assoc (value_type_text t) (32 ∷ []) (name ++ b ∷ x))
    (value_type_spelled t (name ++ b ∷ x) h ▹ blank (name_spelled name b x k ends) ▹ nothing_spelled)

default_spelled : (v : Literal) (x : List ℕ) → IsLiteral v
    → Spells (parameter_attribute (HasDefault v)) (codes "defaultvalue(" ++ (literal_text v ++ 41 ∷ x)) x
unfolding is_in run passes
default_spelled v x h = sign_word (codes "defaultvalue") (codes "defaultvalue") 40 (literal_text v ++ 41 ∷ x) (refl, refl) (refl, refl) refl ▹ left_mark
    ▹ literal_spelled v x h ▹ right_mark

marked_layout : (l n y : List ℕ) → (((l ++ 41 ∷ []) ++ 93 ∷ 32 ∷ []) ++ n) ++ y ≡ l ++ 41 ∷ 93 ∷ 32 ∷ (n ++ y)
marked_layout l n y = append_assoc ((l ++ 41 ∷ []) ++ 93 ∷ 32 ∷ []) n y ∙ append_assoc (l ++ 41 ∷ []) (93 ∷ 32 ∷ []) (n ++ y)
    ∙ append_assoc l (41 ∷ []) (93 ∷ 32 ∷ (n ++ y))

abbrev marks : Bool → Bool → Option Literal → ParameterSeen
marks i o d = record { is_in = i; is_optional = o; default = d }

in_spelled : (b : ℕ) (x : List ℕ) → EndsWord (b ∷ x) → Spells (symbol (codes "in")) (codes "in" ++ b ∷ x) (b ∷ x)
unfolding is_in run passes
in_spelled b x ends = sign_word (codes "in") (codes "in") b x (refl, refl) ends refl

optional_spelled : (b : ℕ) (x : List ℕ) → EndsWord (b ∷ x) → Spells (symbol (codes "optional")) (codes "optional" ++ b ∷ x) (b ∷ x)
unfolding is_in run passes
optional_spelled b x ends = sign_word (codes "optional") (codes "optional") b x (refl, refl) ends refl

marked : (i o : Bool) (d : Option Literal) (t : ValueType) (name : List ℕ) (b : ℕ) (x : List ℕ) → IsDefault d → IsValueType t → IsName name
    → EndsWord (b ∷ x)
    → Spells (parameter (record { is_in = i; is_optional = o; default = d; value_type = t; name = name }))
    (parameter_text (record { is_in = i; is_optional = o; default = d; value_type = t; name = name }) ++ b ∷ x) (b ∷ x)
unfolding parameter parameter_head parameter_text parameter_marks mark_text default_text is_in
marked false false None t name b x h k n ends = said (λ ws f. inr (refl, f)) (typed_spelled t name b x k n ends)
marked true false None t name b x h k n ends = let y = named_text (value_type_text t) name ++ b ∷ x in
    said (λ ws f. inl f) (then_blank (attributes_spelled {attribute = parameter_attribute} no_parameter (marks true false None) IsIn refl
    (in_spelled 93 (32 ∷ y) (refl, refl)) (last_spelled _ (marks true false None) refl)) ▹ typed_spelled t name b x k n ends)
marked false true None t name b x h k n ends = let y = named_text (value_type_text t) name ++ b ∷ x in
    said (λ ws f. inl f) (then_blank (attributes_spelled {attribute = parameter_attribute} no_parameter (marks false true None) IsOptional refl
    (optional_spelled 93 (32 ∷ y) (refl, refl)) (last_spelled _ (marks false true None) refl)) ▹ typed_spelled t name b x k n ends)
marked true true None t name b x h k n ends = let y = named_text (value_type_text t) name ++ b ∷ x in
    said (λ ws f. inl f) (then_blank (attributes_spelled {attribute = parameter_attribute} no_parameter (marks true true None) IsIn refl
    (in_spelled 44 (codes " optional] " ++ y) (refl, refl))
    (next_spelled _ (marks true true None) IsOptional refl (blank (optional_spelled 93 (32 ∷ y) (refl, refl))) (last_spelled _ (marks true true None) refl)))
    ▹ typed_spelled t name b x k n ends)
marked false false (Some v) t name b x h k n ends = let y = named_text (value_type_text t) name ++ b ∷ x in
    at (ap (λ (bs : List ℕ). codes "[defaultvalue(" ++ bs) (marked_layout (literal_text v) (named_text (value_type_text t) name) (b ∷ x)))
    (said (λ ws f. inl f) (then_blank (attributes_spelled {attribute = parameter_attribute} no_parameter (marks false false (Some v)) (HasDefault v) refl
    (default_spelled v (93 ∷ 32 ∷ y) h) (last_spelled _ (marks false false (Some v)) refl)) ▹ typed_spelled t name b x k n ends))
marked true false (Some v) t name b x h k n ends = let y = named_text (value_type_text t) name ++ b ∷ x in
    at (ap (λ (bs : List ℕ). codes "[in, defaultvalue(" ++ bs) (marked_layout (literal_text v) (named_text (value_type_text t) name) (b ∷ x)))
    (said (λ ws f. inl f) (then_blank (attributes_spelled {attribute = parameter_attribute} no_parameter (marks true false (Some v)) IsIn refl
    (in_spelled 44 (codes " defaultvalue(" ++ (literal_text v ++ 41 ∷ 93 ∷ 32 ∷ y)) (refl, refl))
    (next_spelled _ (marks true false (Some v)) (HasDefault v) refl (blank (default_spelled v (93 ∷ 32 ∷ y) h))
    (last_spelled _ (marks true false (Some v)) refl))) ▹ typed_spelled t name b x k n ends))
marked false true (Some v) t name b x h k n ends = let y = named_text (value_type_text t) name ++ b ∷ x in
    at (ap (λ (bs : List ℕ). codes "[optional, defaultvalue(" ++ bs) (marked_layout (literal_text v) (named_text (value_type_text t) name) (b ∷ x)))
    (said (λ ws f. inl f) (then_blank (attributes_spelled {attribute = parameter_attribute} no_parameter (marks false true (Some v)) IsOptional refl
    (optional_spelled 44 (codes " defaultvalue(" ++ (literal_text v ++ 41 ∷ 93 ∷ 32 ∷ y)) (refl, refl))
    (next_spelled _ (marks false true (Some v)) (HasDefault v) refl (blank (default_spelled v (93 ∷ 32 ∷ y) h))
    (last_spelled _ (marks false true (Some v)) refl))) ▹ typed_spelled t name b x k n ends))
marked true true (Some v) t name b x h k n ends = let y = named_text (value_type_text t) name ++ b ∷ x in
    at (ap (λ (bs : List ℕ). codes "[in, optional, defaultvalue(" ++ bs) (marked_layout (literal_text v) (named_text (value_type_text t) name) (b ∷ x)))
    (said (λ ws f. inl f) (then_blank (attributes_spelled {attribute = parameter_attribute} no_parameter (marks true true (Some v)) IsIn refl
    (in_spelled 44 (codes " optional, defaultvalue(" ++ (literal_text v ++ 41 ∷ 93 ∷ 32 ∷ y)) (refl, refl))
    (next_spelled _ (marks true true (Some v)) IsOptional refl
    (blank (optional_spelled 44 (codes " defaultvalue(" ++ (literal_text v ++ 41 ∷ 93 ∷ 32 ∷ y)) (refl, refl)))
    (next_spelled _ (marks true true (Some v)) (HasDefault v) refl (blank (default_spelled v (93 ∷ 32 ∷ y) h))
    (last_spelled _ (marks true true (Some v)) refl)))) ▹ typed_spelled t name b x k n ends))

parameter_spelled : (p : Parameter) (b : ℕ) (x : List ℕ) → IsPrintableParameter p → EndsWord (b ∷ x)
    → Spells (parameter p) (parameter_text p ++ b ∷ x) (b ∷ x)
parameter_spelled p b x h ends = marked p.is_in p.is_optional p.default p.value_type p.name b x h.0 h.1 h.2 ends

parameter_before : (p : Parameter) (y : List ℕ) → IsPrintableParameter p → EndsWord y → Spells (parameter p) (parameter_text p ++ y) y
parameter_before p [] h ends = absurd ends
parameter_before p (b ∷ x) h ends = parameter_spelled p b x h ends

rest_ends : (ps : List Parameter) (x : List ℕ) → EndsWord (flat_map further_text ps ++ 41 ∷ x)
unfolding further_text is_in
rest_ends [] x = (refl, refl)
rest_ends (p ∷ ps) x = (refl, refl)

right_spelled : (k : MethodKind) (n : ℕ) (x : List ℕ) → may_end k n ≡ true → Spells (last_parameter k n tt) (41 ∷ x) x
right_spelled k n x e = said (λ ws f. (e, f)) right_mark

further_spelled : (n : ℕ) (p : Parameter) (y : List ℕ) → 0 < n → IsPrintableParameter p → EndsWord y
    → Spells (next_parameter n p) (further_text p ++ y) y
unfolding further_text
further_spelled n p y some h ends = subst (λ (c : Bool). Spells (separated c p) (codes ", " ++ (parameter_text p ++ y)) y)
    (sym (is_not n 0 (λ e. omega (arith, e, some)))) (comma_mark ▹ blank (parameter_before p y h ends))

rest_spelled : (k : MethodKind) (n : ℕ) (ps : List Parameter) (x : List ℕ) → 0 < n → AllByRecursion IsPrintableParameter ps
    → may_end k (n + length ps) ≡ true → Spells (listed next_parameter one_more nowhere (last_parameter k) n ps tt)
    (flat_map further_text ps ++ 41 ∷ x) x
rest_spelled k n [] x some h e = right_spelled k n x (subst (λ (m : ℕ). may_end k m ≡ true) (omega arith) e)
rest_spelled k n (p ∷ ps) x some h e = at (append_assoc (further_text p) (flat_map further_text ps) (41 ∷ x))
    (further_spelled n p (flat_map further_text ps ++ 41 ∷ x) some h.0 (rest_ends ps x) ▹ left_out ▹ rest_spelled k (n + 1) ps x (omega arith) h.1
    (subst (λ (m : ℕ). may_end k m ≡ true) (omega arith) e))

parameters_spelled : (k : MethodKind) (ps : List Parameter) (x : List ℕ) → AllByRecursion IsPrintableParameter ps → may_end k (length ps) ≡ true
    → Spells (listed next_parameter one_more nowhere (last_parameter k) 0 ps tt) (parameters_text ps ++ 41 ∷ x) x
unfolding parameters_text
parameters_spelled k [] x h e = right_spelled k 0 x e
parameters_spelled k (p ∷ ps) x h e = at (append_assoc (parameter_text p) (flat_map further_text ps) (41 ∷ x))
    (parameter_before p (flat_map further_text ps ++ 41 ∷ x) h.0 (rest_ends ps x) ▹ left_out ▹ rest_spelled k 1 ps x (omega arith) h.1
    (subst (λ (m : ℕ). may_end k m ≡ true) (omega arith) e))

-- ---- methods

abbrev head_of : ℤ → MethodKind → MethodHead
head_of i k = record { id = i; kind = k }

method_head_spelled : (i : ℤ) (k : MethodKind) (x : List ℕ) → IsId i
    → Spells (method_head (head_of i k)) (codes "[id(" ++ (signed_decimal i ++ (kind_text k ++ x))) x
unfolding method_head is_in run passes
method_head_spelled i methods_of.Method x h =
    then_blank (attributes_spelled {attribute = method_attribute} no_method (head_of i methods_of.Method) (MethodId i) refl (numbered_spelled i (93 ∷ 32 ∷ x) h)
    (last_spelled _ (head_of i methods_of.Method) refl))
method_head_spelled i methods_of.Get x h =
    then_blank (attributes_spelled {attribute = method_attribute} no_method (head_of i methods_of.Get) (MethodId i) refl
    (numbered_spelled i (codes ", propget] " ++ x) h)
    (next_spelled _ (head_of i methods_of.Get) Propget refl (blank (sign_word (codes "propget") (codes "propget") 93 (32 ∷ x) (refl, refl) (refl, refl) refl))
    (last_spelled _ (head_of i methods_of.Get) refl)))
method_head_spelled i methods_of.Put x h =
    then_blank (attributes_spelled {attribute = method_attribute} no_method (head_of i methods_of.Put) (MethodId i) refl
    (numbered_spelled i (codes ", propput] " ++ x) h)
    (next_spelled _ (head_of i methods_of.Put) Propput refl (blank (sign_word (codes "propput") (codes "propput") 93 (32 ∷ x) (refl, refl) (refl, refl) refl))
    (last_spelled _ (head_of i methods_of.Put) refl)))

result_spelled : (k : MethodKind) (t : Option ValueType) (x : List ℕ) → IsResult k t
    → Spells (result_type k t) (result_text t ++ 32 ∷ x) (32 ∷ x)
unfolding result_type result_text is_in run passes
result_spelled k None x h = said (λ ws f. (h, f)) (sign_word (codes "void") (codes "void") 32 x (refl, refl) (refl, refl) refl)
result_spelled k (Some t) x h = said (λ ws f. (h.0, f)) (value_type_spelled t x h.1)

left_ends : (x : List ℕ) → EndsWord (40 ∷ x)
unfolding is_in
left_ends x = (refl, refl)

method_layout : (m : MethodValue) (x : List ℕ)
    → method_text m ++ x ≡ codes "[id(" ++ (signed_decimal m.id
    ++ (kind_text m.kind ++ (result_text m.value_type ++ 32 ∷ (m.name ++ 40 ∷ (parameters_text m.parameters ++ 41 ∷ 59 ∷ 10 ∷ x)))))
unfolding method_text id_text named_text list_text
method_layout m x =
    ap (λ (bs : List ℕ). codes "[id(" ++ bs)
    (member_layout (signed_decimal m.id) (kind_text m.kind) (result_text m.value_type) m.name (codes "(" ++ parameters_text m.parameters ++ codes ");\n") x)
    ∙ ap (λ (bs : List ℕ). codes "[id(" ++ (signed_decimal m.id ++ (kind_text m.kind ++ (result_text m.value_type ++ 32 ∷ (m.name ++ 40 ∷ bs)))))
    (append_assoc (parameters_text m.parameters) (codes ");\n") x)

pub method_spelled : (m : MethodValue) (x : List ℕ) → IsMethod m → Spells (method m) (method_text m ++ x) x
unfolding method
method_spelled m x h =
    at (method_layout m x) (method_head_spelled m.id m.kind _ h.0 ▹ result_spelled m.kind m.value_type _ h.1 ▹ blank
    (name_spelled m.name 40 (parameters_text m.parameters ++ 41 ∷ 59 ∷ 10 ∷ x) h.2 (left_ends (parameters_text m.parameters ++ 41 ∷ 59 ∷ 10 ∷ x))) ▹ left_mark
    ▹ parameters_spelled m.kind m.parameters (59 ∷ 10 ∷ x) h.3 h.4 ▹ semicolon_mark ▹ then_line nothing_spelled)
