-- The canonical text of a tree is ASCII.
use Rattle.std.specs.Prelude.{codes, nat_lt, ◌&&◌, ◌||◌, if◌then◌else◌, Option, Some, None, ℤ, pos, negsuc}
use Rattle.std.proofs.Common.{◌≡◌, ℕ, zero, suc, ◌<◌, ◌^◌, Bool, true, false, List, [], ◌∷◌, ◌++◌, length, refl, arith}
use Rattle.std.specs.List.{AllByRecursion, flat_map, list_all}
use Rattle.std.specs.Str.{IsAscii, IsUtf8}
use Rattle.std.specs.Fmt.{decimal, signed_decimal}
use Rattle.std.proofs.lemmas.Str.{IsAscii-append, IsUtf8-from_ascii}
use Rattle.std.proofs.lemmas.Str.Ascii.{IsAscii-nil, IsAscii-cons, IsAscii-push}
use Rattle.std.proofs.lemmas.Fmt.{IsAscii-decimal_wide}
use Rattle.uuid.specs.Text.{lower, by_index, hex_digit, nibble, is_hyphen_place, digit_place}
use Rattle.oa_model.specs.declared.var_type.VarType.{VarType}
use Rattle.oa_model.specs.declared.var_type.VarType.TheVariants as types
use Rattle.oa_model.specs.declared.var_type.ValueType.{ValueType}
use Rattle.oa_model.specs.declared.var_type.ValueType.TheVariants as values
use Rattle.oa_tokens.specs.declared.scan.Class.TheVariants.{Letter, Named}
use Rattle.oa_tokens.specs.promise.Bytes.{is_in, run}
use Rattle.oa_idl.specs.declared.parts.Entry.{Entry}
use Rattle.oa_idl.specs.declared.parts.Literal.{Literal}
use Rattle.oa_idl.specs.declared.parts.Literal.TheVariants as literals
use Rattle.oa_idl.specs.declared.parts.MethodKind.{MethodKind}
use Rattle.oa_idl.specs.declared.parts.MethodKind.TheVariants as forms
use Rattle.oa_idl.specs.declared.parts.Parameter.{Parameter}
use Rattle.oa_idl.specs.declared.parts.Property.{Property}
use Rattle.oa_idl.specs.declared.parts.Version.{Version}
use Rattle.oa_idl.specs.declared.items.Item.{Item}
use Rattle.oa_idl.specs.declared.items.Item.TheVariants as items
use Rattle.oa_idl.specs.declared.seen.EntriesSeen.{EntriesSeen}
use Rattle.oa_idl.specs.promise.Grammar.{entry_grow, no_entry}
use Rattle.oa_idl.specs.promise.MethodValues.{MethodValue}
use Rattle.oa_idl.specs.promise.Words.{is_escaped, is_printable}
use Rattle.oa_idl.specs.promise.Trees.{TreeValue}
use Rattle.oa_printer.specs.Printable.{AreEntries, IsDefault, IsId, IsItem, IsLiteral, IsMethod, IsName, IsNameText, IsPrintable, IsPrintableParameter}
use Rattle.oa_printer.specs.Printable.{IsProperty, IsVersion}
use Rattle.oa_printer.specs.promise.Canonical.{canonical, character_text, coclass_text, default_text, digits_text}
use Rattle.oa_printer.specs.promise.Canonical.{entry_text, entry_word_text, further_text, guid_text, has_marks, id_text}
use Rattle.oa_printer.specs.promise.Canonical.{interface_line, interface_text, item_text, kind_text, list_text}
use Rattle.oa_printer.specs.promise.Canonical.{literal_text, mark_text, method_text, methods_text, named_text}
use Rattle.oa_printer.specs.promise.Canonical.{parameter_marks, parameter_text, parameters_text, properties_line}
use Rattle.oa_printer.specs.promise.Canonical.{properties_text, property_text, readonly_text, result_text, title_text}
use Rattle.oa_printer.specs.promise.Canonical.{type_text, value_type_text, version_text}

low_byte : (b : ℕ) → nat_lt b 128 ≡ true → b < 128
low_byte b is = grind (arith, is)

-- a list that is looked through
low_head : (b : ℕ) (bs : List ℕ) (t : Bool) → nat_lt b 128 ≡ t → (t && list_all (λ b. nat_lt b 128) bs) ≡ true
    → (list_all (λ b. nat_lt b 128) bs ≡ true → IsAscii bs) → IsAscii (b ∷ bs)
low_head b bs true h all rest = IsAscii-cons b bs (low_byte b h) (rest all)
low_head b bs false h all rest = absurd (cc all)

low : (bs : List ℕ) → list_all (λ b. nat_lt b 128) bs ≡ true → IsAscii bs
low [] is = IsAscii-nil
low (b ∷ bs) is = low_head b bs (nat_lt b 128) refl is (low bs)

each : {X : Type 0} (f : X → List ℕ) (P : X → Type 0) → ((x : X) → P x → IsAscii (f x)) → (xs : List X) → AllByRecursion P xs
    → IsAscii (flat_map f xs)
each f P h [] all = IsAscii-nil
each f P h (x ∷ xs) all = IsAscii-append (f x) (flat_map f xs) (h x all.0) (each f P h xs all.1)

three : (xs ys zs : List ℕ) → IsAscii xs → IsAscii ys → IsAscii zs → IsAscii ((xs ++ ys) ++ zs)
three xs ys zs a b c = IsAscii-append (xs ++ ys) zs (IsAscii-append xs ys a b) c

letter_low : (c : ℕ) → is_in Letter c ≡ true → c < 128
unfolding is_in
letter_low c is = grind (arith, is)

named_low : (c : ℕ) → is_in Named c ≡ true → c < 128
unfolding is_in
named_low c is = grind (arith, is)

printable_low : (c : ℕ) → is_printable c ≡ true → c < 128
printable_low c is = grind (arith, is)

-- bytes that are all of a class
run_head : (c : ℕ) (cs : List ℕ) (t : Bool) → is_in Named c ≡ t → (if t then suc (run (is_in Named) cs) else 0) ≡ suc (length cs)
    → (run (is_in Named) cs ≡ length cs → IsAscii cs) → IsAscii (c ∷ cs)
run_head c cs true h all rest = IsAscii-cons c cs (named_low c h) (rest (omega (arith, all)))
run_head c cs false h all rest = absurd (omega (arith, all))

named : (cs : List ℕ) → run (is_in Named) cs ≡ length cs → IsAscii cs
unfolding run
named [] all = IsAscii-nil
named (c ∷ cs) all = run_head c cs (is_in Named c) refl all (named cs)

name_text : (name : List ℕ) → IsNameText name → IsAscii name
name_text [] is = absurd is
name_text (c ∷ cs) is = IsAscii-cons c cs (letter_low c is.0) (named cs is.1)

a_name : (name : List ℕ) → IsName name → IsAscii name
a_name name is = name_text name is.0

-- a GUID's digits
digit_low : (d : ℕ) → d < 16 → hex_digit lower d < 128
digit_low d lt = grind (arith, lt)

nibble_low : (xs : List ℕ) (k : ℕ) → nibble xs k < 16
nibble_low xs k = grind arith

by_index_low : (n : ℕ) (f : ℕ → ℕ) → ((k : ℕ) → f k < 128) → IsAscii (by_index n f)
unfolding by_index
by_index_low zero f h = IsAscii-nil
by_index_low (suc n) f h = IsAscii-push (by_index n f) (f n) (by_index_low n f h) (h n)

at_place : (xs : List ℕ) (k : ℕ) (t : Bool) → (if t then 45 else hex_digit lower (nibble xs (digit_place k))) < 128
at_place xs k true = omega arith
at_place xs k false = digit_low (nibble xs (digit_place k)) (nibble_low xs (digit_place k))

digits : (g : List ℕ) → IsAscii (digits_text g)
unfolding digits_text
digits g = by_index_low 36 (λ k. if is_hyphen_place k then 45 else hex_digit lower (nibble g (digit_place k))) (λ k. at_place g k (is_hyphen_place k))

-- numbers
wide : (n : ℕ) → n < 2 ^ 97 → IsAscii (decimal n)
wide n lt = IsAscii-decimal_wide n (omega (arith, lt))

signed : (z : ℤ) → IsLiteral (literals.Number z) → IsAscii (signed_decimal z)
signed (pos n) lt = wide n (omega (arith, lt))
signed (negsuc n) lt = IsAscii-cons 45 (decimal (suc n)) (omega arith) (wide (suc n) (omega (arith, lt)))

an_id : (z : ℤ) → IsId z → IsLiteral (literals.Number z)
an_id (pos n) is = omega (arith, is)
an_id (negsuc n) is = omega (arith, is.0)

-- ---- types

type_low : (t : VarType) → IsAscii (type_text t)
unfolding type_text
type_low types.Empty = IsAscii-nil
type_low types.Null = IsAscii-nil
type_low t = low (type_text t) refl

value_type_low : (t : ValueType) → IsAscii (value_type_text t)
unfolding value_type_text
value_type_low (values.One t) = type_low t
value_type_low (values.Array t) = IsAscii-append (codes "SAFEARRAY(") _ (low (codes "SAFEARRAY(") refl)
    (IsAscii-append (type_text t) _ (type_low t) (low (codes ")") refl))

result_low : (t : Option ValueType) → IsAscii (result_text t)
unfolding result_text
result_low None = low (codes "void") refl
result_low (Some t) = value_type_low t

named_text_low : (type name : List ℕ) → IsAscii type → IsAscii name → IsAscii (named_text type name)
unfolding named_text
named_text_low type name t n = three type (codes " ") name t (low (codes " ") refl) n

-- ---- parameters

escaped_low : (b : ℕ) (t : Bool) → b < 128 → IsAscii (if t then 92 ∷ b ∷ [] else b ∷ [])
escaped_low b true lt = IsAscii-cons 92 (b ∷ []) (omega arith) (IsAscii-cons b [] lt IsAscii-nil)
escaped_low b false lt = IsAscii-cons b [] lt IsAscii-nil

character_low : (b : ℕ) → is_printable b ≡ true → IsAscii (character_text b)
unfolding character_text
character_low b is = escaped_low b (is_escaped b) (printable_low b is)

literal_low : (v : Literal) → IsLiteral v → IsAscii (literal_text v)
unfolding literal_text
literal_low (literals.Number i) is = signed i is
literal_low (literals.Text cs) is = IsAscii-append (codes "\"") _ (low (codes "\"") refl)
    (IsAscii-append (flat_map character_text cs) _ (each character_text (λ b. is_printable b ≡ true) character_low cs is) (low (codes "\"") refl))
literal_low (literals.Bool true) is = low (codes "TRUE") refl
literal_low (literals.Bool false) is = low (codes "FALSE") refl

mark_low : (before there : Bool) (text : List ℕ) → IsAscii text → IsAscii (mark_text before there text)
unfolding mark_text
mark_low true true text t = IsAscii-append (codes ", ") text (low (codes ", ") refl) t
mark_low false true text t = IsAscii-append (codes "[") text (low (codes "[") refl) t
mark_low before false text t = IsAscii-nil

default_low : (before : Bool) (d : Option Literal) → IsDefault d → IsAscii (default_text before d)
unfolding default_text
default_low before None is = IsAscii-nil
default_low before (Some v) is = three (mark_text before true (codes "defaultvalue(")) (literal_text v) (codes ")")
    (mark_low before true (codes "defaultvalue(") (low (codes "defaultvalue(") refl)) (literal_low v is) (low (codes ")") refl)

end_low : (b : Bool) → IsAscii (if b then codes "] " else [])
end_low true = low (codes "] ") refl
end_low false = IsAscii-nil

parameter_low : (p : Parameter) → IsPrintableParameter p → IsAscii (parameter_text p)
unfolding parameter_text parameter_marks
parameter_low p is =
    let marks = three (mark_text false p.is_in (codes "in") ++ mark_text p.is_in p.is_optional (codes "optional"))
    (default_text (p.is_in || p.is_optional) p.default) (if has_marks p then codes "] " else [])
    (IsAscii-append (mark_text false p.is_in (codes "in")) (mark_text p.is_in p.is_optional (codes "optional"))
    (mark_low false p.is_in (codes "in") (low (codes "in") refl))
    (mark_low p.is_in p.is_optional (codes "optional") (low (codes "optional") refl)))
    (default_low (p.is_in || p.is_optional) p.default is.0) (end_low (has_marks p)) in
    IsAscii-append (parameter_marks p) _ marks (named_text_low (value_type_text p.value_type) p.name (value_type_low p.value_type) (a_name p.name is.2))

further_low : (p : Parameter) → IsPrintableParameter p → IsAscii (further_text p)
unfolding further_text
further_low p is = IsAscii-append (codes ", ") _ (low (codes ", ") refl) (parameter_low p is)

parameters_low : (ps : List Parameter) → AllByRecursion IsPrintableParameter ps → IsAscii (parameters_text ps)
unfolding parameters_text
parameters_low [] is = IsAscii-nil
parameters_low (p ∷ ps) is = IsAscii-append (parameter_text p) _ (parameter_low p is.0) (each further_text IsPrintableParameter further_low ps is.1)

-- ---- members

id_low : (id : ℤ) (end : List ℕ) → IsId id → IsAscii end → IsAscii (id_text id end)
unfolding id_text
id_low id end is e = IsAscii-append (codes "[id(") _ (low (codes "[id(") refl) (IsAscii-append (signed_decimal id) end (signed id (an_id id is)) e)

readonly_low : (b : Bool) → IsAscii (readonly_text b)
readonly_low true = low (codes "), readonly] ") refl
readonly_low false = low (codes ")] ") refl

property_low : (p : Property) → IsProperty p → IsAscii (property_text p)
unfolding property_text
property_low p is = three (id_text p.id (readonly_text p.readonly)) (named_text (value_type_text p.value_type) p.name) (codes ";\n")
    (id_low p.id (readonly_text p.readonly) is.0 (readonly_low p.readonly))
    (named_text_low (value_type_text p.value_type) p.name (value_type_low p.value_type) (a_name p.name is.2)) (low (codes ";\n") refl)

kind_low : (k : MethodKind) → IsAscii (kind_text k)
kind_low forms.Method = low (codes ")] ") refl
kind_low forms.Get = low (codes "), propget] ") refl
kind_low forms.Put = low (codes "), propput] ") refl

list_low : (ps : List Parameter) → AllByRecursion IsPrintableParameter ps → IsAscii (list_text ps)
unfolding list_text
list_low ps is = IsAscii-append (codes "(") _ (low (codes "(") refl) (IsAscii-append (parameters_text ps) _ (parameters_low ps is) (low (codes ");\n") refl))

method_low : (m : MethodValue) → IsMethod m → IsAscii (method_text m)
unfolding method_text
method_low m is = three (id_text m.id (kind_text m.kind)) (named_text (result_text m.value_type) m.name) (list_text m.parameters)
    (id_low m.id (kind_text m.kind) is.0 (kind_low m.kind))
    (named_text_low (result_text m.value_type) m.name (result_low m.value_type) (a_name m.name is.2)) (list_low m.parameters is.3)

entry_word_low : (b : Bool) → IsAscii (entry_word_text b)
entry_word_low true = low (codes "[default] dispinterface ") refl
entry_word_low false = low (codes "dispinterface ") refl

entry_low : (e : Entry) → IsName e.interface → IsAscii (entry_text e)
unfolding entry_text
entry_low e is = three (entry_word_text e.is_default) e.interface (codes ";\n") (entry_word_low e.is_default) (a_name e.interface is) (low (codes ";\n") refl)

entries_low : (s : EntriesSeen) (es : List Entry) → AreEntries s es → IsAscii (flat_map entry_text es)
entries_low s [] are = IsAscii-nil
entries_low s (e ∷ es) are = IsAscii-append (entry_text e) _ (entry_low e are.1) (entries_low (entry_grow s e) es are.2)

-- ---- items

guid_low : (g : List ℕ) → IsAscii (guid_text g)
unfolding guid_text
guid_low g = IsAscii-append (codes "[uuid(") _ (low (codes "[uuid(") refl) (IsAscii-append (digits_text g) _ (digits g) (low (codes ")") refl))

title_low : (guid word name : List ℕ) → IsAscii word → IsAscii name → IsAscii (title_text guid word name)
unfolding title_text
title_low guid word name w n = three (guid_text guid ++ word) name (codes " {\n") (IsAscii-append (guid_text guid) word (guid_low guid) w) n
    (low (codes " {\n") refl)

item_low : (i : Item) → IsItem i → IsAscii (item_text i)
unfolding item_text interface_text interface_line properties_text properties_line methods_text coclass_text
item_low (items.Interface d) is = three (title_text d.guid (codes "]\ndispinterface ") d.name) (properties_text d.properties) (methods_text d.methods)
    (title_low d.guid (codes "]\ndispinterface ") d.name (low (codes "]\ndispinterface ") refl) (a_name d.name is.1))
    (IsAscii-append (codes "properties:\n") (flat_map property_text d.properties) (low (codes "properties:\n") refl)
    (each property_text IsProperty property_low d.properties is.2))
    (three (codes "methods:\n") (flat_map method_text d.methods) (codes "}\n") (low (codes "methods:\n") refl)
    (each method_text IsMethod method_low d.methods is.3) (low (codes "}\n") refl))
item_low (items.Coclass c) is = three (title_text c.guid (codes "]\ncoclass ") c.name) (flat_map entry_text c.entries) (codes "}\n")
    (title_low c.guid (codes "]\ncoclass ") c.name (low (codes "]\ncoclass ") refl) (a_name c.name is.1)) (entries_low no_entry c.entries is.2)
    (low (codes "}\n") refl)

version_low : (v : Version) → IsVersion v → IsAscii (version_text v)
unfolding version_text
version_low v is = three ((codes ", version(" ++ decimal v.major) ++ codes ".") (decimal v.minor) (codes ")]\nlibrary ")
    (three (codes ", version(") (decimal v.major) (codes ".") (low (codes ", version(") refl) (wide v.major (omega (arith, is.0))) (low (codes ".") refl))
    (wide v.minor (omega (arith, is.1))) (low (codes ")]\nlibrary ") refl)

pub canonical_low : (t : TreeValue) → IsPrintable t → IsAscii (canonical t)
unfolding canonical
canonical_low t is = three (title_text t.guid (version_text t.version) t.name) (flat_map item_text t.items) (codes "}\n")
    (title_low t.guid (version_text t.version) t.name (version_low t.version is.version) (a_name t.name is.name))
    (each item_text IsItem item_low t.items is.items) (low (codes "}\n") refl)

pub canonical_is_utf8 : (t : TreeValue) → IsPrintable t → IsUtf8 (canonical t)
canonical_is_utf8 t is = IsUtf8-from_ascii (canonical t) (canonical_low t is)
