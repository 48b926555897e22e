-- The canonical text of a tree: this project's choice among the texts with that tree. Each line ends with LF. GUIDs are
-- in lower case, numbers are decimal, one space follows a comma, and both section keywords are always there.
use Rattle.std.specs.Prelude.{ℕ, ℤ, Bool, true, false, ◌||◌, if◌then◌else◌, List, [], ◌∷◌, ◌++◌, codes, Option, Some}
use Rattle.std.specs.Prelude.{None, is_some}
use Rattle.std.specs.List.{flat_map}
use Rattle.std.specs.Fmt.{decimal, signed_decimal}
use Rattle.uuid.specs.Text.{hyphenated_text, lower}
use Rattle.oa_model.specs.declared.var_type.VarType.{VarType}
use Rattle.oa_model.specs.declared.var_type.VarType.TheVariants as types
use Rattle.oa_model.specs.declared.var_type.ValueType.{ValueType}
use Rattle.oa_model.specs.declared.var_type.ValueType.TheVariants as values
use Rattle.oa_idl.specs.declared.parts.Entry.{Entry}
use Rattle.oa_idl.specs.declared.parts.Literal.{Literal}
use Rattle.oa_idl.specs.declared.parts.Literal.TheVariants as literals
use Rattle.oa_idl.specs.declared.parts.MethodKind.{MethodKind}
use Rattle.oa_idl.specs.declared.parts.MethodKind.TheVariants as forms
use Rattle.oa_idl.specs.declared.parts.Parameter.{Parameter}
use Rattle.oa_idl.specs.declared.parts.Property.{Property}
use Rattle.oa_idl.specs.declared.parts.Version.{Version}
use Rattle.oa_idl.specs.declared.items.Item.{Item}
use Rattle.oa_idl.specs.declared.items.Item.TheVariants as items
use Rattle.oa_idl.specs.promise.MethodValues.{MethodValue}
use Rattle.oa_idl.specs.promise.Values.{InterfaceValue, CoclassValue}
use Rattle.oa_idl.specs.promise.Trees.{TreeValue}
use Rattle.oa_idl.specs.promise.Words.{is_escaped}

-- ---- types

-- The IDL name of a type; none for Empty and Null.
unfoldable pub type_text : VarType → List ℕ
type_text types.Empty = []
type_text types.Null = []
type_text types.I1 = codes "char"
type_text types.Ui1 = codes "unsigned char"
type_text types.I2 = codes "short"
type_text types.Ui2 = codes "unsigned short"
type_text types.I4 = codes "long"
type_text types.Ui4 = codes "unsigned long"
type_text types.Int = codes "int"
type_text types.Uint = codes "unsigned int"
type_text types.I8 = codes "hyper"
type_text types.Ui8 = codes "unsigned hyper"
type_text types.Cy = codes "CURRENCY"
type_text types.Bool = codes "VARIANT_BOOL"
type_text types.Error = codes "SCODE"
type_text types.Decimal = codes "DECIMAL"
type_text types.Bstr = codes "BSTR"
type_text types.Variant = codes "VARIANT"

-- A scalar type or an array type.
unfoldable pub value_type_text : ValueType → List ℕ
value_type_text (values.One t) = type_text t
value_type_text (values.Array t) = codes "SAFEARRAY(" ++ type_text t ++ codes ")"

-- The type of a result, or `void`.
unfoldable pub result_text : Option ValueType → List ℕ
result_text None = codes "void"
result_text (Some t) = value_type_text t

-- A type and a name.
unfoldable pub named_text : List ℕ → List ℕ → List ℕ
named_text type name = type ++ codes " " ++ name

-- ---- parameters

-- A character of a string, with a backslash before a quote or a backslash.
unfoldable pub character_text : ℕ → List ℕ
character_text b = if is_escaped b then 92 ∷ b ∷ [] else b ∷ []

-- A default.
unfoldable pub literal_text : Literal → List ℕ
literal_text (literals.Number i) = signed_decimal i
literal_text (literals.Text cs) = codes "\"" ++ flat_map character_text cs ++ codes "\""
literal_text (literals.Bool true) = codes "TRUE"
literal_text (literals.Bool false) = codes "FALSE"

-- An attribute, if it is there: after a comma if another one precedes it, otherwise after the opening bracket.
unfoldable pub mark_text : Bool → Bool → List ℕ → List ℕ
mark_text before there text = if there then (if before then codes ", " else codes "[") ++ text else []

-- A `defaultvalue` attribute, if there is one.
unfoldable pub default_text : Bool → Option Literal → List ℕ
default_text before None = []
default_text before (Some v) = mark_text before true (codes "defaultvalue(") ++ literal_text v ++ codes ")"

-- The parameter has attributes.
abbrev pub has_marks : Parameter → Bool
has_marks p = (p.is_in || p.is_optional) || is_some p.default

-- The attributes of a parameter, if it has any.
unfoldable pub parameter_marks : Parameter → List ℕ
parameter_marks p =
    mark_text false p.is_in (codes "in")
    ++ mark_text p.is_in p.is_optional (codes "optional")
    ++ default_text (p.is_in || p.is_optional) p.default ++ (if has_marks p then codes "] " else [])

-- A parameter.
unfoldable pub parameter_text : Parameter → List ℕ
parameter_text p = parameter_marks p ++ named_text (value_type_text p.value_type) p.name

-- A parameter that is not the first.
unfoldable pub further_text : Parameter → List ℕ
further_text p = codes ", " ++ parameter_text p

-- Parameters, separated by commas.
unfoldable pub parameters_text : List Parameter → List ℕ
parameters_text [] = []
parameters_text (p ∷ ps) = parameter_text p ++ flat_map further_text ps

-- ---- members

-- An `id` attribute and the end of the list of attributes.
unfoldable pub id_text : ℤ → List ℕ → List ℕ
id_text id end = codes "[id(" ++ signed_decimal id ++ end

-- The end of a property's attributes.
abbrev pub readonly_text : Bool → List ℕ
readonly_text true = codes "), readonly] "
readonly_text false = codes ")] "

-- A property.
unfoldable pub property_text : Property → List ℕ
property_text p =
    id_text p.id (readonly_text p.readonly) ++ named_text (value_type_text p.value_type) p.name ++ codes ";\n"

-- The end of a method's attributes.
abbrev pub kind_text : MethodKind → List ℕ
kind_text forms.Method = codes ")] "
kind_text forms.Get = codes "), propget] "
kind_text forms.Put = codes "), propput] "

-- Parameters in parentheses.
unfoldable pub list_text : List Parameter → List ℕ
list_text ps = codes "(" ++ parameters_text ps ++ codes ");\n"

-- A method.
unfoldable pub method_text : MethodValue → List ℕ
method_text m =
    id_text m.id (kind_text m.kind) ++ named_text (result_text m.value_type) m.name ++ list_text m.parameters

-- The start of an entry's line.
abbrev pub entry_word_text : Bool → List ℕ
entry_word_text true = codes "[default] dispinterface "
entry_word_text false = codes "dispinterface "

-- An entry of a coclass.
unfoldable pub entry_text : Entry → List ℕ
entry_text e = entry_word_text e.is_default ++ e.interface ++ codes ";\n"

-- ---- items

-- The digits of a GUID, in lower case.
unfoldable pub digits_text : List ℕ → List ℕ
digits_text g = hyphenated_text lower g

-- A `uuid` attribute and its opening bracket.
unfoldable pub guid_text : List ℕ → List ℕ
guid_text g = codes "[uuid(" ++ digits_text g ++ codes ")"

-- The first lines of an item, up to its opening brace.
unfoldable pub title_text : List ℕ → List ℕ → List ℕ → List ℕ
title_text guid word name = guid_text guid ++ word ++ name ++ codes " {\n"

unfoldable pub interface_line : List ℕ
interface_line = codes "]\ndispinterface "

unfoldable pub properties_line : List ℕ
properties_line = codes "properties:\n"

-- The section `properties:`.
unfoldable pub properties_text : List Property → List ℕ
properties_text ps = properties_line ++ flat_map property_text ps

-- The section `methods:` and the closing brace.
unfoldable pub methods_text : List MethodValue → List ℕ
methods_text ms = codes "methods:\n" ++ flat_map method_text ms ++ codes "}\n"

unfoldable pub interface_text : InterfaceValue → List ℕ
interface_text d = title_text d.guid interface_line d.name ++ properties_text d.properties ++ methods_text d.methods

unfoldable pub coclass_text : CoclassValue → List ℕ
coclass_text c = title_text c.guid (codes "]\ncoclass ") c.name ++ flat_map entry_text c.entries ++ codes "}\n"

unfoldable pub item_text : Item → List ℕ
item_text (items.Interface d) = interface_text d
item_text (items.Coclass c) = coclass_text c

unfoldable pub version_text : Version → List ℕ
version_text v = codes ", version(" ++ decimal v.major ++ codes "." ++ decimal v.minor ++ codes ")]\nlibrary "

-- The canonical text of a tree.
unfoldable pub canonical : TreeValue → List ℕ
canonical t = title_text t.guid (version_text t.version) t.name ++ flat_map item_text t.items ++ codes "}\n"
