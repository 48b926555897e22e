-- The grammar as parsing functions.
use Rattle.std.specs.Prelude.{ℕ, ◌&&◌, ◌||◌, ◌==◌, Bool, true, false, not, List, [], length, Option, Some, None, ℤ}
use Rattle.std.specs.Prelude.{is_some, codes}
use Rattle.oa_model.specs.promise.Limits.{max_interfaces, max_coclasses, max_members, max_parameters}
use Rattle.oa_model.specs.declared.var_type.VarType.{VarType}
use Rattle.oa_model.specs.declared.var_type.ValueType.{ValueType}
use Rattle.oa_model.specs.declared.var_type.ValueType.TheVariants as values
use Rattle.oa_idl.specs.declared.stop.TreeLimit.TheVariants as limits
use Rattle.oa_idl.specs.declared.parts.Property.{Property}
use Rattle.oa_idl.specs.declared.parts.Entry.{Entry}
use Rattle.oa_idl.specs.declared.parts.Literal.{Literal}
use Rattle.oa_idl.specs.declared.parts.Literal.TheVariants as literals
use Rattle.oa_idl.specs.declared.parts.MethodKind.{MethodKind}
use Rattle.oa_idl.specs.declared.parts.Parameter.{Parameter}
use Rattle.oa_idl.specs.promise.MethodValues.{MethodValue}
use Rattle.oa_idl.specs.declared.seen.MethodSeen.{MethodSeen}
use Rattle.oa_idl.specs.declared.seen.MethodHead.{MethodHead}
use Rattle.oa_idl.specs.declared.seen.ParameterSeen.{ParameterSeen}
use Rattle.oa_idl.specs.declared.items.Item.{Item}
use Rattle.oa_idl.specs.declared.items.Item.TheVariants as items
use Rattle.oa_idl.specs.declared.seen.HeadSeen.{HeadSeen}
use Rattle.oa_idl.specs.declared.seen.HeadValues.{HeadValues}
use Rattle.oa_idl.specs.declared.seen.PropertySeen.{PropertySeen}
use Rattle.oa_idl.specs.declared.seen.PropertyHead.{PropertyHead}
use Rattle.oa_idl.specs.declared.seen.EntriesSeen.{EntriesSeen}
use Rattle.oa_idl.specs.declared.seen.ItemsSeen.{ItemsSeen}
use Rattle.oa_idl.specs.promise.Trees.{TreeValue}
use Rattle.oa_idl.specs.promise.Forms.{Word, nowhere}
use Rattle.oa_idl.specs.promise.Words.{passes, is_text, name_of, guid_of, part_of, id_of, word_type, amount_of}
use Rattle.oa_idl.specs.promise.Words.{characters_of}
use Rattle.oa_idl.specs.Words.{over, too_long, never_over}
use Rattle.oa_idl.specs.Reading.{Parser, ◌>>=◌, give, choose, require, demand, this_at, one_at, perhaps_at, until}
use Rattle.oa_idl.specs.Reading.{list_at, gather_at}
use Rattle.oa_idl.specs.promise.Grammar.{HeadAttribute, no_head, head_grow, head_finish, PropertyAttribute, no_property}
use Rattle.oa_idl.specs.promise.Grammar.{property_grow, property_finish, one_more, entry_word, no_entry, entry_grow}
use Rattle.oa_idl.specs.promise.Grammar.{no_items, semicolon_after, LibraryContent, elements_grow, items_in}
use Rattle.oa_idl.specs.promise.Grammar.{ParameterAttribute, no_parameter, parameter_grow, parameter_finish}
use Rattle.oa_idl.specs.promise.Grammar.{MethodAttribute, no_method, method_grow, method_finish, is_form, may_be_void}
use Rattle.oa_idl.specs.promise.Grammar.{may_have_type, may_end}
use Rattle.oa_idl.specs.promise.Grammar.HeadAttribute.{Guid, Numbered, HeadHelp}
use Rattle.oa_idl.specs.promise.Grammar.PropertyAttribute.{Id, Readonly, PropertyHelp}
use Rattle.oa_idl.specs.promise.Grammar.ParameterAttribute.{IsIn, IsOptional, HasDefault}
use Rattle.oa_idl.specs.promise.Grammar.MethodAttribute.{MethodId, Propget, Propput, MethodHelp}
use Rattle.oa_idl.specs.promise.Grammar.LibraryContent.{Import, OfItem}

abbrev pub symbol_at : List ℕ → Parser (Unit {0})
symbol_at s = this_at (passes s)

-- ---- lists of attributes

-- Reads an attribute and adds it to the state.
abbrev pub grown_at : {S A : Type 0} → (S → Parser A) → (S → A → S) → S → Parser S
grown_at attribute grow s = attribute s >>= λ x. give (grow s x)

-- Reads a comma and an attribute; fails if all attributes have come before.
abbrev pub next_at : {S A : Type 0} → (S → Parser A) → (S → A → S) → (S → Bool) → S → Parser A
next_at attribute grow full s = require (not (full s)) (symbol_at (codes ",") >>= λ _. attribute s)

-- Reads a comma and an attribute, and adds it to the state.
abbrev pub next_grown_at : {S A : Type 0} → (S → Parser A) → (S → A → S) → (S → Bool) → S → Parser S
next_grown_at attribute grow full s = next_at attribute grow full s >>= λ x. give (grow s x)

-- Reads the end of a list of attributes.
abbrev pub last_at : {S B : Type 0} → (S → Option B) → S → Parser B
last_at finish s = demand (finish s) (λ b. symbol_at (codes "]") >>= λ _. give b)

-- Reads a list of attributes.
abbrev pub attributes_at : {S A B : Type 0} → (S → Parser A) → (S → A → S) → (S → Bool) → (S → Option B) → S
    → Parser B
attributes_at attribute grow full finish s =
    symbol_at (codes "[") >>= λ _. grown_at attribute grow s >>= λ t. gather_at (passes (codes "]"))
    (next_grown_at attribute grow full) (last_at finish) t

unfoldable pub help_at : Parser (Unit {0})
help_at =
    symbol_at (codes "helpstring") >>= λ _. symbol_at
    (codes "(") >>= λ _. this_at is_text >>= λ _. symbol_at (codes ")")

-- ---- attributes of libraries and items

-- Reads the second part of a version, and the closing bracket.
unfoldable pub minor_at : Bool → Parser ℕ
minor_at counts = choose (passes (codes "."))
    (symbol_at (codes ".") >>= λ _. one_at (part_of counts) never_over >>= λ n. symbol_at (codes ")") >>= λ _. give n)
    (symbol_at (codes ")") >>= λ _. give 0)

unfoldable pub uuid_at : Parser HeadAttribute
uuid_at = symbol_at (codes "uuid") >>= λ _. symbol_at (codes "(") >>= λ _. one_at guid_of never_over >>= λ g.
    symbol_at (codes ")") >>= λ _.
    give (Guid g)

unfoldable pub version_at : Bool → Parser HeadAttribute
version_at counts =
    symbol_at (codes "version") >>= λ _. symbol_at (codes "(") >>= λ _. one_at (part_of counts) never_over >>= λ a.
    minor_at counts >>= λ b. give (Numbered (record { major = a; minor = b }))

unfoldable pub head_attribute_at : Bool → HeadSeen → Parser HeadAttribute
head_attribute_at counts s = choose (passes (codes "uuid"))
    (require (not s.uuid) uuid_at)
    (choose (passes (codes "version"))
    (require (not s.version) (version_at counts))
    (require (not s.help) (help_at >>= λ _. give HeadHelp)))

-- All attributes have come before.
abbrev pub head_full : HeadSeen → Bool
head_full s = s.uuid && (s.version && s.help)

unfoldable pub head_at : Bool → Parser HeadValues
head_at counts = attributes_at (head_attribute_at counts) head_grow head_full head_finish no_head

-- ---- types

unfoldable pub type_word_at : Bool → Parser VarType
type_word_at in_array = choose (passes (codes "unsigned"))
    (symbol_at (codes "unsigned") >>= λ _. one_at (word_type in_array true) never_over)
    (one_at (word_type in_array false) never_over)

unfoldable pub value_type_at : Parser ValueType
value_type_at = choose (passes (codes "SAFEARRAY"))
    (symbol_at (codes "SAFEARRAY") >>= λ _. symbol_at (codes "(") >>= λ _. type_word_at true >>= λ t.
    symbol_at (codes ")") >>= λ _.
    give (values.Array t))
    (type_word_at false >>= λ t. give (values.One t))

-- ---- properties

unfoldable pub signed_number_at : Parser ℤ
signed_number_at = choose (passes (codes "-"))
    (symbol_at (codes "-") >>= λ _. one_at (id_of true) never_over)
    (one_at (id_of false) never_over)

unfoldable pub numbered_at : Parser ℤ
numbered_at =
    symbol_at (codes "id") >>= λ _. symbol_at (codes "(") >>= λ _. signed_number_at >>= λ i. symbol_at (codes ")") >>=
    λ _. give i

unfoldable pub id_at : Parser PropertyAttribute
id_at = numbered_at >>= λ i. give (Id i)

unfoldable pub property_attribute_at : PropertySeen → Parser PropertyAttribute
property_attribute_at s = choose (passes (codes "id"))
    (require (not (is_some s.id)) id_at)
    (choose (passes (codes "readonly"))
    (require (not s.readonly) (symbol_at (codes "readonly") >>= λ _. give Readonly))
    (require (not s.help) (help_at >>= λ _. give PropertyHelp)))

abbrev pub property_full : PropertySeen → Bool
property_full s = is_some s.id && (s.readonly && s.help)

unfoldable pub property_head_at : Parser PropertyHead
property_head_at = attributes_at property_attribute_at property_grow property_full property_finish no_property

-- Reads a property, after `n` members of its interface.
unfoldable pub property_at : ℕ → Parser Property
property_at n =
    property_head_at >>= λ h. value_type_at >>= λ t. one_at name_of (over limits.Members max_members n) >>= λ name.
    symbol_at (codes ";") >>= λ _.
    give (record { id = h.id; readonly = h.readonly; value_type = t; name = name })

abbrev pub closing_at : {S : Type 0} → S → Parser (Unit {0})
closing_at s = symbol_at (codes "}")

-- ---- parameters

unfoldable pub amount_at : Parser ℤ
amount_at = choose (passes (codes "-"))
    (symbol_at (codes "-") >>= λ _. one_at (amount_of true) never_over)
    (one_at (amount_of false) never_over)

unfoldable pub literal_at : Parser Literal
literal_at = choose (passes (codes "TRUE")) (symbol_at (codes "TRUE") >>= λ _. give (literals.Bool true))
    (choose (passes (codes "FALSE")) (symbol_at (codes "FALSE") >>= λ _. give (literals.Bool false))
    (choose is_text (one_at characters_of never_over >>= λ cs. give (literals.Text cs))
    (amount_at >>= λ i. give (literals.Number i))))

unfoldable pub default_at : Parser Literal
default_at = symbol_at (codes "defaultvalue") >>= λ _. symbol_at (codes "(") >>= λ _. literal_at >>= λ v.
    symbol_at (codes ")") >>= λ _. give v

unfoldable pub parameter_attribute_at : ParameterSeen → Parser ParameterAttribute
parameter_attribute_at s =
    choose (passes (codes "in")) (require (not s.is_in) (symbol_at (codes "in")) >>= λ _. give IsIn)
    (choose (passes (codes "optional"))
    (require (not s.is_optional) (symbol_at (codes "optional")) >>= λ _. give IsOptional)
    (require (not (is_some s.default)) default_at >>= λ v. give (HasDefault v)))

abbrev pub parameter_full : ParameterSeen → Bool
parameter_full s = s.is_in && (s.is_optional && is_some s.default)

unfoldable pub parameter_head_at : Parser ParameterSeen
parameter_head_at = attributes_at parameter_attribute_at parameter_grow parameter_full parameter_finish no_parameter

-- Reads the type and name of a parameter, after `n` others.
unfoldable pub typed_at : ℕ → ParameterSeen → Parser Parameter
typed_at n h = value_type_at >>= λ t. one_at name_of (over limits.Params max_parameters n) >>= λ name.
    give (record { is_in = h.is_in; is_optional = h.is_optional; default = h.default; value_type = t; name = name })

unfoldable pub parameter_at : ℕ → Parser Parameter
parameter_at n = choose (passes (codes "[")) (parameter_head_at >>= λ h. typed_at n h) (typed_at n no_parameter)

-- Reads the first parameter, or a comma and another one.
unfoldable pub separated_at : ℕ → Bool → Parser Parameter
separated_at n true = parameter_at n
separated_at n false = symbol_at (codes ",") >>= λ _. parameter_at n

abbrev pub next_parameter_at : ℕ → Parser Parameter
next_parameter_at n = separated_at n (n == 0)

abbrev pub last_parameter_at : MethodKind → ℕ → Parser (Unit {0})
last_parameter_at k n = require (may_end k n) (symbol_at (codes ")"))

unfoldable pub parameters_at : MethodKind → Parser (List Parameter × Unit {0})
parameters_at k = list_at (passes (codes ")")) nowhere next_parameter_at one_more (last_parameter_at k) 0

-- ---- methods

unfoldable pub method_attribute_at : MethodSeen → Parser MethodAttribute
method_attribute_at s =
    choose (passes (codes "id")) (require (not (is_some s.id)) numbered_at >>= λ i. give (MethodId i))
    (choose (passes (codes "propget"))
    (require (not (is_form s.kind)) (symbol_at (codes "propget")) >>= λ _. give Propget)
    (choose (passes (codes "propput"))
    (require (not (is_form s.kind)) (symbol_at (codes "propput")) >>= λ _. give Propput)
    (require (not s.help) help_at >>= λ _. give MethodHelp)))

abbrev pub method_full : MethodSeen → Bool
method_full s = is_some s.id && (is_form s.kind && s.help)

unfoldable pub method_head_at : Parser MethodHead
method_head_at = attributes_at method_attribute_at method_grow method_full method_finish no_method

unfoldable pub result_type_at : MethodKind → Parser (Option ValueType)
result_type_at k = choose (passes (codes "void"))
    (require (may_be_void k) (symbol_at (codes "void")) >>= λ _. give None)
    (require (may_have_type k) value_type_at >>= λ t. give (Some t))

-- Reads the rest of a method after its attributes, after `n` members of its interface.
unfoldable pub method_body_at : ℕ → MethodHead → Parser MethodValue
method_body_at n h = result_type_at h.kind >>= λ t. one_at name_of (over limits.Members max_members n) >>= λ name.
    symbol_at (codes "(") >>= λ _. parameters_at h.kind >>= λ ps. symbol_at (codes ";") >>= λ _.
    give (record { id = h.id; kind = h.kind; value_type = t; name = name; parameters = ps.0 })

unfoldable pub method_at : ℕ → Parser MethodValue
method_at n = method_head_at >>= λ h. method_body_at n h

-- ---- members

unfoldable pub methods_at : ℕ → Parser (List MethodValue)
methods_at n = choose (passes (codes "methods"))
    (symbol_at (codes "methods") >>= λ _. symbol_at (codes ":") >>= λ _.
    list_at (passes (codes "}")) nowhere method_at one_more closing_at n >>= λ ms. give ms.0)
    (symbol_at (codes "}") >>= λ _. give [])

-- The section of properties ends before this word: the section of methods begins, or the interface ends.
abbrev pub ends_properties : Word → Bool
ends_properties w = passes (codes "methods") w || passes (codes "}") w

unfoldable pub members_at : Parser (List Property × List MethodValue)
members_at = choose (passes (codes "properties"))
    (symbol_at (codes "properties") >>= λ _. symbol_at (codes ":") >>= λ _.
    list_at ends_properties nowhere property_at one_more methods_at 0)
    (methods_at 0 >>= λ ms. give ([], ms))

unfoldable pub interface_at : ItemsSeen → List ℕ → Parser Item
interface_at s guid = symbol_at (codes "dispinterface") >>= λ _.
    one_at name_of (over limits.Interfaces max_interfaces s.interfaces) >>= λ name. symbol_at (codes "{") >>= λ _.
    members_at >>= λ all.
    give (items.Interface (record { guid = guid; name = name; properties = all.0; methods = all.1 }))

-- ---- coclasses

unfoldable pub named_entry_at : Bool → Parser Entry
named_entry_at is_default = this_at entry_word >>= λ _. one_at name_of too_long >>= λ name. symbol_at (codes ";") >>=
    λ _.
    give (record { is_default = is_default; interface = name })

unfoldable pub entry_at : EntriesSeen → Parser Entry
entry_at s = choose (passes (codes "["))
    (require (not s.default)
    (symbol_at (codes "[") >>= λ _. symbol_at (codes "default") >>= λ _. symbol_at (codes "]") >>=
    λ _. named_entry_at true))
    (named_entry_at false)

abbrev pub last_entry_at : EntriesSeen → Parser (Unit {0})
last_entry_at s = require s.some (symbol_at (codes "}"))

unfoldable pub entries_at : Parser (List Entry × Unit {0})
entries_at = list_at (passes (codes "}")) nowhere entry_at entry_grow last_entry_at no_entry

unfoldable pub coclass_at : ItemsSeen → List ℕ → Parser Item
coclass_at s guid =
    symbol_at (codes "coclass") >>= λ _. one_at name_of (over limits.Coclasses max_coclasses s.coclasses) >>= λ name.
    symbol_at (codes "{") >>= λ _. entries_at >>= λ es.
    give (items.Coclass (record { guid = guid; name = name; entries = es.0 }))

-- ---- a text

unfoldable pub item_at : ItemsSeen → Parser Item
item_at s = head_at false >>= λ h. choose (passes (codes "dispinterface")) (interface_at s h.guid) (coclass_at s h.guid)

unfoldable pub import_at : Parser (Unit {0})
import_at = symbol_at (codes "importlib") >>= λ _. symbol_at (codes "(") >>= λ _. this_at is_text >>= λ _.
    symbol_at (codes ")") >>= λ _.
    symbol_at (codes ";")

unfoldable pub content_at : ItemsSeen → Parser LibraryContent
content_at s = choose (passes (codes "importlib")) (import_at >>= λ _. give Import) (item_at s >>= λ x. give (OfItem x))

-- Reads fewer than `n` imports and items, and returns the items.
unfoldable pub elements_within : ℕ → Parser (List Item)
elements_within n = until (passes (codes "}")) semicolon_after content_at elements_grow closing_at n no_items >>= λ es.
    give (items_in es.0)

unfoldable pub library_contents_at : Parser (List Item)
library_contents_at words = elements_within (length words) words

unfoldable pub library_at : Parser TreeValue
library_at = head_at true >>= λ h. symbol_at (codes "library") >>= λ _. one_at name_of too_long >>= λ name.
    symbol_at (codes "{") >>= λ _.
    library_contents_at >>= λ xs.
    perhaps_at (passes (codes ";")) >>= λ _. symbol_at [] >>= λ _.
    give (record { guid = h.guid; version = h.version; name = name; items = xs })
