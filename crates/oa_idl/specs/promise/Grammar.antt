-- The grammar of a library text, over its words.
use Rattle.std.specs.Prelude.{◌≡◌, ℕ, ◌+◌, ◌==◌, ◌||◌, ◌&&◌, Bool, true, false, not, List, [], ◌∷◌, Option, Some, None}
use Rattle.std.specs.Prelude.{ℤ, is_some, if◌then◌else◌, codes}
use Rattle.uuid.specs.Parts.{zero_bytes}
use Rattle.oa_model.specs.declared.var_type.VarType.{VarType}
use Rattle.oa_model.specs.declared.var_type.ValueType.{ValueType}
use Rattle.oa_model.specs.declared.var_type.ValueType.TheVariants as values
use Rattle.oa_idl.specs.declared.parts.Version.{Version}
use Rattle.oa_idl.specs.declared.parts.Property.{Property}
use Rattle.oa_idl.specs.declared.parts.Entry.{Entry}
use Rattle.oa_idl.specs.declared.parts.Literal.{Literal}
use Rattle.oa_idl.specs.declared.parts.Literal.TheVariants as literals
use Rattle.oa_idl.specs.declared.parts.MethodKind.{MethodKind}
use Rattle.oa_idl.specs.declared.parts.MethodKind.TheVariants as forms
use Rattle.oa_idl.specs.declared.parts.Parameter.{Parameter}
use Rattle.oa_idl.specs.declared.items.Item.{Item}
use Rattle.oa_idl.specs.declared.items.Item.TheVariants as items
use Rattle.oa_idl.specs.declared.seen.HeadSeen.{HeadSeen}
use Rattle.oa_idl.specs.declared.seen.HeadValues.{HeadValues}
use Rattle.oa_idl.specs.declared.seen.PropertySeen.{PropertySeen}
use Rattle.oa_idl.specs.declared.seen.PropertyHead.{PropertyHead}
use Rattle.oa_idl.specs.declared.seen.EntriesSeen.{EntriesSeen}
use Rattle.oa_idl.specs.declared.seen.ItemsSeen.{ItemsSeen}
use Rattle.oa_idl.specs.declared.seen.MethodSeen.{MethodSeen}
use Rattle.oa_idl.specs.declared.seen.MethodHead.{MethodHead}
use Rattle.oa_idl.specs.declared.seen.ParameterSeen.{ParameterSeen}
use Rattle.oa_idl.specs.promise.MethodValues.{MethodValue}
use Rattle.oa_idl.specs.promise.Trees.{TreeValue}
use Rattle.oa_idl.specs.promise.Forms.{Word, Language, ◌▸◌, nothing, given, this, one, optional, either_of, where_is}
use Rattle.oa_idl.specs.promise.Forms.{with, listed, gathered, nowhere}
use Rattle.oa_idl.specs.promise.Words.{passes, is_text, name_of, guid_of, part_of, id_of, word_type, amount_of}
use Rattle.oa_idl.specs.promise.Words.{characters_of}

-- One keyword or mark.
abbrev pub symbol : List ℕ → Language
symbol s = this (passes s)

-- ---- lists of attributes: "[" att {"," att} "]"

-- A comma and an attribute that has not come before.
abbrev pub next_attribute : {S A : Type 0} → (A → Language) → (S → A → Bool) → S → A → Language
next_attribute attribute may_come s x = where_is (may_come s x ≡ true) (symbol (codes ",") ▸ attribute x)

-- The end of a list of attributes; the required ones must have come before, and `b` is the value of the list.
abbrev pub last_attribute : {S B : Type 0} → (S → Option B) → S → B → Language
last_attribute finish s b = where_is (finish s ≡ Some b) (symbol (codes "]"))

-- A list of at least one attribute, none of them twice, with the value `b`.
abbrev pub attributes : {S A B : Type 0} → (A → Language) → (S → A → Bool) → (S → A → S) → (S → Option B) → S → B
    → Language
attributes attribute may_come grow finish s b =
    symbol (codes "[") ▸ with (λ x. where_is (may_come s x ≡ true) (attribute x))
    (λ x. gathered (next_attribute attribute may_come) grow nowhere (last_attribute finish) (grow s x) b)

-- help = "helpstring" "(" string ")"
abbrev pub help : Language
help = symbol (codes "helpstring") ▸ symbol (codes "(") ▸ this is_text ▸ symbol (codes ")")

-- ---- attrs = "[" att {"," att} "]"    att = "uuid" "(" guid ")" | "version" "(" num ["." num] ")" | help

-- An attribute of a library or an item.
pub data HeadAttribute : Type 0 where
  Guid : List ℕ → HeadAttribute
  Numbered : Version → HeadAttribute
  HeadHelp : HeadAttribute

abbrev pub head_attribute : Bool → HeadAttribute → Language
head_attribute counts (Guid g) = symbol (codes "uuid") ▸ symbol (codes "(") ▸ one guid_of g ▸ symbol (codes ")")
head_attribute counts (Numbered v) = symbol (codes "version") ▸ symbol (codes "(") ▸ one (part_of counts) v.major ▸
    either_of (symbol (codes ".") ▸ one (part_of counts) v.minor ▸ symbol (codes ")"))
    (where_is (v.minor ≡ 0) (symbol (codes ")")))
head_attribute counts HeadHelp = help

-- No attribute so far. The version is 0.0 if none is given.
abbrev pub no_head : HeadSeen
no_head = record {
  uuid = false;
  version = false;
  help = false;
  head =
      record { guid = zero_bytes; version = record { major = 0; minor = 0 } };
}

-- The attribute has not come before.
abbrev pub head_may : HeadSeen → HeadAttribute → Bool
head_may s (Guid g) = not s.uuid
head_may s (Numbered v) = not s.version
head_may s HeadHelp = not s.help

-- The state after one more attribute.
abbrev pub head_grow : HeadSeen → HeadAttribute → HeadSeen
head_grow s (Guid g) =
    record { uuid = true; version = s.version; help = s.help; head = record { guid = g; version = s.head.version } }
head_grow s (Numbered v) =
    record { uuid = s.uuid; version = true; help = s.help; head = record { guid = s.head.guid; version = v } }
head_grow s HeadHelp = record { uuid = s.uuid; version = s.version; help = true; head = s.head }

-- The value of the list, in which a `uuid` is required.
abbrev pub head_finish : HeadSeen → Option HeadValues
head_finish s = if s.uuid then Some s.head else None

-- The attributes of a library, whose version counts, or of an item, whose version is ignored.
unfoldable pub head : Bool → HeadValues → Language
head counts h = attributes (head_attribute counts) head_may head_grow head_finish no_head h

-- ---- type = a type word | "SAFEARRAY" "(" type word of an element ")"

-- The name of a scalar type.
abbrev pub type_word : Bool → VarType → Language
type_word in_array t =
    either_of (symbol (codes "unsigned") ▸ one (word_type in_array true) t) (one (word_type in_array false) t)

-- A scalar type, or an array type with the type of its elements.
unfoldable pub value_type : ValueType → Language
value_type (values.One t) = type_word false t
value_type (values.Array t) = symbol (codes "SAFEARRAY") ▸ symbol (codes "(") ▸ type_word true t ▸ symbol (codes ")")

-- ---- prop = "[" att {"," att} "]" type name ";"    att = "id" "(" ["-"] num ")" | "readonly" | help

-- An attribute of a property.
pub data PropertyAttribute : Type 0 where
  Id : ℤ → PropertyAttribute
  Readonly : PropertyAttribute
  PropertyHelp : PropertyAttribute

-- The number of an `id` with its sign.
abbrev pub id_form : ℤ → Language
id_form i = either_of (symbol (codes "-") ▸ one (id_of true) i) (one (id_of false) i)

abbrev pub property_attribute : PropertyAttribute → Language
property_attribute (Id i) = symbol (codes "id") ▸ symbol (codes "(") ▸ id_form i ▸ symbol (codes ")")
property_attribute Readonly = symbol (codes "readonly")
property_attribute PropertyHelp = help

-- No attribute so far.
abbrev pub no_property : PropertySeen
no_property = record { id = None; readonly = false; help = false }

-- The attribute has not come before.
abbrev pub property_may : PropertySeen → PropertyAttribute → Bool
property_may s (Id i) = not (is_some s.id)
property_may s Readonly = not s.readonly
property_may s PropertyHelp = not s.help

-- The state after one more attribute.
abbrev pub property_grow : PropertySeen → PropertyAttribute → PropertySeen
property_grow s (Id i) = record { id = Some i; readonly = s.readonly; help = s.help }
property_grow s Readonly = record { id = s.id; readonly = true; help = s.help }
property_grow s PropertyHelp = record { id = s.id; readonly = s.readonly; help = true }

-- The value of the list, in which an `id` is required.
abbrev pub property_head_of : Option ℤ → Bool → Option PropertyHead
property_head_of None readonly = None
property_head_of (Some i) readonly = Some (record { id = i; readonly = readonly })

abbrev pub property_finish : PropertySeen → Option PropertyHead
property_finish s = property_head_of s.id s.readonly

-- The attributes of a property.
unfoldable pub property_head : PropertyHead → Language
property_head h = attributes property_attribute property_may property_grow property_finish no_property h

abbrev pub property : Property → Language
property p = property_head (record {
  id = p.id;
  readonly =
      p.readonly;
}) ▸ value_type p.value_type ▸ one name_of p.name ▸ symbol (codes ";") ▸ nothing

-- ---- param = ["[" patt {"," patt} "]"] type name    patt = "in" | "optional" | "defaultvalue" "(" literal ")"

-- The number of items, after one more.
abbrev pub one_more : {A : Type 0} → ℕ → A → ℕ
one_more n x = n + 1

-- The closing brace.
abbrev pub closing : {S : Type 0} → S → Unit {0} → Language
closing s x = symbol (codes "}")

-- literal = ["-"] number | string | "TRUE" | "FALSE"
abbrev pub amount : ℤ → Language
amount i = either_of (symbol (codes "-") ▸ one (amount_of true) i) (one (amount_of false) i)

unfoldable pub literal : Literal → Language
literal (literals.Number i) = amount i
literal (literals.Text cs) = one characters_of cs
literal (literals.Bool true) = symbol (codes "TRUE")
literal (literals.Bool false) = symbol (codes "FALSE")

-- An attribute of a parameter.
pub data ParameterAttribute : Type 0 where
  IsIn : ParameterAttribute
  IsOptional : ParameterAttribute
  HasDefault : Literal → ParameterAttribute

abbrev pub parameter_attribute : ParameterAttribute → Language
parameter_attribute IsIn = symbol (codes "in")
parameter_attribute IsOptional = symbol (codes "optional")
parameter_attribute (HasDefault v) = symbol (codes "defaultvalue") ▸ symbol (codes "(") ▸ literal v ▸ symbol (codes ")")

-- No attribute so far.
abbrev pub no_parameter : ParameterSeen
no_parameter = record { is_in = false; is_optional = false; default = None }

-- The attribute has not come before.
abbrev pub parameter_may : ParameterSeen → ParameterAttribute → Bool
parameter_may s IsIn = not s.is_in
parameter_may s IsOptional = not s.is_optional
parameter_may s (HasDefault v) = not (is_some s.default)

-- The state after one more attribute.
abbrev pub parameter_grow : ParameterSeen → ParameterAttribute → ParameterSeen
parameter_grow s IsIn = record { is_in = true; is_optional = s.is_optional; default = s.default }
parameter_grow s IsOptional = record { is_in = s.is_in; is_optional = true; default = s.default }
parameter_grow s (HasDefault v) = record { is_in = s.is_in; is_optional = s.is_optional; default = Some v }

-- The value of the list, in which no attribute is required.
abbrev pub parameter_finish : ParameterSeen → Option ParameterSeen
parameter_finish s = Some s

-- The attributes of a parameter.
unfoldable pub parameter_head : ParameterSeen → Language
parameter_head h = attributes parameter_attribute parameter_may parameter_grow parameter_finish no_parameter h

abbrev pub head_of_parameter : Parameter → ParameterSeen
head_of_parameter p = record { is_in = p.is_in; is_optional = p.is_optional; default = p.default }

-- The type and name of a parameter.
abbrev pub typed : Parameter → Language
typed p = value_type p.value_type ▸ one name_of p.name ▸ nothing

-- A parameter, with a list of attributes or without any.
unfoldable pub parameter : Parameter → Language
parameter p =
    either_of (parameter_head (head_of_parameter p) ▸ typed p) (where_is (head_of_parameter p ≡ no_parameter) (typed p))

-- ---- method = "[" att {"," att} "]" (type | "void") name "(" [param {"," param}] ")" ";"
-- att = "id" "(" ["-"] num ")" | "propget" | "propput" | help

-- An attribute of a method.
pub data MethodAttribute : Type 0 where
  MethodId : ℤ → MethodAttribute
  Propget : MethodAttribute
  Propput : MethodAttribute
  MethodHelp : MethodAttribute

-- An `id`.
abbrev pub numbered : ℤ → Language
numbered i = symbol (codes "id") ▸ symbol (codes "(") ▸ id_form i ▸ symbol (codes ")")

abbrev pub method_attribute : MethodAttribute → Language
method_attribute (MethodId i) = numbered i
method_attribute Propget = symbol (codes "propget")
method_attribute Propput = symbol (codes "propput")
method_attribute MethodHelp = help

-- No attribute so far.
abbrev pub no_method : MethodSeen
no_method = record { id = None; kind = forms.Method; help = false }

-- The member is a get or put of a property.
abbrev pub is_form : MethodKind → Bool
is_form forms.Method = false
is_form forms.Get = true
is_form forms.Put = true

-- The attribute has not come before. `propget` and `propput` exclude each other.
abbrev pub method_may : MethodSeen → MethodAttribute → Bool
method_may s (MethodId i) = not (is_some s.id)
method_may s Propget = not (is_form s.kind)
method_may s Propput = not (is_form s.kind)
method_may s MethodHelp = not s.help

-- The state after one more attribute.
abbrev pub method_grow : MethodSeen → MethodAttribute → MethodSeen
method_grow s (MethodId i) = record { id = Some i; kind = s.kind; help = s.help }
method_grow s Propget = record { id = s.id; kind = forms.Get; help = s.help }
method_grow s Propput = record { id = s.id; kind = forms.Put; help = s.help }
method_grow s MethodHelp = record { id = s.id; kind = s.kind; help = true }

-- The value of the list, in which an `id` is required.
abbrev pub method_head_of : Option ℤ → MethodKind → Option MethodHead
method_head_of None kind = None
method_head_of (Some i) kind = Some (record { id = i; kind = kind })

abbrev pub method_finish : MethodSeen → Option MethodHead
method_finish s = method_head_of s.id s.kind

-- The attributes of a method.
unfoldable pub method_head : MethodHead → Language
method_head h = attributes method_attribute method_may method_grow method_finish no_method h

-- The result may be void: that of a get never is, that of a put always.
abbrev pub may_be_void : MethodKind → Bool
may_be_void forms.Method = true
may_be_void forms.Get = false
may_be_void forms.Put = true

-- The result may have a type.
abbrev pub may_have_type : MethodKind → Bool
may_have_type forms.Method = true
may_have_type forms.Get = true
may_have_type forms.Put = false

unfoldable pub result_type : MethodKind → Option ValueType → Language
result_type k None = where_is (may_be_void k ≡ true) (symbol (codes "void"))
result_type k (Some t) = where_is (may_have_type k ≡ true) (value_type t)

-- A parameter, with a comma before it unless it is the first.
abbrev pub separated : Bool → Parameter → Language
separated true p = parameter p
separated false p = symbol (codes ",") ▸ parameter p

abbrev pub next_parameter : ℕ → Parameter → Language
next_parameter n p = separated (n == 0) p

-- The list of parameters may end after `n`: a put has at least one.
abbrev pub may_end : MethodKind → ℕ → Bool
may_end forms.Method n = true
may_end forms.Get n = true
may_end forms.Put n = not (n == 0)

-- The bracket that closes the parameters.
abbrev pub last_parameter : MethodKind → ℕ → Unit {0} → Language
last_parameter k n x = where_is (may_end k n ≡ true) (symbol (codes ")"))

-- The rest of a method, after its attributes.
abbrev pub method_body : MethodKind → MethodValue → Language
method_body k m =
    result_type k m.value_type ▸ one name_of m.name ▸ symbol (codes "(")
    ▸ listed next_parameter one_more nowhere (last_parameter k) 0 m.parameters tt ▸ symbol (codes ";") ▸ nothing

unfoldable pub method : MethodValue → Language
method m = method_head (record { id = m.id; kind = m.kind }) ▸ method_body m.kind m

-- ---- disp = attrs "dispinterface" name "{" ["properties" ":" {prop}] ["methods" ":" {method}] "}"

-- The second section, after `n` members of the first, and the brace that closes the interface. The section may be
-- missing.
abbrev pub methods : ℕ → List MethodValue → Language
methods n ms =
    either_of (symbol (codes "methods") ▸ symbol (codes ":") ▸ listed (λ k. method) one_more nowhere closing n ms tt)
    (where_is (ms ≡ []) (symbol (codes "}")))

-- Both sections of an interface.
abbrev pub members : List Property → List MethodValue → Language
members ps ms =
    either_of (symbol (codes "properties") ▸ symbol (codes ":") ▸ listed
    (λ n. property) one_more nowhere methods 0 ps ms)
    (where_is (ps ≡ []) (methods 0 ms))

-- An interface, after its attributes.
abbrev pub interface : List ℕ → List Property → List MethodValue → Language
interface name ps ms = symbol (codes "dispinterface") ▸ one name_of name ▸ symbol (codes "{") ▸ members ps ms ▸ nothing

-- ---- class = attrs "coclass" name "{" entry {entry} "}"
--      entry = ["[" "default" "]"] ("dispinterface" | "interface") name ";"

abbrev pub entry_word : Word → Bool
entry_word w = passes (codes "dispinterface") w || passes (codes "interface") w

-- An entry, after its `[default]`.
abbrev pub named : Entry → Language
named e = this entry_word ▸ one name_of e.interface ▸ symbol (codes ";") ▸ nothing

abbrev pub entry_by : Bool → Entry → Language
entry_by true e = symbol (codes "[") ▸ symbol (codes "default") ▸ symbol (codes "]") ▸ named e
entry_by false e = named e

-- No entry so far.
abbrev pub no_entry : EntriesSeen
no_entry = record { some = false; default = false }

-- At most one entry is the default.
abbrev pub entry_may : EntriesSeen → Entry → Bool
entry_may s e = not (e.is_default && s.default)

-- The state after one more entry.
abbrev pub entry_grow : EntriesSeen → Entry → EntriesSeen
entry_grow s e = record { some = true; default = s.default || e.is_default }

abbrev pub entry : EntriesSeen → Entry → Language
entry s e = where_is (entry_may s e ≡ true) (entry_by e.is_default e)

-- The closing brace, after at least one entry.
abbrev pub last_entry : EntriesSeen → Unit {0} → Language
last_entry s x = where_is (s.some ≡ true) (symbol (codes "}"))

-- A coclass, after its attributes.
abbrev pub coclass : List ℕ → List Entry → Language
coclass name es =
    symbol (codes "coclass") ▸ one name_of name ▸ symbol (codes "{")
    ▸ listed entry entry_grow nowhere last_entry no_entry es tt ▸ nothing

-- ---- text = attrs "library" name "{" {import | (disp | class) [";"]} "}" [";"]
--      import = "importlib" "(" string ")" ";"

abbrev pub guid_of_item : Item → List ℕ
guid_of_item (items.Interface d) = d.guid
guid_of_item (items.Coclass c) = c.guid

-- An item, after its attributes.
abbrev pub item_body : Item → Language
item_body (items.Interface d) = interface d.name d.properties d.methods
item_body (items.Coclass c) = coclass c.name c.entries

-- An item with its attributes.
abbrev pub item : Item → Language
item x = with (head false) (λ h. where_is (h.guid ≡ guid_of_item x) (item_body x))

-- An element of a library: an import, which is ignored, or an item.
pub data LibraryContent : Type 0 where
  Import : LibraryContent
  OfItem : Item → LibraryContent

abbrev pub importing : Language
importing = symbol (codes "importlib") ▸ symbol (codes "(") ▸ this is_text ▸ symbol (codes ")") ▸ symbol (codes ";")

unfoldable pub element : LibraryContent → Language
element Import = importing
element (OfItem x) = item x

-- A semicolon may follow an item.
abbrev pub semicolon_after : LibraryContent → Word → Bool
semicolon_after Import w = false
semicolon_after (OfItem x) w = passes (codes ";") w

-- No interfaces and no coclasses so far.
abbrev pub no_items : ItemsSeen
no_items = record { interfaces = 0; coclasses = 0 }

-- The numbers of interfaces and coclasses, after one more item.
abbrev pub items_grow : ItemsSeen → Item → ItemsSeen
items_grow s (items.Interface d) = record { interfaces = s.interfaces + 1; coclasses = s.coclasses }
items_grow s (items.Coclass c) = record { interfaces = s.interfaces; coclasses = s.coclasses + 1 }

abbrev pub elements_grow : ItemsSeen → LibraryContent → ItemsSeen
elements_grow s Import = s
elements_grow s (OfItem x) = items_grow s x

-- The items among the elements.
abbrev pub items_in : List LibraryContent → List Item
items_in [] = []
items_in (Import ∷ es) = items_in es
items_in (OfItem x ∷ es) = x ∷ items_in es

-- The elements of a library whose items are these, and the closing brace.
unfoldable pub library_contents : List Item → Language
library_contents xs =
    with (λ es. listed (λ s. element) elements_grow semicolon_after closing no_items es tt)
    (λ es. given (xs ≡ items_in es))

-- A whole text.
abbrev pub library : TreeValue → Language
library t = head true (record { guid = t.guid; version = t.version }) ▸ symbol (codes "library") ▸ one name_of t.name
    ▸ symbol (codes "{") ▸
    library_contents t.items ▸ optional (symbol (codes ";")) ▸ symbol [] ▸ nothing
