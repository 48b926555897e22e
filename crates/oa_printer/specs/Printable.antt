-- The trees whose canonical text is parsed as the same tree. Each tree of a text is one.
use Rattle.std.specs.Prelude.{◌≡◌, ℕ, ◌+◌, ◌^◌, ◌<◌, ◌≤◌, ◌==◌, ◌||◌, Bool, true, false, List, [], ◌∷◌, length, Option}
use Rattle.std.specs.Prelude.{Some, None, ℤ, pos, negsuc, is_some}
use Rattle.std.specs.List.{All, AllByRecursion}
use Rattle.oa_model.specs.declared.var_type.VarType.{VarType}
use Rattle.oa_model.specs.declared.var_type.VarType.TheVariants as types
use Rattle.oa_model.specs.declared.var_type.ValueType.{ValueType}
use Rattle.oa_model.specs.declared.var_type.ValueType.TheVariants as values
use Rattle.oa_model.specs.promise.Limits.{max_interfaces, max_coclasses}
use Rattle.oa_model.specs.promise.Types.{sf_type_of}
use Rattle.oa_tokens.specs.declared.scan.Class.TheVariants.{Letter, Named}
use Rattle.oa_idl.specs.declared.parts.Version.{Version}
use Rattle.oa_idl.specs.declared.parts.Property.{Property}
use Rattle.oa_idl.specs.declared.parts.Entry.{Entry}
use Rattle.oa_idl.specs.declared.parts.Literal.{Literal}
use Rattle.oa_idl.specs.declared.parts.Literal.TheVariants as literals
use Rattle.oa_idl.specs.declared.parts.MethodKind.{MethodKind}
use Rattle.oa_idl.specs.declared.parts.Parameter.{Parameter}
use Rattle.oa_idl.specs.declared.items.Item.{Item}
use Rattle.oa_idl.specs.declared.items.Item.TheVariants as items
use Rattle.oa_idl.specs.declared.seen.EntriesSeen.{EntriesSeen}
use Rattle.oa_idl.specs.promise.MethodValues.{MethodValue}
use Rattle.oa_idl.specs.promise.Trees.{TreeValue}
use Rattle.oa_tokens.specs.promise.Bytes.{is_in, run}
use Rattle.oa_idl.specs.promise.Words.{is_reserved, is_printable}
use Rattle.oa_idl.specs.promise.Grammar.{may_be_void, may_have_type, may_end, no_entry, entry_may, entry_grow}
use Rattle.oa_idl.specs.promise.Limits.{IsShort, HasShortNames, one_interface, one_coclass, how_many, HasFewMembers}
use Rattle.oa_idl.specs.promise.Limits.{HasFewParameters}

-- 16 bytes.
abbrev pub IsGuid : List ℕ → Type 0
IsGuid g = (length g ≡ 16) × All (λ b. b < 256) g

-- Both parts have 16 bits.
abbrev pub IsVersion : Version → Type 0
IsVersion v = (v.major < 65536) × (v.minor < 65536)

-- An ASCII letter or `_`, followed by letters, digits and `_`.
abbrev pub IsNameText : List ℕ → Type 0
IsNameText [] = ⊥
IsNameText (c ∷ cs) = (is_in Letter c ≡ true) × (run (is_in Named) cs ≡ length cs)

-- The name has this form and is not reserved.
abbrev pub IsName : List ℕ → Type 0
IsName name = IsNameText name × (is_reserved name ≡ false)

-- A number of 32 bits except -1 and -3.
abbrev pub IsId : ℤ → Type 0
IsId (pos n) = n < 2147483648
IsId (negsuc n) = (n < 2147483648) × ((n == 0 || n == 2) ≡ false)

-- A type with an IDL name; the elements of an array must have a type with an sfType.
abbrev pub IsType : Bool → VarType → Type 0
IsType in_array types.Empty = ⊥
IsType in_array types.Null = ⊥
IsType false t = Unit {0}
IsType true t = is_some (sf_type_of t) ≡ true

-- A scalar type or an array type that a text can declare.
abbrev pub IsValueType : ValueType → Type 0
IsValueType (values.One t) = IsType false t
IsValueType (values.Array t) = IsType true t

-- A number with a magnitude below 2^96, a string of ASCII characters from the space to the tilde, or a truth value.
abbrev pub IsLiteral : Literal → Type 0
IsLiteral (literals.Number (pos n)) = n < 2 ^ 96
IsLiteral (literals.Number (negsuc n)) = n + 1 < 2 ^ 96
IsLiteral (literals.Text cs) = AllByRecursion (λ b. is_printable b ≡ true) cs
IsLiteral (literals.Bool b) = Unit {0}

abbrev pub IsDefault : Option Literal → Type 0
IsDefault None = Unit {0}
IsDefault (Some v) = IsLiteral v

-- A parameter that a text can declare.
abbrev pub IsPrintableParameter : Parameter → Type 0
IsPrintableParameter p = IsDefault p.default × IsValueType p.value_type × IsName p.name

-- A property that a text can declare.
abbrev pub IsProperty : Property → Type 0
IsProperty p = IsId p.id × IsValueType p.value_type × IsName p.name

-- A result that a text can declare for a member of this kind.
abbrev pub IsResult : MethodKind → Option ValueType → Type 0
IsResult k None = may_be_void k ≡ true
IsResult k (Some t) = (may_have_type k ≡ true) × IsValueType t

-- A member of `methods:` that a text can declare.
abbrev pub IsMethod : MethodValue → Type 0
IsMethod m = IsId m.id × IsResult m.kind m.value_type × IsName m.name × AllByRecursion IsPrintableParameter m.parameters
    × (may_end m.kind (length m.parameters) ≡ true)

-- At least one entry, and at most one default.
abbrev pub AreEntries : EntriesSeen → List Entry → Type 0
AreEntries s [] = s.some ≡ true
AreEntries s (e ∷ es) = (entry_may s e ≡ true) × IsName e.interface × AreEntries (entry_grow s e) es

-- An item that a text can declare.
abbrev pub IsItem : Item → Type 0
IsItem (items.Interface d) =
    IsGuid d.guid × IsName d.name × AllByRecursion IsProperty d.properties × AllByRecursion IsMethod d.methods
IsItem (items.Coclass c) = IsGuid c.guid × IsName c.name × AreEntries no_entry c.entries

-- The tree is one that a text can declare, and it keeps each of the limits.
pub record IsPrintable (t : TreeValue) : Type 0 where
  pub guid : IsGuid t.guid
  pub version : IsVersion t.version
  pub name : IsName t.name
  pub items : AllByRecursion IsItem t.items
  pub short : IsShort t.name × AllByRecursion HasShortNames t.items
  pub interfaces : how_many one_interface t.items ≤ max_interfaces
  pub coclasses : how_many one_coclass t.items ≤ max_coclasses
  pub members : AllByRecursion HasFewMembers t.items
  pub parameters : AllByRecursion HasFewParameters t.items
