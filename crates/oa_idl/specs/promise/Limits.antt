-- The trees that keep the limits. The limits are this project's choice.
use Rattle.std.specs.Prelude.{ℕ, ◌+◌, ◌≤◌, List, [], ◌∷◌, length}
use Rattle.std.specs.List.{AllByRecursion}
use Rattle.oa_model.specs.promise.Limits.{max_name_characters, max_interfaces, max_coclasses, max_members}
use Rattle.oa_model.specs.promise.Limits.{max_parameters}
use Rattle.oa_idl.specs.declared.stop.TreeLimit.{TreeLimit}
use Rattle.oa_idl.specs.declared.stop.TreeLimit.TheVariants as limits
use Rattle.oa_idl.specs.declared.parts.Property.{Property}
use Rattle.oa_idl.specs.declared.parts.Entry.{Entry}
use Rattle.oa_idl.specs.declared.parts.Parameter.{Parameter}
use Rattle.oa_idl.specs.promise.MethodValues.{MethodValue}
use Rattle.oa_idl.specs.declared.items.Item.{Item}
use Rattle.oa_idl.specs.declared.items.Item.TheVariants as items
use Rattle.oa_idl.specs.promise.Trees.{TreeValue}

-- The name is not too long.
abbrev pub IsShort : List ℕ → Type 0
IsShort name = length name ≤ max_name_characters

-- The name of the method and those of its parameters are not too long.
abbrev pub HasShortParameters : MethodValue → Type 0
HasShortParameters m = IsShort m.name × AllByRecursion (λ (p : Parameter). IsShort p.name) m.parameters

-- All names in the item are not too long.
abbrev pub HasShortNames : Item → Type 0
HasShortNames (items.Interface d) = IsShort d.name × AllByRecursion (λ (p : Property). IsShort p.name) d.properties
    × AllByRecursion HasShortParameters d.methods
HasShortNames (items.Coclass c) = IsShort c.name × AllByRecursion (λ (e : Entry). IsShort e.interface) c.entries

abbrev pub one_interface : Item → ℕ
one_interface (items.Interface d) = 1
one_interface (items.Coclass c) = 0

abbrev pub one_coclass : Item → ℕ
one_coclass (items.Interface d) = 0
one_coclass (items.Coclass c) = 1

-- The sum of the weights of the items.
abbrev pub how_many : (Item → ℕ) → List Item → ℕ
how_many weight [] = 0
how_many weight (x ∷ xs) = weight x + how_many weight xs

-- The interface has at most `max_members` members; a get and a put count as two.
abbrev pub HasFewMembers : Item → Type 0
HasFewMembers (items.Interface d) = length d.properties + length d.methods ≤ max_members
HasFewMembers (items.Coclass c) = Unit {0}

-- Each member has at most `max_parameters` parameters; the new value of a put counts as one.
abbrev pub HasFewParameters : Item → Type 0
HasFewParameters (items.Interface d) =
    AllByRecursion (λ (m : MethodValue). length m.parameters ≤ max_parameters) d.methods
HasFewParameters (items.Coclass c) = Unit {0}

-- The tree keeps this limit.
abbrev pub KeepsLimit : TreeLimit → TreeValue → Type 0
KeepsLimit limits.Name t = IsShort t.name × AllByRecursion HasShortNames t.items
KeepsLimit limits.Interfaces t = how_many one_interface t.items ≤ max_interfaces
KeepsLimit limits.Coclasses t = how_many one_coclass t.items ≤ max_coclasses
KeepsLimit limits.Members t = AllByRecursion HasFewMembers t.items
KeepsLimit limits.Params t = AllByRecursion HasFewParameters t.items
