-- The conditions under which a call can be bound to a property: it has at most `max_parameters` parameters, each is a
-- scalar whose default is a value of its type, and the property's type has a zero value.
use Rattle.std.specs.Prelude.{◌≡◌, ◌≤◌, false, List, length, IfSome, IsSome}
use Rattle.std.specs.List.{AllByRecursion}
use Rattle.oa_model.specs.promise.Limits.{max_parameters}
use Rattle.oa_model.specs.declared.var_type.ValueType.{ValueType}
use Rattle.oa_model.specs.declared.var_type.ValueType.TheVariants.{One, Array}
use Rattle.oa_idl.specs.declared.parts.Parameter.{Parameter}
use Rattle.oa_idl.specs.declared.items.Item.{Item}
use Rattle.oa_idl.specs.declared.items.Item.TheVariants.{Interface, Coclass}
use Rattle.oa_variant.specs.Variants.{HasZero}
use Rattle.oa_sema.specs.promise.DeclarationValues.{DeclarationValue}
use Rattle.oa_sema.specs.promise.Declarations.{declarations, own_parameters, type_of_value}
use Rattle.oa_sema.specs.promise.Defaults.{default_of}
use Rattle.oa_typelib.specs.promise.Members.{is_method}
use Rattle.oa_typelib.specs.promise.MemberValues.{MemberValue}

-- The type is a scalar type.
abbrev pub IsOne : ValueType → Type 0
IsOne (One t) = Unit {0}
IsOne (Array t) = ⊥

-- Each parameter has a scalar type.
abbrev pub AreScalars : List Parameter → Type 0
AreScalars = AllByRecursion (λ (p : Parameter). IsOne p.value_type)

-- If the parameter has a default, this converts to a value of its type.
abbrev pub HasGoodDefault : Parameter → Type 0
HasGoodDefault p = IfSome p.default (λ l. IsSome (default_of p.value_type l))

-- A call can be bound to this property.
pub record IsBindable (m : MemberValue) : Type 0 where
  pub zero : HasZero m.value_type
  pub few : length m.parameters ≤ max_parameters
  pub scalars : AreScalars m.parameters
  pub defaults : AllByRecursion HasGoodDefault m.parameters

-- A call can be bound to what the declaration declares, if it declares a property. A method may have parameters that
-- are arrays.
pub record IsSoundDeclaration (d : DeclarationValue) : Type 0 where
  pub zero : IfSome (type_of_value d) HasZero
  pub few : length d.parameters ≤ max_parameters
  pub scalars : is_method d.kind ≡ false → AreScalars (own_parameters d)
  pub defaults : AllByRecursion HasGoodDefault (own_parameters d)

-- `IsSoundDeclaration` holds for each declaration.
abbrev pub AreSound : List DeclarationValue → Type 0
AreSound = AllByRecursion IsSoundDeclaration

-- `IsSoundDeclaration` holds for each declaration of the item, if it is an interface.
abbrev pub IsSoundItem : Item → Type 0
IsSoundItem (Interface i) = AreSound (declarations i)
IsSoundItem (Coclass c) = Unit {0}
