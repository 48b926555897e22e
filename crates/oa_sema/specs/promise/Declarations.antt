-- The declarations of an interface.
use Rattle.std.specs.Prelude.{Bool, true, false, if◌then◌else◌, List, [], ◌++◌, ◌-◌, length, map, take, slice_get}
use Rattle.std.specs.Prelude.{Option, Some, None}
use Rattle.std.specs.Option.{option_map}
use Rattle.oa_model.specs.declared.var_type.ValueType.{ValueType}
use Rattle.oa_idl.specs.declared.parts.MethodKind.{MethodKind}
use Rattle.oa_idl.specs.declared.parts.MethodKind.TheVariants as forms
use Rattle.oa_idl.specs.declared.parts.Parameter.{Parameter}
use Rattle.oa_idl.specs.declared.parts.Property.{Property}
use Rattle.oa_idl.specs.promise.MethodValues.{MethodValue}
use Rattle.oa_idl.specs.promise.Values.{InterfaceValue}
use Rattle.oa_sema.specs.declared.declaration.DeclarationKind.{DeclarationKind}
use Rattle.oa_sema.specs.declared.declaration.DeclarationKind.TheVariants as kinds
use Rattle.oa_sema.specs.promise.DeclarationValues.{DeclarationValue}

-- The kind of a property of `properties:`.
abbrev pub kind_of_property : Bool → DeclarationKind
kind_of_property true = kinds.ReadonlyProperty
kind_of_property false = kinds.Property

-- The kind of a member of `methods:`.
abbrev pub kind_of_method : MethodKind → DeclarationKind
kind_of_method forms.Method = kinds.Method
kind_of_method forms.Get = kinds.Get
kind_of_method forms.Put = kinds.Put

-- The declaration of a property of `properties:`.
abbrev pub of_property : Property → DeclarationValue
of_property p = record {
  id = p.id;
  name = p.name;
  kind = kind_of_property p.readonly;
  value_type = Some p.value_type;
  parameters = [];
}

-- The declaration of a member of `methods:`.
abbrev pub of_method : MethodValue → DeclarationValue
of_method m = record {
  id = m.id;
  name = m.name;
  kind = kind_of_method m.kind;
  value_type = m.value_type;
  parameters = m.parameters;
}

-- The declarations of an interface in the text's order.
abbrev pub declarations : InterfaceValue → List DeclarationValue
declarations i = map of_property i.properties ++ map of_method i.methods

abbrev pub is_put : DeclarationKind → Bool
is_put kinds.Put = true
is_put k = false

-- A get or a put: half of a property, in `methods:`.
abbrev pub is_get_or_put : DeclarationKind → Bool
is_get_or_put kinds.Get = true
is_get_or_put kinds.Put = true
is_get_or_put k = false

-- A get and a put with the same name are one member.
abbrev pub are_one_member : DeclarationKind → DeclarationKind → Bool
are_one_member kinds.Get kinds.Put = true
are_one_member kinds.Put kinds.Get = true
are_one_member j k = false

-- The parameters for which a call of the property passes arguments: all, except the new value of a put, which is the
-- last.
abbrev pub own_parameters : DeclarationValue → List Parameter
own_parameters d = if is_put d.kind then take (length d.parameters - 1) d.parameters else d.parameters

-- The new value of a put, its last parameter.
abbrev pub new_value : DeclarationValue → Option Parameter
new_value d = if is_put d.kind then slice_get d.parameters (length d.parameters - 1) else None

-- The type of the property's value, which of a put is the type of its new value; or the type of a method's result.
abbrev pub type_of_value : DeclarationValue → Option ValueType
type_of_value d = if is_put d.kind then option_map (λ (p : Parameter). p.value_type) (new_value d) else d.value_type
