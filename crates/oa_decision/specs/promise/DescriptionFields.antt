-- The bytes of a description in a reply (this project's choice). Its numbers are those of MS-OAUT: TYPEKIND,
-- INVOKEKIND, VARFLAG_FREADONLY, VARTYPE, PARAMFLAGS.
use Rattle.std.specs.Prelude.{ℕ, ◌+◌, Bool, if◌then◌else◌, List, [], ◌++◌, length, Option, Some, None, is_some}
use Rattle.std.specs.List.{flat_map}
use Rattle.oa_model.specs.promise.Guids.{wire_order}
use Rattle.oa_model.specs.promise.Invoke.{coclass_kind, default_flag, has_default_flag, in_flag, interface_kind}
use Rattle.oa_model.specs.promise.Invoke.{invoke_get, invoke_method, invoke_put, optional_flag, readonly_flag, vt_void}
use Rattle.oa_model.specs.promise.Types.{vt_of_value}
use Rattle.oa_model.specs.declared.var_type.ValueType.{ValueType}
use Rattle.oa_variant.specs.declared.scalar.Scalar.{Scalar}
use Rattle.oa_variant.specs.declared.variant.Variant.TheVariants.{One}
use Rattle.oa_record.specs.promise.Replies.{word, half_word, signed_word, string_field, variant_field}
use Rattle.oa_sema.specs.declared.declaration.DeclarationKind.{DeclarationKind}
use Rattle.oa_sema.specs.declared.declaration.DeclarationKind.TheVariants.{Property, ReadonlyProperty, Method, Get, Put}
use Rattle.oa_typelib.specs.promise.DescriptionValues.{ParameterDescription, MemberDescription, EntryDescription}
use Rattle.oa_typelib.specs.promise.DescriptionValues.{ContentDescription, DescriptionValue}
use Rattle.oa_typelib.specs.promise.DescriptionValues.ContentDescription.{OfInterface, OfCoclass}

-- VT_VOID if there is none
abbrev pub type_number : Option ValueType → ℕ
type_number None = vt_void
type_number (Some t) = vt_of_value t

-- how a member is called; 0 for one of `properties:`
abbrev pub invoke_kind : DeclarationKind → ℕ
invoke_kind Property = 0
invoke_kind ReadonlyProperty = 0
invoke_kind Method = invoke_method
invoke_kind Get = invoke_get
invoke_kind Put = invoke_put

abbrev pub member_flags : DeclarationKind → ℕ
member_flags Property = 0
member_flags ReadonlyProperty = readonly_flag
member_flags Method = 0
member_flags Get = 0
member_flags Put = 0

abbrev pub flag : Bool → ℕ → ℕ
flag b n = if b then n else 0

abbrev pub parameter_flags : ParameterDescription → ℕ
parameter_flags p = flag p.is_in in_flag + flag p.is_optional optional_flag + flag (is_some p.default) has_default_flag

-- type, flags, a reserved number
unfoldable pub parameter_head_bytes : ParameterDescription → List ℕ
parameter_head_bytes p = half_word (vt_of_value p.value_type) ++ (half_word (parameter_flags p) ++ word 0)

-- a default as a variant field
unfoldable pub default_field : Option Scalar → List ℕ
default_field None = []
default_field (Some value) = variant_field (One value)

unfoldable pub parameter_field : ParameterDescription → List ℕ
parameter_field p = parameter_head_bytes p ++ (string_field p.name ++ default_field p.default)

-- DISPID, kind, flags, type, the number of parameters, a reserved number
unfoldable pub member_head : MemberDescription → List ℕ
member_head m =
    signed_word m.id
    ++ (half_word (invoke_kind m.kind) ++ (half_word (member_flags m.kind)
    ++ (half_word (type_number m.value_type) ++ (half_word (length m.parameters) ++ word 0))))

unfoldable pub member_field : MemberDescription → List ℕ
member_field m = member_head m ++ (string_field m.name ++ flat_map parameter_field m.parameters)

-- the flag of the default interface, the index of the interface
unfoldable pub entry_field : EntryDescription → List ℕ
entry_field e = word (flag e.is_default default_flag) ++ word e.interface

abbrev pub type_kind : ContentDescription → ℕ
type_kind (OfInterface members) = interface_kind
type_kind (OfCoclass entries) = coclass_kind

abbrev pub entry_count : ContentDescription → ℕ
entry_count (OfInterface members) = length members
entry_count (OfCoclass entries) = length entries

abbrev pub entry_fields : ContentDescription → List ℕ
entry_fields (OfInterface members) = flat_map member_field members
entry_fields (OfCoclass entries) = flat_map entry_field entries

-- the kind, the number of entries
unfoldable pub content_head : ContentDescription → List ℕ
content_head content = word (type_kind content) ++ word (entry_count content)

-- the kind, the number of entries, GUID
unfoldable pub description_head : DescriptionValue → List ℕ
description_head d = content_head d.content ++ wire_order d.guid

-- these, the name, the entries
unfoldable pub description_field : DescriptionValue → List ℕ
description_field d = description_head d ++ (string_field d.name ++ entry_fields d.content)
