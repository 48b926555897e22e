-- Which tables fit a library. (This project's choice.)
use Rattle.std.specs.Prelude.{ℕ, ◌&&◌, Bool, true, false, is_some, List, [], ◌∷◌, Option, Some, None}
use Rattle.std.specs.List.{list_all}
use Rattle.std.specs.Option.{option_and_then}
use Rattle.oa_idl.specs.declared.parts.Parameter.{Parameter}
use Rattle.oa_idl.specs.promise.Trees.{TreeValue}
use Rattle.oa_idl.specs.promise.Values.{InterfaceValue}
use Rattle.oa_table.specs.promise.Places.{PlaceValue}
use Rattle.oa_table.specs.promise.Tables.{ObjectValue, TableValue}
use Rattle.oa_sema.specs.promise.Libraries.{class_of, if_entered, interface_of}
use Rattle.oa_typelib.specs.promise.MemberValues.{MemberValue}
use Rattle.oa_typelib.specs.promise.Members.{property_in}
use Rattle.oa_variant.specs.declared.scalar.Scalar.{Scalar}
use Rattle.oa_variant.specs.declared.variant.Variant.{Variant}
use Rattle.oa_variant.specs.declared.variant.Variant.TheVariants.{One}
use Rattle.oa_variant.specs.promise.Variants.{fits_declared}

-- a key has one value for each parameter, of the parameter's type
abbrev pub key_fits : List Parameter → List Scalar → Bool
key_fits [] [] = true
key_fits (p ∷ ps) (s ∷ ss) = fits_declared (One s) p.value_type && key_fits ps ss
key_fits [] (s ∷ ss) = false
key_fits (p ∷ ps) [] = false

-- the property has such a key and such a value
abbrev pub property_fits : List Scalar → Variant → Option MemberValue → Bool
property_fits key value None = false
property_fits key value (Some member) = key_fits member.parameters key && fits_declared value member.value_type

-- the interface has such a property
abbrev pub interface_fits : PlaceValue → Variant → Option InterfaceValue → Bool
interface_fits place value None = false
interface_fits place value (Some interface) = property_fits place.key value (property_in interface place.dispid)

-- the interface with a GUID of its own, if the coclass with a GUID has it
abbrev pub entered : TreeValue → List ℕ → List ℕ → Option InterfaceValue
entered library class guid =
    option_and_then (λ c. option_and_then (if_entered c) (interface_of library guid)) (class_of library class)

-- the cell is one of a property of an interface of its object's coclass
abbrev pub cell_fits : TreeValue → List ℕ → PlaceValue × Variant → Bool
cell_fits library class cell = interface_fits cell.0 cell.1 (entered library class cell.0.interface)

-- the coclass is in the library, and each cell is one of it
abbrev pub object_fits : TreeValue → ObjectValue → Bool
object_fits library object =
    is_some (class_of library object.class) && list_all (cell_fits library object.class) object.cells

abbrev pub fits : TreeValue → TableValue → Bool
fits library table = list_all (λ (entry : ℕ × ObjectValue). object_fits library entry.1) table.objects
