-- Backward compatibility: which libraries may replace another, so that each table that fits the old one fits the new
-- one (this project's choice).
use Rattle.std.specs.Prelude.{◌≡◌, ℕ, ℤ, Bool, true, false, not, ◌&&◌, ◌||◌, if◌then◌else◌, List, Option, Some, None}
use Rattle.std.specs.Prelude.{is_some}
use Rattle.std.specs.Cmp.Lexicographic.{pointwise}
use Rattle.std.specs.List.{list_any, list_all}
use Rattle.std.specs.Option.{option_and_then, option_eq, option_map, option_map_or, option_or}
use Rattle.std.specs.Ordering.{int_eq}
use Rattle.oa_model.specs.promise.Invoke.{unknown_dispid}
use Rattle.oa_idl.specs.promise.Trees.{TreeValue}
use Rattle.oa_idl.specs.promise.Values.{InterfaceValue, CoclassValue}
use Rattle.oa_idl.specs.declared.items.Item.{Item}
use Rattle.oa_sema.specs.promise.Agreement.{same_parameter, same_result}
use Rattle.oa_sema.specs.promise.DeclarationValues.{DeclarationValue}
use Rattle.oa_sema.specs.promise.Declarations.{declarations}
use Rattle.oa_typelib.specs.promise.Descriptions.{classes_of, interfaces_of, members_described}
use Rattle.oa_sema.specs.promise.Libraries.{class_of, default_interface, has_interface, if_entered, interface_of, same}
use Rattle.oa_sema.specs.promise.Libraries.{same_name}
use Rattle.oa_sema.specs.promise.Repeats.{Has, first_answer}
use Rattle.oa_sema.specs.declared.declaration.DeclarationKind.{DeclarationKind}
use Rattle.oa_sema.specs.declared.declaration.DeclarationKind.TheVariants as kinds
use Rattle.oa_compat.specs.declared.lost.Incompatibility.{Incompatibility}
use Rattle.oa_compat.specs.declared.lost.Incompatibility.TheVariants as losses

-- ---- what it is to keep one, said without a search

-- One declaration preserves another: it has the same name, A to Z folded, DISPID, kind (which includes whether it is
-- readonly), type and parameters, including a put's new value, each with the same name, type, flags and default.
pub record IsKeptBy (was now : DeclarationValue) : Type 0 where
  pub name : same_name was.name now.name ≡ true
  pub id : now.id ≡ was.id
  pub kind : now.kind ≡ was.kind
  pub type : now.value_type ≡ was.value_type
  pub parameters : pointwise same_parameter was.parameters now.parameters ≡ true

pub record KeepsDeclaration (now : InterfaceValue) (was : DeclarationValue) : Type 0 where
  pub declaration : DeclarationValue
  pub declared : Has (declarations now) declaration
  pub kept : IsKeptBy was declaration

-- one interface declares all that another declares
abbrev pub DeclaresAll : InterfaceValue → InterfaceValue → Type 0
DeclaresAll now was = (d : DeclarationValue) → Has (declarations was) d → KeepsDeclaration now d

-- The interface of the same GUID declares all that the old one declares. It may declare more.
pub record KeepsInterface (new : List Item) (was : InterfaceValue) : Type 0 where
  pub now : InterfaceValue
  pub there : Has (interfaces_of new) now
  pub guid : now.guid ≡ was.guid
  pub declarations : DeclaresAll now was

-- a coclass has an interface of the items
pub record IsOf (items : List Item) (class : CoclassValue) (i : InterfaceValue) : Type 0 where
  pub there : Has (interfaces_of items) i
  pub entered : has_interface class i ≡ true

-- the GUID of its default interface
abbrev pub default_guid : List Item → CoclassValue → Option (List ℕ)
default_guid items class = option_map (λ (i : InterfaceValue). i.guid) (default_interface items class)

-- an interface with a GUID and a property
pub record HasGuid (P : InterfaceValue → Type 0) (guid : List ℕ) : Type 0 where
  pub interface : InterfaceValue
  pub is : P interface
  pub has : interface.guid ≡ guid

-- The coclass of the same GUID has all interfaces that the old one has, and the same default interface. It may have
-- more.
pub record KeepsClass (new old : List Item) (was : CoclassValue) : Type 0 where
  pub now : CoclassValue
  pub there : Has (classes_of new) now
  pub guid : now.guid ≡ was.guid
  pub interfaces : (i : InterfaceValue) → IsOf old was i → HasGuid (IsOf new now) i.guid
  pub default : default_guid new now ≡ default_guid old was

pub record KeepsLibrary (new old : TreeValue) : Type 0 where
  pub interfaces : (i : InterfaceValue) → Has (interfaces_of old.items) i → KeepsInterface new.items i
  pub classes : (c : CoclassValue) → Has (classes_of old.items) c → KeepsClass new.items old.items c

-- ---- the first thing that is lost: the old interfaces in the text's order, each with its members as a description has
-- them, so in the order in which their names first occur, a get before its put; then the old coclasses

abbrev pub same_declaration_kind : DeclarationKind → DeclarationKind → Bool
same_declaration_kind kinds.Property kinds.Property = true
same_declaration_kind kinds.ReadonlyProperty kinds.ReadonlyProperty = true
same_declaration_kind kinds.Method kinds.Method = true
same_declaration_kind kinds.Get kinds.Get = true
same_declaration_kind kinds.Put kinds.Put = true
same_declaration_kind j k = false

unfoldable pub is_kept_by : DeclarationValue → DeclarationValue → Bool
is_kept_by was now =
    int_eq was.id now.id && same_declaration_kind was.kind now.kind && same_name was.name now.name
    && same_result was.value_type now.value_type
    && pointwise same_parameter was.parameters now.parameters

-- its DISPID, unless it is preserved
abbrev pub lost_declaration : InterfaceValue → DeclarationValue → Option ℤ
lost_declaration now was = if list_any (is_kept_by was) (declarations now) then None else Some was.id

abbrev pub lost_member : InterfaceValue → InterfaceValue → Option ℤ
lost_member now was = first_answer (lost_declaration now) (members_described was)

abbrev pub lost_of_interface : Option InterfaceValue → InterfaceValue → Option Incompatibility
lost_of_interface None was = Some (losses.Interface was.guid)
lost_of_interface (Some now) was = option_map (losses.Member was.guid) (lost_member now was)

abbrev pub lost_interface : TreeValue → InterfaceValue → Option Incompatibility
lost_interface new was = lost_of_interface (interface_of new was.guid) was

-- the interface with a GUID, if the coclass has it
abbrev pub interface_in : TreeValue → CoclassValue → List ℕ → Option InterfaceValue
interface_in tree class guid = option_and_then (if_entered class) (interface_of tree guid)

abbrev pub keeps_entry : TreeValue → CoclassValue → CoclassValue → InterfaceValue → Bool
keeps_entry new now was i = not (has_interface was i) || is_some (interface_in new now i.guid)

abbrev pub keeps_entries : TreeValue → TreeValue → CoclassValue → CoclassValue → Bool
keeps_entries new old now was = list_all (keeps_entry new now was) (interfaces_of old.items)

abbrev pub keeps_default : TreeValue → TreeValue → CoclassValue → CoclassValue → Bool
keeps_default new old now was = option_eq same (default_guid old.items was) (default_guid new.items now)

abbrev pub keeps_class : TreeValue → TreeValue → CoclassValue → Bool
keeps_class new old was =
    option_map_or (λ now. keeps_entries new old now was && keeps_default new old now was) (class_of new was.guid) false

abbrev pub lost_class : TreeValue → TreeValue → CoclassValue → Option Incompatibility
lost_class new old was = if keeps_class new old was then None else Some (losses.Coclass was.guid)

abbrev pub first_lost : TreeValue → TreeValue → Option Incompatibility
first_lost new old =
    option_or (first_answer (lost_interface new) (interfaces_of old.items))
    (first_answer (lost_class new old) (classes_of old.items))

-- ---- the parts of what is lost

abbrev pub guid_lost : Incompatibility → List ℕ
guid_lost (losses.Interface guid) = guid
guid_lost (losses.Member guid id) = guid
guid_lost (losses.Coclass guid) = guid

-- DISPID_UNKNOWN for a whole interface or coclass
abbrev pub dispid_lost : Incompatibility → ℤ
dispid_lost (losses.Interface guid) = unknown_dispid
dispid_lost (losses.Member guid id) = id
dispid_lost (losses.Coclass guid) = unknown_dispid
