-- The interface that a call selects for an object is one of its coclass, found again by its own GUID; and a member that a call finds is
-- the property of the interface.
use Rattle.std.proofs.Common.{◌≡◌, ℕ, ℤ, Bool, true, false, List, find, Option, Some, None, IfSome}
use Rattle.std.proofs.Common.{Result, Ok, Err, IfOk, refl, sym, ap, subst, ◌∙◌}
use Rattle.std.specs.Prelude.{if◌then◌else◌}
use Rattle.std.proofs.lemmas.Option.{none-some}
use Rattle.std.specs.Option.{option_and_then, option_map}
use Rattle.uuid.specs.Parts.{is_nil_bytes}
use Rattle.oa_idl.specs.promise.Trees.{TreeValue}
use Rattle.oa_idl.specs.promise.Values.{CoclassValue, InterfaceValue}
use Rattle.oa_idl.specs.declared.items.Item.{Item}
use Rattle.oa_idl.specs.declared.parts.Entry.{Entry}
use Rattle.oa_typelib.specs.promise.Checked.{IsChecked}
use Rattle.oa_sema.specs.promise.DeclarationValues.{DeclarationValue}
use Rattle.oa_sema.specs.promise.Declarations.{type_of_value}
use Rattle.oa_sema.specs.promise.Libraries.{as_interface, class_of, default_interface, has_interface, if_entered}
use Rattle.oa_sema.specs.promise.Libraries.{interface_named, interface_of, item_name, same_name, selected, selected_in}
use Rattle.oa_typelib.specs.promise.MemberValues.{MemberValue}
use Rattle.oa_typelib.specs.promise.Members.{answer, forms_with, has_form, if_formed, is_method, kind_asked, main_form}
use Rattle.oa_typelib.specs.promise.Members.{member_in, method_fault, property_answer, property_in, property_of}
use Rattle.oa_typelib.specs.promise.Members.{property_with}
use Rattle.oa_typelib.specs.declared.access.Access.{Access}
use Rattle.oa_typelib.specs.declared.access.Kind.{Kind}
use Rattle.oa_typelib.specs.declared.access.MemberFault.{MemberFault}
use Rattle.oa_typelib.specs.declared.access.MemberFault.TheVariants.{MemberNotFound}
use Rattle.oa_compat.proofs.Losses.{interface_found, interface_there, was_interface}
use Rattle.oa_typelib.proofs.Same.{at_any, found_at, inside, mapped_in}
use Rattle.oa_compat.specs.promise.Fits.{entered}

-- ---- the interface that is selected

IsOwn : TreeValue → CoclassValue → InterfaceValue → Type 0
IsOwn library class found = (interface_of library found.guid ≡ Some found) × (has_interface class found ≡ true)

default_own : (library : TreeValue) (class : CoclassValue) (found : InterfaceValue) → IsChecked library
    → default_interface library.items class ≡ Some found → IsOwn library class found
unfolding IsOwn
default_own library class found is h = by (find (λ (e : Entry). e.is_default) class.entries) refl h
  where
    on : (e : Entry) (o : Option Item) → find (λ (x : Entry). x.is_default) class.entries ≡ Some e
        → find (λ i. same_name e.interface (item_name i)) library.items ≡ o → option_and_then as_interface o ≡ Some found
        → (interface_of library found.guid ≡ Some found) × (has_interface class found ≡ true)
    on e None there named k = absurd (none-some found k)
    on e (Some item) there named k =
        let r = found_at (λ i. same_name e.interface (item_name i)) library.items item named in
        let entry = found_at (λ (x : Entry). x.is_default) class.entries e there in
        let own = ap (λ (i : Item). same_name e.interface (item_name i)) (sym (was_interface item found k)) ∙ r.2 in (
          interface_found library is found (mapped_in as_interface library.items r.0 item found r.1 k),
          at_any (λ (x : Entry). same_name x.interface found.name) class.entries entry.0 e entry.1 own,
        )

    by : (o : Option Entry) → find (λ (e : Entry). e.is_default) class.entries ≡ o
        → option_and_then (λ (e : Entry). interface_named library.items e.interface) o ≡ Some found
        → (interface_of library found.guid ≡ Some found) × (has_interface class found ≡ true)
    by None there named = absurd (none-some found named)
    by (Some e) there named = on e (find (λ i. same_name e.interface (item_name i)) library.items) there refl named

entered_own : (library : TreeValue) (class : CoclassValue) (guid : List ℕ) (found : InterfaceValue)
    → option_and_then (if_entered class) (interface_of library guid) ≡ Some found → IsOwn library class found
unfolding IsOwn
entered_own library class guid found h = by (interface_of library guid) refl h
  where
    on : (i : InterfaceValue) (b : Bool) → has_interface class i ≡ b → interface_of library guid ≡ Some i
        → (if b then Some i else None) ≡ Some found
        → (interface_of library found.guid ≡ Some found) × (has_interface class found ≡ true)
    on i true has there is =
        let own : interface_of library i.guid ≡ Some i = subst (λ g. interface_of library g ≡ Some i) (interface_there library guid i there).1 there in
        subst (λ (x : InterfaceValue). (interface_of library x.guid ≡ Some x) × (has_interface class x ≡ true)) (inside i found is) (own, has)
    on i false has there is = absurd (none-some found is)

    by : (o : Option InterfaceValue) → interface_of library guid ≡ o → option_and_then (if_entered class) o ≡ Some found
        → (interface_of library found.guid ≡ Some found) × (has_interface class found ≡ true)
    by None there is = absurd (none-some found is)
    by (Some i) there is = on i (has_interface class i) refl there is

selected_own : (library : TreeValue) (class : CoclassValue) (guid : List ℕ) (found : InterfaceValue) → IsChecked library
    → selected library class guid ≡ Some found → IsOwn library class found
selected_own library class guid found is h = by (is_nil_bytes guid) h
  where
    by : (b : Bool) → (if b then default_interface library.items class else option_and_then (if_entered class)
        (interface_of library guid)) ≡ Some found → IsOwn library class found
    by true there = default_own library class found is there
    by false there = entered_own library class guid found there

pub selected_entered : (library : TreeValue) (class guid : List ℕ) → IsChecked library
    → IfSome (selected_in library class guid) (λ found. entered library class found.guid ≡ Some found)
unfolding IsOwn
selected_entered library class guid is = by (class_of library class) refl
  where
    on : (c : CoclassValue) (o : Option InterfaceValue) → class_of library class ≡ Some c → selected library c guid ≡ o
        → IfSome o (λ found. entered library class found.guid ≡ Some found)
    on c None there chosen = tt
    on c (Some found) there chosen = let own = selected_own library c guid found is chosen in rw (there, own.0, own.1) refl

    by : (o : Option CoclassValue) → class_of library class ≡ o
        → IfSome (option_and_then (λ c. selected library c guid) o) (λ found. entered library class found.guid ≡ Some found)
    by None there = tt
    by (Some c) there = on c (selected library c guid) there refl

-- ---- the member that is found
pub found_property : (i : InterfaceValue) (id : ℤ) (access : Access)
    → IfOk (member_in i id access) (λ found. property_in i id ≡ Some found.0)
found_property i id access = by (main_form (forms_with id i)) refl
  where
    formed : (m : MemberValue) (asked : Option Kind) → IfOk (if_formed m asked) (λ (found : MemberValue × Kind). Some m ≡ Some found.0)
    formed m None = tt
    formed m (Some kind) = has (has_form m kind)
      where
        made : Result (MemberValue × Kind) MemberFault
        made = let found : MemberValue × Kind = (m, kind) in Ok found

        has : (b : Bool) → IfOk (if b then made else Err MemberNotFound) (λ (found : MemberValue × Kind). Some m ≡ Some found.0)
        has true = refl
        has false = tt

    on : (o : Option MemberValue) → IfOk (property_answer o access) (λ (found : MemberValue × Kind). o ≡ Some found.0)
    on None = tt
    on (Some m) = formed m (kind_asked access)

    if_property : (b : Bool) (o : Option MemberValue)
        → IfOk (if b then Err (method_fault access) else property_answer o access)
        (λ (found : MemberValue × Kind). (if b then None else o) ≡ Some found.0)
    if_property true o = tt
    if_property false o = on o

    by : (o : Option DeclarationValue) → main_form (forms_with id i) ≡ o
        → IfOk (answer o (forms_with id i) access) (λ found. property_with o (forms_with id i) ≡ Some found.0)
    by None is = tt
    by (Some d) is = if_property (is_method d.kind) (option_map (property_of (forms_with id i) d) (type_of_value d))
