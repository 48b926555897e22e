-- A property of an interface is one of each interface that declares all that the first declares.
use Rattle.std.proofs.Common.{◌≡◌, ◌-◌, ℕ, ℤ, Bool, true, false, not, ◌&&◌, List, [], ◌∷◌, length, map, take, slice_get}
use Rattle.std.proofs.Common.{Option, None, Some, refl, sym, ap, subst, ◌∙◌, true≢false, if◌then◌else◌, is_some}
use Rattle.std.proofs.lemmas.Bool.{and_parts}
use Rattle.std.proofs.lemmas.Bool.Decides.{Decides-int_eq}
use Rattle.std.proofs.lemmas.List.{length-map, take-map}
use Rattle.std.proofs.lemmas.Option.{none-some, slice_get-map}
use Rattle.std.specs.Bool.{beq}
use Rattle.std.specs.Cmp.Lexicographic.{pointwise}
use Rattle.std.specs.List.{list_any}
use Rattle.std.specs.Option.{option_and_then, option_map, option_or}
use Rattle.std.specs.Ordering.{int_eq}
use Rattle.oa_model.specs.promise.Folding.{folded_name}
use Rattle.oa_model.specs.declared.var_type.ValueType.{ValueType}
use Rattle.oa_idl.specs.promise.Trees.{TreeValue}
use Rattle.oa_idl.specs.promise.Values.{CoclassValue, InterfaceValue}
use Rattle.oa_idl.specs.declared.items.Item.{Item}
use Rattle.oa_idl.specs.declared.items.Item.TheVariants.{Interface}
use Rattle.oa_idl.specs.declared.parts.Parameter.{Parameter}
use Rattle.oa_sema.specs.promise.Agreement.{agree, is_optional, same_default, same_parameter, same_result}
use Rattle.oa_sema.specs.promise.Agreement.{same_value_type}
use Rattle.oa_sema.specs.promise.Breaches.{clashes, declared_breach, broken_by, first_broken, form_breaches}
use Rattle.oa_sema.specs.promise.Breaches.{guid_breach, id_breach, in_interface, interface_breach, key_breaches}
use Rattle.oa_sema.specs.promise.Breaches.{name_breach, repeated_name, shares_id, text_breach, tree_breach}
use Rattle.oa_typelib.specs.promise.Checked.{IsChecked}
use Rattle.oa_sema.specs.promise.DeclarationValues.{DeclarationValue}
use Rattle.oa_sema.specs.promise.Declarations.{are_one_member, declarations, is_put, own_parameters, type_of_value}
use Rattle.oa_typelib.specs.promise.Descriptions.{interfaces_of}
use Rattle.oa_compat.specs.promise.Keeps.{DeclaresAll, IsKeptBy, KeepsLibrary}
use Rattle.oa_sema.specs.promise.Repeats.{Has}
use Rattle.oa_sema.specs.promise.Libraries.{as_interface, class_of, has_interface, if_entered, interface_of, same_name}
use Rattle.oa_typelib.specs.promise.MemberValues.{MemberValue}
use Rattle.oa_typelib.specs.promise.Members.{forms_with, is_method, main_form, property_in, property_of, property_with}
use Rattle.oa_sema.specs.declared.declaration.DeclarationKind.{DeclarationKind}
use Rattle.oa_sema.specs.declared.declaration.DeclarationKind.TheVariants as kinds
use Rattle.oa_sema.specs.declared.fault.CheckError.TheVariants.{DuplicateName, DuplicateId, DuplicateGuid, UnknownInterface}
use Rattle.oa_compat.proofs.Losses.{class_found, class_there, interface_found, interface_there, was_interface}
use Rattle.oa_typelib.proofs.Naming.{any_two, filtered, in_filter, main_in, name_symm, names_well, no_repeats, no_name_breach}
use Rattle.oa_typelib.proofs.Naming.{some_main, unless, unmarked, unnot}
use Rattle.oa_typelib.proofs.Same.{inside, none_at, in_mapped, results_are, same_itself, types_are}
use Rattle.oa_typelib.proofs.Sound.{neither, unmapped}
use Rattle.oa_compat.specs.promise.Fits.{entered}

-- ---- what is found still

abbrev pub types_of : List Parameter → List ValueType
types_of ps = map (λ (p : Parameter). p.value_type) ps

-- a property with a DISPID, of the same type and with parameters of the same types
pub record HasProperty (i : InterfaceValue) (id : ℤ) (m : MemberValue) : Type 0 where
  pub member : MemberValue
  pub found : property_in i id ≡ Some member
  pub type : member.value_type ≡ m.value_type
  pub parameters : types_of member.parameters ≡ types_of m.parameters

abbrev pub HasProperties : InterfaceValue → InterfaceValue → Type 0
HasProperties now was = (id : ℤ) (m : MemberValue) → property_in was id ≡ Some m → HasProperty now id m

-- the coclass with a GUID enters the interface with a GUID, which has all properties that it had
pub record EntersStill (new : TreeValue) (class guid : List ℕ) (was : InterfaceValue) : Type 0 where
  pub now : InterfaceValue
  pub found : entered new class guid ≡ Some now
  pub properties : HasProperties now was

-- ---- what the rules say of two declarations

-- of one DISPID: one name
abbrev OneName : DeclarationValue → DeclarationValue → Type 0
OneName d e = d.id ≡ e.id → same_name d.name e.name ≡ true

shared : (d e : DeclarationValue) → shares_id d e ≡ false → OneName d e
shared d e apart is =
    unnot (same_name d.name e.name) (subst (λ (b : Bool). (b && not (same_name d.name e.name)) ≡ false) ((Decides-int_eq d.id e.id).1 is) apart)

-- of one name: both methods, or none
abbrev OneSort : DeclarationValue → DeclarationValue → Type 0
OneSort d e = same_name d.name e.name ≡ true → is_method d.kind ≡ is_method e.kind

forms_only : (j k : DeclarationKind) → are_one_member j k ≡ true → is_method j ≡ is_method k
forms_only kinds.Property kinds.Property e = absurd (true≢false (sym e))
forms_only kinds.Property kinds.ReadonlyProperty e = absurd (true≢false (sym e))
forms_only kinds.Property kinds.Method e = absurd (true≢false (sym e))
forms_only kinds.Property kinds.Get e = absurd (true≢false (sym e))
forms_only kinds.Property kinds.Put e = absurd (true≢false (sym e))
forms_only kinds.ReadonlyProperty kinds.Property e = absurd (true≢false (sym e))
forms_only kinds.ReadonlyProperty kinds.ReadonlyProperty e = absurd (true≢false (sym e))
forms_only kinds.ReadonlyProperty kinds.Method e = absurd (true≢false (sym e))
forms_only kinds.ReadonlyProperty kinds.Get e = absurd (true≢false (sym e))
forms_only kinds.ReadonlyProperty kinds.Put e = absurd (true≢false (sym e))
forms_only kinds.Method kinds.Property e = absurd (true≢false (sym e))
forms_only kinds.Method kinds.ReadonlyProperty e = absurd (true≢false (sym e))
forms_only kinds.Method kinds.Method e = absurd (true≢false (sym e))
forms_only kinds.Method kinds.Get e = absurd (true≢false (sym e))
forms_only kinds.Method kinds.Put e = absurd (true≢false (sym e))
forms_only kinds.Get kinds.Property e = absurd (true≢false (sym e))
forms_only kinds.Get kinds.ReadonlyProperty e = absurd (true≢false (sym e))
forms_only kinds.Get kinds.Method e = absurd (true≢false (sym e))
forms_only kinds.Get kinds.Get e = absurd (true≢false (sym e))
forms_only kinds.Get kinds.Put e = refl
forms_only kinds.Put kinds.Property e = absurd (true≢false (sym e))
forms_only kinds.Put kinds.ReadonlyProperty e = absurd (true≢false (sym e))
forms_only kinds.Put kinds.Method e = absurd (true≢false (sym e))
forms_only kinds.Put kinds.Get e = refl
forms_only kinds.Put kinds.Put e = absurd (true≢false (sym e))

one_sort : (d e : DeclarationValue) → clashes d e ≡ false → OneSort d e
one_sort d e apart is =
    forms_only d.kind e.kind (unnot (are_one_member d.kind e.kind) (subst (λ (b : Bool). (b && not (are_one_member d.kind e.kind)) ≡ false) is apart))

no_id_breach : (t : TreeValue) → tree_breach t ≡ None → id_breach t.items ≡ None
no_id_breach t e =
    let keys = neither (key_breaches t) (option_or (option_map UnknownInterface (interface_breach t.items)) (form_breaches t.items)) e in
    let rest = neither (option_map DuplicateName (name_breach t.items))
    (option_or (option_map DuplicateId (id_breach t.items)) (option_map DuplicateGuid (guid_breach t.guid t.items))) keys.0 in
    unmapped DuplicateId (id_breach t.items)
    (neither (option_map DuplicateId (id_breach t.items)) (option_map DuplicateGuid (guid_breach t.guid t.items)) rest.1).0

-- what the checks give for the declarations of an interface that have one DISPID
abbrev Alike : DeclarationValue → DeclarationValue → Type 0
Alike d e = (agree d e ≡ true) × (is_method d.kind ≡ is_method e.kind)

pub IsOneMember : InterfaceValue → Type 0
IsOneMember i = (m n : ℕ) (d e : DeclarationValue) → slice_get (declarations i) m ≡ Some d → slice_get (declarations i) n ≡ Some e → d.id ≡ e.id → Alike d e

pub one_member : (t : TreeValue) (n : ℕ) (i : InterfaceValue) → IsChecked t → slice_get t.items n ≡ Some (Interface i) → IsOneMember i
unfolding IsOneMember
one_member t n i is at =
    let w = is.1.tree in
    let there : slice_get w.items n ≡ Some (Interface i) =
    unmarked (slice_get w.items n) i (sym (slice_get-map _ w.items n) ∙ ap (λ (u : TreeValue). slice_get u.items n) (sym is.1.says) ∙ at) in
    let none = (neither (tree_breach w) (text_breach w) is.1.unbroken).0 in
    let ids : first_broken shares_id (declarations i) ≡ None = none_at (in_interface (first_broken shares_id)) w.items (no_id_breach w none) n
    (Interface i) there in
    let names = no_repeats w.items (no_name_breach w none) n i there in
    let well = names_well t n i is at in
    λ m k d e dat eat same.
    (let name = any_two (broken_by shares_id) shares_id OneName (λ before x h. (unless (list_any (shares_id x) before) x.name None h).0) shared
    (λ x _. same_itself (folded_name x.name)) (λ x y r k. name_symm y.name x.name ∙ r (sym k)) [] (declarations i) ids m k d e dat eat same in
    let sort = any_two declared_breach clashes OneSort
    (λ before x h. (unless (list_any (clashes x) before) x.name (repeated_name (map (λ (p : Parameter). p.name) x.parameters)) h).0) one_sort (λ x _. refl)
    (λ x y r k. sym (r (name_symm x.name y.name ∙ k))) [] (declarations i) names m k d e dat eat name in
    (well.agree m k d e dat eat name, sort))

-- ---- the types of a declaration
parameter_type : (p q : Parameter) → same_parameter p q ≡ true → p.value_type ≡ q.value_type
unfolding same_parameter
parameter_type p q is =
    let a = same_name p.name q.name in
    let b = same_value_type p.value_type q.value_type in
    let c = beq p.is_in q.is_in in
    let d = beq (is_optional p) (is_optional q) in
    types_are p.value_type q.value_type (and_parts a b
    (and_parts (a && b) c (and_parts ((a && b) && c) d (and_parts (((a && b) && c) && d) (same_default p.default q.default) is).0).0).0).1

same_types : (ps qs : List Parameter) → pointwise same_parameter ps qs ≡ true → types_of ps ≡ types_of qs
same_types [] [] e = refl
same_types [] (q ∷ qs) e = absurd (true≢false (sym e))
same_types (p ∷ ps) [] e = absurd (true≢false (sym e))
same_types (p ∷ ps) (q ∷ qs) e =
    let parts = and_parts (same_parameter p q) (pointwise same_parameter ps qs) e in
    let here = parameter_type p q parts.0 in
    let rest = same_types ps qs parts.1 in
    λ i. here i ∷ rest i

-- by its kind and the types as they are written
abbrev own_types : Bool → List ValueType → List ValueType
own_types put ts = if put then take (length ts - 1) ts else ts

abbrev value_type : Bool → Option ValueType → List ValueType → Option ValueType
value_type put t ts = if put then slice_get ts (length ts - 1) else t

owned : (d : DeclarationValue) → types_of (own_parameters d) ≡ own_types (is_put d.kind) (types_of d.parameters)
owned d = by (is_put d.kind)
  where
    by : (b : Bool) → types_of (if b then take (length d.parameters - 1) d.parameters else d.parameters) ≡ own_types b (types_of d.parameters)
    by true =
        sym (ap (λ n. take (n - 1) (types_of d.parameters)) (length-map d.parameters (λ (p : Parameter). p.value_type))
        ∙ take-map (λ (p : Parameter). p.value_type) (length d.parameters - 1) d.parameters)
    by false = refl

held : (d : DeclarationValue) → type_of_value d ≡ value_type (is_put d.kind) d.value_type (types_of d.parameters)
held d = by (is_put d.kind)
  where
    by : (b : Bool)
        → (if b then option_map (λ (p : Parameter). p.value_type) (if b then slice_get d.parameters (length d.parameters - 1) else None) else d.value_type)
        ≡ value_type b d.value_type (types_of d.parameters)
    by true =
        sym (ap (λ n. slice_get (types_of d.parameters) (n - 1)) (length-map d.parameters (λ (p : Parameter). p.value_type))
        ∙ slice_get-map (λ (p : Parameter). p.value_type) d.parameters (length d.parameters - 1))
    by false = refl

-- two declarations have the same types
abbrev Typed : DeclarationValue → DeclarationValue → Type 0
Typed d e = (types_of (own_parameters e) ≡ types_of (own_parameters d)) × (type_of_value e ≡ type_of_value d)

kept_typed : (d e : DeclarationValue) → IsKeptBy d e → Typed d e
kept_typed d e h =
    let ts : types_of e.parameters ≡ types_of d.parameters = sym (same_types d.parameters e.parameters h.parameters) in (
      owned e ∙ (λ i. own_types (is_put (h.kind i)) (ts i)) ∙ sym (owned d),
      held e ∙ (λ i. value_type (is_put (h.kind i)) (h.type i) (ts i)) ∙ sym (held d),
    )

agree_typed : (d e : DeclarationValue) → agree d e ≡ true → Typed d e
unfolding agree
agree_typed d e is =
    let one = and_parts (int_eq d.id e.id && same_result (type_of_value d) (type_of_value e)) (pointwise same_parameter (own_parameters d) (own_parameters e))
    is in
    let two = and_parts (int_eq d.id e.id) (same_result (type_of_value d) (type_of_value e)) one.0 in
    (sym (same_types (own_parameters d) (own_parameters e) one.1), sym (results_are (type_of_value d) (type_of_value e) two.1))

-- ---- the property
-- the declaration that speaks for a DISPID is like each that has it
speaks : (i : InterfaceValue) (id : ℤ) (n : ℕ) (d : DeclarationValue) → slice_get (declarations i) n ≡ Some d → id ≡ d.id → IsOneMember i
    → (e : DeclarationValue) × (main_form (forms_with id i) ≡ Some e) × Alike d e
unfolding IsOneMember
speaks i id n d at is one = by (main_form (forms_with id i)) refl
  where
    by : (o : Option DeclarationValue) → main_form (forms_with id i) ≡ o → (e : DeclarationValue) × (main_form (forms_with id i) ≡ Some e) × Alike d e
    by None main = let f = filtered (λ (x : DeclarationValue). int_eq id x.id) (declarations i) n d at ((Decides-int_eq id d.id).1 is) in
        absurd (some_main (forms_with id i) f.0 d f.1 main)
    by (Some e) main =
        let f = main_in (forms_with id i) e main in
        let g = in_filter (λ (x : DeclarationValue). int_eq id x.id) (declarations i) f.0 e f.1 in
        (e, main, one n g.0 d e at g.1 (sym is ∙ (Decides-int_eq id e.id).0 g.2))

spoken : (forms : List DeclarationValue) (e : DeclarationValue) (t : ValueType) → is_method e.kind ≡ false → type_of_value e ≡ Some t
    → property_with (Some e) forms ≡ Some (property_of forms e t)
spoken forms e t not_method is = ap (λ b. if b then None else option_map (property_of forms e) (type_of_value e)) not_method
    ∙ ap (option_map (property_of forms e)) is

pub has_property : (was now : InterfaceValue) → IsOneMember now → DeclaresAll now was → HasProperties now was
has_property was now one keeps id m h = by (main_form (forms_with id was)) refl h
  where
    on : (d : DeclarationValue) (b : Bool) (o : Option ValueType) → main_form (forms_with id was) ≡ Some d → is_method d.kind ≡ b → type_of_value d ≡ o
        → (if b then None else option_map (property_of (forms_with id was) d) o) ≡ Some m → HasProperty now id m
    on d true o main is type k = absurd (none-some m k)
    on d false None main is type k = absurd (none-some m k)
    on d false (Some t) main is type k =
        let f = main_in (forms_with id was) d main in
        let g = in_filter (λ (x : DeclarationValue). int_eq id x.id) (declarations was) f.0 d f.1 in
        let kept = keeps d (g.0, g.1) in
        let e = kept.declaration in
        let own : id ≡ e.id = (Decides-int_eq id d.id).0 g.2 ∙ sym kept.kept.id in
        let s = speaks now id kept.declared.0 e kept.declared.1 own one in
        let first = kept_typed d e kept.kept in
        let second = agree_typed e s.0 s.2.0 in
        let sort : is_method s.0.kind ≡ false = sym s.2.1 ∙ ap is_method kept.kept.kind ∙ is in
        let member = property_of (forms_with id now) s.0 t in
        let same : property_of (forms_with id was) d t ≡ m = inside (property_of (forms_with id was) d t) m k in
        record {
          member = member;
          found = ap (λ (o : Option DeclarationValue). property_with o (forms_with id now)) s.1
              ∙ spoken (forms_with id now) s.0 t sort (second.1 ∙ first.1 ∙ type);
          type = ap (λ (x : MemberValue). x.value_type) same;
          parameters = second.0 ∙ first.0 ∙ ap (λ (x : MemberValue). types_of x.parameters) same;
        }

    by : (o : Option DeclarationValue) → main_form (forms_with id was) ≡ o → property_with o (forms_with id was) ≡ Some m → HasProperty now id m
    by None main k = absurd (none-some m k)
    by (Some d) main k = on d (is_method d.kind) (type_of_value d) main refl refl k

-- ---- what a coclass has
pub kept_class : (new old : TreeValue) → IsChecked new → KeepsLibrary new old → (class : List ℕ) → is_some (class_of old class) ≡ true
    → is_some (class_of new class) ≡ true
kept_class new old is keeps class h = by (class_of old class) refl h
  where
    by : (o : Option CoclassValue) → class_of old class ≡ o → is_some o ≡ true → is_some (class_of new class) ≡ true
    by None at k = absurd (true≢false (sym k))
    by (Some c) at k =
        let there = class_there old class c at in
        let kept = keeps.classes c there.0 in
        ap is_some (ap (class_of new) (there.1 ∙ sym kept.guid) ∙ class_found new is kept.now kept.there)

properties_of : (new : TreeValue) → IsChecked new → (now was : InterfaceValue) → Has (interfaces_of new.items) now → DeclaresAll now was → HasProperties now was
properties_of new is now was there declares =
    let r = in_mapped as_interface new.items there.0 now there.1 in
    has_property was now (one_member new r.0 now is (r.2 ∙ ap (λ (x : Item). Some x) (was_interface r.1 now r.3))) declares

pub kept_entered : (new old : TreeValue) → IsChecked new → KeepsLibrary new old → (class guid : List ℕ) (was : InterfaceValue)
    → entered old class guid ≡ Some was → EntersStill new class guid was
kept_entered new old is keeps class guid was h = by (class_of old class) refl h
  where
    on : (c : CoclassValue) (i : InterfaceValue) (b : Bool) → class_of old class ≡ Some c → interface_of old guid ≡ Some i → has_interface c i ≡ b
        → (if b then Some i else None) ≡ Some was → EntersStill new class guid was
    on c i false at there has k = absurd (none-some was k)
    on c i true at there has k =
        let atc = class_there old class c at in
        let ati = interface_there old guid i there in
        let kc = keeps.classes c atc.0 in
        let ki = keeps.interfaces i ati.0 in
        let e = kc.interfaces i (record { there = ati.0; entered = has }) in
        let class_now : class_of new class ≡ Some kc.now = ap (class_of new) (atc.1 ∙ sym kc.guid) ∙ class_found new is kc.now kc.there in
        let own : interface_of new i.guid ≡ Some ki.now = ap (interface_of new) (sym ki.guid) ∙ interface_found new is ki.now ki.there in
        let other : interface_of new i.guid ≡ Some e.interface = ap (interface_of new) (sym e.has) ∙ interface_found new is e.interface e.is.there in
        let one : e.interface ≡ ki.now = inside e.interface ki.now (sym other ∙ own) in
        let still : has_interface kc.now ki.now ≡ true = subst (λ (j : InterfaceValue). has_interface kc.now j ≡ true) one e.is.entered in
        record {
          now = ki.now;
          found =
              ap (option_and_then (λ c. option_and_then (if_entered c) (interface_of new guid))) class_now
              ∙ ap (option_and_then (if_entered kc.now)) (ap (interface_of new) ati.1 ∙ own)
              ∙ ap (λ b. if b then Some ki.now else None) still;
          properties = subst (HasProperties ki.now) (inside i was k) (properties_of new is ki.now i ki.there ki.declarations);
        }

    in_class : (c : CoclassValue) (o : Option InterfaceValue) → class_of old class ≡ Some c → interface_of old guid ≡ o
        → option_and_then (if_entered c) o ≡ Some was → EntersStill new class guid was
    in_class c None at there k = absurd (none-some was k)
    in_class c (Some i) at there k = on c i (has_interface c i) at there refl k

    by : (o : Option CoclassValue) → class_of old class ≡ o → option_and_then (λ c. option_and_then (if_entered c) (interface_of old guid)) o ≡ Some was
        → EntersStill new class guid was
    by None at k = absurd (none-some was k)
    by (Some c) at k = in_class c (interface_of old guid) at refl k
