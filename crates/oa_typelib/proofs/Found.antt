-- The declarations that are found, if calls can be bound to all of them.
use Rattle.std.proofs.Common.{◌≡◌, ◌≤◌, refl, ℕ, zero, suc, ◌-◌, length, take, ℤ, Bool, true, false, cond}
use Rattle.std.proofs.Common.{if◌then◌else◌, find, List, [], ◌∷◌, Option, Some, None, IfSome, IfOk, Result, Ok, Err, slice_get, arith}
use Rattle.std.proofs.lemmas.List.{length-take}
use Rattle.std.specs.List.{AllByRecursion, filter}
use Rattle.std.specs.Option.{option_map, option_and_then, option_or}
use Rattle.std.specs.Ordering.{int_eq}
use Rattle.oa_model.specs.declared.var_type.ValueType.{ValueType}
use Rattle.oa_model.specs.promise.Limits.{max_parameters}
use Rattle.oa_variant.specs.Variants.{HasZero}
use Rattle.oa_idl.specs.promise.Values.{InterfaceValue}
use Rattle.oa_idl.specs.declared.parts.Parameter.{Parameter}
use Rattle.oa_idl.specs.declared.items.Item.{Item}
use Rattle.oa_idl.specs.declared.items.Item.TheVariants.{Interface, Coclass}
use Rattle.oa_typelib.specs.Bindable.{IsBindable, IsSoundDeclaration, AreSound, IsSoundItem}
use Rattle.oa_sema.specs.promise.DeclarationValues.{DeclarationValue}
use Rattle.oa_sema.specs.promise.Declarations.{declarations, is_put, own_parameters, type_of_value}
use Rattle.oa_sema.specs.promise.Libraries.{as_interface}
use Rattle.oa_typelib.specs.promise.Members.{forms_with, form_for, main_form, property_of, kind_asked, has_form}
use Rattle.oa_typelib.specs.promise.Members.{is_method, method_fault, if_formed, property_answer, answer, lets}
use Rattle.oa_typelib.specs.promise.Members.{member_in, property_in, property_with}
use Rattle.oa_typelib.specs.promise.MemberValues.{MemberValue}
use Rattle.oa_typelib.specs.Typed.{IsTypedDeclaration}
use Rattle.oa_typelib.specs.declared.access.Access.{Access}
use Rattle.oa_typelib.specs.declared.access.Kind.{Kind}
use Rattle.oa_typelib.specs.declared.access.Kind.TheVariants as kinds
use Rattle.oa_typelib.specs.declared.access.MemberFault.{MemberFault}
use Rattle.oa_typelib.specs.declared.access.MemberFault.TheVariants.{MemberNotFound}

-- ---- A property of all entries of a list holds for the entries that are selected from it.

picked : {X : Type 0} (P : X → Type 0) (b : Bool) (y : X) (o : Option X) → P y → IfSome o P → IfSome (cond b (Some y) o) P
picked P true y o here rest = here
picked P false y o here rest = rest

pub find_all : {X : Type 0} (P : X → Type 0) (test : X → Bool) (xs : List X) → AllByRecursion P xs → IfSome (find test xs) P
find_all P test [] all = tt
find_all P test (y ∷ ys) all = picked P (test y) y (find test ys) all.0 (find_all P test ys all.1)

pub get_all : {X : Type 0} (P : X → Type 0) (xs : List X) (n : ℕ) → AllByRecursion P xs → IfSome (slice_get xs n) P
get_all P [] n all = tt
get_all P (x ∷ xs) zero all = all.0
get_all P (x ∷ xs) (suc n) all = get_all P xs n all.1

kept_all : {X : Type 0} (P : X → Type 0) (b : Bool) (y : X) (ys : List X) → P y → AllByRecursion P ys → AllByRecursion P (cond b (y ∷ ys) ys)
kept_all P true y ys here rest = (here, rest)
kept_all P false y ys here rest = rest

filter_all : {X : Type 0} (P : X → Type 0) (test : X → Bool) (xs : List X) → AllByRecursion P xs → AllByRecursion P (filter test xs)
filter_all P test [] all = tt
filter_all P test (y ∷ ys) all = kept_all P (test y) y (filter test ys) all.0 (filter_all P test ys all.1)

-- ---- The properties of a declaration.

mapped_type : (o : Option Parameter) → IfSome o (λ (p : Parameter). HasZero p.value_type) → IfSome (option_map (λ (p : Parameter). p.value_type) o) HasZero
mapped_type None h = tt
mapped_type (Some p) h = h

pub holds_typed : (d : DeclarationValue) → IsTypedDeclaration d → IfSome (type_of_value d) HasZero
holds_typed d h = by (is_put d.kind)
  where
    by : (b : Bool)
        → IfSome (if b then option_map (λ (p : Parameter). p.value_type) (if b then slice_get d.parameters (length d.parameters - 1) else None) else
        d.value_type) HasZero
    by true = mapped_type (slice_get d.parameters (length d.parameters - 1))
        (get_all (λ (p : Parameter). HasZero p.value_type) d.parameters (length d.parameters - 1) h.1)
    by false = h.0

-- ---- a property that is found

few_own : (d : DeclarationValue) → length d.parameters ≤ max_parameters → length (own_parameters d) ≤ max_parameters
few_own d h = by (is_put d.kind)
  where
    by : (b : Bool) → length (if b then take (length d.parameters - 1) d.parameters else d.parameters) ≤ max_parameters
    by true = omega (arith, length-take (length d.parameters - 1) d.parameters, h)
    by false = h

property_bindable : (forms : List DeclarationValue) (d : DeclarationValue) (o : Option ValueType) → IsSoundDeclaration d → is_method d.kind ≡ false
    → IfSome o HasZero → IfSome (option_map (property_of forms d) o) IsBindable
property_bindable forms d None is property has = tt
property_bindable forms d (Some t) is property has = record { zero = has; few = few_own d is.few; scalars = is.scalars property; defaults = is.defaults }

abbrev Found : Result (MemberValue × Kind) MemberFault → Type 0
Found r = IfOk r (λ found. IsBindable found.0)

formed : (m : MemberValue) (o : Option Kind) → IsBindable m → Found (if_formed m o)
formed m None h = tt
formed m (Some kind) h = by (has_form m kind)
  where
    by : (b : Bool) → Found (if b then Ok (m, kind) else Err MemberNotFound)
    by true = h
    by false = tt

answered : (o : Option MemberValue) (access : Access) → IfSome o IsBindable → Found (property_answer o access)
answered None access h = tt
answered (Some m) access h = formed m (kind_asked access) h

answer_bindable : (o : Option DeclarationValue) (forms : List DeclarationValue) (access : Access) → IfSome o IsSoundDeclaration → Found (answer o forms access)
answer_bindable None forms access h = tt
answer_bindable (Some d) forms access h = by (is_method d.kind) refl
  where
    by : (b : Bool) → is_method d.kind ≡ b
        → Found (if b then Err (method_fault access) else property_answer (option_map (property_of forms d) (type_of_value d)) access)
    by true e = tt
    by false e = answered (option_map (property_of forms d) (type_of_value d)) access (property_bindable forms d (type_of_value d) h e h.zero)

with_bindable : (o : Option DeclarationValue) (forms : List DeclarationValue) → IfSome o IsSoundDeclaration → IfSome (property_with o forms) IsBindable
with_bindable None forms h = tt
with_bindable (Some d) forms h = by (is_method d.kind) refl
  where
    by : (b : Bool) → is_method d.kind ≡ b → IfSome (if b then None else option_map (property_of forms d) (type_of_value d)) IsBindable
    by true e = tt
    by false e = property_bindable forms d (type_of_value d) h e h.zero

either : (o p : Option DeclarationValue) → IfSome o IsSoundDeclaration → IfSome p IsSoundDeclaration → IfSome (option_or o p) IsSoundDeclaration
either None p h k = k
either (Some d) p h k = h

main_sound : (forms : List DeclarationValue) → AreSound forms → IfSome (main_form forms) IsSoundDeclaration
main_sound forms all = either (form_for kinds.Get forms) (slice_get forms 0)
    (find_all IsSoundDeclaration (λ (d : DeclarationValue). lets kinds.Get d.kind) forms all) (get_all IsSoundDeclaration forms 0 all)

with_sound : (i : InterfaceValue) (id : ℤ) → AreSound (declarations i) → AreSound (forms_with id i)
with_sound i id all = filter_all IsSoundDeclaration (λ (d : DeclarationValue). int_eq id d.id) (declarations i) all

-- a member of an interface
pub member_bindable : (i : InterfaceValue) (id : ℤ) (access : Access) → AreSound (declarations i) → Found (member_in i id access)
member_bindable i id access all = answer_bindable (main_form (forms_with id i)) (forms_with id i) access (main_sound (forms_with id i) (with_sound i id all))

pub property_is_bindable : (i : InterfaceValue) (id : ℤ) → AreSound (declarations i) → IfSome (property_in i id) IsBindable
property_is_bindable i id all = with_bindable (main_form (forms_with id i)) (forms_with id i) (main_sound (forms_with id i) (with_sound i id all))

-- its form is there
abbrev HasForm : Result (MemberValue × Kind) MemberFault → Type 0
HasForm r = IfOk r (λ found. has_form found.0 found.1 ≡ true)

has_formed : (m : MemberValue) (o : Option Kind) → HasForm (if_formed m o)
has_formed m None = tt
has_formed m (Some kind) = by (has_form m kind) refl
  where
    by : (b : Bool) → has_form m kind ≡ b → HasForm (if b then Ok (m, kind) else Err MemberNotFound)
    by true e = e
    by false e = tt

has_answered : (o : Option MemberValue) (access : Access) → HasForm (property_answer o access)
has_answered None access = tt
has_answered (Some m) access = has_formed m (kind_asked access)

pub found_formed : (o : Option DeclarationValue) (forms : List DeclarationValue) (access : Access) → HasForm (answer o forms access)
found_formed None forms access = tt
found_formed (Some d) forms access = by (is_method d.kind)
  where
    by : (b : Bool) → HasForm (if b then Err (method_fault access) else property_answer (option_map (property_of forms d) (type_of_value d)) access)
    by true = tt
    by false = has_answered (option_map (property_of forms d) (type_of_value d)) access

-- an interface among the items
interface_sound : (o : Option Item) → IfSome o IsSoundItem → IfSome (option_and_then as_interface o) (λ i. AreSound (declarations i))
interface_sound None h = tt
interface_sound (Some (Interface i)) h = h
interface_sound (Some (Coclass c)) h = tt

pub interface_at_sound : (items : List Item) (place : ℕ) → AllByRecursion IsSoundItem items → IfSome (option_and_then as_interface (slice_get items place))
    (λ i. AreSound (declarations i))
interface_at_sound items place all = interface_sound (slice_get items place) (get_all IsSoundItem items place all)
