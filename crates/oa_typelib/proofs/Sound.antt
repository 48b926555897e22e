-- Consequences for a checked tree: calls can be bound to each of its properties.
use Rattle.std.proofs.Common.{ℕ, ◌≡◌, ◌≤◌, ◌++◌, refl, sym, subst, ap, ◌∙◌, Bool, true, false, cond, not, if◌then◌else◌}
use Rattle.std.proofs.Common.{find, length, List, [], ◌∷◌, map, Option, Some, None, IfSome, IsSome, is_some, arith}
use Rattle.std.proofs.lemmas.Option.{none-some}
use Rattle.std.specs.List.{AllByRecursion}
use Rattle.std.specs.Option.{option_map, option_and_then, option_or}
use Rattle.oa_model.specs.promise.Limits.{max_parameters}
use Rattle.oa_model.specs.declared.var_type.ValueType.{ValueType}
use Rattle.oa_model.specs.declared.var_type.ValueType.TheVariants.{One, Array}
use Rattle.oa_idl.specs.promise.Limits.{HasFewParameters}
use Rattle.oa_idl.specs.promise.MethodValues.{MethodValue}
use Rattle.oa_idl.specs.promise.Trees.{TreeValue}
use Rattle.oa_idl.specs.declared.parts.Literal.{Literal}
use Rattle.oa_idl.specs.declared.parts.MethodKind.{MethodKind}
use Rattle.oa_idl.specs.declared.parts.MethodKind.TheVariants as forms
use Rattle.oa_idl.specs.declared.parts.Parameter.{Parameter}
use Rattle.oa_idl.specs.declared.parts.Property.{Property}
use Rattle.oa_idl.specs.declared.items.Item.{Item}
use Rattle.oa_idl.specs.declared.items.Item.TheVariants.{Interface, Coclass}
use Rattle.oa_idl.specs.declared.stop.TreeLimit.TheVariants as limits
use Rattle.oa_typelib.specs.Bindable.{IsOne, AreScalars, HasGoodDefault, IsSoundDeclaration, AreSound, IsSoundItem}
use Rattle.oa_sema.specs.promise.Breaches.{first_breach, tree_breach, text_breach, key_breaches, interface_breach}
use Rattle.oa_sema.specs.promise.Breaches.{form_breaches, form_breach, array_breach, default_breach, in_interface}
use Rattle.oa_sema.specs.promise.Breaches.{first_array_parameter, named_first, is_array, is_bad, bad_default_in}
use Rattle.oa_sema.specs.promise.Breaches.{if_optional}
use Rattle.oa_typelib.specs.promise.Checked.{IsChecked}
use Rattle.oa_sema.specs.promise.DeclarationValues.{DeclarationValue}
use Rattle.oa_sema.specs.promise.Declarations.{declarations, of_property, of_method, kind_of_method, is_get_or_put}
use Rattle.oa_sema.specs.promise.Declarations.{own_parameters, new_value}
use Rattle.oa_sema.specs.promise.Defaults.{default_of}
use Rattle.oa_sema.specs.promise.Libraries.{marked_item}
use Rattle.oa_typelib.specs.promise.Members.{is_method}
use Rattle.oa_sema.specs.promise.Repeats.{first_answer}
use Rattle.oa_typelib.specs.Typed.{IsTypedDeclaration, IsTypedItem}
use Rattle.oa_sema.specs.declared.fault.CheckError.TheVariants.{UnknownInterface, GetPutDisagree, ArrayParameter, BadDefault}
use Rattle.oa_typelib.proofs.Found.{holds_typed}
use Rattle.oa_typelib.proofs.TypedTrees.{marked_typed}

-- ---- If there is no result, no entry has one.

pub neither : {Y : Type 0} (o p : Option Y) → option_or o p ≡ None → (o ≡ None) × (p ≡ None)
neither None p e = (refl, e)
neither (Some y) p e = absurd (none-some y (sym e))

pub unmapped : {X Y : Type 0} (f : X → Y) (o : Option X) → option_map f o ≡ None → o ≡ None
unmapped f None e = refl
unmapped f (Some x) e = absurd (none-some (f x) (sym e))

pub none_of : {X Y : Type 0} (f : X → Option Y) (xs : List X) → first_answer f xs ≡ None → AllByRecursion (λ x. f x ≡ None) xs
unfolding first_answer
none_of f [] e = tt
none_of f (x ∷ xs) e = let h = neither (f x) (first_answer f xs) e in (h.0, none_of f xs h.1)

none_found : {X : Type 0} (test : X → Bool) (P : X → Type 0) → ((x : X) → test x ≡ false → P x) → (xs : List X) → find test xs ≡ None → AllByRecursion P xs
none_found test P fails [] e = tt
none_found test P fails (x ∷ xs) e = by (test x) refl (none_found test P fails xs) e
  where
    by : (b : Bool) → test x ≡ b → (find test xs ≡ None → AllByRecursion P xs) → cond b (Some x) (find test xs) ≡ None → AllByRecursion P (x ∷ xs)
    by true is rest h = absurd (none-some x (sym h))
    by false is rest h = (fails x is, rest h)

-- ---- an unbroken tree breaks none of the rules for parameters

pub breaks_none : (t : TreeValue) → first_breach t ≡ None → (array_breach t.items ≡ None) × (default_breach t.items ≡ None) × (interface_breach t.items ≡ None)
    × (form_breach t.items ≡ None)
breaks_none t e =
    let a = neither (tree_breach t) (text_breach t) e in
    let b = neither (key_breaches t) (option_or (option_map UnknownInterface (interface_breach t.items)) (form_breaches t.items)) a.0 in
    let c = neither (option_map UnknownInterface (interface_breach t.items)) (form_breaches t.items) b.1 in
    let d = neither (option_map GetPutDisagree (form_breach t.items))
    (option_or (option_map ArrayParameter (array_breach t.items)) (option_map BadDefault (default_breach t.items))) c.1 in
    let f = neither (option_map ArrayParameter (array_breach t.items)) (option_map BadDefault (default_breach t.items)) d.1 in (
      unmapped ArrayParameter (array_breach t.items) f.0,
      unmapped BadDefault (default_breach t.items) f.1,
      unmapped UnknownInterface
          (interface_breach t.items) c.0,
      unmapped GetPutDisagree (form_breach t.items) d.0,
    )

-- ---- one declaration

one_of : (v : ValueType) → is_array v ≡ false → IsOne v
one_of (One t) e = tt
one_of (Array t) e = absurd cc

has_some : {X : Type 0} (o : Option X) → not (is_some o) ≡ false → IsSome o
has_some None e = absurd cc
has_some (Some x) e = refl

good : (t : ValueType) (o : Option Literal) → is_bad t o ≡ false → IfSome o (λ l. IsSome (default_of t l))
good t None e = tt
good t (Some l) e = has_some (default_of t l) e

abbrev named_bad : DeclarationValue → Option (List ℕ)
named_bad d = named_first (λ (p : Parameter). is_bad p.value_type p.default) (own_parameters d)

good_defaults : (d : DeclarationValue) → bad_default_in d ≡ None → AllByRecursion HasGoodDefault (own_parameters d)
good_defaults d e =
    none_found (λ (p : Parameter). is_bad p.value_type p.default) HasGoodDefault (λ p is. good p.value_type p.default is) (own_parameters d)
    (unmapped (λ (p : Parameter). p.name) _ (neither (named_bad d) (option_and_then if_optional (new_value d)) e).0)

scalars_of : (d : DeclarationValue) → is_get_or_put d.kind ≡ true → first_array_parameter d ≡ None → AreScalars (own_parameters d)
scalars_of d form e =
    none_found (λ (p : Parameter). is_array p.value_type) (λ (p : Parameter). IsOne p.value_type) (λ p is. one_of p.value_type is) (own_parameters d)
    (unmapped (λ (p : Parameter). p.name) _ (subst
    (λ (b : Bool). (if b then named_first (λ (p : Parameter). is_array p.value_type) (own_parameters d) else None) ≡ None) form e))

true-false : {A : Type 0} → true ≡ false → A
true-false e = absurd cc

property_scalars : (p : Property) (b : Bool) → p.readonly ≡ b → AreScalars (own_parameters (of_property p))
property_scalars p true e = rw e tt
property_scalars p false e = rw e tt

method_scalars : (m : MethodValue) (k : MethodKind) → m.kind ≡ k → first_array_parameter (of_method m) ≡ None → is_method (kind_of_method m.kind) ≡ false
    → AreScalars (own_parameters (of_method m))
method_scalars m forms.Method e n h = true-false (ap (λ (j : MethodKind). is_method (kind_of_method j)) (sym e) ∙ h)
method_scalars m forms.Get e n h = scalars_of (of_method m) (ap (λ (j : MethodKind). is_get_or_put (kind_of_method j)) e) n
method_scalars m forms.Put e n h = scalars_of (of_method m) (ap (λ (j : MethodKind). is_get_or_put (kind_of_method j)) e) n

property_sound : (p : Property) → IsTypedDeclaration (of_property p) → bad_default_in (of_property p) ≡ None → IsSoundDeclaration (of_property p)
property_sound p typed good = record {
  zero = holds_typed (of_property p) typed;
  few = omega arith;
  scalars = λ _. property_scalars p p.readonly refl;
  defaults = good_defaults (of_property p) good;
}

method_sound : (m : MethodValue) → IsTypedDeclaration (of_method m) → length m.parameters ≤ max_parameters → first_array_parameter (of_method m) ≡ None
    → bad_default_in (of_method m) ≡ None → IsSoundDeclaration (of_method m)
method_sound m typed few arrays good = record {
  zero = holds_typed (of_method m) typed;
  few = few;
  scalars = method_scalars m m.kind refl arrays;
  defaults = good_defaults (of_method m) good;
}

-- ---- all of them

declared_sound : (ps : List Property) (ms : List MethodValue) → AllByRecursion IsTypedDeclaration (map of_property ps ++ map of_method ms)
    → AllByRecursion (λ (m : MethodValue). length m.parameters ≤ max_parameters) ms
    → AllByRecursion (λ d. first_array_parameter d ≡ None) (map of_property ps ++ map of_method ms)
    → AllByRecursion (λ d. bad_default_in d ≡ None) (map of_property ps ++ map of_method ms) → AreSound (map of_property ps ++ map of_method ms)
declared_sound (p ∷ ps) ms typed few arrays good = (property_sound p typed.0 good.0, declared_sound ps ms typed.1 few arrays.1 good.1)
declared_sound [] [] typed few arrays good = tt
declared_sound [] (m ∷ ms) typed few arrays good = (method_sound m typed.0 few.0 arrays.0 good.0, declared_sound [] ms typed.1 few.1 arrays.1 good.1)

item_sound : (x : Item) → IsTypedItem (marked_item x) → HasFewParameters x → in_interface (first_answer first_array_parameter) x ≡ None
    → in_interface (first_answer bad_default_in) x ≡ None → IsSoundItem (marked_item x)
item_sound (Interface i) typed few arrays good = declared_sound i.properties i.methods typed few (none_of first_array_parameter (declarations i) arrays)
    (none_of bad_default_in (declarations i) good)
item_sound (Coclass c) typed few arrays good = tt

items_sound : (xs : List Item) → AllByRecursion IsTypedItem (map marked_item xs) → AllByRecursion HasFewParameters xs
    → AllByRecursion (λ x. in_interface (first_answer first_array_parameter) x ≡ None) xs
    → AllByRecursion (λ x. in_interface (first_answer bad_default_in) x ≡ None) xs → AllByRecursion IsSoundItem (map marked_item xs)
items_sound [] typed few arrays good = tt
items_sound (x ∷ xs) typed few arrays good = (item_sound x typed.0 few.0 arrays.0 good.0, items_sound xs typed.1 few.1 arrays.1 good.1)

pub tree_sound : (t : TreeValue) → IsChecked t → AllByRecursion IsSoundItem t.items
tree_sound t is =
    let w = is.1.tree in
    let none = breaks_none w is.1.unbroken in
    subst (λ (u : TreeValue). AllByRecursion IsSoundItem u.items) (sym is.1.says)
    (items_sound w.items (marked_typed w (is.0, is.1.stands)) (is.1.stands.kept limits.Params)
    (none_of (in_interface (first_answer first_array_parameter)) w.items none.0) (none_of (in_interface (first_answer bad_default_in)) w.items none.1))
