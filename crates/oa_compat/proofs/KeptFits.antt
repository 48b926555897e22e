-- A table that a library can have is one that each library can have that keeps it.
use Rattle.std.proofs.Common.{◌≡◌, ℕ, ◌&&◌, List, [], ◌∷◌, Bool, true, is_some, Option, Some, None, refl, sym, ap, ◌∙◌, true≢false}
use Rattle.std.proofs.lemmas.Bool.{and_from, and_parts}
use Rattle.std.specs.List.{list_all}
use Rattle.oa_idl.specs.promise.Trees.{TreeValue}
use Rattle.oa_idl.specs.promise.Values.{InterfaceValue}
use Rattle.oa_idl.specs.declared.parts.Parameter.{Parameter}
use Rattle.oa_table.specs.promise.Places.{PlaceValue}
use Rattle.oa_table.specs.promise.Tables.{ObjectValue, TableValue}
use Rattle.oa_typelib.specs.promise.Checked.{IsChecked}
use Rattle.oa_compat.specs.promise.Keeps.{KeepsLibrary}
use Rattle.oa_sema.specs.promise.Libraries.{class_of}
use Rattle.oa_typelib.specs.promise.MemberValues.{MemberValue}
use Rattle.oa_typelib.specs.promise.Members.{property_in}
use Rattle.oa_compat.proofs.KeptMembers.{HasProperty, kept_class, kept_entered, types_of}
use Rattle.oa_variant.specs.declared.scalar.Scalar.{Scalar}
use Rattle.oa_variant.specs.declared.variant.Variant.{Variant}
use Rattle.oa_variant.specs.declared.variant.Variant.TheVariants.{One}
use Rattle.oa_variant.specs.promise.Variants.{fits_declared}
use Rattle.oa_compat.specs.promise.Fits.{cell_fits, entered, fits, interface_fits, key_fits, object_fits, property_fits}

-- whether a key fits is seen from the types alone
key_types : (ps qs : List Parameter) (key : List Scalar) → types_of qs ≡ types_of ps → key_fits ps key ≡ key_fits qs key
key_types [] [] key e = refl
key_types [] (q ∷ qs) key e = absurd cc
key_types (p ∷ ps) [] key e = absurd cc
key_types (p ∷ ps) (q ∷ qs) [] e = refl
key_types (p ∷ ps) (q ∷ qs) (s ∷ ss) e =
    let here : p.value_type ≡ q.value_type = cc in
    let rest : types_of qs ≡ types_of ps = cc in
    let later = key_types ps qs ss rest in
    λ i. fits_declared (One s) (here i) && later i

all_of : {X : Type 0} (p q : X → Bool) → ((x : X) → p x ≡ true → q x ≡ true) → (xs : List X) → list_all p xs ≡ true → list_all q xs ≡ true
all_of p q each [] h = refl
all_of p q each (x ∷ xs) h = let parts = and_parts (p x) (list_all p xs) h in and_from (q x) (list_all q xs) (each x parts.0) (all_of p q each xs parts.1)

module _ (new old : TreeValue) (is : IsChecked new) (keeps : KeepsLibrary new old) where
  kept_property : (key : List Scalar) (value : Variant) (i : InterfaceValue) (place : PlaceValue) (m : MemberValue) → HasProperty i place.dispid m
      → property_fits key value (Some m) ≡ true → property_fits key value (property_in i place.dispid) ≡ true
  kept_property key value i place m has h =
      let parts = and_parts (key_fits m.parameters key) (fits_declared value m.value_type) h in
      ap (property_fits key value) has.found
      ∙ and_from (key_fits has.member.parameters key) (fits_declared value has.member.value_type)
      (sym (key_types m.parameters has.member.parameters key has.parameters) ∙ parts.0) (ap (fits_declared value) has.type ∙ parts.1)

  kept_cell : (class : List ℕ) (cell : PlaceValue × Variant) → cell_fits old class cell ≡ true → cell_fits new class cell ≡ true
  kept_cell class cell h = by (entered old class cell.0.interface) refl h
    where
      on : (was : InterfaceValue) (o : Option MemberValue) → entered old class cell.0.interface ≡ Some was → property_in was cell.0.dispid ≡ o
          → property_fits cell.0.key cell.1 o ≡ true → cell_fits new class cell ≡ true
      on was None at found k = absurd (true≢false (sym k))
      on was (Some m) at found k =
          let still = kept_entered new old is keeps class cell.0.interface was at in
          ap (interface_fits cell.0 cell.1) still.found ∙ kept_property cell.0.key cell.1 still.now cell.0 m (still.properties cell.0.dispid m found) k

      by : (o : Option InterfaceValue) → entered old class cell.0.interface ≡ o → interface_fits cell.0 cell.1 o ≡ true → cell_fits new class cell ≡ true
      by None at k = absurd (true≢false (sym k))
      by (Some was) at k = on was (property_in was cell.0.dispid) at refl k

  kept_object : (object : ObjectValue) → object_fits old object ≡ true → object_fits new object ≡ true
  kept_object object h =
      let parts = and_parts (is_some (class_of old object.class)) (list_all (cell_fits old object.class) object.cells) h in
      and_from (is_some (class_of new object.class)) (list_all (cell_fits new object.class) object.cells) (kept_class new old is keeps object.class parts.0)
      (all_of (cell_fits old object.class) (cell_fits new object.class) (kept_cell object.class) object.cells parts.1)

  pub kept_fits : (table : TableValue) → fits old table ≡ true → fits new table ≡ true
  kept_fits table h = all_of (λ (e : ℕ × ObjectValue). object_fits old e.1) (λ (e : ℕ × ObjectValue). object_fits new e.1)
      (λ e. kept_object e.1) table.objects h
