-- What is left of a list where nothing is left out, and what stands at the end of the descriptions.
use Rattle.std.proofs.Common.{◌≡◌, ◌+◌, ℕ, suc, List, [], ◌∷◌, ◌++◌, length, map, slice_get, Option, None, Some, IsSome, IfSome, refl, sym}
use Rattle.std.proofs.Common.{ap, subst, ◌∙◌, true≢false, arith}
use Rattle.std.specs.List.{AllByRecursion, cons_option, filter_map}
use Rattle.std.specs.Option.{option_map}
use Rattle.std.proofs.lemmas.List.{length-map}
use Rattle.std.proofs.lemmas.Option.{slice_get-map}
use Rattle.oa_idl.specs.promise.Trees.{TreeValue}
use Rattle.oa_idl.specs.promise.Values.{CoclassValue}
use Rattle.oa_idl.specs.declared.items.Item.{Item}
use Rattle.oa_idl.specs.declared.items.Item.TheVariants.{Interface, Coclass}
use Rattle.oa_typelib.specs.promise.Checked.{IsChecked}
use Rattle.oa_typelib.specs.Checked.{IsClass, HasClass}
use Rattle.oa_typelib.specs.promise.Descriptions.{class_description, classes_of, description_at, entry_description}
use Rattle.oa_typelib.specs.promise.Descriptions.{interface_description, interfaces_of}
use Rattle.oa_typelib.proofs.Classes.{tree_whole}
use Rattle.oa_typelib.proofs.Found.{get_all}

-- what every member has is left of the list with no member left out
one_there : {Y : Type 0} (o : Option Y) (ys : List Y) (os : List (Option Y)) → IsSome o → map Some ys ≡ os
    → map Some (cons_option o ys) ≡ o ∷ os
one_there None ys os some rest = absurd (true≢false (sym some))
one_there (Some y) ys os some rest = ap (λ (zs : List (Option _)). Some y ∷ zs) rest

all_there : {X Y : Type 0} (f : X → Option Y) (xs : List X) → AllByRecursion (λ x. IsSome (f x)) xs → map Some (filter_map f xs) ≡ map f xs
all_there f [] all = refl
all_there f (x ∷ xs) all = one_there (f x) (filter_map f xs) (map f xs) all.0 (all_there f xs all.1)

-- the coclasses among items
classes : (ws xs : List Item) → AllByRecursion (HasClass ws) xs → AllByRecursion (IsClass ws) (classes_of xs)
classes ws [] all = tt
classes ws (Interface i ∷ xs) all = classes ws xs all.1
classes ws (Coclass c ∷ xs) all = (all.0, classes ws xs all.1)

pub entries_there : (library : TreeValue) (index : ℕ) (class : CoclassValue) → IsChecked library
    → slice_get (classes_of library.items) index ≡ Some class
    → map Some (filter_map (entry_description (interfaces_of library.items)) class.entries) ≡ map
    (entry_description (interfaces_of library.items)) class.entries
entries_there library index class checked at =
    let all = classes library.items library.items (tree_whole library checked).classes in
    let found = subst (λ (o : Option CoclassValue). IfSome o (IsClass library.items)) at
    (get_all (IsClass library.items) (classes_of library.items) index all) in
    all_there (entry_description (interfaces_of library.items)) class.entries found.entries

-- behind a first list stands the second one
behind : {X : Type 0} (xs ys : List X) (n : ℕ) → slice_get (xs ++ ys) (length xs + n) ≡ slice_get ys n
behind [] ys n =
    let none : 0 + n ≡ n = omega arith in
    ap (slice_get ys) none
behind (x ∷ xs) ys n =
    let one_more : suc (length xs) + n ≡ suc (length xs + n) = omega arith in
    ap (slice_get (x ∷ xs ++ ys)) one_more ∙ behind xs ys n

pub class_described : (library : TreeValue) (index : ℕ) (class : CoclassValue) → slice_get (classes_of library.items) index ≡ Some class
    → description_at library (length (interfaces_of library.items) + index) ≡ Some (class_description (interfaces_of library.items) class)
class_described library index class at =
    let is = interfaces_of library.items in
    let front = map interface_description is in
    let back = map (class_description is) (classes_of library.items) in
    ap (λ n. slice_get (front ++ back) (n + index)) (sym (length-map is interface_description))
    ∙ (behind front back index ∙ (slice_get-map (class_description is) (classes_of library.items) index ∙ ap (option_map (class_description is)) at))
