-- The results of look-ups in the index of an interface.
use Rattle.std.proofs.Common.{◌≡◌, ◌-◌, ◌++◌, ◌∷◌, [], zero, suc, length, arith, append_assoc, if◌then◌else◌, Option, Some, None, is_some}
use Rattle.std.proofs.Common.{ℕ, ℤ, Bool, true, false, List, Bor, Vec, Global, map, fold, position, slice_get, refl, sym, ap, ◌∙◌}
use Rattle.std.proofs.lemmas.Cmp.{int_eq_equiv, nat_list_eq_equiv}
use Rattle.std.proofs.lemmas.Option.{slice_get-map}
use Rattle.std.specs.Option.{option_map, option_and_then}
use Rattle.std.proofs.lemmas.List.{append-nil}
use Rattle.std.specs.List.{list_any, filter, filter_map, flat_map}
use Rattle.std.specs.Ordering.{int_eq}
use Rattle.oa_model.specs.promise.Folding.{folded_name}
use Rattle.indexmap.specs.IndexSet.{insert_key}
use Rattle.oa_idl.specs.promise.Values.{InterfaceValue, CoclassValue}
use Rattle.oa_variant.specs.declared.scalar.Scalar.{Scalar}
use Rattle.oa_idl.specs.promise.Trees.{TreeValue}
use Rattle.oa_idl.specs.declared.parts.Entry.{Entry}
use Rattle.oa_sema.specs.promise.DeclarationValues.{DeclarationValue}
use Rattle.oa_sema.specs.promise.Declarations.{declarations}
use Rattle.oa_typelib.specs.promise.DescriptionValues.ContentDescription.{OfCoclass}
use Rattle.oa_typelib.specs.promise.Descriptions.{first_names, put_last, members_described, described_entry}
use Rattle.oa_typelib.specs.promise.Descriptions.{entry_description, interfaces_of, classes_of, interface_description}
use Rattle.oa_typelib.specs.promise.Descriptions.{class_description, description_at}
use Rattle.oa_typelib.specs.Groups.{GroupsValue, distinct, keys_with_places, places_of, places_in}
use Rattle.oa_typelib.specs.IndexValues.{MembersValue, IndexValue}
use Rattle.oa_typelib.specs.Indexes.{grouped, enters, first_in, entry_in, described_class}
use Rattle.oa_sema.specs.Defaults.{defaults_of}
use Rattle.oa_sema.specs.promise.Libraries.{same, same_name}
use Rattle.oa_typelib.proofs.Grouping.{any_place, at_places, first_place, group_of}
use Rattle.oa_sema.proofs.Lists.{insert_key-map, list_any-map, position-map}
use Rattle.oa_typelib.proofs.Named.{map_twice}

module _ (m : MembersValue) (ds : List DeclarationValue) (is : m ≡ grouped ds) where
  -- by a DISPID
  pub with_id : (id : ℤ) → filter_map (slice_get ds) (places_in (position (int_eq id) m.by_id.keys) m.by_id.places) ≡ filter
      (λ (d : DeclarationValue). int_eq id d.id) ds
  with_id id =
      ap (λ (n : MembersValue). filter_map (slice_get ds) (places_in (position (int_eq id) n.by_id.keys) n.by_id.places)) is
      ∙ ap (filter_map (slice_get ds)) (group_of int_eq int_eq_equiv id (map (λ (d : DeclarationValue). d.id) ds))
      ∙ at_places int_eq (λ (d : DeclarationValue). d.id) id ds

  -- by a folded name
  pub with_name : (name : List ℕ) → filter_map (slice_get ds) (places_in (position (same name) m.by_name.keys) m.by_name.places) ≡ filter
      (λ (d : DeclarationValue). same name (folded_name d.name)) ds
  with_name name =
      ap (λ (n : MembersValue). filter_map (slice_get ds) (places_in (position (same name) n.by_name.keys) n.by_name.places)) is
      ∙ ap (filter_map (slice_get ds)) (group_of same nat_list_eq_equiv name (map (λ (d : DeclarationValue). folded_name d.name) ds))
      ∙ at_places same (λ (d : DeclarationValue). folded_name d.name) name ds

-- the defaults that are kept for the declaration at a place
same_inside : {X : Type 0} (x y : X) → Some x ≡ Some y → x ≡ y
same_inside x y e = cc

pub kept_at : (ds : List DeclarationValue) (vs : List (Vec (Option Scalar) Global)) (n : ℕ) (d : DeclarationValue) (v : Vec (Option Scalar) Global)
    → map (λ (xs : Vec (Option Scalar) Global). xs.items) vs ≡ map defaults_of ds → Some d ≡ slice_get ds n → Some v ≡ slice_get vs n → v.items ≡ defaults_of d
kept_at ds vs n d v kept here there =
    same_inside v.items (defaults_of d)
    (ap (option_map (λ (xs : Vec (Option Scalar) Global). xs.items)) there ∙ sym (slice_get-map (λ (xs : Vec (Option Scalar) Global). xs.items) vs n)
    ∙ ap (λ (ys : List (List (Option Scalar))). slice_get ys n) kept ∙ slice_get-map defaults_of ds n ∙ sym (ap (option_map defaults_of) here))

-- names that were gathered, folded
pub names_folded : {Y : Type 0} (name : Y → List ℕ) (ns : List (Bor (List ℕ))) (ys : List Y) → map (λ (n : Bor (List ℕ)). n.now) ns ≡ map name ys
    → map (λ (n : Bor (List ℕ)). folded_name n.now) ns ≡ map (λ y. folded_name (name y)) ys
names_folded name ns ys h = sym (map_twice (λ (n : Bor (List ℕ)). n.now) folded_name ns) ∙ ap (map folded_name) h ∙ map_twice name folded_name ys

-- ---- The members in the order in which their names first appear.
flat_map-map : {X Y Z : Type 0} (f : X → Y) (g : Y → List Z) (xs : List X) → flat_map g (map f xs) ≡ flat_map (λ x. g (f x)) xs
flat_map-map f g [] = refl
flat_map-map f g (x ∷ xs) = ap (λ zs. g (f x) ++ zs) (flat_map-map f g xs)

flat_map-same : {X Z : Type 0} (f g : X → List Z) → ((x : X) → f x ≡ g x) → (xs : List X) → flat_map f xs ≡ flat_map g xs
flat_map-same f g e [] = refl
flat_map-same f g e (x ∷ xs) = rw (e x, flat_map-same f g e xs) refl

distinct-map_from : {A B : Type 0} (f : A → B) (e : B → B → Bool) (seen ks : List A) → map f (fold (insert_key (λ a b. e (f a) (f b))) seen ks) ≡ fold
    (insert_key e) (map f seen) (map f ks)
distinct-map_from f e seen [] = refl
distinct-map_from f e seen (k ∷ ks) = distinct-map_from f e (insert_key (λ a b. e (f a) (f b)) seen k) ks
    ∙ ap (λ ms. fold (insert_key e) ms (map f ks)) (insert_key-map f e k seen)

first_step : (b : Bool) (x : List ℕ) (before rest : List (List ℕ)) (f : List (List ℕ) → List (List ℕ))
    → ((seen : List (List ℕ)) → fold (insert_key same_name) seen rest ≡ seen ++ f seen)
    → fold (insert_key same_name) (if b then before else before ++ x ∷ []) rest ≡ before ++ (if b then f before else x ∷ f (before ++ x ∷ []))
first_step true x before rest f h = h before
first_step false x before rest f h = h (before ++ x ∷ []) ∙ append_assoc before (x ∷ []) (f (before ++ x ∷ []))

distinct_from : (before names : List (List ℕ)) → fold (insert_key same_name) before names ≡ before ++ first_names before names
unfolding first_names
distinct_from before [] = sym (append-nil before)
distinct_from before (name ∷ names) = first_step (list_any (same_name name) before) name before names (λ seen. first_names seen names)
    (λ seen. distinct_from seen names)

pub in_order : (i : InterfaceValue) (groups : List (Vec ℕ Global)) → map (λ (ps : Vec ℕ Global). ps.items) groups ≡ (grouped (declarations i)).by_name.places
    → flat_map (λ (ps : Vec ℕ Global). put_last (filter_map (slice_get (declarations i)) ps.items)) groups ≡ members_described i
in_order i groups is =
    let ds = declarations i in
    let names = map (λ (d : DeclarationValue). d.name) ds in
    let key : DeclarationValue → List ℕ = λ d. folded_name d.name in
    let of_places : List ℕ → List DeclarationValue = λ ps. put_last (filter_map (slice_get ds) ps) in
    let of_key : List ℕ → List DeclarationValue = λ k. put_last (filter (λ (d : DeclarationValue). same k (folded_name d.name)) ds) in
    sym (flat_map-map (λ (ps : Vec ℕ Global). ps.items) of_places groups) ∙ ap (flat_map of_places) is
    ∙ flat_map-map (λ k. places_of same k (map key ds)) of_places (distinct same (map key ds))
    ∙ flat_map-same (λ k. of_places (places_of same k (map key ds))) of_key (λ k. ap put_last (at_places same key k ds)) (distinct same (map key ds))
    ∙ ap (λ ks. flat_map of_key (distinct same ks)) (sym (map_twice (λ (d : DeclarationValue). d.name) folded_name ds))
    ∙ ap (flat_map of_key) (sym (distinct-map_from folded_name same [] names))
    ∙ flat_map-map folded_name of_key (distinct same_name names)
    ∙ ap (flat_map (λ name. of_key (folded_name name))) (distinct_from [] names)

-- ---- interfaces by names that are gathered
abbrev pub indexed_by : List MembersValue → List (List ℕ) → List (List Bool) → IndexValue
indexed_by members names entered = record { members = members; interfaces = keys_with_places same names; entered = entered }

-- the first place of a name
first_of : (names : List (List ℕ)) (key : List ℕ) → first_in (keys_with_places same names) key ≡ position (same key) names
first_of names key = ap (λ ps. slice_get ps 0) (group_of same nat_list_eq_equiv key names) ∙ first_place same key names

-- the place of the interface with a name
by_name : (is : List InterfaceValue) (name : List ℕ) → first_in (keys_with_places same (map (λ (i : InterfaceValue). folded_name i.name) is)) (folded_name name)
    ≡ position (λ (i : InterfaceValue). same_name name i.name) is
by_name is name = first_of (map (λ (i : InterfaceValue). folded_name i.name) is) (folded_name name) ∙ position-map (λ (i : InterfaceValue). folded_name i.name)
    (same (folded_name name)) is

-- ---- which items the entries of a coclass name
turned : (key : List ℕ) (es : List Entry) → list_any (λ (e : Entry). same key (folded_name e.interface)) es ≡ list_any
    (λ (e : Entry). same (folded_name e.interface) key) es
turned key [] = refl
turned key (e ∷ es) = rw (nat_list_eq_equiv.symm key (folded_name e.interface), turned key es) refl

is_entered : (c : CoclassValue) (key : List ℕ) → is_some (first_in (keys_with_places same (map (λ (e : Entry). folded_name e.interface) c.entries)) key)
    ≡ enters c key
is_entered c key =
    let names = map (λ (e : Entry). folded_name e.interface) c.entries in
    ap is_some (first_of names key) ∙ any_place same key names ∙ list_any-map (λ (e : Entry). folded_name e.interface) (same key) c.entries
    ∙ turned key c.entries

pub all_flags : (c : CoclassValue) (groups : GroupsValue (List ℕ)) (keys : List (Vec ℕ Global))
    → groups ≡ keys_with_places same (map (λ (e : Entry). folded_name e.interface) c.entries)
    → map (λ (k : Vec ℕ Global). is_some (first_in groups k.items)) keys ≡ map (enters c) (map (λ (k : Vec ℕ Global). k.items) keys)
all_flags c groups [] is = refl
all_flags c groups (k ∷ ks) is =
    let first = ap (λ g. is_some (first_in g k.items)) is ∙ is_entered c k.items in
    rw first (ap (λ (bs : List Bool). enters c k.items ∷ bs) (all_flags c groups ks is))

filter_map-same : {X Y : Type 0} (f g : X → Option Y) → ((x : X) → f x ≡ g x) → (xs : List X) → filter_map f xs ≡ filter_map g xs
filter_map-same f g e [] = refl
filter_map-same f g e (x ∷ xs) = rw (e x, filter_map-same f g e xs) refl

pub class_by_name : (is : List InterfaceValue) (c : CoclassValue)
    → described_class (keys_with_places same (map (λ (i : InterfaceValue). folded_name i.name) is)) c ≡ class_description is c
class_by_name is c =
    ap (λ es. record { guid = c.guid; name = c.name; content = OfCoclass es })
    (filter_map-same (entry_in (keys_with_places same (map (λ (i : InterfaceValue). folded_name i.name) is))) (entry_description is)
    (λ e. ap (option_and_then (described_entry e.is_default)) (by_name is e.interface)) c.entries)

-- ---- descriptions by an index
at_second : {X Y : Type 0} (f : X → Y) (xs : List X) (ys : List Y) (n : ℕ) → slice_get xs n ≡ None → slice_get (map f xs ++ ys) n ≡ slice_get ys (n - length xs)
at_second f [] ys n h = let e : n - 0 ≡ n = omega arith in rw e refl
at_second f (y ∷ xs) ys zero h = absurd (cc)
at_second f (y ∷ xs) ys (suc n) h = let e : suc n - suc (length xs) ≡ n - length xs = omega arith in at_second f xs ys n h ∙ rw e refl

module _ (t : TreeValue) (n : ℕ) where
  pub class_there : (m : ℕ) (o : Option CoclassValue) → slice_get (interfaces_of t.items) n ≡ None → m ≡ n - length (interfaces_of t.items)
      → o ≡ slice_get (classes_of t.items) m → description_at t n ≡ option_map (class_description (interfaces_of t.items)) o
  class_there m o none at is =
      at_second interface_description (interfaces_of t.items) (map (class_description (interfaces_of t.items)) (classes_of t.items)) n none
      ∙ ap (slice_get (map (class_description (interfaces_of t.items)) (classes_of t.items))) (sym at)
      ∙ slice_get-map (class_description (interfaces_of t.items)) (classes_of t.items) m ∙ ap (option_map (class_description (interfaces_of t.items))) (sym is)
