-- Consequences for a checked tree: each coclass has a default interface, and each of its entries has a description.
use Rattle.std.proofs.Common.{◌≡◌, ◌≤◌, ℕ, Bool, true, false, cond, ◌||◌, if◌then◌else◌, List, [], ◌∷◌, length, map, find, position}
use Rattle.std.proofs.Common.{slice_get, nat_lt, Option, None, Some, is_some, IsSome, IfSome, refl, sym, ap, subst, ◌∙◌, true≢false, arith}
use Rattle.std.proofs.lemmas.Bool.Decides.{nat_tests}
use Rattle.std.specs.List.{AllByRecursion, list_any, position_or_len}
use Rattle.std.specs.Option.{option_and_then}
use Rattle.oa_model.specs.promise.Folding.{folded_name}
use Rattle.oa_model.specs.promise.Limits.{max_interfaces}
use Rattle.oa_idl.specs.promise.Limits.{one_interface, how_many}
use Rattle.oa_idl.specs.promise.Trees.{TreeValue}
use Rattle.oa_idl.specs.promise.Values.{InterfaceValue}
use Rattle.oa_idl.specs.declared.parts.Entry.{Entry}
use Rattle.oa_idl.specs.declared.items.Item.{Item}
use Rattle.oa_idl.specs.declared.items.Item.TheVariants.{Interface, Coclass}
use Rattle.oa_idl.specs.declared.stop.TreeLimit.TheVariants as limits
use Rattle.oa_sema.specs.promise.Breaches.{unknown_name, entry_breach}
use Rattle.oa_typelib.specs.promise.Checked.{IsChecked}
use Rattle.oa_typelib.specs.Checked.{HasClass, HasSoundItems}
use Rattle.oa_typelib.specs.promise.Descriptions.{described_entry, entry_description, interfaces_of}
use Rattle.oa_sema.specs.promise.Libraries.{same, same_name, item_name, item_guid, as_interface, as_class}
use Rattle.oa_sema.specs.promise.Libraries.{interface_named, item_with, class_of, default_interface, mark_first}
use Rattle.oa_sema.specs.promise.Libraries.{marked_entries, marked_item}
use Rattle.oa_typelib.proofs.Found.{find_all}
use Rattle.oa_typelib.proofs.Grouping.{any_place}
use Rattle.oa_sema.proofs.Lists.{list_any-map, position-map}
use Rattle.oa_typelib.proofs.Sound.{breaks_none, none_of, tree_sound}
use Rattle.oa_typelib.proofs.TypedTrees.{HasEntry, item_entered, tree_all}

-- ---- the interface of a name, also among marked items
by_test : (b : Bool) (x y : Item) (o p : Option Item) → as_interface x ≡ as_interface y → option_and_then as_interface o ≡ option_and_then as_interface p
    → option_and_then as_interface (cond b (Some x) o) ≡ option_and_then as_interface (cond b (Some y) p)
by_test true x y o p here rest = here
by_test false x y o p here rest = rest

named_marked : (xs : List Item) (name : List ℕ) → interface_named (map marked_item xs) name ≡ interface_named xs name
named_marked [] name = refl
named_marked (Interface i ∷ xs) name = by_test (same_name name i.name) (Interface i) (Interface i) _ _ refl (named_marked xs name)
named_marked (Coclass c ∷ xs) name = by_test (same_name name c.name) (marked_item (Coclass c)) (Coclass c) _ _ refl (named_marked xs name)

Known : List Item → Entry → Type 0
Known items e = IsSome (interface_named items e.interface)

is_known : (o : Option InterfaceValue) (name : List ℕ) → (if is_some o then None else Some name) ≡ None → IsSome o
is_known None name e = absurd cc
is_known (Some i) name e = refl

all_known : (xs : List Item) (es : List Entry) → AllByRecursion (λ e. unknown_name xs e ≡ None) es → AllByRecursion (Known (map marked_item xs)) es
unfolding Known
all_known xs [] all = tt
all_known xs (e ∷ es) all =
    (subst IsSome (sym (named_marked xs e.interface)) (is_known (interface_named xs e.interface) e.interface all.0), all_known xs es all.1)

known_marked : (ys : List Item) (es : List Entry) → AllByRecursion (Known ys) es → AllByRecursion (Known ys) (marked_entries es)
unfolding Known
known_marked ys es all = by (list_any (λ (e : Entry). e.is_default) es) es all
  where
    by : (b : Bool) (fs : List Entry) → AllByRecursion (Known ys) fs → AllByRecursion (Known ys) (if b then fs else mark_first fs)
    by true fs h = h
    by false [] h = tt
    by false (f ∷ fs) h = (h.0, h.1)

-- ---- the default entry
any_found : {X : Type 0} (p : X → Bool) (xs : List X) → list_any p xs ≡ true → IsSome (find p xs)
any_found p [] h = absurd (true≢false (sym h))
any_found p (x ∷ xs) h = by (p x) h (any_found p xs)
  where
    by : (b : Bool) → (b || list_any p xs) ≡ true → (list_any p xs ≡ true → IsSome (find p xs)) → IsSome (cond b (Some x) (find p xs))
    by true h rest = refl
    by false h rest = rest h

default_there : (es : List Entry) → IsSome (slice_get es 0) → IsSome (find (λ (e : Entry). e.is_default) (marked_entries es))
default_there es some = by (list_any (λ (e : Entry). e.is_default) es) refl
  where
    first : (fs : List Entry) → IsSome (slice_get fs 0) → IsSome (find (λ (e : Entry). e.is_default) (mark_first fs))
    first [] h = absurd (true≢false (sym h))
    first (f ∷ fs) h = refl

    by : (b : Bool) → list_any (λ (e : Entry). e.is_default) es ≡ b → IsSome (find (λ (e : Entry). e.is_default) (if b then es else mark_first es))
    by true h = any_found (λ (e : Entry). e.is_default) es h
    by false h = first es some

known_default : (ys : List Item) (o : Option Entry) → IsSome o → IfSome o (Known ys)
    → IsSome (option_and_then (λ (e : Entry). interface_named ys e.interface) o)
unfolding Known
known_default ys None some h = absurd (true≢false (sym some))
known_default ys (Some e) some h = h

-- ---- an entry's description
as_named : (ys : List Item) (name : List ℕ) → IsSome (interface_named ys name) → list_any (λ (i : InterfaceValue). same_name name i.name) (interfaces_of ys)
    ≡ true
as_named [] name h = absurd (true≢false (sym h))
as_named (Interface i ∷ ys) name h = by (same_name name i.name) h (as_named ys name)
  where
    by : (b : Bool) → IsSome (option_and_then as_interface (cond b (Some (Interface i)) (find (λ (y : Item). same_name name (item_name y)) ys)))
        → (IsSome (interface_named ys name) → list_any (λ (j : InterfaceValue). same_name name j.name) (interfaces_of ys) ≡ true)
        → (b || list_any (λ (j : InterfaceValue). same_name name j.name) (interfaces_of ys)) ≡ true
    by true k rest = refl
    by false k rest = rest k
as_named (Coclass c ∷ ys) name h = by (same_name name c.name) h (as_named ys name)
  where
    by : (b : Bool) → IsSome (option_and_then as_interface (cond b (Some (Coclass c)) (find (λ (y : Item). same_name name (item_name y)) ys)))
        → (IsSome (interface_named ys name) → list_any (λ (j : InterfaceValue). same_name name j.name) (interfaces_of ys) ≡ true)
        → list_any (λ (j : InterfaceValue). same_name name j.name) (interfaces_of ys) ≡ true
    by true k rest = absurd (true≢false (sym k))
    by false k rest = rest k

some_position : (ys : List Item) (name : List ℕ) → IsSome (interface_named ys name)
    → IsSome (position (λ (i : InterfaceValue). same_name name i.name) (interfaces_of ys))
some_position ys name h =
    let key : InterfaceValue → List ℕ = λ i. folded_name i.name in
    ap is_some (sym (position-map key (same (folded_name name)) (interfaces_of ys)))
    ∙ any_place same (folded_name name) (map key (interfaces_of ys))
    ∙ list_any-map key (same (folded_name name)) (interfaces_of ys)
    ∙ as_named ys name h

at_some : (is_default : Bool) (m n : ℕ) → n ≤ max_interfaces → IsSome (cond (nat_lt m n) (Some m) None)
    → IsSome (option_and_then (described_entry is_default) (cond (nat_lt m n) (Some m) None))
at_some is_default m n few = by (nat_lt m n) refl
  where
    by : (b : Bool) → nat_lt m n ≡ b → IsSome (cond b (Some m) None) → IsSome (option_and_then (described_entry is_default) (cond b (Some m) None))
    by true h some = let small : nat_lt m 4294967296 ≡ true = grind (arith, nat_tests) in rw small refl
    by false h some = absurd (true≢false (sym some))

described : (ys : List Item) (e : Entry) → length (interfaces_of ys) ≤ max_interfaces → Known ys e → IsSome (entry_description (interfaces_of ys) e)
unfolding Known
described ys e few known =
    at_some e.is_default (position_or_len (λ (i : InterfaceValue). same_name e.interface i.name) (interfaces_of ys)) (length (interfaces_of ys)) few
    (some_position ys e.interface known)

all_described : (ys : List Item) (es : List Entry) → length (interfaces_of ys) ≤ max_interfaces → AllByRecursion (Known ys) es
    → AllByRecursion (λ (e : Entry). IsSome (entry_description (interfaces_of ys) e)) es
all_described ys [] few all = tt
all_described ys (e ∷ es) few all = (described ys e few all.0, all_described ys es few all.1)

-- ---- how many interfaces there are
marked_interfaces : (xs : List Item) → length (interfaces_of (map marked_item xs)) ≡ how_many one_interface xs
marked_interfaces [] = refl
marked_interfaces (Interface i ∷ xs) = omega (arith, marked_interfaces xs)
marked_interfaces (Coclass c ∷ xs) = omega (arith, marked_interfaces xs)

-- ---- one coclass, and all of them
class_of_item : (xs : List Item) (x : Item) → length (interfaces_of (map marked_item xs)) ≤ max_interfaces → HasEntry x → entry_breach xs x ≡ None
    → HasClass (map marked_item xs) (marked_item x)
class_of_item xs (Interface i) few some none = tt
class_of_item xs (Coclass c) few some none =
    let ys = map marked_item xs in
    let known = known_marked ys c.entries (all_known xs c.entries (none_of (unknown_name xs) c.entries none)) in
    record {
      default = known_default ys (find (λ (e : Entry). e.is_default) (marked_entries c.entries)) (default_there c.entries some)
          (find_all (Known ys) (λ (e : Entry). e.is_default) (marked_entries c.entries) known);
      entries = all_described ys (marked_entries c.entries) few known;
    }

all_classes : (ws xs : List Item) → length (interfaces_of (map marked_item ws)) ≤ max_interfaces → AllByRecursion HasEntry xs
    → AllByRecursion (λ x. entry_breach ws x ≡ None) xs → AllByRecursion (HasClass (map marked_item ws)) (map marked_item xs)
all_classes ws [] few some none = tt
all_classes ws (x ∷ xs) few some none = (class_of_item ws x few some.0 none.0, all_classes ws xs few some.1 none.1)

pub tree_whole : (t : TreeValue) → IsChecked t → HasSoundItems t
tree_whole t is =
    let w = is.1.tree in
    let few : length (interfaces_of (map marked_item w.items)) ≤ max_interfaces =
    omega (arith, marked_interfaces w.items, is.1.stands.kept limits.Interfaces) in
    record {
      sound = tree_sound t is;
      classes = subst (λ (u : TreeValue). AllByRecursion (HasClass u.items) u.items) (sym is.1.says)
          (all_classes w.items w.items few (tree_all HasEntry item_entered w _ is.1.stands.form)
          (none_of (entry_breach w.items) w.items (breaks_none w is.1.unbroken).2));
    }

-- ---- the default interface of a coclass that is found
of_item : (items : List Item) (o : Option Item) → IfSome o (HasClass items) → IsSome (option_and_then as_class o)
    → IsSome (option_and_then (default_interface items) (option_and_then as_class o))
of_item items None h some = absurd (true≢false (sym some))
of_item items (Some (Interface i)) h some = absurd (true≢false (sym some))
of_item items (Some (Coclass c)) h some = h.default

pub class_default : (t : TreeValue) (guid : List ℕ) → HasSoundItems t → IsSome (class_of t guid)
    → IsSome (option_and_then (default_interface t.items) (class_of t guid))
class_default t guid whole some = of_item t.items (item_with t.items guid) (find_all (HasClass t.items) (λ i. same guid (item_guid i)) t.items whole.classes)
    some
