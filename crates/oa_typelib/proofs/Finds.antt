-- The results of look-ups in the indexes of a library.
use Rattle.std.proofs.Common.{◌≡◌, ◌≤◌, ℕ, Bool, List, [], ◌∷◌, length, map}
use Rattle.std.proofs.Common.{IfOk, Result, Ok, Err}
use Rattle.std.proofs.Common.{slice_get, position, find, Option, None, Some, true, false, refl, sym, ap, ◌∙◌, arith}
use Rattle.std.proofs.lemmas.Bool.Decides.{nat_tests}
use Rattle.std.proofs.lemmas.Option.{none-some, slice_get-map}
use Rattle.std.specs.Option.{option_map, option_map_or, option_and_then, unwrap_or}
use Rattle.oa_model.specs.promise.Limits.{max_library_bytes}
use Rattle.oa_model.specs.promise.Folding.{folded_name}
use Rattle.std.specs.Prelude.{nat_le, if◌then◌else◌}
use Rattle.oa_idl.specs.promise.Trees.{TreeValue}
use Rattle.oa_printer.specs.promise.Canonical.{canonical}
use Rattle.oa_idl.specs.declared.parts.Entry.{Entry}
use Rattle.oa_idl.specs.declared.items.Item.{Item}
use Rattle.oa_idl.specs.declared.items.Item.TheVariants.{Interface, Coclass}
use Rattle.oa_sema.specs.promise.Libraries.{same, item_name, item_guid, as_interface, as_class, has_interface}
use Rattle.oa_sema.specs.promise.Libraries.{if_entered, interface_of, class_of, interface_named, default_interface}
use Rattle.oa_sema.specs.promise.Libraries.{marked_item, marked}
use Rattle.oa_sema.specs.declared.fault.CheckError.TheVariants.{TextTooLong}
use Rattle.oa_sema.specs.Breaches.{RefusesBreach}
use Rattle.oa_sema.specs.promise.Breaches.{first_breach, length_breach, text_breach}
use Rattle.oa_sema.specs.promise.IsLibrary.{IsLibrary}
use Rattle.oa_sema.specs.declared.fault.CheckError.{CheckError}
use Rattle.oa_idl.specs.promise.IsTree.{IsTree}
use Rattle.oa_idl.specs.promise.Values.{InterfaceValue, CoclassValue}
use Rattle.oa_typelib.specs.Indexes.{default_in, enters, entered_in, flag_at, flag_of}
use Rattle.oa_sema.specs.Libraries.{folded_names}
use Rattle.oa_sema.proofs.Lists.{position_finds}
use Rattle.oa_sema.proofs.Passes.{interface_by_place}

-- The entry that is found, by its place.
pub found_by_place : {X Y : Type 0} (f : X → Option Y) (p : X → Bool) (xs : List X) (o : Option ℕ) → o ≡ position p xs
    → option_and_then f (find p xs) ≡ option_and_then f (option_and_then (slice_get xs) o)
found_by_place f p xs o e = ap (option_and_then f) (sym (position_finds p xs) ∙ ap (option_and_then (slice_get xs)) (sym e))

-- the default interface, by the place that is kept for it
default_of_class : (items : List Item) (o : Option Entry) → option_and_then (λ (e : Entry). interface_named items e.interface) o ≡ option_and_then as_interface
    (option_and_then (slice_get items) (option_and_then (λ (e : Entry). position (same (folded_name e.interface)) (folded_names items)) o))
default_of_class items None = refl
default_of_class items (Some e) = interface_by_place items (folded_names items) e.interface refl

pub default_of_item : (items : List Item) (o : Option Item) → option_and_then (default_interface items) (option_and_then as_class o)
    ≡ option_and_then as_interface (option_and_then (slice_get items) (option_and_then (default_in (folded_names items)) o))
default_of_item items None = refl
default_of_item items (Some (Interface i)) = refl
default_of_item items (Some (Coclass c)) = default_of_class items (find (λ e. e.is_default) c.entries)

pub default_by_place : (items : List Item) (p : Item → Bool) (o : Option ℕ) (d : Option ℕ) → o ≡ position p items
    → d ≡ option_and_then (default_in (folded_names items)) (option_and_then (slice_get items) o)
    → option_and_then (default_interface items) (option_and_then as_class (find p items)) ≡ option_and_then as_interface (option_and_then (slice_get items) d)
default_by_place items p o d e k =
    ap (option_and_then (default_interface items)) (found_by_place as_class p items o e) ∙ default_of_item items (option_and_then (slice_get items) o)
    ∙ ap (λ m. option_and_then as_interface (option_and_then (slice_get items) m)) (sym k)

-- an option in an option
pub flat : {X Y : Type 0} (f : X → Option Y) (o : Option X) (d : Option Y) → Some d ≡ option_map f o → d ≡ option_and_then f o
flat f None d e = absurd (cc)
flat f (Some x) d e = cc

-- The parts that marking leaves unchanged.
pub kept : {Y : Type 0} (f : Item → Y) → ((i : Item) → f (marked_item i) ≡ f i) → (items : List Item) → map f (map marked_item items) ≡ map f items
kept f same_f [] = refl
kept f same_f (i ∷ items) = ap (λ y. y ∷ map f (map marked_item items)) (same_f i) ∙ ap (λ ys. f i ∷ ys) (kept f same_f items)

pub name_kept : (i : Item) → folded_name (item_name (marked_item i)) ≡ folded_name (item_name i)
name_kept (Interface i) = refl
name_kept (Coclass c) = refl

pub guid_kept : (i : Item) → item_guid (marked_item i) ≡ item_guid i
guid_kept (Interface i) = refl
guid_kept (Coclass c) = refl

-- the length of the text of a tree whose defaults are marked
pub length_of_marked : (tree t : TreeValue) → t ≡ marked tree → text_breach tree ≡ length_breach t
unfolding text_breach
length_of_marked tree t is = rw is refl

-- If there is no error, the library is that of each text with this tree.
pub library_of_texts : (tree : TreeValue) (r : Result TreeValue CheckError) → RefusesBreach (first_breach tree) (λ library. library ≡ marked tree) r
    → IfOk r (λ library. (text : List ℕ) → IsTree text tree → IsLibrary text library)
library_of_texts tree (Ok library) h = λ text is. record { tree = tree; stands = is; unbroken = h.0; says = h.1 }
library_of_texts tree (Err e) h = tt

short_text : (bs : List ℕ) → nat_le (length bs) max_library_bytes ≡ true → length bs ≤ max_library_bytes
short_text bs h = grind (arith, nat_tests)

pub fits_text : (t : TreeValue) → length_breach t ≡ None → length (canonical t) ≤ max_library_bytes
fits_text t h = by (nat_le (length (canonical t)) max_library_bytes) refl h
  where
    by : (b : Bool) → nat_le (length (canonical t)) max_library_bytes ≡ b → (if b then None else Some TextTooLong) ≡ None
        → length (canonical t) ≤ max_library_bytes
    by true is none = short_text (canonical t) is
    by false is none = absurd (none-some TextTooLong (sym none))

-- ---- The interface at a place, if an entry of the coclass names it.
pub never : (k : Option CoclassValue) → None ≡ option_and_then (λ c. option_and_then (if_entered c) None) k
never None = refl
never (Some c) = refl

here : (c : CoclassValue) (i : InterfaceValue) (o : Option Item) → Some i ≡ option_and_then as_interface o
    → unwrap_or (option_map (enters c) (option_map (λ x. folded_name (item_name x)) o)) false ≡ has_interface c i
here c i None e = absurd (cc)
here c i (Some (Interface d)) e = let is : d ≡ i = cc in rw is refl
here c i (Some (Coclass d)) e = absurd (cc)

flag_is : (items : List Item) (place : ℕ) (i : InterfaceValue) (k : Option Item) → Some i ≡ option_and_then as_interface (slice_get items place)
    → flag_of (option_map (entered_in (folded_names items)) k) place ≡ option_map_or (λ c. has_interface c i) (option_and_then as_class k) false
flag_is items place i None e = refl
flag_is items place i (Some (Interface d)) e = refl
flag_is items place i (Some (Coclass c)) e =
    ap (λ o. unwrap_or o false) (slice_get-map (enters c) (folded_names items) place
    ∙ ap (option_map (enters c)) (slice_get-map (λ (x : Item). folded_name (item_name x)) items place))
    ∙ here c i (slice_get items place) e

when : (i : InterfaceValue) (k : Option CoclassValue) (b : Bool) → option_map_or (λ c. has_interface c i) k false ≡ b
    → (if b then Some i else None) ≡ option_and_then (λ c. if_entered c i) k
when i None true e = absurd (cc)
when i None false e = refl
when i (Some c) b e = rw e refl

pub chosen : (items : List Item) (class place : ℕ) (i : InterfaceValue) (b : Bool) → Some i ≡ option_and_then as_interface (slice_get items place)
    → b ≡ flag_at (map (entered_in (folded_names items)) items) class place
    → (if b then Some i else None) ≡ option_and_then (λ c. option_and_then (if_entered c) (option_and_then as_interface (slice_get items place)))
    (option_and_then as_class (slice_get items class))
chosen items class place i b at flag =
    when i (option_and_then as_class (slice_get items class)) b
    (sym (flag_is items place i (slice_get items class) at) ∙ ap (λ o. flag_of o place) (sym (slice_get-map (entered_in (folded_names items)) items class))
    ∙ sym flag)
    ∙ ap (λ o. option_and_then (λ c. option_and_then (if_entered c) o) (option_and_then as_class (slice_get items class))) at

-- As above, by GUIDs.
pub by_places : (t : TreeValue) (class interface : List ℕ) (m n : Option ℕ) → m ≡ position (λ (i : Item). same class (item_guid i)) t.items
    → n ≡ position (λ (i : Item). same interface (item_guid i)) t.items
    → option_and_then (λ c. option_and_then (if_entered c) (option_and_then as_interface (option_and_then (slice_get t.items) n)))
    (option_and_then as_class (option_and_then (slice_get t.items) m)) ≡ option_and_then (λ c. option_and_then (if_entered c) (interface_of t interface))
    (class_of t class)
by_places t class interface m n e f =
    sym
    (ap (λ o. option_and_then (λ c. option_and_then (if_entered c) o) (class_of t class))
    (found_by_place as_interface (λ (i : Item). same interface (item_guid i)) t.items n f)
    ∙ ap (option_and_then (λ c. option_and_then (if_entered c) (option_and_then as_interface (option_and_then (slice_get t.items) n))))
    (found_by_place as_class (λ (i : Item). same class (item_guid i)) t.items m e))
