-- The canonical text of a library stands for that library.
use Rattle.std.proofs.Common.{◌≡◌, Bool, true, false, cond, ◌||◌, if◌then◌else◌, List, [], ◌∷◌, ◌++◌, map, find, ℕ, Option, None, Some, is_some, refl, sym}
use Rattle.std.proofs.Common.{◌∙◌, ap, subst}
use Rattle.std.specs.List.{list_any}
use Rattle.std.specs.Option.{option_and_then, option_or}
use Rattle.oa_printer.specs.promise.Canonical.{canonical}
use Rattle.oa_sema.specs.promise.Breaches.{array_breach, bad_default_in, default_breach, disagrees, entry_breach}
use Rattle.oa_sema.specs.promise.Breaches.{first_array_parameter, first_breach, first_broken, form_breach, guid_breach}
use Rattle.oa_sema.specs.promise.Breaches.{id_breach, in_interface, inner_breach, interface_breach, item_breach}
use Rattle.oa_sema.specs.promise.Breaches.{length_breach, name_breach, repeated_name, shares_id, text_breach}
use Rattle.oa_sema.specs.promise.Breaches.{unknown_name}
use Rattle.oa_sema.specs.promise.DeclarationValues.{DeclarationValue}
use Rattle.oa_sema.specs.promise.IsLibrary.{IsLibrary}
use Rattle.oa_sema.specs.promise.Libraries.{as_interface, interface_named, item_name, mark_first, marked}
use Rattle.oa_sema.specs.promise.Libraries.{marked_entries, marked_item, same, same_name, item_guid}
use Rattle.oa_sema.specs.promise.Repeats.{first_after, first_answer, first_repeat}
use Rattle.oa_idl.specs.promise.IsTree.{IsTree}
use Rattle.oa_idl.specs.promise.Trees.{TreeValue}
use Rattle.oa_idl.specs.declared.items.Item.{Item}
use Rattle.oa_idl.specs.declared.items.Item.TheVariants.{Interface, Coclass}
use Rattle.oa_idl.specs.declared.parts.Entry.{Entry}
use Rattle.oa_typelib.proofs.Finds.{guid_kept, kept}
use Rattle.oa_typelib.specs.promise.Checked.{IsChecked}
use Rattle.oa_history.proofs.Reading.{library_marked, marked_again}

-- ---- what the marks keep of an item

name_is : (x : Item) → item_name (marked_item x) ≡ item_name x
name_is (Interface i) = refl
name_is (Coclass c) = refl

interface_is : (x : Item) → as_interface (marked_item x) ≡ as_interface x
interface_is (Interface i) = refl
interface_is (Coclass c) = refl

in_kept : (breach : List DeclarationValue → Option (List ℕ)) (x : Item) → in_interface breach (marked_item x) ≡ in_interface breach x
in_kept breach (Interface i) = refl
in_kept breach (Coclass c) = refl

first_interfaces : (es : List Entry) → map (λ (e : Entry). e.interface) (mark_first es) ≡ map (λ (e : Entry). e.interface) es
first_interfaces [] = refl
first_interfaces (e ∷ es) = refl

interfaces_kept : (es : List Entry) → map (λ (e : Entry). e.interface) (marked_entries es) ≡ map (λ (e : Entry). e.interface) es
interfaces_kept es = by (list_any (λ (e : Entry). e.is_default) es)
  where
    by : (b : Bool) → map (λ (e : Entry). e.interface) (if b then es else mark_first es) ≡ map (λ (e : Entry). e.interface) es
    by true = refl
    by false = first_interfaces es

inner_kept : (x : Item) → inner_breach (marked_item x) ≡ inner_breach x
inner_kept (Interface i) = refl
inner_kept (Coclass c) = ap repeated_name (interfaces_kept c.entries)

-- ---- and of a list of them

any_kept : (test : Item → Bool) → ((x : Item) → test (marked_item x) ≡ test x) → (xs : List Item) → list_any test (map marked_item xs) ≡ list_any test xs
any_kept test is [] = refl
any_kept test is (x ∷ xs) = ap (λ (b : Bool). b || list_any test (map marked_item xs)) (is x) ∙ ap (λ (b : Bool). test x || b) (any_kept test is xs)

push_kept : (before : List Item) (x : Item) → map marked_item (before ++ x ∷ []) ≡ map marked_item before ++ marked_item x ∷ []
push_kept [] x = refl
push_kept (y ∷ before) x = ap (λ (l : List Item). marked_item y ∷ l) (push_kept before x)

item_kept : (before : List Item) (x : Item) → item_breach (map marked_item before) (marked_item x) ≡ item_breach before x
item_kept before x =
    ap (λ (n : List ℕ). if list_any (λ (other : Item). same_name n (item_name other)) (map marked_item before) then Some n else inner_breach (marked_item x))
    (name_is x)
    ∙ ap (λ (b : Bool). if b then Some (item_name x) else inner_breach (marked_item x))
    (any_kept (λ (other : Item). same_name (item_name x) (item_name other)) (λ y. ap (same_name (item_name x)) (name_is y)) before)
    ∙ ap (λ (o : Option (List ℕ)). if list_any (λ (other : Item). same_name (item_name x) (item_name other)) before then Some (item_name x) else o)
    (inner_kept x)

after_kept : (before items : List Item) → first_after item_breach (map marked_item before) (map marked_item items) ≡ first_after item_breach before items
unfolding first_after
after_kept before [] = refl
after_kept before (x ∷ xs) =
    ap (λ (o : Option (List ℕ)). option_or o (first_after item_breach (map marked_item before ++ marked_item x ∷ []) (map marked_item xs))) (item_kept before x)
    ∙ ap (λ (l : List Item). option_or (item_breach before x) (first_after item_breach l (map marked_item xs))) (sym (push_kept before x))
    ∙ ap (λ (o : Option (List ℕ)). option_or (item_breach before x) o) (after_kept (before ++ x ∷ []) xs)

answers_kept : (one two : Item → Option (List ℕ)) → ((x : Item) → one (marked_item x) ≡ two x) → (items : List Item)
    → first_answer one (map marked_item items) ≡ first_answer two items
unfolding first_answer
answers_kept one two is [] = refl
answers_kept one two is (x ∷ xs) = ap (λ (o : Option (List ℕ)). option_or o (first_answer one (map marked_item xs))) (is x)
    ∙ ap (λ (o : Option (List ℕ)). option_or (two x) o) (answers_kept one two is xs)

same_answers : (one two : Entry → Option (List ℕ)) → ((e : Entry) → one e ≡ two e) → (es : List Entry) → first_answer one es ≡ first_answer two es
unfolding first_answer
same_answers one two is [] = refl
same_answers one two is (e ∷ es) = ap (λ (o : Option (List ℕ)). option_or o (first_answer one es)) (is e) ∙ ap (λ (o : Option (List ℕ)). option_or (two e) o)
    (same_answers one two is es)

-- ---- which interface has a name, and which entry names none

named_kept : (name : List ℕ) (items : List Item) → interface_named (map marked_item items) name ≡ interface_named items name
named_kept name [] = refl
named_kept name (x ∷ xs) =
    ap (λ (b : Bool). option_and_then as_interface (cond b (Some (marked_item x)) (find (λ i. same_name name (item_name i)) (map marked_item xs))))
    (ap (same_name name) (name_is x)) ∙ by (named_kept name xs) (same_name name (item_name x))
  where
    by : interface_named (map marked_item xs) name ≡ interface_named xs name → (b : Bool)
        → option_and_then as_interface (cond b (Some (marked_item x)) (find (λ i. same_name name (item_name i)) (map marked_item xs)))
        ≡ option_and_then as_interface (cond b (Some x) (find (λ i. same_name name (item_name i)) xs))
    by rest true = interface_is x
    by rest false = rest

unknown_kept : (items : List Item) (e : Entry) → unknown_name (map marked_item items) e ≡ unknown_name items e
unknown_kept items e = ap (λ o. if is_some o then None else Some e.interface) (named_kept e.interface items)

first_unknown : (items : List Item) (es : List Entry) → first_answer (unknown_name (map marked_item items)) (mark_first es) ≡ first_answer
    (unknown_name items) es
unfolding first_answer
first_unknown items [] = refl
first_unknown items (e ∷ es) = ap (λ (o : Option (List ℕ)). option_or o (first_answer (unknown_name (map marked_item items)) es)) (unknown_kept items e)
    ∙ ap (λ (o : Option (List ℕ)). option_or (unknown_name items e) o)
    (same_answers (unknown_name (map marked_item items)) (unknown_name items) (unknown_kept items) es)

entries_kept : (items : List Item) (es : List Entry) → first_answer (unknown_name (map marked_item items)) (marked_entries es) ≡ first_answer
    (unknown_name items) es
entries_kept items es = by (list_any (λ (e : Entry). e.is_default) es)
  where
    by : (b : Bool) → first_answer (unknown_name (map marked_item items)) (if b then es else mark_first es) ≡ first_answer (unknown_name items) es
    by true = same_answers (unknown_name (map marked_item items)) (unknown_name items) (unknown_kept items) es
    by false = first_unknown items es

entry_kept : (items : List Item) (x : Item) → entry_breach (map marked_item items) (marked_item x) ≡ entry_breach items x
entry_kept items (Interface i) = refl
entry_kept items (Coclass c) = entries_kept items c.entries

-- ---- no breach comes of the marks

within_kept : (breach : List DeclarationValue → Option (List ℕ)) (items : List Item) → first_answer (in_interface breach) (map marked_item items) ≡ first_answer
    (in_interface breach) items
within_kept breach items = answers_kept (in_interface breach) (in_interface breach) (in_kept breach) items

names_kept : (items : List Item) → name_breach (map marked_item items) ≡ name_breach items
names_kept items = after_kept [] items

ids_kept : (items : List Item) → id_breach (map marked_item items) ≡ id_breach items
ids_kept items = within_kept (first_broken shares_id) items

guids_kept : (guid : List ℕ) (items : List Item) → guid_breach guid (map marked_item items) ≡ guid_breach guid items
guids_kept guid items = ap (λ (l : List (List ℕ)). first_repeat same (λ g. g) [] (guid ∷ l)) (kept item_guid guid_kept items)

unknowns_kept : (items : List Item) → interface_breach (map marked_item items) ≡ interface_breach items
unknowns_kept items = answers_kept (entry_breach (map marked_item items)) (entry_breach items) (entry_kept items) items

forms_kept : (items : List Item) → form_breach (map marked_item items) ≡ form_breach items
forms_kept items = within_kept (first_broken disagrees) items

arrays_kept : (items : List Item) → array_breach (map marked_item items) ≡ array_breach items
arrays_kept items = within_kept (first_answer first_array_parameter) items

defaults_kept : (items : List Item) → default_breach (map marked_item items) ≡ default_breach items
defaults_kept items = within_kept (first_answer bad_default_in) items

text_kept : (t : TreeValue) → text_breach (marked t) ≡ text_breach t
unfolding text_breach
text_kept t = ap length_breach (marked_again t)

breach_kept : (t : TreeValue) → first_breach (marked t) ≡ first_breach t
breach_kept t =
    rw (
      names_kept t.items,
      ids_kept t.items,
      guids_kept t.guid t.items,
      unknowns_kept t.items,
      forms_kept t.items,
      arrays_kept t.items,
      defaults_kept t.items,
      text_kept t,
    ) refl

module _ (read : (t : TreeValue) → IsChecked t → IsTree (canonical t) t) where
  pub its_library : (t : TreeValue) → IsChecked t → IsLibrary (canonical t) t
  its_library t checked =
      let library = checked.1 in
      record {
        tree = t;
        stands = read t checked;
        unbroken = subst (λ (u : TreeValue). first_breach u ≡ None) (sym library.says) (breach_kept library.tree ∙ library.unbroken);
        says = sym (library_marked t checked);
      }
