-- The items of a library, and a whole tree, are spelled by their printed texts: a canonical text is read as its tree.
use Rattle.std.proofs.Common.{◌≡◌, ℕ, Bool, true, false, List, [], ◌∷◌, ◌++◌, refl, sym, ap, subst, ◌∙◌, append_assoc}
use Rattle.std.specs.Prelude.{codes}
use Rattle.std.specs.Fmt.{decimal}
use Rattle.std.specs.List.{AllByRecursion, flat_map}
use Rattle.std.proofs.Math.Logic.{inl, inr}
use Rattle.std.proofs.lemmas.List.{append-nil}
use Rattle.oa_idl.specs.declared.stop.TreeLimit.{TreeLimit}
use Rattle.oa_idl.specs.declared.stop.TreeLimit.TheVariants as limits
use Rattle.oa_idl.specs.declared.parts.Version.{Version}
use Rattle.oa_idl.specs.declared.parts.Property.{Property}
use Rattle.oa_idl.specs.declared.parts.Entry.{Entry}
use Rattle.oa_idl.specs.declared.items.Item.{Item}
use Rattle.oa_idl.specs.declared.items.Item.TheVariants as items
use Rattle.oa_idl.specs.declared.seen.HeadValues.{HeadValues}
use Rattle.oa_idl.specs.declared.seen.EntriesSeen.{EntriesSeen}
use Rattle.oa_idl.specs.declared.seen.ItemsSeen.{ItemsSeen}
use Rattle.oa_idl.specs.promise.MethodValues.{MethodValue}
use Rattle.oa_idl.specs.promise.Values.{InterfaceValue, CoclassValue}
use Rattle.oa_idl.specs.promise.Trees.{TreeValue}
use Rattle.oa_tokens.specs.promise.Bytes.{is_in, run}
use Rattle.oa_idl.specs.promise.Forms.{Word, ◌▸◌, nothing, given, this, one, optional, where_is, with, listed, nowhere}
use Rattle.oa_idl.specs.promise.Words.{passes, name_of, end_word}
use Rattle.oa_idl.specs.promise.Grammar.{symbol, head_attribute, no_head, head, one_more, closing, property, method}
use Rattle.oa_idl.specs.promise.Grammar.{methods, members, interface, entry_word, named, entry_by, entry, entry_grow}
use Rattle.oa_idl.specs.promise.Grammar.{no_entry, last_entry, coclass, item, LibraryContent, element, semicolon_after}
use Rattle.oa_idl.specs.promise.Grammar.{no_items, elements_grow, items_in, library_contents, library}
use Rattle.oa_idl.specs.promise.Grammar.HeadAttribute.{Guid, Numbered}
use Rattle.oa_idl.specs.promise.Grammar.LibraryContent.{OfItem}
use Rattle.oa_printer.specs.promise.Canonical.{property_text, method_text, entry_word_text, entry_text, digits_text}
use Rattle.oa_printer.specs.promise.Canonical.{guid_text, title_text, interface_line, properties_line, properties_text}
use Rattle.oa_printer.specs.promise.Canonical.{methods_text, interface_text, coclass_text, item_text, version_text}
use Rattle.oa_printer.specs.promise.Canonical.{canonical}
use Rattle.oa_idl.specs.promise.Limits.{KeepsLimit}
use Rattle.oa_idl.specs.promise.IsTree.{MayBeText, IsTree}
use Rattle.oa_printer.specs.Printable.{IsGuid, IsVersion, IsName, IsProperty, IsMethod, AreEntries, IsItem, IsPrintable}
use Rattle.oa_printer.proofs.PrintedTokens.{word, HasWords, tokens_at}
use Rattle.oa_printer.proofs.PrintedTokens.HasWords.{Nil}
use Rattle.oa_printer.proofs.Spelled.{Spells, ◌▹◌, at, said, nothing_spelled, left_out, blank, line, then_line, open_mark, close_mark}
use Rattle.oa_printer.proofs.Spelled.{begin_mark, finish_mark, left_mark, right_mark, semicolon_mark, colon_mark, dot_mark, sign_word}
use Rattle.oa_printer.proofs.Spelled.{all_spelled, last_spelled, next_spelled, attributes_spelled}
use Rattle.oa_printer.proofs.PrintedMembers.{name_spelled, part_spelled, guid_spelled, property_spelled, method_spelled}

-- ---- attributes

abbrev head_at : List ℕ → Version → HeadValues
head_at g v = record { guid = g; version = v }

abbrev no_version : Version
no_version = record { major = 0; minor = 0 }

uuid_spelled : (counts : Bool) (g x : List ℕ) → IsGuid g
    → Spells (head_attribute counts (Guid g)) (codes "uuid(" ++ (digits_text g ++ 41 ∷ x)) x
unfolding is_in run passes
uuid_spelled counts g x h = sign_word (codes "uuid") (codes "uuid") 40 (digits_text g ++ 41 ∷ x) (refl, refl) (refl, refl) refl ▹ left_mark ▹ guid_spelled g x h
    ▹ right_mark

version_spelled : (v : Version) (x : List ℕ) → IsVersion v
    → Spells (head_attribute true (Numbered v)) (codes "version(" ++ (decimal v.major ++ 46 ∷ (decimal v.minor ++ 41 ∷ x))) x
unfolding is_in run passes
version_spelled v x h = sign_word (codes "version") (codes "version") 40 (decimal v.major ++ 46 ∷ (decimal v.minor ++ 41 ∷ x)) (refl, refl) (refl, refl) refl
    ▹ left_mark ▹ part_spelled v.major 46 (decimal v.minor ++ 41 ∷ x) h.0 (refl, refl)
    ▹ said (λ ws f. inl f) (dot_mark ▹ part_spelled v.minor 41 x h.1 (refl, refl) ▹ right_mark)

item_head_spelled : (g x : List ℕ) → IsGuid g → Spells (head false (head_at g no_version))
    (codes "[uuid(" ++ (digits_text g ++ 41 ∷ 93 ∷ x)) x
unfolding head
item_head_spelled g x h = attributes_spelled {attribute = head_attribute false} no_head (head_at g no_version) (Guid g) refl (uuid_spelled false g (93 ∷ x) h)
    (last_spelled _ (head_at g no_version) refl)

library_head_spelled : (g : List ℕ) (v : Version) (x : List ℕ) → IsGuid g → IsVersion v
    → Spells (head true (head_at g v))
    (codes "[uuid(" ++ (digits_text g ++ (codes "), version(" ++ (decimal v.major ++ 46 ∷ (decimal v.minor ++ 41 ∷ 93 ∷ x))))) x
unfolding head
library_head_spelled g v x h k = attributes_spelled {attribute = head_attribute true} no_head (head_at g v) (Guid g) refl
    (uuid_spelled true g (codes ", version(" ++ (decimal v.major ++ 46 ∷ (decimal v.minor ++ 41 ∷ 93 ∷ x))) h)
    (next_spelled _ (head_at g v) (Numbered v) refl (blank (version_spelled v (93 ∷ x) k)) (last_spelled _ (head_at g v) refl))

-- ---- interfaces

methods_spelled : (n : ℕ) (ms : List MethodValue) (x : List ℕ) → AllByRecursion IsMethod ms → Spells (methods n ms) (methods_text ms ++ x) x
unfolding methods_text is_in run passes
methods_spelled n ms x h = at (ap (λ (bs : List ℕ). codes "methods:\n" ++ bs) (append_assoc (flat_map method_text ms) (codes "}\n") x))
    (said (λ ws f. inl f) (sign_word (codes "methods") (codes "methods") 58 (10 ∷ (flat_map method_text ms ++ 125 ∷ 10 ∷ x)) (refl, refl) (refl, refl) refl
    ▹ colon_mark
    ▹ line (all_spelled method one_more nowhere closing method_text IsMethod tt (125 ∷ 10 ∷ x) x method_spelled (λ s. then_line finish_mark) n ms h)))

members_spelled : (ps : List Property) (ms : List MethodValue) (x : List ℕ) → AllByRecursion IsProperty ps → AllByRecursion IsMethod ms
    → Spells (members ps ms) (properties_text ps ++ (methods_text ms ++ x)) x
unfolding properties_text properties_line is_in run passes
members_spelled ps ms x h k =
    said (λ ws f. inl f) (sign_word (codes "properties") (codes "properties") 58 (10 ∷ (flat_map property_text ps ++ (methods_text ms ++ x))) (refl, refl)
    (refl, refl) refl ▹ colon_mark
    ▹ line (all_spelled property one_more nowhere methods property_text IsProperty ms (methods_text ms ++ x) x property_spelled
    (λ s. methods_spelled s ms x k) 0 ps h))

interface_spelled : (name : List ℕ) (ps : List Property) (ms : List MethodValue) (x : List ℕ) → IsName name → AllByRecursion IsProperty ps
    → AllByRecursion IsMethod ms
    → Spells (interface name ps ms)
    (codes "\ndispinterface " ++ (name ++ (codes " {\n" ++ (properties_text ps ++ (methods_text ms ++ x))))) x
unfolding is_in run passes
interface_spelled name ps ms x n h k =
    line (sign_word (codes "dispinterface") (codes "dispinterface") 32 (name ++ (codes " {\n" ++ (properties_text ps ++ (methods_text ms ++ x)))) (refl, refl)
    (refl, refl) refl
    ▹ blank (name_spelled name 32 (codes "{\n" ++ (properties_text ps ++ (methods_text ms ++ x))) n (refl, refl)) ▹ blank begin_mark ▹ line
    (members_spelled ps ms x h k) ▹ nothing_spelled)

-- ---- coclasses

named_spelled : (e : Entry) (x : List ℕ) → IsName e.interface → Spells (named e) (codes "dispinterface " ++ (e.interface ++ 59 ∷ 10 ∷ x)) x
unfolding is_in run passes
named_spelled e x h = said (λ ws f. f) (entry_named ▹ blank (name_spelled e.interface 59 (10 ∷ x) h (refl, refl)) ▹ semicolon_mark ▹ then_line nothing_spelled)
  where
    entry_named : Spells (this entry_word) (codes "dispinterface" ++ 32 ∷ (e.interface ++ 59 ∷ 10 ∷ x)) (32 ∷ (e.interface ++ 59 ∷ 10 ∷ x))
    entry_named = said (λ ws f. record { word = f.word; parts = f.parts; is = rw f.is refl })
        (sign_word (codes "dispinterface") (codes "dispinterface") 32 (e.interface ++ 59 ∷ 10 ∷ x) (refl, refl) (refl, refl) refl)

entry_form_spelled : (d : Bool) (e : Entry) (x : List ℕ) → IsName e.interface
    → Spells (entry_by d e) (entry_word_text d ++ (e.interface ++ 59 ∷ 10 ∷ x)) x
unfolding is_in run passes
entry_form_spelled true e x h = open_mark ▹ sign_word (codes "default") (codes "default") 93 (32 ∷ (codes "dispinterface " ++ (e.interface ++ 59 ∷ 10 ∷ x)))
    (refl, refl) (refl, refl) refl ▹ close_mark ▹ blank (named_spelled e x h)
entry_form_spelled false e x h = named_spelled e x h

entry_layout : (e : Entry) (x : List ℕ) → entry_text e ++ x ≡ entry_word_text e.is_default ++ (e.interface ++ 59 ∷ 10 ∷ x)
unfolding entry_text
entry_layout e x = append_assoc (entry_word_text e.is_default ++ e.interface) (codes ";\n") x ∙ append_assoc (entry_word_text e.is_default) e.interface
    (59 ∷ 10 ∷ x)

entries_spelled : (s : EntriesSeen) (es : List Entry) (x : List ℕ) → AreEntries s es
    → Spells (listed entry entry_grow nowhere last_entry s es tt) (flat_map entry_text es ++ 125 ∷ 10 ∷ x) x
entries_spelled s [] x h = said (λ ws f. (h, f)) (then_line finish_mark)
entries_spelled s (e ∷ es) x h =
    at (append_assoc (entry_text e) (flat_map entry_text es) (125 ∷ 10 ∷ x) ∙ entry_layout e (flat_map entry_text es ++ 125 ∷ 10 ∷ x))
    (said (λ ws f. (h.0, f)) (entry_form_spelled e.is_default e (flat_map entry_text es ++ 125 ∷ 10 ∷ x) h.1) ▹ left_out ▹ entries_spelled
    (entry_grow s e) es x h.2)

pub coclass_spelled : (name : List ℕ) (es : List Entry) (x : List ℕ) → IsName name → AreEntries no_entry es
    → Spells (coclass name es) (codes "\ncoclass " ++ (name ++ (codes " {\n" ++ (flat_map entry_text es ++ 125 ∷ 10 ∷ x)))) x
unfolding is_in run passes
coclass_spelled name es x n h =
    line (sign_word (codes "coclass") (codes "coclass") 32 (name ++ (codes " {\n" ++ (flat_map entry_text es ++ 125 ∷ 10 ∷ x))) (refl, refl) (refl, refl) refl
    ▹ blank (name_spelled name 32 (codes "{\n" ++ (flat_map entry_text es ++ 125 ∷ 10 ∷ x)) n (refl, refl)) ▹ blank begin_mark ▹ line
    (entries_spelled no_entry es x h) ▹ nothing_spelled)

-- ---- items

with_spelled : {A : Type 0} (F G : A → List Word → Type 0) (v : A) {x y z : List ℕ} → Spells (F v) x y → Spells (G v) y z
    → Spells (with F G) x z
with_spelled F G v f g ws h = let r = (f ▹ g) ws h in record { words = r.words; form = record { value = v; form = r.form }; has = r.has }

title_layout : (g word name y : List ℕ)
    → title_text g word name ++ y ≡ codes "[uuid(" ++ (digits_text g ++ 41 ∷ (word ++ (name ++ (codes " {\n" ++ y))))
unfolding title_text guid_text
title_layout g word name y = append_assoc (guid_text g ++ word ++ name) (codes " {\n") y ∙ append_assoc (guid_text g ++ word) name (codes " {\n" ++ y)
    ∙ append_assoc (guid_text g) word (name ++ (codes " {\n" ++ y))
    ∙ append_assoc (codes "[uuid(" ++ digits_text g) (codes ")") (word ++ (name ++ (codes " {\n" ++ y)))

interface_layout : (d : InterfaceValue) (x : List ℕ)
    → interface_text d ++ x ≡ codes "[uuid("
    ++ (digits_text d.guid ++ 41 ∷ 93 ∷ (codes "\ndispinterface "
    ++ (d.name ++ (codes " {\n" ++ (properties_text d.properties ++ (methods_text d.methods ++ x))))))
unfolding interface_text interface_line
interface_layout d x = append_assoc (title_text d.guid interface_line d.name ++ properties_text d.properties) (methods_text d.methods) x
    ∙ append_assoc (title_text d.guid interface_line d.name) (properties_text d.properties) (methods_text d.methods ++ x)
    ∙ title_layout d.guid interface_line d.name (properties_text d.properties ++ (methods_text d.methods ++ x))

coclass_layout : (c : CoclassValue) (x : List ℕ)
    → coclass_text c ++ x ≡ codes "[uuid(" ++ (digits_text c.guid ++ 41 ∷ 93
    ∷ (codes "\ncoclass " ++ (c.name ++ (codes " {\n" ++ (flat_map entry_text c.entries ++ 125 ∷ 10 ∷ x)))))
unfolding coclass_text
coclass_layout c x = append_assoc (title_text c.guid (codes "]\ncoclass ") c.name ++ flat_map entry_text c.entries) (codes "}\n") x
    ∙ append_assoc (title_text c.guid (codes "]\ncoclass ") c.name) (flat_map entry_text c.entries) (125 ∷ 10 ∷ x)
    ∙ title_layout c.guid (codes "]\ncoclass ") c.name (flat_map entry_text c.entries ++ 125 ∷ 10 ∷ x)

item_spelled : (i : Item) (x : List ℕ) → IsItem i → Spells (item i) (item_text i ++ x) x
unfolding item_text
item_spelled (items.Interface d) x h =
    at (interface_layout d x) (with_spelled (head false) (λ k. where_is (k.guid ≡ d.guid) (interface d.name d.properties d.methods)) (head_at d.guid no_version)
    (item_head_spelled d.guid _ h.0)
    (said (λ ws f. (refl, f)) (interface_spelled d.name d.properties d.methods x h.1 h.2 h.3)))
item_spelled (items.Coclass c) x h =
    at (coclass_layout c x) (with_spelled (head false) (λ k. where_is (k.guid ≡ c.guid) (coclass c.name c.entries)) (head_at c.guid no_version)
    (item_head_spelled c.guid _ h.0)
    (said (λ ws f. (refl, f)) (coclass_spelled c.name c.entries x h.1 h.2)))

element_spelled : (i : Item) (x : List ℕ) → IsItem i → Spells (element (OfItem i)) (item_text i ++ x) x
unfolding element
element_spelled i x h = item_spelled i x h

abbrev contents : List Item → List LibraryContent
contents [] = []
contents (i ∷ is) = OfItem i ∷ contents is

items_back : (is : List Item) → is ≡ items_in (contents is)
items_back [] = refl
items_back (i ∷ is) = ap (λ (xs : List Item). i ∷ xs) (items_back is)

items_spelled : (s : ItemsSeen) (is : List Item) (x : List ℕ) → AllByRecursion IsItem is
    → Spells (listed (λ s. element) elements_grow semicolon_after closing s (contents is) tt) (flat_map item_text is ++ 125 ∷ 10 ∷ x) x
items_spelled s [] x h = then_line finish_mark
items_spelled s (i ∷ is) x h = at (append_assoc (item_text i) (flat_map item_text is) (125 ∷ 10 ∷ x))
    (element_spelled i (flat_map item_text is ++ 125 ∷ 10 ∷ x) h.0 ▹ left_out ▹ items_spelled (elements_grow s (OfItem i)) is x h.1)

given_spelled : {P : Type 0} {x : List ℕ} → P → Spells (given P) x x
given_spelled p ws h = record { words = []; form = record { fact = p; none = refl }; has = h }

elements_spelled : (is : List Item) (x : List ℕ) → AllByRecursion IsItem is → Spells (library_contents is) (flat_map item_text is ++ 125 ∷ 10 ∷ x) x
unfolding library_contents
elements_spelled is x h = with_spelled (λ es. listed (λ s. element) elements_grow semicolon_after closing no_items es tt) (λ es. given (is ≡ items_in es))
    (contents is) (items_spelled no_items is x h) (given_spelled (items_back is))

-- ---- a tree

version_layout : (v : Version) (y : List ℕ)
    → version_text v ++ y ≡ codes ", version(" ++ (decimal v.major ++ 46 ∷ (decimal v.minor ++ (codes ")]\nlibrary " ++ y)))
unfolding version_text
version_layout v y = append_assoc (codes ", version(" ++ decimal v.major ++ codes "." ++ decimal v.minor) (codes ")]\nlibrary ") y
    ∙ append_assoc (codes ", version(" ++ decimal v.major ++ codes ".") (decimal v.minor) (codes ")]\nlibrary " ++ y)
    ∙ append_assoc (codes ", version(" ++ decimal v.major) (codes ".") (decimal v.minor ++ (codes ")]\nlibrary " ++ y))

tree_layout : (t : TreeValue)
    → canonical t ≡ codes "[uuid(" ++ (digits_text t.guid
    ++ (codes "), version(" ++ (decimal t.version.major ++ 46
    ∷ (decimal t.version.minor ++ 41 ∷ 93 ∷ (codes "\nlibrary " ++ (t.name ++ (codes " {\n" ++ (flat_map item_text t.items ++ 125 ∷ 10 ∷ []))))))))
unfolding canonical
tree_layout t = append_assoc (title_text t.guid (version_text t.version) t.name) (flat_map item_text t.items) (codes "}\n")
    ∙ title_layout t.guid (version_text t.version) t.name (flat_map item_text t.items ++ 125 ∷ 10 ∷ [])
    ∙ ap (λ (bs : List ℕ). codes "[uuid(" ++ (digits_text t.guid ++ 41 ∷ bs))
    (version_layout t.version (t.name ++ (codes " {\n" ++ (flat_map item_text t.items ++ 125 ∷ 10 ∷ []))))

-- all of a library but the end of its text
abbrev opened : TreeValue → List Word → Type 0
opened t = head true (head_at t.guid t.version) ▸ symbol (codes "library") ▸ one name_of t.name ▸ symbol (codes "{") ▸ library_contents t.items

tree_spelled : (t : TreeValue) → IsPrintable t → Spells (opened t) (canonical t) []
unfolding is_in run passes
tree_spelled t h =
    at (tree_layout t) (library_head_spelled t.guid t.version _ h.guid h.version ▹ line
    (sign_word (codes "library") (codes "library") 32 (t.name ++ (codes " {\n" ++ (flat_map item_text t.items ++ 125 ∷ 10 ∷ []))) (refl, refl)
    (refl, refl) refl)
    ▹ blank (name_spelled t.name 32 (codes "{\n" ++ (flat_map item_text t.items ++ 125 ∷ 10 ∷ [])) h.name (refl, refl)) ▹ blank begin_mark ▹ line
    (elements_spelled t.items [] h.items))

goes_on : {F G H : List Word → Type 0} (after : List Word) → ((ws : List Word) → G ws → H (ws ++ after)) → (ws : List Word) → (F ▸ G) ws
    → (F ▸ H) (ws ++ after)
goes_on after next ws f = record {
  front = f.front;
  back = f.back ++ after;
  parts = ap (λ (vs : List Word). vs ++ after) f.parts
      ∙ append_assoc f.front f.back after;
  first = f.first;
  second = next f.back f.second;
}

abbrev end_form : List Word → Type 0
end_form = optional (symbol (codes ";")) ▸ symbol [] ▸ nothing

the_end : end_form (end_word ∷ [])
unfolding passes
the_end = record {
  front = [];
  back = end_word ∷ [];
  parts = refl;
  first = inr refl;
  second = record { front = end_word ∷ []; back = []; parts = refl; first = record { word = end_word; parts = refl; is = refl }; second = refl };
}

closed_tree : (t : TreeValue) (ws : List Word) → opened t ws → library t (ws ++ end_word ∷ [])
closed_tree t ws f =
    goes_on (end_word ∷ []) (λ a g. goes_on (end_word ∷ [])
    (λ b h. goes_on (end_word ∷ []) (λ c i. goes_on (end_word ∷ [])
    (λ d j. record { front = d; back = end_word ∷ []; parts = refl; first = j; second = the_end }) c i) b h) a g) ws f

each_limit : (t : TreeValue) → IsPrintable t → (l : TreeLimit) → KeepsLimit l t
each_limit t h limits.Name = h.short
each_limit t h limits.Interfaces = h.interfaces
each_limit t h limits.Coclasses = h.coclasses
each_limit t h limits.Members = h.members
each_limit t h limits.Params = h.parameters

-- A canonical text is parsed as its tree.
pub is_read : (t : TreeValue) → IsPrintable t → MayBeText (canonical t) → IsTree (canonical t) t
is_read t h short =
    let r = tree_spelled t h [] Nil in
    let found = tokens_at (canonical t) 0 (canonical t) r.words refl (subst (HasWords (canonical t)) (append-nil r.words) r.has) in
    record {
      short = short;
      tokens = found.tokens;
      are = found.are;
      form = subst (library t) (ap (λ (ws : List Word). ws ++ end_word ∷ []) (sym found.words)) (closed_tree t r.words r.form);
      kept = each_limit t h;
    }
