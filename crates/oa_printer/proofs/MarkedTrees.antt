-- A tree that can be printed and read again is one when its defaults are marked.
use Rattle.std.proofs.Common.{◌≡◌, ℕ, Bool, true, false, if◌then◌else◌, List, [], ◌∷◌, map, refl}
use Rattle.std.specs.List.{list_any, AllByRecursion}
use Rattle.oa_idl.specs.declared.parts.Entry.{Entry}
use Rattle.oa_idl.specs.declared.items.Item.{Item}
use Rattle.oa_idl.specs.declared.items.Item.TheVariants.{Interface, Coclass}
use Rattle.oa_idl.specs.promise.Grammar.{no_entry}
use Rattle.oa_idl.specs.promise.Limits.{IsShort, HasShortNames, one_interface, one_coclass, how_many, HasFewMembers}
use Rattle.oa_idl.specs.promise.Limits.{HasFewParameters}
use Rattle.oa_printer.specs.promise.Marked.{mark, marked_entries, marked_item, marked}
use Rattle.oa_printer.specs.Printable.{AreEntries, IsItem, IsPrintable}
use Rattle.oa_idl.specs.promise.Trees.{TreeValue}
use Rattle.oa_printer.proofs.FirstDefault.{first_default}

by_mark : (e : Entry) (es : List Entry) (b : Bool) → AreEntries no_entry (e ∷ es) → (b ≡ false → AreEntries no_entry (mark e ∷ es))
    → AreEntries no_entry (if b then e ∷ es else mark e ∷ es)
by_mark e es true are first = are
by_mark e es false are first = first refl

entries_marked : (es : List Entry) → AreEntries no_entry es → AreEntries no_entry (marked_entries es)
entries_marked [] are = are
entries_marked (e ∷ es) are = by_mark e es (list_any (λ (x : Entry). x.is_default) (e ∷ es)) are (λ none. first_default e es none are)

item_marked : (x : Item) → IsItem x → IsItem (marked_item x)
item_marked (Interface i) is = is
item_marked (Coclass c) is = (is.0, is.1, entries_marked c.entries is.2)

all_marked : (P : Item → Type 0) → ((x : Item) → P x → P (marked_item x)) → (xs : List Item) → AllByRecursion P xs
    → AllByRecursion P (map marked_item xs)
all_marked P each [] all = tt
all_marked P each (x ∷ xs) all = (each x all.0, all_marked P each xs all.1)

short_by : (e : Entry) (es : List Entry) (b : Bool) → AllByRecursion (λ (x : Entry). IsShort x.interface) (e ∷ es)
    → AllByRecursion (λ (x : Entry). IsShort x.interface) (if b then e ∷ es else mark e ∷ es)
short_by e es true all = all
short_by e es false all = (all.0, all.1)

short_marked : (es : List Entry) → AllByRecursion (λ (x : Entry). IsShort x.interface) es
    → AllByRecursion (λ (x : Entry). IsShort x.interface) (marked_entries es)
short_marked [] all = tt
short_marked (e ∷ es) all = short_by e es (list_any (λ (x : Entry). x.is_default) (e ∷ es)) all

short_item : (x : Item) → HasShortNames x → HasShortNames (marked_item x)
short_item (Interface i) is = is
short_item (Coclass c) is = (is.0, short_marked c.entries is.1)

few_members : (x : Item) → HasFewMembers x → HasFewMembers (marked_item x)
few_members (Interface i) is = is
few_members (Coclass c) is = is

few_parameters : (x : Item) → HasFewParameters x → HasFewParameters (marked_item x)
few_parameters (Interface i) is = is
few_parameters (Coclass c) is = is

as_many : (weight : Item → ℕ) → ((x : Item) → weight (marked_item x) ≡ weight x) → (xs : List Item)
    → how_many weight (map marked_item xs) ≡ how_many weight xs
as_many weight each [] = refl
as_many weight each (x ∷ xs) = rw (each x, as_many weight each xs) refl

interface_counts : (x : Item) → one_interface (marked_item x) ≡ one_interface x
interface_counts (Interface i) = refl
interface_counts (Coclass c) = refl

coclass_counts : (x : Item) → one_coclass (marked_item x) ≡ one_coclass x
coclass_counts (Interface i) = refl
coclass_counts (Coclass c) = refl

pub printable_marked : (t : TreeValue) → IsPrintable t → IsPrintable (marked t)
printable_marked t is = record {
  guid = is.guid;
  version = is.version;
  name = is.name;
  items = all_marked IsItem (item_marked) t.items is.items;
  short = (is.short.0, all_marked HasShortNames short_item t.items is.short.1);
  interfaces = rw (as_many one_interface interface_counts t.items) is.interfaces;
  coclasses = rw (as_many one_coclass coclass_counts t.items) is.coclasses;
  members = all_marked HasFewMembers few_members t.items is.members;
  parameters = all_marked HasFewParameters few_parameters t.items is.parameters;
}
