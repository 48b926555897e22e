-- The readings of items and of a whole text read the grammar.
use Rattle.std.proofs.Common.{◌≡◌, ℕ, ◌<◌, Bool, true, false, List, [], ◌∷◌, ◌++◌, length, Some, None, refl, sym, ap, subst, ◌∙◌, arith}
use Rattle.std.specs.Prelude.{not, ◌&&◌, ◌||◌, codes}
use Rattle.std.proofs.Math.Logic.{⊎_elim, inl, inr}
use Rattle.std.specs.Str.{bytes_eq}
use Rattle.std.proofs.lemmas.List.{length-append}
use Rattle.oa_model.specs.promise.Limits.{max_coclasses, max_interfaces, max_members}
use Rattle.oa_idl.specs.declared.stop.TreeLimit.{TreeLimit}
use Rattle.oa_idl.specs.declared.stop.TreeLimit.TheVariants as limits
use Rattle.oa_idl.specs.declared.parts.Property.{Property}
use Rattle.oa_idl.specs.declared.parts.Entry.{Entry}
use Rattle.oa_idl.specs.declared.items.Item.{Item}
use Rattle.oa_idl.specs.declared.items.Item.TheVariants as items
use Rattle.oa_idl.specs.declared.seen.HeadValues.{HeadValues}
use Rattle.oa_idl.specs.declared.seen.EntriesSeen.{EntriesSeen}
use Rattle.oa_idl.specs.declared.seen.ItemsSeen.{ItemsSeen}
use Rattle.oa_idl.specs.promise.Trees.{TreeValue}
use Rattle.oa_idl.specs.promise.Forms.{Word, ◌▸◌, given, where_is, with, listed, nowhere}
use Rattle.oa_idl.specs.promise.MethodValues.{MethodValue}
use Rattle.oa_idl.specs.promise.Words.{passes, is_text, name_of}
use Rattle.oa_idl.specs.Words.{over, too_long}
use Rattle.oa_idl.specs.Reading.{bind, give, heads, done, list_at}
use Rattle.oa_idl.specs.promise.Grammar.{symbol, head, property, one_more, closing, methods, members, interface}
use Rattle.oa_idl.specs.promise.Grammar.{entry_word, named, entry_by, no_entry, entry_grow, entry, last_entry, coclass}
use Rattle.oa_idl.specs.promise.Grammar.{guid_of_item, item_body, item, no_items, items_grow, LibraryContent, importing}
use Rattle.oa_idl.specs.promise.Grammar.{element, semicolon_after, elements_grow, items_in, library_contents, library}
use Rattle.oa_idl.specs.promise.Grammar.LibraryContent.{Import, OfItem}
use Rattle.oa_idl.specs.GrammarReading.{property_at, closing_at, methods_at, ends_properties, members_at, interface_at, named_entry_at, entry_at}
use Rattle.oa_idl.specs.GrammarReading.{last_entry_at, entries_at, coclass_at, item_at, import_at, content_at, elements_within, library_contents_at}
use Rattle.oa_idl.specs.GrammarReading.{library_at}
use Rattle.oa_idl.proofs.NameLimits.{over_named, long_named}
use Rattle.oa_idl.proofs.Parses.{Parses, Always, NoLimit}
use Rattle.oa_idl.proofs.PartParses.{enough, fact_parses, said_parses}
use Rattle.oa_idl.proofs.ChoiceParses.{clash, given_parses}
use Rattle.oa_idl.proofs.FurtherParses.{alike_parses}
use Rattle.oa_idl.proofs.PartParses.{part_parses, with_parses, skip_parses, give_parses, one_parses}
use Rattle.oa_idl.proofs.ChoiceParses.{choose_parses}
use Rattle.oa_idl.proofs.FurtherParses.{require_parses}
use Rattle.oa_idl.proofs.Parses.{this_parses}
use Rattle.oa_idl.proofs.ChoiceParses.{perhaps_parses, then_heads, this_heads}
use Rattle.oa_idl.proofs.FurtherParses.{end_part_parses}
use Rattle.oa_idl.proofs.Lists.{KeepsFrom, both, list_parses}
use Rattle.oa_idl.proofs.Heads.{other_sign, one_sign_heads, sign_heads, same_heads, this_some}
use Rattle.oa_idl.proofs.Choices.{tagged_parses, branch_parses, first_heads}
use Rattle.oa_idl.proofs.Texts.{head_parses, property_parses}
use Rattle.oa_idl.proofs.MethodTexts.{MethodsKeep, MethodsKept, methods_parses, methods_heads, methods_begin, open_ends_nothing}

never_heads : {A : Type 0} (x : A) (words : List Word) → heads (nowhere x) words ≡ false
never_heads x [] = refl
never_heads x (w ∷ words) = refl

-- ---- members

-- a member is none too many, and its name is not too long
abbrev pub MemberKeeps : ℕ → TreeLimit → Property → Type 0
MemberKeeps n l p = over limits.Members max_members n p.name ≡ Some l → ⊥

abbrev pub MemberKept : ℕ → Property → Type 0
MemberKept n p = over limits.Members max_members n p.name ≡ None

abbrev pub Nothing : {S B : Type 0} → S → B → Type 0
Nothing s b = Unit {0}

abbrev pub MembersKeep : TreeLimit → List Property → List MethodValue → Type 0
MembersKeep l ps ms = KeepsFrom one_more (λ n p. MemberKeeps n l p) (λ n ms. MethodsKeep n l ms) 0 ps ms

abbrev pub MembersKept : List Property → List MethodValue → Type 0
MembersKept ps ms = KeepsFrom one_more MemberKept MethodsKept 0 ps ms

closing_parses : {S : Type 0} (n : ℕ) (s : S) → Parses n Always (closing s) NoLimit Always (closing_at s)
closing_parses n s = this_parses (passes (codes "}"))

property_heads : (test : Word → Bool) → ((w : Word) → passes (codes "[") w ≡ true → test w ≡ false)
    → (p : Property) (text more : List Word) → property p text → heads test (text ++ more) ≡ false
unfolding Rattle.oa_idl.specs.promise.Grammar.property_head
property_heads test is p text more f = then_heads test false text more (λ front left h. first_heads test (passes (codes "[")) false is front left h) f

property_some : (p : Property) (text : List Word) → property p text → 0 < length text
unfolding Rattle.oa_idl.specs.promise.Grammar.property_head
property_some p text f = omega (arith, this_some f.front f.first, ap length f.parts, length-append f.front f.back)

-- the members of both sections
abbrev Members : Type 0
Members = List Property × List MethodValue

abbrev properties_in : Members → List Property
properties_in p = p.0

abbrev methods_in : Members → List MethodValue
methods_in p = p.1

section : Members → List Word → Type 0
section p = symbol (codes "properties") ▸ symbol (codes ":") ▸ listed (λ n. property) one_more nowhere methods 0 p.0 p.1

list_members_parses : {n : ℕ} → Parses n Always (λ (p : Members). listed (λ n. property) one_more nowhere methods 0 p.0 p.1)
    (λ l p. MembersKeep l p.0 p.1) (λ p. MembersKept p.0 p.1) (list_at ends_properties nowhere property_at one_more methods_at 0)
list_members_parses {n} = list_parses one_more ends_properties nowhere (λ n s. property_parses s) (λ n s. methods_parses s)
    (λ s p text f. property_some p text f) (λ s p text more f. property_heads ends_properties open_ends_nothing p text more f)
    (λ s ms text more f. methods_heads s ms text more f) (λ y s p text more f. never_heads y (text ++ more))
    (λ y s ms text more f. never_heads y (text ++ more)) n 0

members_parses : {n : ℕ} → Parses n Always (λ (p : Members). members p.0 p.1) (λ l p. MembersKeep l p.0 p.1)
    (λ p. MembersKept p.0 p.1) members_at
unfolding members_at section
members_parses = choose_parses {A = section} {B = λ p ws. (p.0 ≡ []) × methods 0 p.1 ws} (passes (codes "properties"))
    (λ p text more _ f is. ⊎_elim (λ (k : section p text). k)
    (λ (k : where_is (p.0 ≡ []) (methods 0 p.1) text). absurd (clash is (methods_begin 0 p.1 text more k.1))) f)
    (λ p text more _ f is. ⊎_elim (λ (k : section p text). absurd (clash (same_heads (codes "properties") text more k) is))
    (λ (k : where_is (p.0 ≡ []) (methods 0 p.1) text). k) f)
    (λ p text _ f. inl f) (λ p text _ f. inr f)
    (skip_parses (passes (codes "properties")) (skip_parses (passes (codes ":")) list_members_parses))
    (fact_parses (end_part_parses methods_in alone_methods (methods_parses 0)
    (λ l p h k. subst (λ (ps : List Property). KeepsFrom one_more (λ n x. MemberKeeps n l x) (λ n ms. MethodsKeep n l ms) 0 ps p.1) h.1 k)
    (λ ms. ((tt, refl), refl)) (λ ms kept. kept) (λ ms p h. λ i. (h.0.1 i, h.1 i))))
  where
    alone_methods : List MethodValue → Members
    alone_methods ms = ([], ms)

-- ---- items

abbrev is_interface : Item → Bool
is_interface (items.Interface d) = true
is_interface (items.Coclass c) = false

abbrev title : Item → List ℕ
title (items.Interface d) = d.name
title (items.Coclass c) = c.name

abbrev members_of : Item → Members
members_of (items.Interface d) = (d.properties, d.methods)
members_of (items.Coclass c) = ([], [])

abbrev entries_of : Item → List Entry
entries_of (items.Interface d) = []
entries_of (items.Coclass c) = c.entries

abbrev pub EntriesKeep : TreeLimit → List Entry → Type 0
EntriesKeep l es = KeepsFrom {B = Unit {0}} entry_grow (λ s e. too_long e.interface ≡ Some l → ⊥) Nothing no_entry es tt

abbrev pub EntriesKept : List Entry → Type 0
EntriesKept es = KeepsFrom {B = Unit {0}} entry_grow (λ s e. too_long e.interface ≡ None) Nothing no_entry es tt

-- an item keeps a limit, after those of s
abbrev pub ItemKeeps : ItemsSeen → TreeLimit → Item → Type 0
ItemKeeps s l (items.Interface d) = (over limits.Interfaces max_interfaces s.interfaces d.name ≡ Some l → ⊥) × MembersKeep l d.properties d.methods
ItemKeeps s l (items.Coclass c) = (over limits.Coclasses max_coclasses s.coclasses c.name ≡ Some l → ⊥) × EntriesKeep l c.entries

abbrev pub ItemKept : ItemsSeen → Item → Type 0
ItemKept s (items.Interface d) = (over limits.Interfaces max_interfaces s.interfaces d.name ≡ None) × MembersKept d.properties d.methods
ItemKept s (items.Coclass c) = (over limits.Coclasses max_coclasses s.coclasses c.name ≡ None) × EntriesKept c.entries

interface_item : List ℕ → List ℕ → Members → Item
interface_item guid name all = items.Interface (record { guid = guid; name = name; properties = all.0; methods = all.1 })

coclass_item : List ℕ → List ℕ → List Entry → Item
coclass_item guid name entries = items.Coclass (record { guid = guid; name = name; entries = entries })

only_interface : (guid name : List ℕ) (all : Members) (x : Item) → guid ≡ guid_of_item x → is_interface x ≡ true → title x ≡ name
    → members_of x ≡ all → x ≡ interface_item guid name all
unfolding interface_item
only_interface guid name all (items.Interface d) a b c e =
    λ i. items.Interface (record { guid = sym a i; name = c i; properties = properties_in (e i); methods = methods_in (e i) })
only_interface guid name all (items.Coclass c) a b t e = absurd (clash b refl)

only_coclass : (guid name : List ℕ) (es : List Entry) (x : Item) → guid ≡ guid_of_item x → is_interface x ≡ false → title x ≡ name
    → entries_of x ≡ es → x ≡ coclass_item guid name es
unfolding coclass_item
only_coclass guid name es (items.Interface d) a b c e = absurd (clash refl b)
only_coclass guid name es (items.Coclass c) a b t e = λ i. items.Coclass (record { guid = sym a i; name = t i; entries = e i })

interface_title : (s : ItemsSeen) (l : TreeLimit) (x : Item) → is_interface x ≡ true → ItemKeeps s l x
    → over limits.Interfaces max_interfaces s.interfaces (title x) ≡ Some l → ⊥
interface_title s l (items.Interface d) is k = k.0
interface_title s l (items.Coclass c) is k = absurd (clash is refl)

interface_members : (s : ItemsSeen) (l : TreeLimit) (x : Item) → is_interface x ≡ true → ItemKeeps s l x
    → MembersKeep l (members_of x).0 (members_of x).1
interface_members s l (items.Interface d) is k = k.1
interface_members s l (items.Coclass c) is k = absurd (clash is refl)

coclass_title : (s : ItemsSeen) (l : TreeLimit) (x : Item) → is_interface x ≡ false → ItemKeeps s l x
    → over limits.Coclasses max_coclasses s.coclasses (title x) ≡ Some l → ⊥
coclass_title s l (items.Interface d) is k = absurd (clash refl is)
coclass_title s l (items.Coclass c) is k = k.0

coclass_entries : (s : ItemsSeen) (l : TreeLimit) (x : Item) → is_interface x ≡ false → ItemKeeps s l x → EntriesKeep l (entries_of x)
coclass_entries s l (items.Interface d) is k = absurd (clash refl is)
coclass_entries s l (items.Coclass c) is k = k.1

interface_parses : {n : ℕ} (s : ItemsSeen) (guid : List ℕ)
    → Parses n (λ x. Always x × (guid ≡ guid_of_item x))
    (λ x ws. (is_interface x ≡ true) × interface (title x) (members_of x).0 (members_of x).1 ws) (ItemKeeps s) (ItemKept s)
    (interface_at s guid)
unfolding interface_at interface_item
interface_parses s guid =
    fact_parses (skip_parses (passes (codes "dispinterface"))
    (part_parses title (one_parses name_of (over limits.Interfaces max_interfaces s.interfaces)
    (over_named limits.Interfaces max_interfaces s.interfaces (λ k. absurd cc))) (λ l x h k. interface_title s l x h.1 k)
    (λ name. skip_parses (passes (codes "{"))
    (part_parses members_of members_parses (λ l x h k. interface_members s l x h.0.1 k)
    (λ all. give_parses (interface_item guid name all) ((((tt, refl), refl), refl), refl) (λ kept short. (short, kept))
    (λ x h. only_interface guid name all x h.0.0.0.1 h.0.0.1 h.0.1 h.1))))))

-- ---- entries

named_parses : {n : ℕ} (b : Bool) → Parses n (λ e. Always e × (e.is_default ≡ b)) named (λ l e. too_long e.interface ≡ Some l → ⊥)
    (λ e. too_long e.interface ≡ None) (named_entry_at b)
unfolding named_entry_at
named_parses b =
    skip_parses entry_word (part_parses (λ e. e.interface) (one_parses name_of too_long long_named) (λ l e h k. k) (λ name. skip_parses (passes (codes ";"))
    (give_parses (record { is_default = b; interface = name }) ((tt, refl), refl) (λ kept. kept)
    (λ e h. λ i. record { is_default = h.0.1 i; interface = h.1 i }))))

-- neither of two signs is a third
entry_word_other : (a : List ℕ) → bytes_eq (codes "dispinterface") a ≡ false → bytes_eq (codes "interface") a ≡ false → (w : Word)
    → entry_word w ≡ true → passes a w ≡ false
entry_word_other a x y w e = by_first (passes (codes "dispinterface") w) refl (passes (codes "interface") w) refl e
  where
    by_first : (p : Bool) → passes (codes "dispinterface") w ≡ p → (q : Bool) → passes (codes "interface") w ≡ q → (p || q) ≡ true
        → passes a w ≡ false
    by_first true is q his e = other_sign a (codes "dispinterface") x w is
    by_first false is true his e = other_sign a (codes "interface") y w his
    by_first false is false his e = absurd (clash e refl)

named_heads : (a : List ℕ) → bytes_eq (codes "dispinterface") a ≡ false → bytes_eq (codes "interface") a ≡ false
    → (e : Entry) (text more : List Word) → named e text → heads (passes a) (text ++ more) ≡ false
named_heads a x y e text more f =
    then_heads (passes a) false text more (λ front left h. ap (λ (ws : List Word). heads (passes a) (ws ++ left)) h.parts ∙ entry_word_other a x y h.word h.is)
    f

default_form : Entry → List Word → Type 0
default_form e = symbol (codes "[") ▸ symbol (codes "default") ▸ symbol (codes "]") ▸ named e

entry_parses : {n : ℕ} (s : EntriesSeen) → Parses n Always (entry s) (λ l e. too_long e.interface ≡ Some l → ⊥)
    (λ e. too_long e.interface ≡ None) (entry_at s)
unfolding entry_at default_form
entry_parses s =
    choose_parses {A = λ e ws. (not s.default ≡ true) × ((e.is_default ≡ true) × default_form e ws)} {B = λ e ws. (e.is_default ≡ false) × named e ws}
    (passes (codes "["))
    (λ e text more _ f is. yes e text more e.is_default refl f is) (λ e text more _ f is. other e text more e.is_default refl f is)
    (λ e text _ f. from_yes e text f) (λ e text _ f. from_other e text f)
    (require_parses (not s.default) (fact_parses
    (skip_parses (passes (codes "[")) (skip_parses (passes (codes "default")) (skip_parses (passes (codes "]")) (named_parses true))))))
    (fact_parses (named_parses false))
  where
    yes : (e : Entry) (text more : List Word) (v : Bool) → e.is_default ≡ v → (not (v && s.default) ≡ true) × entry_by v e text
        → heads (passes (codes "[")) (text ++ more) ≡ true → (not s.default ≡ true) × ((e.is_default ≡ true) × default_form e text)
    yes e text more true flag f is = (f.0, (flag, f.1))
    yes e text more false flag f is = absurd (clash is (named_heads (codes "[") refl refl e text more f.1))

    other : (e : Entry) (text more : List Word) (v : Bool) → e.is_default ≡ v → (not (v && s.default) ≡ true) × entry_by v e text
        → heads (passes (codes "[")) (text ++ more) ≡ false → (e.is_default ≡ false) × named e text
    other e text more true flag f is = absurd (clash (same_heads (codes "[") text more f.1) is)
    other e text more false flag f is = (flag, f.1)

    from_yes : (e : Entry) (text : List Word) → (not s.default ≡ true) × ((e.is_default ≡ true) × default_form e text) → entry s e text
    from_yes e text f = subst (λ (v : Bool). (not (v && s.default) ≡ true) × entry_by v e text) (sym f.1.0) (f.0, f.1.1)

    from_other : (e : Entry) (text : List Word) → (e.is_default ≡ false) × named e text → entry s e text
    from_other e text f = subst (λ (v : Bool). (not (v && s.default) ≡ true) × entry_by v e text) (sym f.0) (refl, f.1)

entry_some : (e : Entry) (v : Bool) (text : List Word) → entry_by v e text → 0 < length text
entry_some e true text f = this_some text f
entry_some e false text f = this_some text f

entry_heads : (a : List ℕ) → bytes_eq (codes "[") a ≡ false → bytes_eq (codes "dispinterface") a ≡ false
    → bytes_eq (codes "interface") a ≡ false → (e : Entry) (v : Bool) (text more : List Word) → entry_by v e text
    → heads (passes a) (text ++ more) ≡ false
entry_heads a z x y e true text more f = sign_heads a (codes "[") z text more f
entry_heads a z x y e false text more f = named_heads a x y e text more f

last_entry_parses : (n : ℕ) (s : EntriesSeen) → Parses n Always (last_entry s) NoLimit Always (last_entry_at s)
last_entry_parses n s = require_parses s.some (this_parses (passes (codes "}")))

abbrev es_of : List Entry × Unit {0} → List Entry
es_of p = p.0

entries_parses : {n : ℕ} → Parses n Always (λ p. listed entry entry_grow nowhere last_entry no_entry p.0 p.1)
    (λ l p. KeepsFrom entry_grow (λ s e. too_long e.interface ≡ Some l → ⊥) Nothing no_entry p.0 p.1)
    (λ p. KeepsFrom entry_grow (λ s e. too_long e.interface ≡ None) Nothing no_entry p.0 p.1) entries_at
unfolding entries_at
entries_parses {n} = list_parses entry_grow (passes (codes "}")) nowhere (λ n s. entry_parses s) last_entry_parses
    (λ s e text f. entry_some e e.is_default text f.1) (λ s e text more f. entry_heads (codes "}") refl refl refl e e.is_default text more f.1)
    (λ s b text more f. this_heads (passes (codes "}")) text more f.1) (λ y s e text more f. never_heads y (text ++ more))
    (λ y s b text more f. never_heads y (text ++ more)) n no_entry

entries_of_item : Item → List Entry × Unit {0}
entries_of_item x = both (entries_of x) tt

coclass_parses : {n : ℕ} (s : ItemsSeen) (guid : List ℕ)
    → Parses n (λ x. Always x × (guid ≡ guid_of_item x)) (λ x ws. (is_interface x ≡ false) × coclass (title x) (entries_of x) ws)
    (ItemKeeps s) (ItemKept s) (coclass_at s guid)
unfolding coclass_at coclass_item entries_of_item
coclass_parses s guid =
    fact_parses (skip_parses (passes (codes "coclass"))
    (part_parses title (one_parses name_of (over limits.Coclasses max_coclasses s.coclasses)
    (over_named limits.Coclasses max_coclasses s.coclasses (λ k. absurd cc))) (λ l x h k. coclass_title s l x h.1 k) (λ name. skip_parses (passes (codes "{"))
    (part_parses entries_of_item entries_parses (λ l x h k. coclass_entries s l x h.0.1 k)
    (λ es. give_parses (coclass_item guid name es.0) ((((tt, refl), refl), refl), refl) (λ all kept. (kept, all))
    (λ x h. only_coclass guid name es.0 x h.0.0.0.1 h.0.0.1 h.0.1 (ap es_of h.1)))))))

-- ---- a text

item_parses : {n : ℕ} (s : ItemsSeen) → Parses n Always item (ItemKeeps s) (ItemKept s) (item_at s)
unfolding item_at
item_parses {n} s = with_parses {G = λ h x ws. (h.guid ≡ guid_of_item x) × item_body x ws} (head_parses false) (enough (head false) n) (λ l h x text _ g k. tt)
    (λ h.
    fact_parses (choose_parses {A = λ x ws. (is_interface x ≡ true) × interface (title x) (members_of x).0 (members_of x).1 ws}
    {B = λ x ws. (is_interface x ≡ false) × coclass (title x) (entries_of x) ws} (passes (codes "dispinterface"))
    (λ x text more _ f is. yes x text more f is) (λ x text more _ f is. other x text more f is) (λ x text _ f. from_yes x text f)
    (λ x text _ f. from_other x text f)
    (said_parses (λ c h. h) (λ c h. h) (λ c t h f. f) (λ c t h f. f) (λ c h _. h) (interface_parses s h.guid))
    (said_parses (λ c h. h) (λ c h. h) (λ c t h f. f) (λ c t h f. f) (λ c h _. h) (coclass_parses s h.guid))))
  where
    yes : (x : Item) (text more : List Word) → item_body x text → heads (passes (codes "dispinterface")) (text ++ more) ≡ true
        → (is_interface x ≡ true) × interface (title x) (members_of x).0 (members_of x).1 text
    yes (items.Interface d) text more f is = (refl, f)
    yes (items.Coclass c) text more f is = absurd (clash is (sign_heads (codes "dispinterface") (codes "coclass") refl text more f))

    other : (x : Item) (text more : List Word) → item_body x text → heads (passes (codes "dispinterface")) (text ++ more) ≡ false
        → (is_interface x ≡ false) × coclass (title x) (entries_of x) text
    other (items.Interface d) text more f is = absurd (clash (same_heads (codes "dispinterface") text more f) is)
    other (items.Coclass c) text more f is = (refl, f)

    from_yes : (x : Item) (text : List Word) → (is_interface x ≡ true) × interface (title x) (members_of x).0 (members_of x).1 text
        → item_body x text
    from_yes (items.Interface d) text f = f.1
    from_yes (items.Coclass c) text f = absurd (clash f.0 refl)

    from_other : (x : Item) (text : List Word) → (is_interface x ≡ false) × coclass (title x) (entries_of x) text → item_body x text
    from_other (items.Interface d) text f = absurd (clash refl f.0)
    from_other (items.Coclass c) text f = f.1

item_heads : (a : List ℕ) → bytes_eq (codes "[") a ≡ false → (x : Item) (text more : List Word) → item x text
    → heads (passes a) (text ++ more) ≡ false
unfolding head
item_heads a ne x text more f = then_heads (passes a) false text more (λ front left h. sign_heads a (codes "[") ne front left h) f.form

item_some : (x : Item) (text : List Word) → item x text → 0 < length text
unfolding head
item_some x text f = omega (arith, this_some f.form.front f.form.first, ap length f.form.parts, length-append f.form.front f.form.back)

-- ---- imports

abbrev pub ContentKeeps : ItemsSeen → TreeLimit → LibraryContent → Type 0
ContentKeeps s l Import = Unit {0}
ContentKeeps s l (OfItem x) = ItemKeeps s l x

abbrev pub ContentKept : ItemsSeen → LibraryContent → Type 0
ContentKept s Import = Unit {0}
ContentKept s (OfItem x) = ItemKept s x

abbrev is_import : LibraryContent → Bool
is_import Import = true
is_import (OfItem x) = false

abbrev item_in : LibraryContent → Item
item_in Import = items.Coclass (record { guid = []; name = []; entries = [] })
item_in (OfItem x) = x

import_heads : (e : LibraryContent) (text more : List Word) → element e text → heads (passes (codes "importlib")) (text ++ more) ≡ is_import e
unfolding element
import_heads Import text more f = same_heads (codes "importlib") text more f
import_heads (OfItem x) text more f = item_heads (codes "importlib") refl x text more f

only_import : (e : LibraryContent) → Always e × (is_import e ≡ true) → e ≡ Import
only_import Import h = refl
only_import (OfItem x) h = absurd (clash h.1 refl)

only_item : (e : LibraryContent) → Always e × (is_import e ≡ false) → e ≡ OfItem (item_in e)
only_item Import h = absurd (clash refl h.1)
only_item (OfItem x) h = refl

item_keeps : (s : ItemsSeen) (l : TreeLimit) (e : LibraryContent) → Always e × (is_import e ≡ false) → ContentKeeps s l e
    → ItemKeeps s l (item_in e)
item_keeps s l Import h k = absurd (clash refl h.1)
item_keeps s l (OfItem x) h k = k

import_parses : {n : ℕ} → Parses n Always (λ (_ : Unit {0}). importing) NoLimit Always import_at
unfolding import_at
import_parses =
    skip_parses (passes (codes "importlib"))
    (skip_parses (passes (codes "(")) (skip_parses is_text (skip_parses (passes (codes ")")) (this_parses (passes (codes ";"))))))

element_parses : {n : ℕ} (s : ItemsSeen) → Parses n Always element (ContentKeeps s) (ContentKept s) (content_at s)
unfolding element content_at
element_parses s = tagged_parses {F = element} (passes (codes "importlib")) is_import import_heads
    (branch_parses {F = element} (λ (_ : Unit {0}). Import) (λ _. done) only_import (λ a. ((tt, refl), refl)) (λ l c h k. tt) (λ a h. tt) import_parses)
    (branch_parses {F = element} (λ x. OfItem x) item_in only_item (λ a. ((tt, refl), refl)) (λ l c h k. item_keeps s l c h k) (λ a h. h) (item_parses s))

element_heads : (a : List ℕ) → bytes_eq (codes "[") a ≡ false → bytes_eq (codes "importlib") a ≡ false
    → (e : LibraryContent) (text more : List Word) → element e text → heads (passes a) (text ++ more) ≡ false
unfolding element
element_heads a x y Import text more f = sign_heads a (codes "importlib") y text more f
element_heads a x y (OfItem i) text more f = item_heads a x i text more f

element_some : (e : LibraryContent) (text : List Word) → element e text → 0 < length text
unfolding element
element_some Import text f = this_some text f
element_some (OfItem x) text f = item_some x text f

not_after : (y : LibraryContent) (words : List Word) → heads (passes (codes ";")) words ≡ false → heads (semicolon_after y) words ≡ false
not_after Import [] h = refl
not_after Import (w ∷ words) h = refl
not_after (OfItem x) [] h = refl
not_after (OfItem x) (w ∷ words) h = h

contents_parses : {n : ℕ} → Parses n Always (λ p. listed (λ s. element) elements_grow semicolon_after closing no_items p.0 p.1)
    (λ l p. KeepsFrom elements_grow (λ s x. ContentKeeps s l x) Nothing no_items p.0 p.1)
    (λ p. KeepsFrom elements_grow ContentKept Nothing no_items p.0 p.1)
    (list_at (passes (codes "}")) semicolon_after content_at elements_grow closing_at no_items)
contents_parses {n} = list_parses elements_grow (passes (codes "}")) semicolon_after (λ n s. element_parses s) closing_parses
    (λ s x text f. element_some x text f) (λ s x text more f. element_heads (codes "}") refl refl x text more f)
    (λ s b text more f. this_heads (passes (codes "}")) text more f)
    (λ y s x text more f. not_after y (text ++ more) (element_heads (codes ";") refl refl x text more f))
    (λ y s b text more f. not_after y (text ++ more) (one_sign_heads (codes ";") (codes "}") refl text more f)) n no_items

abbrev pub ItemsKeep : TreeLimit → ItemsSeen → List Item → Type 0
ItemsKeep l s xs = KeepsFrom {B = Unit {0}} items_grow (λ s x. ItemKeeps s l x) Nothing s xs tt

abbrev pub ItemsKept : ItemsSeen → List Item → Type 0
ItemsKept s xs = KeepsFrom {B = Unit {0}} items_grow ItemKept Nothing s xs tt

contents_keep : (l : TreeLimit) (s : ItemsSeen) (es : List LibraryContent) → ItemsKeep l s (items_in es)
    → KeepsFrom {B = Unit {0}} elements_grow (λ s x. ContentKeeps s l x) Nothing s es tt
contents_keep l s [] k = tt
contents_keep l s (Import ∷ es) k = (tt, contents_keep l s es k)
contents_keep l s (OfItem x ∷ es) k = (k.0, contents_keep l (items_grow s x) es k.1)

contents_kept : (s : ItemsSeen) (es : List LibraryContent) → KeepsFrom {B = Unit {0}} elements_grow ContentKept Nothing s es tt
    → ItemsKept s (items_in es)
contents_kept s [] k = tt
contents_kept s (Import ∷ es) k = contents_kept s es k.1
contents_kept s (OfItem x ∷ es) k = (k.0, contents_kept (items_grow s x) es k.1)

elements_parses : {n : ℕ} → Parses n Always library_contents (λ l xs. ItemsKeep l no_items xs) (λ xs. ItemsKept no_items xs) library_contents_at
unfolding library_contents library_contents_at elements_within bind list_at
elements_parses {n} =
    alike_parses
    {f = bind (list_at (passes (codes "}")) semicolon_after content_at elements_grow closing_at no_items)
    (λ (p : List LibraryContent × Unit {0}). give (items_in p.0))} (λ words. refl)
    (said_parses {F = λ xs. with whole (λ p. given (xs ≡ items_in p.0))} (λ c h. h) (λ c h. h) (λ c t h f. record { value = f.value.0; form = f.form })
    (λ c t h f. record { value = both f.value tt; form = f.form }) (λ c h. h)
    (with_parses {G = λ p xs. given (xs ≡ items_in p.0)} contents_parses (enough whole n)
    (λ l p xs text _ g k. contents_keep l no_items p.0 (subst (λ (ys : List Item). ItemsKeep l no_items ys) g.fact k))
    (λ p. given_parses (items_in p.0) tt (λ kept. contents_kept no_items p.0 kept))))
  where
    whole : List LibraryContent × Unit {0} → List Word → Type 0
    whole p = listed (λ s. element) elements_grow semicolon_after closing no_items p.0 p.1

-- a tree keeps a limit, step by step
abbrev pub TreeKeeps : TreeLimit → TreeValue → Type 0
TreeKeeps l t = (too_long t.name ≡ Some l → ⊥) × ItemsKeep l no_items t.items

abbrev pub TreeKept : TreeValue → Type 0
TreeKept t = (too_long t.name ≡ None) × ItemsKept no_items t.items

head_of_tree : TreeValue → HeadValues
head_of_tree t = record { guid = t.guid; version = t.version }

tree_of : HeadValues → List ℕ → List Item → TreeValue
tree_of h name xs = record { guid = h.guid; version = h.version; name = name; items = xs }

pub library_parses : {n : ℕ} → Parses n Always library TreeKeeps TreeKept library_at
unfolding library_at head_of_tree tree_of
library_parses = part_parses head_of_tree (head_parses true) (λ l t h k. tt)
    (λ head. skip_parses (passes (codes "library"))
    (part_parses (λ t. t.name) (one_parses name_of too_long long_named) (λ l t h k. k.0) (λ name. skip_parses (passes (codes "{"))
    (part_parses (λ t. t.items) elements_parses (λ l t h k. k.1)
    (λ xs. perhaps_parses (passes (codes ";")) (λ t text more h f. sign_heads (codes ";") [] refl text more f) (skip_parses (passes [])
    (give_parses (tree_of head name xs) (((tt, refl), refl), refl) (λ kept short _. (short, kept))
    (λ t h. λ i. record { guid = (h.0.0.1 i).guid; version = (h.0.0.1 i).version; name = h.0.1 i; items = h.1 i }))))))))
