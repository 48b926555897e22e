-- The limits of a tree, and the limits step by step.
use Rattle.std.proofs.Common.{◌≡◌, ℕ, ◌+◌, ◌<◌, ◌≤◌, Bool, true, false, List, [], ◌∷◌, length, Some, None, refl, sym, arith, ltb-false}
use Rattle.std.proofs.Common.{leb-false}
use Rattle.std.specs.Prelude.{nat_lt, nat_le, if◌then◌else◌}
use Rattle.std.specs.List.{AllByRecursion}
use Rattle.std.proofs.Math.Logic.{⊎_elim}
use Rattle.oa_model.specs.promise.Limits.{max_coclasses, max_interfaces, max_members, max_name_characters}
use Rattle.oa_model.specs.promise.Limits.{max_parameters}
use Rattle.oa_idl.specs.declared.stop.TreeLimit.{TreeLimit}
use Rattle.oa_idl.specs.declared.stop.TreeLimit.TheVariants as limits
use Rattle.oa_idl.specs.declared.parts.Property.{Property}
use Rattle.oa_idl.specs.declared.parts.Entry.{Entry}
use Rattle.oa_idl.specs.declared.parts.Parameter.{Parameter}
use Rattle.oa_idl.specs.promise.MethodValues.{MethodValue}
use Rattle.oa_idl.specs.declared.items.Item.{Item}
use Rattle.oa_idl.specs.declared.items.Item.TheVariants as items
use Rattle.oa_idl.specs.declared.seen.EntriesSeen.{EntriesSeen}
use Rattle.oa_idl.specs.declared.seen.ItemsSeen.{ItemsSeen}
use Rattle.oa_idl.specs.promise.Trees.{TreeValue}
use Rattle.oa_idl.specs.Words.{over, too_long}
use Rattle.oa_idl.specs.promise.Grammar.{one_more, no_entry, entry_grow, no_items, items_grow}
use Rattle.oa_idl.specs.promise.Limits.{IsShort, HasShortParameters, HasShortNames, one_interface, one_coclass}
use Rattle.oa_idl.specs.promise.Limits.{how_many, HasFewMembers, HasFewParameters, KeepsLimit}
use Rattle.oa_idl.proofs.Lists.{KeepsFrom}
use Rattle.oa_idl.proofs.NameLimits.{over_is}
use Rattle.oa_idl.proofs.ParameterTexts.{ParameterKeeps, ParameterKept, NoEndLimit}
use Rattle.oa_idl.proofs.MethodTexts.{MethodsKeep, MethodsKept}
use Rattle.oa_idl.proofs.Whole.{MemberKeeps, MemberKept, Nothing, ItemsKeep, ItemsKept, TreeKeeps, TreeKept}

over_none : (m : TreeLimit) (b c : ℕ) (name : List ℕ) → over m b c name ≡ None → (length name ≤ max_name_characters) × (c < b)
over_none m b c name e = by_length (nat_lt max_name_characters (length name)) refl e
  where
    by_count : length name ≤ max_name_characters → (v : Bool) → nat_le b c ≡ v → (if v then Some m else None) ≡ None
        → (length name ≤ max_name_characters) × (c < b)
    by_count short true is e = absurd cc
    by_count short false is e = (short, leb-false b c is)

    by_length : (v : Bool) → nat_lt max_name_characters (length name) ≡ v
        → (if v then Some limits.Name else (if nat_le b c then Some m else None)) ≡ None
        → (length name ≤ max_name_characters) × (c < b)
    by_length true is e = absurd cc
    by_length false is e = by_count (ltb-false max_name_characters (length name) is) (nat_le b c) refl e

-- ---- A limit that a tree keeps is kept step by step.

not_over : (m l : TreeLimit) (b c : ℕ) (name : List ℕ) → (l ≡ limits.Name → length name ≤ max_name_characters) → (l ≡ m → c < b)
    → over m b c name ≡ Some l
    → ⊥
not_over m l b c name short few e = ⊎_elim
    (λ (k : (max_name_characters < length name) × (limits.Name ≡ l)). omega (arith, k.0, short (sym k.1)))
    (λ (k : (b ≤ c) × (m ≡ l)). omega (arith, k.0, few (sym k.1)))
    (over_is m l b c name e)

parameters_keep : (l : TreeLimit) (n : ℕ) (ps : List Parameter) → (l ≡ limits.Name → AllByRecursion (λ (p : Parameter). IsShort p.name) ps)
    → (l ≡ limits.Params → n + length ps ≤ max_parameters)
    → KeepsFrom {B = Unit {0}} one_more (λ n p. ParameterKeeps n l p) NoEndLimit n ps tt
parameters_keep l n [] short few = tt
parameters_keep l n (p ∷ ps) short few = (
  not_over limits.Params l max_parameters n p.name (λ e. (short e).0) (λ e. omega (arith, few e)),
  parameters_keep l (n + 1) ps (λ e. (short e).1)
      (λ e. omega (arith, few e)),
)

methods_keep : (l : TreeLimit) (n : ℕ) (ms : List MethodValue) → (l ≡ limits.Name → AllByRecursion HasShortParameters ms)
    → (l ≡ limits.Members → n + length ms ≤ max_members)
    → (l ≡ limits.Params → AllByRecursion (λ (m : MethodValue). length m.parameters ≤ max_parameters) ms)
    → MethodsKeep n l ms
methods_keep l n [] short few small = tt
methods_keep l n (m ∷ ms) short few small = (
  (
    not_over limits.Members l max_members n m.name (λ e. (short e).0.0) (λ e. omega (arith, few e)),
    parameters_keep l 0 m.parameters (λ e. (short e).0.1)
        (λ e. omega (arith, (small e).0)),
  ),
  methods_keep l (n + 1) ms (λ e. (short e).1) (λ e. omega (arith, few e)) (λ e. (small e).1),
)

members_keep : (l : TreeLimit) (n : ℕ) (ps : List Property) (ms : List MethodValue)
    → (l ≡ limits.Name → AllByRecursion (λ (p : Property). IsShort p.name) ps) → (l ≡ limits.Name → AllByRecursion HasShortParameters ms)
    → (l ≡ limits.Members → n + (length ps + length ms) ≤ max_members)
    → (l ≡ limits.Params → AllByRecursion (λ (m : MethodValue). length m.parameters ≤ max_parameters) ms)
    → KeepsFrom one_more (λ n p. MemberKeeps n l p) (λ n ms. MethodsKeep n l ms) n ps ms
members_keep l n [] ms short inner few small = methods_keep l n ms inner (λ e. omega (arith, few e)) small
members_keep l n (p ∷ ps) ms short inner few small = (
  not_over limits.Members l max_members n p.name (λ e. (short e).0) (λ e. omega (arith, few e)),
  members_keep l (n + 1) ps ms (λ e. (short e).1) inner
      (λ e. omega (arith, few e)) small,
)

short_entry : (l : TreeLimit) (name : List ℕ) → (l ≡ limits.Name → length name ≤ max_name_characters) → too_long name ≡ Some l → ⊥
short_entry l name short e = not_over limits.Name l 1 0 name short (λ _. omega arith) e

entries_keep : (l : TreeLimit) (s : EntriesSeen) (es : List Entry)
    → (l ≡ limits.Name → AllByRecursion (λ (e : Entry). IsShort e.interface) es)
    → KeepsFrom {B = Unit {0}} entry_grow (λ s e. too_long e.interface ≡ Some l → ⊥) Nothing s es tt
entries_keep l s [] short = tt
entries_keep l s (e ∷ es) short = (short_entry l e.interface (λ k. (short k).0), entries_keep l (entry_grow s e) es (λ k. (short k).1))

items_keep : (l : TreeLimit) (s : ItemsSeen) (xs : List Item) → (l ≡ limits.Name → AllByRecursion HasShortNames xs)
    → (l ≡ limits.Interfaces → s.interfaces + how_many one_interface xs ≤ max_interfaces)
    → (l ≡ limits.Coclasses → s.coclasses + how_many one_coclass xs ≤ max_coclasses)
    → (l ≡ limits.Members → AllByRecursion HasFewMembers xs)
    → (l ≡ limits.Params → AllByRecursion HasFewParameters xs) → ItemsKeep l s xs
items_keep l s [] short few1 few2 few3 few4 = tt
items_keep l s (items.Interface d ∷ xs) short few1 few2 few3 few4 = (
  (
    not_over limits.Interfaces l max_interfaces s.interfaces d.name (λ e. (short e).0.0) (λ e. omega (arith, few1 e)),
    members_keep l 0 d.properties d.methods (λ e. (short e).0.1) (λ e. (short e).0.2) (λ e. omega (arith, (few3 e).0)) (λ e. (few4 e).0),
  ),
  items_keep l (items_grow s (items.Interface d)) xs (λ e. (short e).1) (λ e. omega (arith, few1 e)) (λ e. omega (arith, few2 e)) (λ e. (few3 e).1)
      (λ e. (few4 e).1),
)
items_keep l s (items.Coclass c ∷ xs) short few1 few2 few3 few4 = (
  (
    not_over limits.Coclasses l max_coclasses s.coclasses c.name (λ e. (short e).0.0) (λ e. omega (arith, few2 e)),
    entries_keep l no_entry c.entries
        (λ e. (short e).0.1),
  ),
  items_keep l (items_grow s (items.Coclass c)) xs (λ e. (short e).1) (λ e. omega (arith, few1 e)) (λ e. omega (arith, few2 e)) (λ e. (few3 e).1)
      (λ e. (few4 e).1),
)

pub tree_keeps : (l : TreeLimit) (t : TreeValue) → KeepsLimit l t → TreeKeeps l t
tree_keeps limits.Name t k = (
  short_entry limits.Name t.name (λ _. k.0),
  items_keep limits.Name no_items t.items (λ _. k.1) (λ e. absurd cc) (λ e. absurd cc) (λ e. absurd cc)
      (λ e. absurd cc),
)
tree_keeps limits.Interfaces t k = (
  short_entry limits.Interfaces t.name (λ e. absurd cc),
  items_keep limits.Interfaces no_items t.items (λ e. absurd cc) (λ _. omega (arith, k))
      (λ e. absurd cc) (λ e. absurd cc) (λ e. absurd cc),
)
tree_keeps limits.Coclasses t k = (
  short_entry limits.Coclasses t.name (λ e. absurd cc),
  items_keep limits.Coclasses no_items t.items (λ e. absurd cc) (λ e. absurd cc)
      (λ _. omega (arith, k)) (λ e. absurd cc) (λ e. absurd cc),
)
tree_keeps limits.Members t k = (
  short_entry limits.Members t.name (λ e. absurd cc),
  items_keep limits.Members no_items t.items (λ e. absurd cc) (λ e. absurd cc) (λ e. absurd cc) (λ _. k)
      (λ e. absurd cc),
)
tree_keeps limits.Params t k = (
  short_entry limits.Params t.name (λ e. absurd cc),
  items_keep limits.Params no_items t.items (λ e. absurd cc) (λ e. absurd cc) (λ e. absurd cc)
      (λ e. absurd cc) (λ _. k),
)

-- ---- A limit that is kept step by step is kept by the tree.

parameters_kept : (n : ℕ) (ps : List Parameter) → n ≤ max_parameters → KeepsFrom {B = Unit {0}} one_more ParameterKept NoEndLimit n ps tt
    → AllByRecursion (λ (p : Parameter). IsShort p.name) ps × (n + length ps ≤ max_parameters)
parameters_kept n [] le k = (tt, omega (arith, le))
parameters_kept n (p ∷ ps) le k =
    let one = over_none limits.Params max_parameters n p.name k.0 in
    let others = parameters_kept (n + 1) ps (omega (arith, one.1)) k.1 in
    ((one.0, others.0), omega (arith, others.1))

methods_kept : (n : ℕ) (ms : List MethodValue) → n ≤ max_members → MethodsKept n ms
    → AllByRecursion HasShortParameters ms × (n + length ms ≤ max_members)
    × AllByRecursion (λ (m : MethodValue). length m.parameters ≤ max_parameters) ms
methods_kept n [] le k = (tt, omega (arith, le), tt)
methods_kept n (m ∷ ms) le k =
    let one = over_none limits.Members max_members n m.name k.0.0 in
    let inside = parameters_kept 0 m.parameters (omega arith) k.0.1 in
    let others = methods_kept (n + 1) ms (omega (arith, one.1)) k.1 in
    (((one.0, inside.0), others.0), omega (arith, others.1), (omega (arith, inside.1), others.2))

members_kept : (n : ℕ) (ps : List Property) (ms : List MethodValue) → n ≤ max_members → KeepsFrom one_more MemberKept MethodsKept n ps ms
    → AllByRecursion (λ (p : Property). IsShort p.name) ps × AllByRecursion HasShortParameters ms
    × (n + (length ps + length ms) ≤ max_members)
    × AllByRecursion (λ (m : MethodValue). length m.parameters ≤ max_parameters) ms
members_kept n [] ms le k = let h = methods_kept n ms le k in (tt, h.0, omega (arith, h.1), h.2)
members_kept n (p ∷ ps) ms le k =
    let one = over_none limits.Members max_members n p.name k.0 in
    let others = members_kept (n + 1) ps ms (omega (arith, one.1)) k.1 in
    ((one.0, others.0), others.1, omega (arith, others.2), others.3)

entries_kept : (s : EntriesSeen) (es : List Entry)
    → KeepsFrom {B = Unit {0}} entry_grow (λ s e. too_long e.interface ≡ None) Nothing s es tt
    → AllByRecursion (λ (e : Entry). IsShort e.interface) es
entries_kept s [] k = tt
entries_kept s (e ∷ es) k = ((over_none limits.Name 1 0 e.interface k.0).0, entries_kept (entry_grow s e) es k.1)

pub record KeptItems (s : ItemsSeen) (xs : List Item) : Type 0 where
  pub names : AllByRecursion HasShortNames xs
  pub interfaces : s.interfaces + how_many one_interface xs ≤ max_interfaces
  pub coclasses : s.coclasses + how_many one_coclass xs ≤ max_coclasses
  pub members : AllByRecursion HasFewMembers xs
  pub parameters : AllByRecursion HasFewParameters xs

items_kept : (s : ItemsSeen) (xs : List Item) → s.interfaces ≤ max_interfaces → s.coclasses ≤ max_coclasses → ItemsKept s xs
    → KeptItems s xs
items_kept s [] le1 le2 k = record { names = tt; interfaces = omega (arith, le1); coclasses = omega (arith, le2); members = tt; parameters = tt }
items_kept s (items.Interface d ∷ xs) le1 le2 k =
    let one = over_none limits.Interfaces max_interfaces s.interfaces d.name k.0.0 in
    let inside = members_kept 0 d.properties d.methods (omega arith) k.0.1 in
    let others = items_kept (items_grow s (items.Interface d)) xs (omega (arith, one.1)) le2 k.1 in
    record {
      names = ((one.0, inside.0, inside.1), others.names);
      interfaces = omega (arith, others.interfaces);
      coclasses =
          omega (arith, others.coclasses);
      members = (omega (arith, inside.2), others.members);
      parameters = (inside.3, others.parameters);
    }
items_kept s (items.Coclass c ∷ xs) le1 le2 k =
    let one = over_none limits.Coclasses max_coclasses s.coclasses c.name k.0.0 in
    let others = items_kept (items_grow s (items.Coclass c)) xs le1 (omega (arith, one.1)) k.1 in
    record {
      names = ((one.0, entries_kept no_entry c.entries k.0.1), others.names);
      interfaces =
          omega (arith, others.interfaces);
      coclasses = omega (arith, others.coclasses);
      members = (tt, others.members);
      parameters =
          (tt, others.parameters);
    }

pub tree_kept : (t : TreeValue) → TreeKept t → (l : TreeLimit) → KeepsLimit l t
tree_kept t k l = by_limit l (items_kept no_items t.items (omega arith) (omega arith) k.1)
  where
    by_limit : (l : TreeLimit) → KeptItems no_items t.items → KeepsLimit l t
    by_limit limits.Name h = ((over_none limits.Name 1 0 t.name k.0).0, h.names)
    by_limit limits.Interfaces h = omega (arith, h.interfaces)
    by_limit limits.Coclasses h = omega (arith, h.coclasses)
    by_limit limits.Members h = h.members
    by_limit limits.Params h = h.parameters
