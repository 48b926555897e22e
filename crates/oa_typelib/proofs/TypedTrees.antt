-- In the tree of a text each declaration has types that may be declared, also when its defaults are marked.
use Rattle.std.proofs.Common.{◌≡◌, ◌==◌, slice_get, true≢false, refl, sym, subst, ⊎_elim, ℕ, Bool, true, false}
use Rattle.std.proofs.Common.{if◌then◌else◌, List, [], ◌∷◌, ◌++◌, map, Option, Some, None, is_some, IsSome, IfSome}
use Rattle.std.proofs.lemmas.Option.{none-some}
use Rattle.std.specs.List.{AllByRecursion}
use Rattle.oa_model.specs.promise.Types.{sf_type_of}
use Rattle.oa_model.specs.declared.var_type.VarType.{VarType}
use Rattle.oa_model.specs.declared.var_type.ValueType.{ValueType}
use Rattle.oa_model.specs.declared.var_type.ValueType.TheVariants.{One, Array}
use Rattle.oa_variant.specs.Variants.{HasZero}
use Rattle.oa_idl.specs.promise.Forms.{Word, Language, listed, nowhere}
use Rattle.oa_idl.specs.promise.Words.{word_type, type_named, if_cell}
use Rattle.oa_idl.specs.promise.Grammar.{value_type, property, result_type, parameter, separated, method, methods}
use Rattle.oa_idl.specs.promise.Grammar.{members, entry, entry_grow, last_entry, no_entry, item, LibraryContent}
use Rattle.oa_idl.specs.promise.Grammar.{element, library_contents, items_in, library}
use Rattle.oa_idl.specs.promise.Grammar.LibraryContent.{Import, OfItem}
use Rattle.oa_idl.specs.promise.Trees.{TreeValue}
use Rattle.oa_idl.specs.promise.MethodValues.{MethodValue}
use Rattle.oa_idl.specs.declared.parts.Entry.{Entry}
use Rattle.oa_idl.specs.declared.parts.MethodKind.{MethodKind}
use Rattle.oa_idl.specs.declared.parts.Parameter.{Parameter}
use Rattle.oa_idl.specs.declared.parts.Property.{Property}
use Rattle.oa_idl.specs.declared.items.Item.{Item}
use Rattle.oa_idl.specs.declared.items.Item.TheVariants.{Interface, Coclass}
use Rattle.oa_sema.specs.promise.Declarations.{of_property, of_method}
use Rattle.oa_sema.specs.promise.Libraries.{marked, marked_item}
use Rattle.oa_typelib.specs.Typed.{IsTypedDeclaration, IsTypedItem, IsTyped, IsOfText}

-- a word that names the type of cells
guarded : (b : Bool) (o : Option VarType) (t : VarType) → (if b then o else None) ≡ Some t → o ≡ Some t
guarded true o t e = e
guarded false o t e = absurd (none-some t e)

same_inside : (s t : VarType) → Some s ≡ Some t → s ≡ t
same_inside s t e = cc

with_cells : (s t : VarType) (o : Option ℕ) → o ≡ sf_type_of s → (if is_some o then Some s else None) ≡ Some t → IsSome (sf_type_of t)
with_cells s t None is e = absurd (none-some t e)
with_cells s t (Some n) is e = subst (λ v. IsSome (sf_type_of v)) (same_inside s t e) (subst IsSome is refl)

cell_typed : (o : Option VarType) (t : VarType) → if_cell true o ≡ Some t → IsSome (sf_type_of t)
cell_typed None t e = absurd (none-some t e)
cell_typed (Some s) t e = with_cells s t (sf_type_of s) refl e

word_typed : (unsigned : Bool) (t : VarType) (w : Word) → word_type true unsigned w ≡ Some t → IsSome (sf_type_of t)
unfolding word_type
word_typed unsigned t w e = cell_typed (type_named unsigned w.text) t (guarded _ (if_cell true (type_named unsigned w.text)) t e)

type_typed : (v : ValueType) (ws : List Word) → value_type v ws → HasZero v
unfolding value_type
type_typed (One t) ws f = tt
type_typed (Array t) ws f = ⊎_elim (λ u. word_typed true t u.second.word u.second.is) (λ o. word_typed false t o.word o.is) f.second.second.first

-- A property of each form of a list holds for each of its entries.
listed_all : {S A B : Type 0} (F : S → A → Language) (grow : S → A → S) (apart : A → Word → Bool) (E : S → B → Language) (P : A → Type 0)
    → ((s : S) (x : A) (ws : List Word) → F s x ws → P x) → (s : S) (xs : List A) (b : B) (ws : List Word) → listed F grow apart E s xs b ws
    → AllByRecursion P xs
listed_all F grow apart E P each s [] b ws l = tt
listed_all F grow apart E P each s (x ∷ xs) b ws l = (each s x l.front l.first, listed_all F grow apart E P each (grow s x) xs b l.second.back l.second.second)

-- A property of each form of the end holds for the end.
listed_end : {S A B : Type 0} (F : S → A → Language) (grow : S → A → S) (apart : A → Word → Bool) (E : S → B → Language) (P : B → Type 0)
    → ((s : S) (b : B) (ws : List Word) → E s b ws → P b) → (s : S) (xs : List A) (b : B) (ws : List Word) → listed F grow apart E s xs b ws → P b
listed_end F grow apart E P each s [] b ws l = each s b ws l
listed_end F grow apart E P each s (x ∷ xs) b ws l = listed_end F grow apart E P each (grow s x) xs b l.second.back l.second.second

property_typed : (p : Property) (ws : List Word) → property p ws → IsTypedDeclaration (of_property p)
property_typed p ws f = (type_typed p.value_type f.second.front f.second.first, tt)

result_typed : (k : MethodKind) (t : Option ValueType) (ws : List Word) → result_type k t ws → IfSome t HasZero
unfolding result_type
result_typed k None ws f = tt
result_typed k (Some t) ws f = type_typed t ws f.1

parameter_typed : (p : Parameter) (ws : List Word) → parameter p ws → HasZero p.value_type
unfolding parameter
parameter_typed p ws f = ⊎_elim (λ l. type_typed p.value_type l.second.front l.second.first) (λ r. type_typed p.value_type r.1.front r.1.first) f

separated_typed : (b : Bool) (p : Parameter) (ws : List Word) → separated b p ws → HasZero p.value_type
separated_typed true p ws f = parameter_typed p ws f
separated_typed false p ws f = parameter_typed p f.back f.second

method_typed : (m : MethodValue) (ws : List Word) → method m ws → IsTypedDeclaration (of_method m)
unfolding method
method_typed m ws f = let b = f.second in let l = b.second.second.second in (
  result_typed m.kind m.value_type b.front b.first,
  listed_all _ _ _ _ (λ (p : Parameter). HasZero p.value_type) (λ n. separated_typed (n == 0)) 0 m.parameters tt l.front l.first,
)

methods_typed : (n : ℕ) (ms : List MethodValue) (ws : List Word) → methods n ms ws → AllByRecursion (λ m. IsTypedDeclaration (of_method m)) ms
methods_typed n ms ws f = ⊎_elim
    (λ l. listed_all _ _ _ _ (λ (m : MethodValue). IsTypedDeclaration (of_method m)) (λ k. method_typed) n ms tt l.second.back l.second.second)
    (λ none. subst (AllByRecursion (λ (m : MethodValue). IsTypedDeclaration (of_method m))) (sym none.0) tt) f

-- A property of two lists holds for both, one after the other.
both_typed : (ps : List Property) (ms : List MethodValue) → AllByRecursion (λ p. IsTypedDeclaration (of_property p)) ps
    → AllByRecursion (λ m. IsTypedDeclaration (of_method m)) ms → AllByRecursion IsTypedDeclaration (map of_property ps ++ map of_method ms)
both_typed (p ∷ ps) ms all rest = (all.0, both_typed ps ms all.1 rest)
both_typed [] [] all rest = tt
both_typed [] (m ∷ ms) all rest = (rest.0, both_typed [] ms tt rest.1)

members_typed : (ps : List Property) (ms : List MethodValue) (ws : List Word) → members ps ms ws
    → AllByRecursion IsTypedDeclaration (map of_property ps ++ map of_method ms)
members_typed ps ms ws f = ⊎_elim
    (λ l. both_typed ps ms
    (listed_all _ _ _ _ (λ (p : Property). IsTypedDeclaration (of_property p)) (λ n. property_typed) 0 ps ms l.second.back l.second.second)
    (listed_end _ _ _ _ (λ xs. AllByRecursion (λ (m : MethodValue). IsTypedDeclaration (of_method m)) xs) methods_typed 0 ps ms l.second.back l.second.second))
    (λ r. both_typed ps ms (subst (AllByRecursion (λ (p : Property). IsTypedDeclaration (of_property p))) (sym r.0) tt) (methods_typed 0 ms ws r.1)) f

item_typed : (x : Item) (ws : List Word) → item x ws → IsTypedItem x
item_typed (Interface d) ws f = let body = f.form.second.1 in
    members_typed d.properties d.methods body.second.second.second.front body.second.second.second.first
item_typed (Coclass c) ws f = tt

-- A property of each item of the grammar holds for each item of a tree.
module _ (P : Item → Type 0) (each : (x : Item) (ws : List Word) → item x ws → P x) where
  abbrev OfContent : LibraryContent → Type 0
  OfContent Import = Unit {0}
  OfContent (OfItem x) = P x

  content_all : (e : LibraryContent) (ws : List Word) → element e ws → OfContent e
  unfolding element
  content_all Import ws f = tt
  content_all (OfItem x) ws f = each x ws f

  items_all : (es : List LibraryContent) → AllByRecursion OfContent es → AllByRecursion P (items_in es)
  items_all [] all = tt
  items_all (Import ∷ es) all = items_all es all.1
  items_all (OfItem x ∷ es) all = (all.0, items_all es all.1)

  elements_all : (xs : List Item) (ws : List Word) → library_contents xs ws → AllByRecursion P xs
  unfolding library_contents
  elements_all xs ws f = subst (AllByRecursion P) (sym f.form.second.fact)
      (items_all f.value (listed_all _ _ _ _ OfContent (λ s. content_all) _ f.value tt f.form.front f.form.first))

  pub tree_all : (t : TreeValue) (ws : List Word) → library t ws → AllByRecursion P t.items
  tree_all t ws f = elements_all t.items f.second.second.second.second.front f.second.second.second.second.first

-- ---- a coclass has an entry
some_entry : (es : List Entry) (ws : List Word) → listed entry entry_grow nowhere last_entry no_entry es tt ws → IsSome (slice_get es 0)
some_entry [] ws l = absurd (true≢false (sym l.0))
some_entry (e ∷ es) ws l = refl

abbrev pub HasEntry : Item → Type 0
HasEntry (Interface i) = Unit {0}
HasEntry (Coclass c) = IsSome (slice_get c.entries 0)

pub item_entered : (x : Item) (ws : List Word) → item x ws → HasEntry x
item_entered (Interface i) ws f = tt
item_entered (Coclass c) ws f = let body = f.form.second.1 in some_entry c.entries body.second.second.second.front body.second.second.second.first

mark_typed : (items : List Item) → AllByRecursion IsTypedItem items → AllByRecursion IsTypedItem (map marked_item items)
mark_typed [] all = tt
mark_typed (Interface i ∷ items) all = (all.0, mark_typed items all.1)
mark_typed (Coclass c ∷ items) all = (tt, mark_typed items all.1)

pub marked_typed : (t : TreeValue) → IsOfText t → IsTyped (marked t)
marked_typed t of_text = mark_typed t.items (tree_all IsTypedItem item_typed t _ of_text.1.form)
