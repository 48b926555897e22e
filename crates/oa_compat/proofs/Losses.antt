-- Nothing of a library is lost exactly where another keeps it.
use Rattle.std.proofs.Common.{◌≡◌, ℕ, zero, suc, Bool, true, false, cond, not, ◌&&◌, ◌||◌, List, [], ◌∷◌, ◌++◌, map, find, slice_get}
use Rattle.std.proofs.Common.{Option, None, Some, is_some, refl, sym, ap, subst, ◌∙◌, true≢false, if◌then◌else◌}
use Rattle.std.proofs.lemmas.Bool.{and_parts, and_from, or_parts}
use Rattle.std.proofs.lemmas.Bool.Decides.{Decides-int_eq}
use Rattle.std.proofs.lemmas.Cmp.{nat_list_eq_equiv}
use Rattle.std.proofs.lemmas.List.Folds.{list_any-append}
use Rattle.std.proofs.lemmas.Option.{none-some}
use Rattle.std.specs.Cmp.Lexicographic.{pointwise}
use Rattle.std.specs.List.{list_any, filter, flat_map}
use Rattle.std.specs.Option.{option_and_then, option_eq, option_map, option_map_or, option_or}
use Rattle.std.specs.Ordering.{int_eq}
use Rattle.oa_model.specs.promise.Folding.{folded_name}
use Rattle.oa_idl.specs.promise.Trees.{TreeValue}
use Rattle.oa_idl.specs.promise.Values.{InterfaceValue, CoclassValue}
use Rattle.oa_idl.specs.declared.items.Item.{Item}
use Rattle.oa_idl.specs.declared.items.Item.TheVariants.{Interface, Coclass}
use Rattle.oa_sema.specs.promise.Agreement.{same_parameter, same_result}
use Rattle.oa_sema.specs.promise.Breaches.{first_breach, form_breaches, guid_breach, id_breach, interface_breach}
use Rattle.oa_sema.specs.promise.Breaches.{key_breaches, name_breach, text_breach, tree_breach}
use Rattle.oa_typelib.specs.promise.Checked.{IsChecked}
use Rattle.oa_sema.specs.promise.DeclarationValues.{DeclarationValue}
use Rattle.oa_sema.specs.promise.Declarations.{declarations, is_put}
use Rattle.oa_typelib.specs.promise.Descriptions.{classes_of, first_names, interfaces_of, member_names}
use Rattle.oa_typelib.specs.promise.Descriptions.{members_described, put_last}
use Rattle.oa_sema.specs.promise.Repeats.{Has, first_answer, first_repeat}
use Rattle.oa_compat.specs.promise.Keeps.{IsKeptBy, KeepsDeclaration, KeepsInterface, IsOf, HasGuid, KeepsClass}
use Rattle.oa_compat.specs.promise.Keeps.{KeepsLibrary, default_guid, same_declaration_kind, is_kept_by}
use Rattle.oa_compat.specs.promise.Keeps.{lost_declaration, lost_member, lost_of_interface, lost_interface}
use Rattle.oa_compat.specs.promise.Keeps.{interface_in, keeps_entry, keeps_entries, keeps_default, keeps_class}
use Rattle.oa_compat.specs.promise.Keeps.{lost_class, first_lost}
use Rattle.oa_sema.specs.promise.Libraries.{as_class, as_interface, class_of, item_guid, has_interface, if_entered}
use Rattle.oa_sema.specs.promise.Libraries.{interface_of, item_with, same, same_name}
use Rattle.oa_typelib.specs.promise.Members.{forms_named}
use Rattle.oa_sema.specs.declared.fault.CheckError.TheVariants.{DuplicateName, DuplicateId, DuplicateGuid, UnknownInterface}
use Rattle.oa_compat.specs.declared.lost.Incompatibility.TheVariants as losses
use Rattle.oa_typelib.proofs.Finds.{guid_kept, kept}
use Rattle.oa_typelib.proofs.Naming.{filtered, in_filter, name_symm, unless}
use Rattle.oa_typelib.proofs.Same.{inside, none_at, all_none, any_at, at_any, all_at, all_from, in_mapped, mapped_in, found_at, or_true}
use Rattle.oa_typelib.proofs.Same.{same_itself, are_same, results_are, result_itself}
use Rattle.oa_compat.proofs.SameKinds.{kind_itself, kinds_are}
use Rattle.oa_typelib.proofs.Sound.{neither, unmapped}

-- ---- no GUID stands twice in a library, so what has one is found by it

abbrev Once : List (List ℕ) → List Item → Type 0
Once before items = first_repeat same (λ g. g) before (map item_guid items) ≡ None

first_once : (before : List (List ℕ)) (y : Item) (ys : List Item) → Once before (y ∷ ys)
    → (list_any (same (item_guid y)) before ≡ false) × Once (before ++ item_guid y ∷ []) ys
unfolding first_repeat
first_once before y ys once = unless (list_any (same (item_guid y)) before) (item_guid y) _ once

not_before : (before : List (List ℕ)) (items : List Item) → Once before items → (n : ℕ) (x : Item) → slice_get items n ≡ Some x
    → list_any (same (item_guid x)) before ≡ false
not_before before [] once n x h = absurd cc
not_before before (y ∷ ys) once zero x h = subst (λ (z : Item). list_any (same (item_guid z)) before ≡ false) (inside y x h) (first_once before y ys once).0
not_before before (y ∷ ys) once (suc n) x h =
    (or_parts (list_any (same (item_guid x)) before) _
    (sym (list_any-append (same (item_guid x)) before (item_guid y ∷ [])) ∙ not_before (before ++ item_guid y ∷ []) ys (first_once before y ys once).1 n x h)).0

own_item : (before : List (List ℕ)) (items : List Item) → Once before items → (n : ℕ) (x : Item) → slice_get items n ≡ Some x
    → find (λ y. same (item_guid x) (item_guid y)) items ≡ Some x
own_item before [] once n x h = absurd cc
own_item before (y ∷ ys) once zero x h =
    subst (λ (z : Item). find (λ w. same (item_guid z) (item_guid w)) (y ∷ ys) ≡ Some z) (inside y x h)
    (ap (λ b. cond b (Some y) (find (λ w. same (item_guid y) (item_guid w)) ys)) (same_itself (item_guid y)))
own_item before (y ∷ ys) once (suc n) x h =
    let rest = (first_once before y ys once).1 in
    let last =
    (or_parts (list_any (same (item_guid x)) before) _
    (sym (list_any-append (same (item_guid x)) before (item_guid y ∷ [])) ∙ not_before (before ++ item_guid y ∷ []) ys rest n x h)).1 in
    let differs : same (item_guid x) (item_guid y) ≡ false = (or_parts (same (item_guid x) (item_guid y)) false last).0 in
    ap (λ b. cond b (Some y) (find (λ w. same (item_guid x) (item_guid w)) ys)) differs ∙ own_item (before ++ item_guid y ∷ []) ys rest n x h

no_guid_breach : (t : TreeValue) → first_breach t ≡ None → guid_breach t.guid t.items ≡ None
no_guid_breach t e =
    let a = neither (tree_breach t) (text_breach t) e in
    let b = neither (key_breaches t) (option_or (option_map UnknownInterface (interface_breach t.items)) (form_breaches t.items)) a.0 in
    let c = neither (option_map DuplicateName (name_breach t.items))
    (option_or (option_map DuplicateId (id_breach t.items)) (option_map DuplicateGuid (guid_breach t.guid t.items))) b.0 in
    let d = neither (option_map DuplicateId (id_breach t.items)) (option_map DuplicateGuid (guid_breach t.guid t.items)) c.1 in
    unmapped DuplicateGuid (guid_breach t.guid t.items) d.1

each_once : (t : TreeValue) → IsChecked t → (before : List (List ℕ)) × Once before t.items
unfolding first_repeat
each_once t is =
    let w = is.1.tree in (
      w.guid ∷ [],
      subst (λ (u : TreeValue). Once (w.guid ∷ []) u.items) (sym is.1.says)
          (ap (first_repeat same (λ g. g) (w.guid ∷ [])) (kept item_guid guid_kept w.items) ∙ no_guid_breach w is.1.unbroken),
    )

own : (t : TreeValue) → IsChecked t → (n : ℕ) (x : Item) → slice_get t.items n ≡ Some x → item_with t.items (item_guid x) ≡ Some x
own t is n x h = let once = each_once t is in own_item once.0 t.items once.1 n x h

-- an item that is an interface, or a coclass
pub was_interface : (x : Item) (i : InterfaceValue) → as_interface x ≡ Some i → x ≡ Interface i
was_interface (Interface j) i h = ap Interface (inside j i h)
was_interface (Coclass c) i h = absurd cc

pub was_class : (x : Item) (c : CoclassValue) → as_class x ≡ Some c → x ≡ Coclass c
was_class (Interface j) c h = absurd cc
was_class (Coclass d) c h = ap Coclass (inside d c h)

pub interface_found : (t : TreeValue) → IsChecked t → (i : InterfaceValue) → Has (interfaces_of t.items) i → interface_of t i.guid ≡ Some i
interface_found t is i h =
    let r = in_mapped as_interface t.items h.0 i h.1 in
    let e = was_interface r.1 i r.3 in
    ap (option_and_then as_interface) (own t is r.0 (Interface i) (r.2 ∙ ap (λ (x : Item). Some x) e))

pub class_found : (t : TreeValue) → IsChecked t → (c : CoclassValue) → Has (classes_of t.items) c → class_of t c.guid ≡ Some c
class_found t is c h =
    let r = in_mapped as_class t.items h.0 c h.1 in
    let e = was_class r.1 c r.3 in
    ap (option_and_then as_class) (own t is r.0 (Coclass c) (r.2 ∙ ap (λ (x : Item). Some x) e))

-- and what is found is there, and has the GUID
pub interface_there : (t : TreeValue) (guid : List ℕ) (i : InterfaceValue) → interface_of t guid ≡ Some i → Has (interfaces_of t.items) i × (guid ≡ i.guid)
interface_there t guid i h = by (item_with t.items guid) refl h
  where
    by : (o : Option Item) → item_with t.items guid ≡ o → option_and_then as_interface o ≡ Some i → Has (interfaces_of t.items) i × (guid ≡ i.guid)
    by None is k = absurd (none-some i k)
    by (Some x) is k =
        let r = found_at (λ y. same guid (item_guid y)) t.items x is in
        (mapped_in as_interface t.items r.0 x i r.1 k, are_same guid i.guid (ap (λ (y : Item). same guid (item_guid y)) (sym (was_interface x i k)) ∙ r.2))

pub class_there : (t : TreeValue) (guid : List ℕ) (c : CoclassValue) → class_of t guid ≡ Some c → Has (classes_of t.items) c × (guid ≡ c.guid)
class_there t guid c h = by (item_with t.items guid) refl h
  where
    by : (o : Option Item) → item_with t.items guid ≡ o → option_and_then as_class o ≡ Some c → Has (classes_of t.items) c × (guid ≡ c.guid)
    by None is k = absurd (none-some c k)
    by (Some x) is k =
        let r = found_at (λ y. same guid (item_guid y)) t.items x is in
        (mapped_in as_class t.items r.0 x c r.1 k, are_same guid c.guid (ap (λ (y : Item). same guid (item_guid y)) (sym (was_class x c k)) ∙ r.2))

-- ---- one declaration

pub is_kept : (was now : DeclarationValue) → is_kept_by was now ≡ true → IsKeptBy was now
unfolding is_kept_by
is_kept was now e =
    let a = int_eq was.id now.id in
    let b = same_declaration_kind was.kind now.kind in
    let c = same_name was.name now.name in
    let d = same_result was.value_type now.value_type in
    let p = and_parts (((a && b) && c) && d) (pointwise same_parameter was.parameters now.parameters) e in
    let q = and_parts ((a && b) && c) d p.0 in
    let r = and_parts (a && b) c q.0 in
    let s = and_parts a b r.0 in
    record {
      name = r.1;
      id = sym ((Decides-int_eq was.id now.id).0 s.0);
      kind = kinds_are was.kind now.kind s.1;
      type = sym (results_are was.value_type now.value_type q.1);
      parameters = p.1;
    }

pub by_kept : (was now : DeclarationValue) → IsKeptBy was now → is_kept_by was now ≡ true
unfolding is_kept_by
by_kept was now h =
    let a = (Decides-int_eq was.id now.id).1 (sym h.id) in
    let b = ap (same_declaration_kind was.kind) h.kind ∙ kind_itself was.kind in
    let d = ap (same_result was.value_type) h.type ∙ result_itself was.value_type in
    and_from _ _ (and_from _ _ (and_from _ _ (and_from _ _ a b) h.name) d) h.parameters

-- ---- a description of an interface has all its declarations, and no others

name_itself : (a : List ℕ) → same_name a a ≡ true
name_itself a = same_itself (folded_name a)

either : (a b c : Bool) → (a || (b || c)) ≡ ((a || b) || c)
either true b c = refl
either false b c = refl

-- each name is equal to one that is taken
taken : (name : List ℕ) (before names : List (List ℕ)) → list_any (same_name name) names ≡ true
    → (list_any (same_name name) before || list_any (same_name name) (first_names before names)) ≡ true
unfolding first_names
taken name before [] e = absurd (true≢false (sym e))
taken name before (x ∷ names) e = by (same_name name x) refl (list_any (same_name x) before) refl e (taken name before names)
    (taken name (before ++ x ∷ []) names)
  where
    here : same_name name x ≡ true → list_any (same_name x) before ≡ true → list_any (same_name name) before ≡ true
    here is h =
        let r = any_at (same_name x) before h in
        at_any (same_name name) before r.0 r.1 r.2 (nat_list_eq_equiv.congr (folded_name name) (folded_name x) (folded_name r.1) is ∙ r.3)

    by : (s : Bool) → same_name name x ≡ s → (b : Bool) → list_any (same_name x) before ≡ b → (s || list_any (same_name name) names) ≡ true
        → (list_any (same_name name) names ≡ true → (list_any (same_name name) before || list_any (same_name name) (first_names before names)) ≡ true)
        → (list_any (same_name name) names ≡ true
        → (list_any (same_name name) (before ++ x ∷ []) || list_any (same_name name) (first_names (before ++ x ∷ []) names)) ≡ true)
        → (list_any (same_name name) before || list_any (same_name name) (if b then first_names before names else x ∷ first_names (before ++ x ∷ []) names))
        ≡ true
    by true is true seen h rest later = ap (λ b. b || list_any (same_name name) (first_names before names)) (here is seen)
    by false is true seen h rest later = rest h
    by true is false seen h rest later =
        ap (λ b. list_any (same_name name) before || (b || list_any (same_name name) (first_names (before ++ x ∷ []) names))) is
        ∙ or_true (list_any (same_name name) before)
    by false is false seen h rest later =
        either (list_any (same_name name) before) (same_name name x) (list_any (same_name name) (first_names (before ++ x ∷ []) names))
        ∙ ap (λ b. b || list_any (same_name name) (first_names (before ++ x ∷ []) names))
        (ap (λ b. list_any (same_name name) before || b) (sym (or_false (same_name name x))) ∙ sym (list_any-append (same_name name) before (x ∷ [])))
        ∙ later h
      where
        or_false : (b : Bool) → (b || false) ≡ b
        or_false true = refl
        or_false false = refl

-- what stands in a list that is put together of lists
in_first : {X : Type 0} (xs ys : List X) (n : ℕ) (x : X) → slice_get xs n ≡ Some x → Has (xs ++ ys) x
in_first [] ys n x h = absurd cc
in_first (y ∷ xs) ys zero x h = (zero, h)
in_first (y ∷ xs) ys (suc n) x h = let r = in_first xs ys n x h in (suc r.0, r.1)

in_second : {X : Type 0} (xs ys : List X) (x : X) → Has ys x → Has (xs ++ ys) x
in_second [] ys x h = h
in_second (y ∷ xs) ys x h = let r = in_second xs ys x h in (suc r.0, r.1)

of_both : {X : Type 0} (P : X → Type 0) (xs ys : List X) → ((x : X) → Has xs x → P x) → ((x : X) → Has ys x → P x) → (x : X) → Has (xs ++ ys) x → P x
of_both P [] ys first second x h = second x h
of_both P (y ∷ xs) ys first second x (zero, h) = first x (zero, h)
of_both P (y ∷ xs) ys first second x (suc n, h) = of_both P xs ys (λ z k. first z (suc k.0, k.1)) second x (n, h)

in_flat : {X Y : Type 0} (g : X → List Y) (xs : List X) (n : ℕ) (x : X) (y : Y) → slice_get xs n ≡ Some x → Has (g x) y → Has (flat_map g xs) y
in_flat g [] n x y h k = absurd cc
in_flat g (z ∷ xs) zero x y h k = let r = subst (λ w. Has (g w) y) (sym (inside z x h)) k in in_first (g z) (flat_map g xs) r.0 y r.1
in_flat g (z ∷ xs) (suc n) x y h k = in_second (g z) (flat_map g xs) y (in_flat g xs n x y h k)

of_flat : {X Y : Type 0} (P : Y → Type 0) (g : X → List Y) → ((x : X) (y : Y) → Has (g x) y → P y) → (xs : List X) (y : Y) → Has (flat_map g xs) y → P y
of_flat P g each [] y h = absurd cc
of_flat P g each (x ∷ xs) y h = of_both P (g x) (flat_map g xs) (each x) (of_flat P g each xs) y h

of_filter : {X : Type 0} (test : X → Bool) (xs : List X) (x : X) → Has (filter test xs) x → Has xs x
of_filter test xs x h = let r = in_filter test xs h.0 x h.1 in (r.0, r.1)

put_or_not : (forms : List DeclarationValue) (d : DeclarationValue) → Has forms d → Has (put_last forms) d
put_or_not forms d h = by (is_put d.kind) refl
  where
    by : (b : Bool) → is_put d.kind ≡ b → Has (put_last forms) d
    by true is = in_second (filter (λ (e : DeclarationValue). not (is_put e.kind)) forms) _ d
        (filtered (λ (e : DeclarationValue). is_put e.kind) forms h.0 d h.1 is)
    by false is = let r = filtered (λ (e : DeclarationValue). not (is_put e.kind)) forms h.0 d h.1 (ap not is) in
        in_first _ (filter (λ (e : DeclarationValue). is_put e.kind) forms) r.0 d r.1

named : (ds : List DeclarationValue) (n : ℕ) (d : DeclarationValue) → slice_get ds n ≡ Some d
    → list_any (same_name d.name) (map (λ (e : DeclarationValue). e.name) ds) ≡ true
named [] n d h = absurd cc
named (e ∷ ds) zero d h = ap (λ b. b || list_any (same_name d.name) (map (λ (e : DeclarationValue). e.name) ds))
    (ap (λ (x : DeclarationValue). same_name d.name x.name) (inside e d h) ∙ name_itself d.name)
named (e ∷ ds) (suc n) d h = ap (λ b. same_name d.name e.name || b) (named ds n d h) ∙ or_true (same_name d.name e.name)

pub described : (i : InterfaceValue) (d : DeclarationValue) → Has (declarations i) d → Has (members_described i) d
described i d h =
    let r =
    any_at (same_name d.name) (member_names i) (taken d.name [] (map (λ (e : DeclarationValue). e.name) (declarations i)) (named (declarations i) h.0 d h.1)) in
    let forms = filtered (λ (e : DeclarationValue). same_name r.1 e.name) (declarations i) h.0 d h.1 (name_symm r.1 d.name ∙ r.3) in
    in_flat (λ name. put_last (forms_named name i)) (member_names i) r.0 r.1 d r.2 (put_or_not (forms_named r.1 i) d forms)

pub declared : (i : InterfaceValue) (d : DeclarationValue) → Has (members_described i) d → Has (declarations i) d
declared i d h =
    of_flat (Has (declarations i)) (λ name. put_last (forms_named name i))
    (λ name e k. of_both (Has (declarations i)) _ _
    (λ x l. of_filter (λ (y : DeclarationValue). same_name name y.name) (declarations i) x
    (of_filter (λ (y : DeclarationValue). not (is_put y.kind)) (forms_named name i) x l))
    (λ x l. of_filter (λ (y : DeclarationValue). same_name name y.name) (declarations i) x
    (of_filter (λ (y : DeclarationValue). is_put y.kind) (forms_named name i) x l)) e k)
    (member_names i) d h

-- ---- an interface

if_none : {Y : Type 0} (b : Bool) (y : Y) → (if b then None else Some y) ≡ None → b ≡ true
if_none true y e = refl
if_none false y e = absurd cc

keeps_declaration : (now : InterfaceValue) (was : DeclarationValue) → lost_declaration now was ≡ None → KeepsDeclaration now was
keeps_declaration now was none =
    let r = any_at (is_kept_by was) (declarations now) (if_none (list_any (is_kept_by was) (declarations now)) was.id none) in
    record { declaration = r.1; declared = (r.0, r.2); kept = is_kept was r.1 r.3 }

none_lost : (now : InterfaceValue) (was : DeclarationValue) → KeepsDeclaration now was → lost_declaration now was ≡ None
none_lost now was h =
    ap (λ b. if b then None else Some was.id)
    (at_any (is_kept_by was) (declarations now) h.declared.0 h.declaration h.declared.1 (by_kept was h.declaration h.kept))

keeps_interface : (new : TreeValue) (was : InterfaceValue) → lost_interface new was ≡ None → KeepsInterface new.items was
keeps_interface new was none = by (interface_of new was.guid) refl none
  where
    by : (o : Option InterfaceValue) → interface_of new was.guid ≡ o → lost_of_interface o was ≡ None → KeepsInterface new.items was
    by None is h = absurd cc
    by (Some now) is h =
        let there = interface_there new was.guid now is in
        let each = none_at (lost_declaration now) (members_described was) (unmapped (losses.Member was.guid) (lost_member now was) h) in
        record {
          now = now;
          there = there.0;
          guid = sym there.1;
          declarations = λ d k. (let r = described was d k in keeps_declaration now d (each r.0 d r.1));
        }

interface_kept : (new : TreeValue) → IsChecked new → (was : InterfaceValue) → KeepsInterface new.items was → lost_interface new was ≡ None
interface_kept new is was h =
    let found : interface_of new was.guid ≡ Some h.now = ap (interface_of new) (sym h.guid) ∙ interface_found new is h.now h.there in
    let none = all_none (lost_declaration h.now) (members_described was) (λ n d k. none_lost h.now d (h.declarations d (declared was d (n, k)))) in
    ap (λ o. lost_of_interface o was) found ∙ ap (option_map (losses.Member was.guid)) none

-- ---- a coclass

same_guids : (o p : Option (List ℕ)) → option_eq same o p ≡ true → p ≡ o
same_guids None None e = refl
same_guids None (Some b) e = absurd (true≢false (sym e))
same_guids (Some a) None e = absurd (true≢false (sym e))
same_guids (Some a) (Some b) e = ap (λ (g : List ℕ). Some g) (sym (are_same a b e))

guids_same : (o : Option (List ℕ)) → option_eq same o o ≡ true
guids_same None = refl
guids_same (Some a) = same_itself a

has_unless : (b c : Bool) → (not b || c) ≡ true → b ≡ true → c ≡ true
has_unless true c e h = e
has_unless false c e h = absurd (true≢false (sym h))

unless_has : (b c : Bool) → (b ≡ true → c ≡ true) → (not b || c) ≡ true
unless_has true c h = h refl
unless_has false c h = refl

entered_is : (new : TreeValue) (now : CoclassValue) (guid : List ℕ) → is_some (interface_in new now guid) ≡ true → HasGuid (IsOf new.items now) guid
entered_is new now guid e = by (interface_of new guid) refl e
  where
    on : (i : InterfaceValue) (b : Bool) → has_interface now i ≡ b → interface_of new guid ≡ Some i → is_some (if b then Some i else None) ≡ true
        → HasGuid (IsOf new.items now) guid
    on i true has is h = let there = interface_there new guid i is in
        record { interface = i; is = record { there = there.0; entered = has }; has = sym there.1 }
    on i false has is h = absurd (true≢false (sym h))

    by : (o : Option InterfaceValue) → interface_of new guid ≡ o → is_some (option_and_then (if_entered now) o) ≡ true → HasGuid (IsOf new.items now) guid
    by None is h = absurd (true≢false (sym h))
    by (Some i) is h = on i (has_interface now i) refl is h

is_entered : (new : TreeValue) → IsChecked new → (now : CoclassValue) (guid : List ℕ) → HasGuid (IsOf new.items now) guid
    → is_some (interface_in new now guid) ≡ true
is_entered new is now guid h =
    let found : interface_of new guid ≡ Some h.interface = ap (interface_of new) (sym h.has) ∙ interface_found new is h.interface h.is.there in
    ap (λ o. is_some (option_and_then (if_entered now) o)) found ∙ ap (λ b. is_some (if b then Some h.interface else None)) h.is.entered

keeps_one : (new old : TreeValue) (was : CoclassValue) → lost_class new old was ≡ None → KeepsClass new.items old.items was
keeps_one new old was none = by (class_of new was.guid) refl (if_none (keeps_class new old was) (losses.Coclass was.guid) none)
  where
    by : (o : Option CoclassValue) → class_of new was.guid ≡ o → option_map_or (λ now. keeps_entries new old now was && keeps_default new old now was) o false
        ≡ true → KeepsClass new.items old.items was
    by None is h = absurd (true≢false (sym h))
    by (Some now) is h =
        let there = class_there new was.guid now is in
        let parts = and_parts (keeps_entries new old now was) (keeps_default new old now was) h in
        record {
          now = now;
          there = there.0;
          guid = sym there.1;
          interfaces =
              λ i k. entered_is new now i.guid (has_unless (has_interface was i) _
              (all_at (keeps_entry new now was) (interfaces_of old.items) parts.0 k.there.0 i k.there.1) k.entered);
          default = same_guids (default_guid old.items was) (default_guid new.items now) parts.1;
        }

one_kept : (new old : TreeValue) → IsChecked new → (was : CoclassValue) → KeepsClass new.items old.items was → lost_class new old was ≡ None
one_kept new old is was h =
    let found : class_of new was.guid ≡ Some h.now = ap (class_of new) (sym h.guid) ∙ class_found new is h.now h.there in
    let entries = all_from (keeps_entry new h.now was) (interfaces_of old.items)
    (λ n i k. unless_has (has_interface was i) _ (λ has. is_entered new is h.now i.guid (h.interfaces i (record { there = (n, k); entered = has })))) in
    let default = ap (option_eq same (default_guid old.items was)) h.default ∙ guids_same (default_guid old.items was) in
    ap (λ b. if b then None else Some (losses.Coclass was.guid))
    (ap (λ o. option_map_or (λ now. keeps_entries new old now was && keeps_default new old now was) o false) found
    ∙ and_from (keeps_entries new old h.now was) (keeps_default new old h.now was) entries default)

-- ---- the library

pub keeps_all : (new old : TreeValue) → first_lost new old ≡ None → KeepsLibrary new old
keeps_all new old none =
    let parts = neither (first_answer (lost_interface new) (interfaces_of old.items)) (first_answer (lost_class new old) (classes_of old.items)) none in
    record {
      interfaces = λ i h. keeps_interface new i (none_at (lost_interface new) (interfaces_of old.items) parts.0 h.0 i h.1);
      classes = λ c h. keeps_one new old c (none_at (lost_class new old) (classes_of old.items) parts.1 h.0 c h.1);
    }

pub all_kept : (new old : TreeValue) → IsChecked new → KeepsLibrary new old → first_lost new old ≡ None
all_kept new old is h =
    let interfaces = all_none (lost_interface new) (interfaces_of old.items) (λ n i k. interface_kept new is i (h.interfaces i (n, k))) in
    let classes = all_none (lost_class new old) (classes_of old.items) (λ n c k. one_kept new old is c (h.classes c (n, k))) in
    ap (λ o. option_or o (first_answer (lost_class new old) (classes_of old.items))) interfaces ∙ classes
