-- A look-up by name returns exactly what the name means.
use Rattle.std.proofs.Common.{◌≡◌, ◌-◌, ◌<◌, ◌≤◌, ℕ, ℤ, pos, zero, suc, Bool, true, false, cond, not, ◌&&◌, ◌||◌}
use Rattle.std.proofs.Common.{if◌then◌else◌, List, [], ◌∷◌, ◌++◌, length, map, take, position, slice_get}
use Rattle.std.proofs.Common.{nat_lt, Option, None, Some, refl, sym, ap, subst, ◌∙◌, true≢false, arith}
use Rattle.std.proofs.lemmas.Bool.{and_parts}
use Rattle.std.proofs.lemmas.Bool.Decides.{Decides-int_eq, nat_tests}
use Rattle.std.proofs.lemmas.Cmp.{nat_list_eq_equiv}
use Rattle.std.proofs.lemmas.Option.{slice_get-map, slice_get_within}
use Rattle.std.specs.Bool.{beq}
use Rattle.std.specs.Cmp.Lexicographic.{pointwise}
use Rattle.std.specs.List.{AllByRecursion, filter, list_any, position_or_len}
use Rattle.std.specs.Option.{option_map, option_and_then, option_or}
use Rattle.std.specs.Ordering.{int_eq}
use Rattle.oa_model.specs.promise.Folding.{folded_name}
use Rattle.oa_model.specs.promise.Limits.{max_parameters}
use Rattle.oa_idl.specs.promise.Trees.{TreeValue}
use Rattle.oa_idl.specs.promise.Values.{InterfaceValue}
use Rattle.oa_idl.specs.declared.parts.Parameter.{Parameter}
use Rattle.oa_idl.specs.declared.items.Item.{Item}
use Rattle.oa_idl.specs.declared.items.Item.TheVariants.{Interface, Coclass}
use Rattle.oa_sema.specs.promise.Agreement.{same_value_type, same_result, same_default, is_optional, same_parameter}
use Rattle.oa_sema.specs.promise.Agreement.{agree}
use Rattle.oa_typelib.specs.Bindable.{IsSoundDeclaration, AreSound, IsSoundItem}
use Rattle.oa_sema.specs.promise.Breaches.{repeated_name, clashes, declared_breach, item_breach, inner_breach}
use Rattle.oa_sema.specs.promise.Breaches.{name_breach, id_breach, guid_breach, key_breaches, tree_breach, text_breach}
use Rattle.oa_sema.specs.promise.Breaches.{interface_breach, form_breaches, in_interface, broken_by, first_broken}
use Rattle.oa_sema.specs.promise.Breaches.{disagrees}
use Rattle.oa_typelib.specs.promise.Checked.{IsChecked}
use Rattle.oa_sema.specs.promise.DeclarationValues.{DeclarationValue}
use Rattle.oa_sema.specs.promise.Declarations.{declarations, is_put, own_parameters, type_of_value}
use Rattle.oa_sema.specs.promise.Repeats.{Has, first_repeat, first_after}
use Rattle.oa_sema.specs.promise.Libraries.{same, same_name, item_name, marked_item}
use Rattle.oa_typelib.specs.promise.Members.{form_for, forms_named, lets, main_form}
use Rattle.oa_typelib.specs.promise.Names.{ids_in, named_in, parameter_named, place_as_id}
use Rattle.oa_typelib.specs.Naming.{Declares, IsMember, IsParameterOf}
use Rattle.oa_typelib.specs.declared.access.Kind.TheVariants as kinds
use Rattle.oa_sema.specs.declared.fault.CheckError.TheVariants.{DuplicateName, DuplicateId, DuplicateGuid, UnknownInterface}
use Rattle.oa_typelib.proofs.Grouping.{position_step}
use Rattle.oa_sema.proofs.Rules.{agree_equiv}
use Rattle.oa_typelib.proofs.Same.{found_at, inside}
use Rattle.oa_typelib.proofs.Sound.{neither, unmapped, none_of, breaks_none, tree_sound}

-- ---- Lists and the entries at their places.

abbrev pub Passing : {X : Type 0} → (X → Bool) → List X → X → Type 0
Passing test xs x = (n : ℕ) × (slice_get xs n ≡ Some x) × (test x ≡ true)

pub in_filter : {X : Type 0} (test : X → Bool) (xs : List X) (n : ℕ) (x : X) → slice_get (filter test xs) n ≡ Some x → Passing test xs x
in_filter {X = X} test [] n x e = absurd cc
in_filter {X = X} test (y ∷ ys) n x e = by (test y) refl n (λ m h. in_filter test ys m x h) e
  where
    later : Passing test ys x → Passing test (y ∷ ys) x
    later p = (suc p.0, p.1, p.2)

    by : (b : Bool) → test y ≡ b → (n : ℕ) → ((m : ℕ) → slice_get (filter test ys) m ≡ Some x → Passing test ys x)
        → slice_get (cond b (y ∷ filter test ys) (filter test ys)) n ≡ Some x → Passing test (y ∷ ys) x
    by true is zero rest h = (zero, h, subst (λ (z : X). test z ≡ true) (inside y x h) is)
    by true is (suc n) rest h = later (rest n h)
    by false is n rest h = later (rest n h)

pub filtered : {X : Type 0} (test : X → Bool) (xs : List X) (m : ℕ) (x : X) → slice_get xs m ≡ Some x → test x ≡ true → Has (filter test xs) x
filtered {X = X} test [] m x e is = absurd cc
filtered {X = X} test (y ∷ ys) zero x e is = let first : test y ≡ true = ap test (inside y x e) ∙ is in (zero, rw first e)
filtered {X = X} test (y ∷ ys) (suc m) x e is = by (test y) (filtered test ys m x e is)
  where
    by : (b : Bool) → Has (filter test ys) x → Has (cond b (y ∷ filter test ys) (filter test ys)) x
    by true h = (suc h.0, h.1)
    by false h = h

either_false : (a b : Bool) → (a || b) ≡ false → (a ≡ false) × (b ≡ false)
either_false true b e = absurd (true≢false e)
either_false false b e = (refl, e)

none_any : {X : Type 0} (test : X → Bool) (xs : List X) → list_any test xs ≡ false → (n : ℕ) (x : X) → slice_get xs n ≡ Some x → test x ≡ false
none_any test [] e n x h = absurd cc
none_any test (y ∷ ys) e zero x h = ap test (sym (inside y x h)) ∙ (either_false (test y) (list_any test ys) e).0
none_any test (y ∷ ys) e (suc n) x h = none_any test ys (either_false (test y) (list_any test ys) e).1 n x h

front_at : {X : Type 0} (xs ys : List X) (n : ℕ) (x : X) → slice_get xs n ≡ Some x → slice_get (xs ++ ys) n ≡ Some x
front_at [] ys n x h = absurd cc
front_at (y ∷ xs) ys zero x h = h
front_at (y ∷ xs) ys (suc n) x h = front_at xs ys n x h

end_at : {X : Type 0} (xs : List X) (x : X) → slice_get (xs ++ x ∷ []) (length xs) ≡ Some x
end_at [] x = refl
end_at (y ∷ xs) x = end_at xs x

take_at : {X : Type 0} (k : ℕ) (xs : List X) (n : ℕ) (x : X) → slice_get (take k xs) n ≡ Some x → slice_get xs n ≡ Some x
take_at zero xs n x h = absurd cc
take_at (suc k) [] n x h = absurd cc
take_at (suc k) (y ∷ xs) zero x h = h
take_at (suc k) (y ∷ xs) (suc n) x h = take_at k xs n x h

all_at : {X : Type 0} (P : X → Type 0) (xs : List X) → AllByRecursion P xs → (n : ℕ) (x : X) → slice_get xs n ≡ Some x → P x
all_at P [] all n x h = absurd cc
all_at P (y ∷ ys) all zero x h = subst P (inside y x h) all.0
all_at P (y ∷ ys) all (suc n) x h = all_at P ys all.1 n x h

position_in : {X : Type 0} (test : X → Bool) (xs : List X) (n : ℕ) → position test xs ≡ Some n → (x : X) × (slice_get xs n ≡ Some x) × (test x ≡ true)
position_in {X = X} test [] n e = absurd cc
position_in {X = X} test (y ∷ ys) n e = by (test y) refl (position test ys) (λ m h. position_in test ys m h) n
    (sym (position_step (test y) (position_or_len test ys) (length ys)) ∙ e)
  where
    by : (b : Bool) → test y ≡ b → (o : Option ℕ) → ((m : ℕ) → o ≡ Some m → (x : X) × (slice_get ys m ≡ Some x) × (test x ≡ true)) → (n : ℕ)
        → cond b (Some zero) (option_map (λ m. suc m) o) ≡ Some n → (x : X) × (slice_get (y ∷ ys) n ≡ Some x) × (test x ≡ true)
    by true is o rest zero h = (y, refl, is)
    by true is o rest (suc n) h = absurd cc
    by false is None rest n h = absurd cc
    by false is (Some m) rest zero h = absurd cc
    by false is (Some m) rest (suc n) h = rest n cc

has_position : {X : Type 0} (test : X → Bool) (xs : List X) (n : ℕ) (x : X) → slice_get xs n ≡ Some x → test x ≡ true → (m : ℕ) × (position test xs ≡ Some m)
has_position {X = X} test [] n x h is = absurd cc
has_position {X = X} test (y ∷ ys) zero x h is = let first : test y ≡ true = ap test (inside y x h) ∙ is in
    (zero, position_step (test y) (position_or_len test ys) (length ys) ∙ rw first refl)
has_position {X = X} test (y ∷ ys) (suc n) x h is =
    let later = has_position test ys n x h is in
    let r = by (test y) (position test ys) later in
    (r.0, position_step (test y) (position_or_len test ys) (length ys) ∙ r.1)
  where
    by : (b : Bool) (o : Option ℕ) → ((m : ℕ) × (o ≡ Some m)) → (m : ℕ) × (cond b (Some zero) (option_map (λ m. suc m) o) ≡ Some m)
    by true o h = (zero, refl)
    by false o h = (suc h.0, ap (option_map (λ m. suc m)) h.1)

pointwise_at : {X : Type 0} (eq : X → X → Bool) (xs ys : List X) → pointwise eq xs ys ≡ true → (n : ℕ) (x : X) → slice_get xs n ≡ Some x → (y : X)
    × (slice_get ys n ≡ Some y) × (eq x y ≡ true)
pointwise_at {X = X} eq [] ys e n x h = absurd cc
pointwise_at {X = X} eq (z ∷ xs) [] e n x h = absurd (true≢false (sym e))
pointwise_at {X = X} eq (z ∷ xs) (y ∷ ys) e zero x h = (y, refl, ap (λ (w : X). eq w y) (sym (inside z x h)) ∙ (and_parts (eq z y) (pointwise eq xs ys) e).0)
pointwise_at {X = X} eq (z ∷ xs) (y ∷ ys) e (suc n) x h = pointwise_at eq xs ys (and_parts (eq z y) (pointwise eq xs ys) e).1 n x h

-- ---- tests and names

pub unless : {Y : Type 0} (b : Bool) (y : Y) (o : Option Y) → (if b then Some y else o) ≡ None → (b ≡ false) × (o ≡ None)
unless true y o e = absurd cc
unless false y o e = (refl, e)

pub unnot : (b : Bool) → not b ≡ false → b ≡ true
unnot true e = refl
unnot false e = absurd (true≢false e)

pub name_symm : (a b : List ℕ) → same_name a b ≡ same_name b a
name_symm a b = nat_list_eq_equiv.symm (folded_name a) (folded_name b)

-- two that a name is equal to are equal
name_both : (a b c : List ℕ) → same_name a b ≡ true → same_name a c ≡ true → same_name b c ≡ true
name_both a b c e f = sym (nat_list_eq_equiv.congr (folded_name a) (folded_name b) (folded_name c) e) ∙ f

-- ---- declarations that break no rule with one before them, in any order

module _ {Y : Type 0} (f : List DeclarationValue → DeclarationValue → Option Y) (breaks : DeclarationValue → DeclarationValue → Bool)
    (R : DeclarationValue → DeclarationValue → Type 0)
    (each : (before : List DeclarationValue) (d : DeclarationValue) → f before d ≡ None → list_any (breaks d) before ≡ false)
    (from : (d e : DeclarationValue) → breaks d e ≡ false → R d e) where
  apart : (before xs : List DeclarationValue) → first_after f before xs ≡ None → (n m : ℕ) (d e : DeclarationValue) → slice_get xs n ≡ Some d
      → slice_get before m ≡ Some e → R d e
  unfolding first_after
  apart before [] none n m d e at there = absurd cc
  apart before (x ∷ xs) none zero m d e at there =
      let h = neither (f before x) (first_after f (before ++ x ∷ []) xs) none in
      subst (λ (y : DeclarationValue). R y e) (inside x d at) (from x e (none_any (breaks x) before (each before x h.0) m e there))
  apart before (x ∷ xs) none (suc n) m d e at there =
      let h = neither (f before x) (first_after f (before ++ x ∷ []) xs) none in
      apart (before ++ x ∷ []) xs h.1 n m d e at (front_at before (x ∷ []) m e there)

  pub any_two : ((d : DeclarationValue) → R d d) → ((d e : DeclarationValue) → R d e → R e d) → (before xs : List DeclarationValue)
      → first_after f before xs ≡ None → (m n : ℕ) (d e : DeclarationValue)
      → slice_get xs m ≡ Some d → slice_get xs n ≡ Some e → R d e
  unfolding first_after
  any_two itself symm before [] none m n d e at there = absurd cc
  any_two itself symm before (x ∷ xs) none zero zero d e at there = subst (λ (y : DeclarationValue). R d y) (inside d e (sym at ∙ there)) (itself d)
  any_two itself symm before (x ∷ xs) none zero (suc n) d e at there =
      let h = neither (f before x) (first_after f (before ++ x ∷ []) xs) none in
      symm e d (apart (before ++ x ∷ []) xs h.1 n (length before) e d there (end_at before x ∙ at))
  any_two itself symm before (x ∷ xs) none (suc m) zero d e at there =
      let h = neither (f before x) (first_after f (before ++ x ∷ []) xs) none in
      apart (before ++ x ∷ []) xs h.1 m (length before) d e at (end_at before x ∙ there)
  any_two itself symm before (x ∷ xs) none (suc m) (suc n) d e at there =
      let h = neither (f before x) (first_after f (before ++ x ∷ []) xs) none in
      any_two itself symm (before ++ x ∷ []) xs h.1 m n d e at there

-- ---- declarations of one name agree

agreeing : (d e : DeclarationValue) → disagrees d e ≡ false → same_name d.name e.name ≡ true → agree d e ≡ true
agreeing d e apart is = unnot (agree d e) (subst (λ (b : Bool). (b && not (agree d e)) ≡ false) is apart)

abbrev pub Agreeing : List DeclarationValue → Type 0
Agreeing xs = (m n : ℕ) (d e : DeclarationValue) → slice_get xs m ≡ Some d → slice_get xs n ≡ Some e → same_name d.name e.name ≡ true → agree d e ≡ true

all_agree : (xs : List DeclarationValue) → first_after (broken_by disagrees) [] xs ≡ None → Agreeing xs
all_agree xs none =
    any_two (broken_by disagrees) disagrees (λ d e. same_name d.name e.name ≡ true → agree d e ≡ true)
    (λ before x h. (unless (list_any (disagrees x) before) x.name None h).0) agreeing
    (λ d _. agree_equiv.refl d) (λ d e r k. agree_equiv.symm e d ∙ r (name_symm d.name e.name ∙ k)) [] xs none

same_id : (d e : DeclarationValue) → agree d e ≡ true → d.id ≡ e.id
unfolding agree
same_id d e is =
    let one = and_parts (int_eq d.id e.id && same_result (type_of_value d) (type_of_value e)) (pointwise same_parameter (own_parameters d) (own_parameters e))
    is in
    (Decides-int_eq d.id e.id).0 (and_parts (int_eq d.id e.id) (same_result (type_of_value d) (type_of_value e)) one.0).0

same_parameters : (d e : DeclarationValue) → agree d e ≡ true → pointwise same_parameter (own_parameters d) (own_parameters e) ≡ true
unfolding agree
same_parameters d e is =
    (and_parts (int_eq d.id e.id && same_result (type_of_value d) (type_of_value e)) (pointwise same_parameter (own_parameters d) (own_parameters e)) is).1

-- ---- names of parameters do not repeat

repeated_before : (before : List (List ℕ)) (names : List (List ℕ)) → first_repeat same folded_name before names ≡ None → (n m : ℕ) (a k : List ℕ)
    → slice_get names n ≡ Some a → slice_get before m ≡ Some k → same (folded_name a) k ≡ false
unfolding first_repeat
repeated_before before [] none n m a k at there = absurd cc
repeated_before before (x ∷ names) none zero m a k at there =
    let h = unless (list_any (same (folded_name x)) before) x (first_repeat same folded_name (before ++ folded_name x ∷ []) names) none in
    subst (λ (y : List ℕ). same (folded_name y) k ≡ false) (inside x a at) (none_any (same (folded_name x)) before h.0 m k there)
repeated_before before (x ∷ names) none (suc n) m a k at there =
    let h = unless (list_any (same (folded_name x)) before) x (first_repeat same folded_name (before ++ folded_name x ∷ []) names) none in
    repeated_before (before ++ folded_name x ∷ []) names h.1 n m a k at (front_at before (folded_name x ∷ []) m k there)

one_place : (before names : List (List ℕ)) → first_repeat same folded_name before names ≡ None → (m n : ℕ) (a b : List ℕ) → slice_get names m ≡ Some a
    → slice_get names n ≡ Some b → same_name a b ≡ true → m ≡ n
unfolding first_repeat
one_place before [] none m n a b at there is = absurd cc
one_place before (x ∷ names) none zero zero a b at there is = refl
one_place before (x ∷ names) none zero (suc n) a b at there is =
    let h = unless (list_any (same (folded_name x)) before) x (first_repeat same folded_name (before ++ folded_name x ∷ []) names) none in
    let apart = repeated_before (before ++ folded_name x ∷ []) names h.1 n (length before) b (folded_name x) there (end_at before (folded_name x)) in
    let first : x ≡ a = inside x a at in
    absurd (true≢false (sym (name_symm b x ∙ ap (λ (y : List ℕ). same_name y b) first ∙ is) ∙ apart))
one_place before (x ∷ names) none (suc m) zero a b at there is =
    let h = unless (list_any (same (folded_name x)) before) x (first_repeat same folded_name (before ++ folded_name x ∷ []) names) none in
    let apart = repeated_before (before ++ folded_name x ∷ []) names h.1 m (length before) a (folded_name x) at (end_at before (folded_name x)) in
    let first : x ≡ b = inside x b there in
    absurd (true≢false (sym (ap (same_name a) first ∙ is) ∙ apart))
one_place before (x ∷ names) none (suc m) (suc n) a b at there is =
    let h = unless (list_any (same (folded_name x)) before) x (first_repeat same folded_name (before ++ folded_name x ∷ []) names) none in
    ap (λ k. suc k) (one_place (before ++ folded_name x ∷ []) names h.1 m n a b at there is)

-- If the function has no result for any entry, it has none after some entries.
none_after : {X Y : Type 0} (f : List X → X → Option Y) (before xs : List X) → first_after f before xs ≡ None → (n : ℕ) (x : X) → slice_get xs n ≡ Some x
    → (bs : List X) × (f bs x ≡ None)
unfolding first_after
none_after f before [] none n x at = absurd cc
none_after f before (y ∷ ys) none zero x at =
    (before, subst (λ z. f before z ≡ None) (inside y x at) (neither (f before y) (first_after f (before ++ y ∷ []) ys) none).0)
none_after f before (y ∷ ys) none (suc n) x at = none_after f (before ++ y ∷ []) ys (neither (f before y) (first_after f (before ++ y ∷ []) ys) none).1 n x at

-- ---- Consequences of a library's checks for an interface.

abbrev name_of_parameter : Parameter → List ℕ
name_of_parameter p = p.name

pub record Names_well (i : InterfaceValue) : Type 0 where
  pub agree : Agreeing (declarations i)
  pub once : (n : ℕ) (d : DeclarationValue) → slice_get (declarations i) n ≡ Some d → repeated_name (map name_of_parameter d.parameters) ≡ None
  pub sound : AreSound (declarations i)

pub no_repeats : (xs : List Item) → name_breach xs ≡ None → (n : ℕ) (i : InterfaceValue) → slice_get xs n ≡ Some (Interface i)
    → first_after declared_breach [] (declarations i) ≡ None
no_repeats xs none n i at =
    let one = none_after item_breach [] xs none n (Interface i) at in
    (unless (list_any (λ (other : Item). same_name (item_name (Interface i)) (item_name other)) one.0) (item_name (Interface i))
    (inner_breach (Interface i)) one.1).1

pub no_name_breach : (t : TreeValue) → tree_breach t ≡ None → name_breach t.items ≡ None
no_name_breach t e =
    let keys = neither (key_breaches t) (option_or (option_map UnknownInterface (interface_breach t.items)) (form_breaches t.items)) e in
    unmapped DuplicateName (name_breach t.items)
    (neither (option_map DuplicateName (name_breach t.items))
    (option_or (option_map DuplicateId (id_breach t.items)) (option_map DuplicateGuid (guid_breach t.guid t.items))) keys.0).0

pub unmarked : (o : Option Item) (i : InterfaceValue) → option_map marked_item o ≡ Some (Interface i) → o ≡ Some (Interface i)
unmarked None i e = absurd cc
unmarked (Some (Interface j)) i e = e
unmarked (Some (Coclass c)) i e = absurd cc

pub names_well : (t : TreeValue) (n : ℕ) (i : InterfaceValue) → IsChecked t → slice_get t.items n ≡ Some (Interface i) → Names_well i
names_well t n i is at =
    let w = is.1.tree in
    let there : slice_get w.items n ≡ Some (Interface i) =
    unmarked (slice_get w.items n) i (sym (slice_get-map marked_item w.items n) ∙ ap (λ (u : TreeValue). slice_get u.items n) (sym is.1.says) ∙ at) in
    let none = neither (tree_breach w) (text_breach w) is.1.unbroken in
    record {
      agree =
          all_agree (declarations i) (all_at (λ x. in_interface (first_broken disagrees) x ≡ None) w.items
          (none_of (in_interface (first_broken disagrees)) w.items (breaks_none w is.1.unbroken).3) n (Interface i) there);
      once =
          λ m d here. (let one = none_after declared_breach [] (declarations i) (no_repeats w.items (no_name_breach w none.0) n i there) m d here in
          (unless (list_any (clashes d) one.0) d.name (repeated_name (map name_of_parameter d.parameters)) one.1).1);
      sound = all_at IsSoundItem t.items (tree_sound t is) n (Interface i) at;
    }

-- ---- The declaration with the name and parameters of the member.

pub main_in : (forms : List DeclarationValue) (d : DeclarationValue) → main_form forms ≡ Some d → Has forms d
main_in forms d e = by (form_for kinds.Get forms) refl e
  where
    by : (o : Option DeclarationValue) → form_for kinds.Get forms ≡ o → option_or o (slice_get forms 0) ≡ Some d → Has forms d
    by None is h = (0, h)
    by (Some c) is h = let r = found_at (λ (d : DeclarationValue). lets kinds.Get d.kind) forms d (is ∙ h) in (r.0, r.1)

pub some_main : (forms : List DeclarationValue) (n : ℕ) (d : DeclarationValue) → slice_get forms n ≡ Some d → main_form forms ≡ None → ⊥
some_main [] n d at none = absurd cc
some_main (c ∷ forms) n d at none = let z = (neither (form_for kinds.Get (c ∷ forms)) (Some c) none).1 in absurd cc

declares : (i : InterfaceValue) (name : List ℕ) (e : DeclarationValue) → main_form (forms_named name i) ≡ Some e → Declares i name e
declares i name e is =
    let main = main_in (forms_named name i) e is in
    let one = in_filter (λ (d : DeclarationValue). same_name name d.name) (declarations i) main.0 e main.1 in
    record { place = one.0; there = one.1; named = one.2 }

speaks : (i : InterfaceValue) (name : List ℕ) (d : DeclarationValue) → Declares i name d → (e : DeclarationValue) × (main_form (forms_named name i) ≡ Some e)
speaks i name d h = by (main_form (forms_named name i)) refl
  where
    by : (o : Option DeclarationValue) → main_form (forms_named name i) ≡ o → (e : DeclarationValue) × (main_form (forms_named name i) ≡ Some e)
    by None is = let one = filtered (λ (d : DeclarationValue). same_name name d.name) (declarations i) h.place d h.there h.named in
        absurd (some_main (forms_named name i) one.0 d one.1 is)
    by (Some e) is = (e, is)

agree_with : (i : InterfaceValue) (name : List ℕ) (d e : DeclarationValue) → Names_well i → Declares i name d → Declares i name e → agree d e ≡ true
agree_with i name d e well h k = well.agree h.place k.place d e h.there k.there (name_both name d.name e.name h.named k.named)

-- ---- members

pub member_told : (i : InterfaceValue) (name : List ℕ) (names : List (List ℕ)) (id : ℤ) → slice_get (named_in i (name ∷ names)) 0 ≡ Some (Some id)
    → IsMember i name id
member_told i name names id e = by (main_form (forms_named name i)) refl e
  where
    by : (o : Option DeclarationValue) → main_form (forms_named name i) ≡ o → slice_get (ids_in o (name ∷ names)) 0 ≡ Some (Some id) → IsMember i name id
    by None is h = absurd cc
    by (Some d) is h = record { declaration = d; declared = declares i name d is; has = cc }

pub member_found : (i : InterfaceValue) → Names_well i → (name : List ℕ) (names : List (List ℕ)) (id : ℤ) → IsMember i name id
    → slice_get (named_in i (name ∷ names)) 0 ≡ Some (Some id)
member_found i well name names id h =
    let main = speaks i name h.declaration h.declared in
    let same = same_id h.declaration main.0 (agree_with i name h.declaration main.0 well h.declared (declares i name main.0 main.1)) in
    ap (λ (o : Option DeclarationValue). slice_get (ids_in o (name ∷ names)) 0) main.1 ∙ ap (λ (z : ℤ). Some (Some z)) (sym same ∙ h.has)

-- ---- parameters

own_at : (d : DeclarationValue) (n : ℕ) (p : Parameter) → slice_get (own_parameters d) n ≡ Some p → slice_get d.parameters n ≡ Some p
own_at d n p h = by (is_put d.kind) h
  where
    by : (b : Bool) → slice_get (if b then take (length d.parameters - 1) d.parameters else d.parameters) n ≡ Some p → slice_get d.parameters n ≡ Some p
    by true at = take_at (length d.parameters - 1) d.parameters n p at
    by false at = at

named_at : (ps : List Parameter) (n : ℕ) (p : Parameter) → slice_get ps n ≡ Some p → slice_get (map name_of_parameter ps) n ≡ Some p.name
named_at ps n p h = slice_get-map name_of_parameter ps n ∙ ap (option_map name_of_parameter) h

as_id : (n : ℕ) → n < 2147483648 → place_as_id n ≡ Some (pos n)
as_id n lt = let e : nat_lt n 2147483648 ≡ true = grind (arith, nat_tests, lt) in rw e refl

place_of_id : (n : ℕ) (id : ℤ) → place_as_id n ≡ Some id → id ≡ pos n
place_of_id n id e = by (nat_lt n 2147483648) e
  where
    by : (b : Bool) → (if b then Some (pos n) else None) ≡ Some id → id ≡ pos n
    by true h = sym (inside (pos n) id h)
    by false h = absurd cc

parameter_name : (p q : Parameter) → same_parameter p q ≡ true → same_name p.name q.name ≡ true
unfolding same_parameter
parameter_name p q is =
    let a = same_name p.name q.name in
    let b = same_value_type p.value_type q.value_type in
    let c = beq p.is_in q.is_in in
    let d = beq (is_optional p) (is_optional q) in
    (and_parts a b (and_parts (a && b) c (and_parts ((a && b) && c) d (and_parts (((a && b) && c) && d) (same_default p.default q.default) is).0).0).0).0

parameter_found : (i : InterfaceValue) → Names_well i → (n : ℕ) (d : DeclarationValue) → slice_get (declarations i) n ≡ Some d
    → (name : List ℕ) (k : ℕ) (p : Parameter) → slice_get (own_parameters d) k ≡ Some p → same_name name p.name ≡ true
    → parameter_named (own_parameters d) name ≡ Some (pos k)
parameter_found i well n d at name k p there is =
    let first = has_position (λ (p : Parameter). same_name name p.name) (own_parameters d) k p there is in
    let one = position_in (λ (p : Parameter). same_name name p.name) (own_parameters d) first.0 first.1 in
    let place = one_place [] (map name_of_parameter d.parameters) (well.once n d at) first.0 k one.0.name p.name
    (named_at d.parameters first.0 one.0 (own_at d first.0 one.0 one.1)) (named_at d.parameters k p (own_at d k p there))
    (name_both name one.0.name p.name one.2 is) in
    let few : length d.parameters ≤ max_parameters = (all_at IsSoundDeclaration (declarations i) well.sound n d at).few in
    let within : k < length d.parameters = slice_get_within d.parameters k p (own_at d k p there) in
    ap (option_and_then place_as_id) first.1 ∙ ap place_as_id place ∙ as_id k (omega (arith, few, within))

abbrev Own : DeclarationValue → List ℕ → ℤ → Type 0
Own d name id = (k : ℕ) × (p : Parameter) × (slice_get (own_parameters d) k ≡ Some p) × (same_name name p.name ≡ true) × (id ≡ pos k)

parameter_told : (d : DeclarationValue) (name : List ℕ) (id : ℤ) → parameter_named (own_parameters d) name ≡ Some id → Own d name id
parameter_told d name id e = by (position (λ (p : Parameter). same_name name p.name) (own_parameters d)) refl e
  where
    by : (o : Option ℕ) → position (λ (p : Parameter). same_name name p.name) (own_parameters d) ≡ o → option_and_then place_as_id o ≡ Some id → Own d name id
    by None is h = absurd cc
    by (Some k) is h = let one = position_in (λ (p : Parameter). same_name name p.name) (own_parameters d) k is in (k, one.0, one.1, one.2, place_of_id k id h)

-- The result at a place of a list that is computed name by name.
answer_at : (f : List ℕ → Option ℤ) (names : List (List ℕ)) (n : ℕ) (name : List ℕ) → slice_get names n ≡ Some name → slice_get (map f names) n ≡ Some (f name)
answer_at f names n name at = slice_get-map f names n ∙ ap (option_map f) at

pub parameters_told : (i : InterfaceValue) (member : List ℕ) (names : List (List ℕ)) (n : ℕ) (name : List ℕ) (id : ℤ) → slice_get names n ≡ Some name
    → slice_get (named_in i (member ∷ names)) (suc n) ≡ Some (Some id) → IsParameterOf i member name id
parameters_told i member names n name id at e = by (main_form (forms_named member i)) refl e
  where
    by : (o : Option DeclarationValue) → main_form (forms_named member i) ≡ o → slice_get (ids_in o (member ∷ names)) (suc n) ≡ Some (Some id)
        → IsParameterOf i member name id
    by None is h = let z = inside None (Some id) (sym (answer_at (λ _. None) names n name at) ∙ h) in absurd cc
    by (Some d) is h =
        let one =
        parameter_told d name id (inside (parameter_named (own_parameters d) name) (Some id)
        (sym (answer_at (parameter_named (own_parameters d)) names n name at) ∙ h)) in
        record { declaration = d; declared = declares i member d is; place = one.0; parameter = one.1; there = one.2; named = one.3; has = one.4 }

pub parameters_found : (i : InterfaceValue) → Names_well i → (member : List ℕ) (names : List (List ℕ)) (n : ℕ) (name : List ℕ) (id : ℤ)
    → slice_get names n ≡ Some name → IsParameterOf i member name id → slice_get (named_in i (member ∷ names)) (suc n) ≡ Some (Some id)
parameters_found i well member names n name id at h =
    let main = speaks i member h.declaration h.declared in
    let speaker = declares i member main.0 main.1 in
    let one = pointwise_at same_parameter (own_parameters h.declaration) (own_parameters main.0)
    (same_parameters h.declaration main.0 (agree_with i member h.declaration main.0 well h.declared speaker)) h.place h.parameter h.there in
    let named = name_both h.parameter.name name one.0.name (name_symm h.parameter.name name ∙ h.named) (parameter_name h.parameter one.0 one.2) in
    ap (λ (o : Option DeclarationValue). slice_get (ids_in o (member ∷ names)) (suc n)) main.1
    ∙ answer_at (parameter_named (own_parameters main.0)) names n name at
    ∙ ap (λ (o : Option ℤ). Some o) (parameter_found i well speaker.place main.0 speaker.there name h.place one.0 one.1 named
    ∙ ap (λ (z : ℤ). Some z) (sym h.has))
