-- The turns of the search for what is lost.
use Rattle.std.proofs.Common.{◌≡◌, ℕ, ℤ, suc, Bool, true, false, cond, ◌&&◌, ◌||◌, List, [], ◌∷◌, map, slice_get, drop, length, get_or, ◌<◌, ◌≤◌, ◌+◌}
use Rattle.std.proofs.Common.{add-one, Vec, Global}
use Rattle.std.proofs.Common.{Option, None, Some, is_some, refl, sym, ap, ◌∙◌, true≢false, if◌then◌else◌}
use Rattle.std.proofs.Math.Seq.{drop-cons}
use Rattle.std.proofs.Math.ListN.{drop_of_length-le}
use Rattle.std.specs.List.{list_any, list_all, filter, filter_map}
use Rattle.std.specs.Option.{option_and_then, option_map, option_map_or, option_or}
use Rattle.std.specs.Ordering.{int_eq}
use Rattle.oa_idl.specs.promise.Values.{InterfaceValue, CoclassValue}
use Rattle.oa_idl.specs.declared.items.Item.{Item}
use Rattle.oa_sema.specs.promise.DeclarationValues.{DeclarationValue}
use Rattle.oa_sema.specs.promise.Declarations.{declarations}
use Rattle.oa_typelib.specs.promise.Descriptions.{put_last}
use Rattle.oa_compat.specs.promise.Keeps.{default_guid, is_kept_by, lost_declaration, lost_member}
use Rattle.oa_compat.specs.Keeps.{lost_form}
use Rattle.oa_sema.specs.promise.Libraries.{as_class, as_interface, default_interface}
use Rattle.oa_sema.specs.Libraries.{folded_names}
use Rattle.oa_typelib.specs.promise.Members.{forms_with}
use Rattle.oa_sema.specs.promise.Repeats.{first_answer}
use Rattle.oa_typelib.specs.Indexes.{default_in, grouped, is_put_or_not}
use Rattle.oa_typelib.proofs.Finds.{default_of_item}
use Rattle.oa_typelib.proofs.Kept.{filter_of_map}
use Rattle.oa_typelib.proofs.Looks.{in_order}
use Rattle.oa_typelib.proofs.Same.{answer_append, answer_flat, answer_here, answer_mapped, all_here}

-- declarations with another DISPID stand for nothing
pub among_forms : (i : InterfaceValue) (was : DeclarationValue) → list_any (is_kept_by was) (forms_with was.id i) ≡ list_any (is_kept_by was) (declarations i)
unfolding is_kept_by
among_forms i was = by (declarations i)
  where
    by : (ds : List DeclarationValue) → list_any (is_kept_by was) (filter (λ (d : DeclarationValue). int_eq was.id d.id) ds) ≡ list_any (is_kept_by was) ds
    by [] = refl
    by (d ∷ ds) = step d (int_eq was.id d.id) refl (by ds)
      where
        step : (d : DeclarationValue) (b : Bool) → int_eq was.id d.id ≡ b → list_any (is_kept_by was) (filter (λ (d : DeclarationValue). int_eq was.id d.id) ds)
            ≡ list_any (is_kept_by was) ds
            → list_any (is_kept_by was) (cond b (d ∷ filter (λ (d : DeclarationValue). int_eq was.id d.id) ds)
            (filter (λ (d : DeclarationValue). int_eq was.id d.id) ds)) ≡ (is_kept_by was d || list_any (is_kept_by was) ds)
        step d true is e = ap (λ b. is_kept_by was d || b) e
        step d false is e = rw is e

pub kept_none : (now : InterfaceValue) (was : DeclarationValue) (b : Bool) → b ≡ list_any (is_kept_by was) (declarations now) → b ≡ true
    → None ≡ lost_declaration now was
kept_none now was b is e = sym (ap (λ b. if b then None else Some was.id) (sym is ∙ e))

pub lost_some : (now : InterfaceValue) (was : DeclarationValue) (b : Bool) → b ≡ list_any (is_kept_by was) (declarations now) → b ≡ false
    → Some was.id ≡ lost_declaration now was
lost_some now was b is e = sym (ap (λ b. if b then None else Some was.id) (sym is ∙ e))

or_here : {Y : Type 0} (o p : Option Y) → is_some o ≡ true → option_or o p ≡ o
or_here None p e = absurd (true≢false (sym e))
or_here (Some y) p e = refl

or_later : {Y : Type 0} (o p : Option Y) → is_some o ≡ false → option_or o p ≡ p
or_later None p e = refl
or_later (Some y) p e = absurd (true≢false e)

-- of two answers in turn
pub answered_here : {Y : Type 0} (all o p r : Option Y) → all ≡ option_or o p → r ≡ o → is_some r ≡ true → r ≡ all
answered_here all o p r both is e = is ∙ sym (or_here o p (ap is_some (sym is) ∙ e)) ∙ sym both

pub answered_later : {Y : Type 0} (all o p r s : Option Y) → all ≡ option_or o p → r ≡ o → is_some r ≡ false → s ≡ p → s ≡ all
answered_later all o p r s both is e next = next ∙ sym (or_later o p (ap is_some (sym is) ∙ e)) ∙ sym both

pub of_member : (now was : InterfaceValue) (places : List ℕ) → first_answer (lost_declaration now) (put_last (filter_map (slice_get (declarations was)) places))
    ≡ option_or (first_answer (lost_form now was false) places) (first_answer (lost_form now was true) places)
of_member now was places =
    let g = slice_get (declarations was) in
    let half : Bool → DeclarationValue → Bool = λ puts d. is_put_or_not puts d.kind in
    answer_append (lost_declaration now) (filter (half false) (filter_map g places)) (filter (half true) (filter_map g places))
    ∙ ap (λ o. option_or o (first_answer (lost_declaration now) (filter (half true) (filter_map g places)))) (part false)
    ∙ ap (option_or (first_answer (lost_form now was false) places)) (part true)
  where
    part : (puts : Bool)
        → first_answer (lost_declaration now) (filter (λ (d : DeclarationValue). is_put_or_not puts d.kind) (filter_map (slice_get (declarations was)) places))
        ≡ first_answer (lost_form now was puts) places
    part puts =
        ap (first_answer (lost_declaration now)) (filter_of_map (λ (d : DeclarationValue). is_put_or_not puts d.kind) (slice_get (declarations was)) places)
        ∙ answer_mapped (lost_declaration now) (λ n. option_and_then (λ (d : DeclarationValue). if is_put_or_not puts d.kind then Some d else None)
        (slice_get (declarations was) n)) places

-- of the members in their order
abbrev pub of_places : InterfaceValue → InterfaceValue → Vec ℕ Global → Option ℤ
of_places now was ps = first_answer (lost_declaration now) (put_last (filter_map (slice_get (declarations was)) ps.items))

pub of_groups : (now was : InterfaceValue) (groups : List (Vec ℕ Global))
    → map (λ (ps : Vec ℕ Global). ps.items) groups ≡ (grouped (declarations was)).by_name.places → first_answer (of_places now was) groups ≡ lost_member now was
of_groups now was groups is =
    sym (answer_flat (lost_declaration now) (λ (ps : Vec ℕ Global). put_last (filter_map (slice_get (declarations was)) ps.items)) groups)
    ∙ ap (first_answer (lost_declaration now)) (in_order was groups is)

-- a loop over places, from one place on
module _ {X Y Z : Type 0} (f : Y → Option Z) (g : X → Option Y) (xs : List X) (n : ℕ) (all : Option Z) where
  pub here_found : (r : Option Z) → n < length xs → first_answer f (filter_map g (drop n xs)) ≡ all → r ≡ option_and_then f (option_and_then g (slice_get xs n))
      → is_some r ≡ true → r ≡ all
  here_found r h left is e = answered_here all (option_and_then f (option_and_then g (slice_get xs n))) (first_answer f (filter_map g (drop (suc n) xs))) r
      (sym left ∙ answer_here f g xs n h) is e

  pub here_on : (r : Option Z) → n < length xs → first_answer f (filter_map g (drop n xs)) ≡ all → r ≡ option_and_then f (option_and_then g (slice_get xs n))
      → is_some r ≡ false → first_answer f (filter_map g (drop (n + 1) xs)) ≡ all
  here_on r h left is e =
      ap (λ k. first_answer f (filter_map g (drop k xs))) (add-one n)
      ∙ sym (or_later (option_and_then f (option_and_then g (slice_get xs n))) (first_answer f (filter_map g (drop (suc n) xs))) (ap is_some (sym is) ∙ e))
      ∙ sym (answer_here f g xs n h) ∙ left

  pub here_done : length xs ≤ n → first_answer f (filter_map g (drop n xs)) ≡ all → None ≡ all
  unfolding first_answer
  here_done h left = sym (ap (λ ys. first_answer f (filter_map g ys)) (drop_of_length-le xs h)) ∙ left

-- a loop over members
module _ {X Y : Type 0} (f : X → Option Y) (xs : List X) (n : ℕ) (all : Option Y) where
  turn : (x : X) → n < length xs → x ≡ get_or xs n x → first_answer f (drop n xs) ≡ option_or (f x) (first_answer f (drop (suc n) xs))
  unfolding first_answer
  turn x h is = ap (first_answer f) (drop-cons xs n x h ∙ ap (λ y. y ∷ drop (suc n) xs) (sym is))

  pub each_found : (x : X) (r : Option Y) → n < length xs → x ≡ get_or xs n x → first_answer f (drop n xs) ≡ all → r ≡ f x → is_some r ≡ true → r ≡ all
  each_found x r h at left is e = answered_here all (f x) (first_answer f (drop (suc n) xs)) r (sym left ∙ turn x h at) is e

  pub each_on : (x : X) (r : Option Y) → n < length xs → x ≡ get_or xs n x → first_answer f (drop n xs) ≡ all → r ≡ f x → is_some r ≡ false
      → first_answer f (drop (n + 1) xs) ≡ all
  each_on x r h at left is e = ap (λ k. first_answer f (drop k xs)) (add-one n)
      ∙ sym (or_later (f x) (first_answer f (drop (suc n) xs)) (ap is_some (sym is) ∙ e)) ∙ sym (turn x h at) ∙ left

  pub each_done : length xs ≤ n → first_answer f (drop n xs) ≡ all → None ≡ all
  unfolding first_answer
  each_done h left = sym (ap (first_answer f) (drop_of_length-le xs h)) ∙ left

-- all of the interfaces from one place on
module _ {X Y : Type 0} (p : Y → Bool) (g : X → Option Y) (xs : List X) (n : ℕ) (all : Bool) where
  pub all_fail : (r : Bool) → n < length xs → list_all p (filter_map g (drop n xs)) ≡ all → r ≡ option_map_or p (option_and_then g (slice_get xs n)) true
      → r ≡ false → false ≡ all
  all_fail r h left is e = sym (ap (λ b. b && list_all p (filter_map g (drop (suc n) xs))) (sym is ∙ e)) ∙ sym (all_here p g xs n h) ∙ left

  pub all_on : (r : Bool) → n < length xs → list_all p (filter_map g (drop n xs)) ≡ all → r ≡ option_map_or p (option_and_then g (slice_get xs n)) true
      → r ≡ true → list_all p (filter_map g (drop (n + 1) xs)) ≡ all
  all_on r h left is e = ap (λ k. list_all p (filter_map g (drop k xs))) (add-one n)
      ∙ sym (ap (λ b. b && list_all p (filter_map g (drop (suc n) xs))) (sym is ∙ e)) ∙ sym (all_here p g xs n h) ∙ left

-- the GUIDs of default interfaces
pub default_before : (items : List Item) (o : Option Item) → option_and_then (default_guid items) (option_and_then as_class o)
    ≡ option_map (λ (i : InterfaceValue). i.guid)
    (option_and_then as_interface (option_and_then (slice_get items) (option_and_then (default_in (folded_names items)) o)))
default_before items o = by (option_and_then as_class o) ∙ ap (option_map (λ (i : InterfaceValue). i.guid)) (default_of_item items o)
  where
    by : (k : Option CoclassValue) → option_and_then (default_guid items) k ≡ option_map (λ (i : InterfaceValue). i.guid)
        (option_and_then (default_interface items) k)
    by None = refl
    by (Some c) = refl

pub default_now : (items : List Item) (k : Option CoclassValue) (c : CoclassValue) → k ≡ Some c
    → option_map (λ (i : InterfaceValue). i.guid) (option_and_then (default_interface items) k) ≡ default_guid items c
default_now items k c is = rw is refl
