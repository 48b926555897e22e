-- Passes over a list that stop at the first error.
use Rattle.std.proofs.Common.{◌≡◌, ◌<◌, ◌≤◌, ◌+◌, ◌-◌, ℕ, zero, suc, Bool, true, false, List, [], ◌∷◌, ◌++◌, length, map, take, drop}
use Rattle.std.proofs.Common.{get_or, slice_get, position, Option, None, Some, Bor, Vec, Global, Result, Ok, Err, refl, sym}
use Rattle.std.proofs.Common.{ap, subst, ◌∙◌, arith, add-one, is_some, if◌then◌else◌, IsErr, true≢false, option_copied}
use Rattle.std.proofs.Math.Seq.{drop-cons}
use Rattle.std.proofs.Math.ListN.{drop_of_length-le}
use Rattle.std.proofs.lemmas.List.{get_or-map, take_more, take_all, map-append}
use Rattle.std.proofs.lemmas.Option.{slice_get-map, slice_get_read}
use Rattle.std.specs.Option.{option_map, option_and_then, option_or}
use Rattle.std.specs.Result.{IsErrAnd}
use Rattle.oa_model.specs.promise.Folding.{folded_name}
use Rattle.oa_idl.specs.declared.items.Item.{Item}
use Rattle.oa_sema.specs.declared.fault.CheckError.{CheckError}
use Rattle.oa_sema.specs.declared.fault.CheckError.TheVariants.{DuplicateName, DuplicateId, DuplicateGuid, UnknownInterface}
use Rattle.oa_sema.specs.declared.fault.CheckError.TheVariants.{GetPutDisagree, ArrayParameter, BadDefault, TextTooLong, Memory}
use Rattle.oa_sema.specs.declared.repeats.Distinct.{Distinct}
use Rattle.oa_sema.specs.declared.repeats.Distinct.TheVariants.{All, Repeat}
use Rattle.oa_sema.specs.Keys.{TellsDistinct, repeat_of}
use Rattle.oa_sema.specs.Repeats.{repeat_at}
use Rattle.oa_sema.specs.promise.Repeats.{first_repeat, first_answer}
use Rattle.oa_sema.specs.Breaches.{UnlessMemory, RefusesBreach}
use Rattle.oa_sema.specs.promise.Breaches.{repeated_name, inner_breach, item_breach}
use Rattle.oa_sema.specs.promise.Libraries.{same, same_name, item_name, as_interface, interface_named}
use Rattle.std.specs.List.{list_any}
use Rattle.oa_sema.proofs.Lists.{list_any-map, repeat_by_place, repeat_at-map, position-map, position_finds, length-mapped}

-- ---- The statement of a refusal, weakened.
pub for_memory : {P Q : Type 0} (e : CheckError) → (P → Q) → UnlessMemory e P → UnlessMemory e Q
for_memory (DuplicateName n) f h = f h
for_memory (DuplicateId n) f h = f h
for_memory (DuplicateGuid n) f h = f h
for_memory (UnknownInterface n) f h = f h
for_memory (GetPutDisagree n) f h = f h
for_memory (ArrayParameter n) f h = f h
for_memory (BadDefault n) f h = f h
for_memory TextTooLong f h = f h
for_memory Memory f h = tt

pub refuses_more : {X : Type 0} (make : X → CheckError) (part whole : Option X) (e : CheckError) → ((x : X) → part ≡ Some x → whole ≡ Some x)
    → UnlessMemory e (option_map make part ≡ Some e) → UnlessMemory e (option_map make whole ≡ Some e)
refuses_more {X} make part whole e more h = for_memory e (by part refl) h
  where
    by : (o : Option X) → part ≡ o → option_map make o ≡ Some e → option_map make whole ≡ Some e
    by None is none = absurd (cc)
    by (Some x) is some = rw (more x is) some

pub no_refusal : {X : Type 0} (make : X → CheckError) (o : Option X) → option_map make o ≡ None → o ≡ None
no_refusal make None h = refl
no_refusal make (Some x) h = absurd (cc)

-- ---- a turn of a loop over xs, which is at i
module _ {X Y : Type 0} (f : X → Option Y) (xs : List X) (i : ℕ) where
  answer_turn : (x : X) → i < length xs → x ≡ get_or xs i x → first_answer f (drop i xs) ≡ option_or (f x) (first_answer f (drop (i + 1) xs))
  unfolding first_answer
  answer_turn x h is =
      let e = drop-cons xs i x h in
      rw (e, ← is, add-one) refl

  pub answer_found : (x : X) (y : Y) → i < length xs → x ≡ get_or xs i x → first_answer f xs ≡ first_answer f (drop i xs) → f x ≡ Some y
      → first_answer f xs ≡ Some y
  answer_found x y h is left some = left ∙ answer_turn x h is ∙ rw some refl

  pub answer_on : (x : X) → i < length xs → x ≡ get_or xs i x → first_answer f xs ≡ first_answer f (drop i xs) → f x ≡ None
      → first_answer f xs ≡ first_answer f (drop (i + 1) xs)
  answer_on x h is left none = left ∙ answer_turn x h is ∙ rw none refl

  pub answer_done : length xs ≤ i → first_answer f xs ≡ first_answer f (drop i xs) → first_answer f xs ≡ None
  unfolding first_answer
  answer_done h left = left ∙ ap (first_answer f) (drop_of_length-le xs h)

module _ {X Y : Type 0} (f : X → Y) (xs : List X) (i : ℕ) where
  pub mapped_more : (x : X) → i < length xs → x ≡ get_or xs i x → map f (take (i + 1) xs) ≡ map f (take i xs) ++ f x ∷ []
  mapped_more x h is =
      let e = take_more xs i x h in
      rw (e, map-append, ← is) refl

  pub mapped_all : length xs ≤ i → map f (take i xs) ≡ map f xs
  mapped_all h = ap (map f) (take_all i xs h)

-- ---- whether an item's name is one of those before
any_name : (k : List ℕ) (before : List Item) → list_any (λ (other : Item). same k (folded_name (item_name other))) before ≡ list_any (same k)
    (map (λ i. folded_name (item_name i)) before)
any_name k before = sym (list_any-map (λ (i : Item). folded_name (item_name i)) (same k) before)

pub item_breach_by_names : (before : List Item) (x : Item) (names : List (List ℕ)) → names ≡ map (λ i. folded_name (item_name i)) before
    → (if list_any (same (folded_name (item_name x))) names then Some (item_name x) else inner_breach x) ≡ item_breach before x
item_breach_by_names before x names e = rw (e, any_name (folded_name (item_name x)) before) refl

-- ---- a repeated name by its place among the folded ones
map_twice : {A B C : Type 0} (f : A → B) (g : B → C) (xs : List A) → map g (map f xs) ≡ map (λ x. g (f x)) xs
map_twice f g [] = refl
map_twice f g (x ∷ xs) = ap (λ ys. g (f x) ∷ ys) (map_twice f g xs)

pub name_repeat : (names : List (Bor (List ℕ))) (keys : List (Vec ℕ Global)) → map (λ k. k.items) keys ≡ map (λ n. folded_name n.now) names
    → repeated_name (map (λ n. n.now) names) ≡ option_and_then (slice_get (map (λ (n : Bor (List ℕ)). n.now) names))
    (repeat_at (λ (x y : Vec ℕ Global). same x.items y.items) [] keys)
name_repeat names keys e =
    let p = repeat_by_place same folded_name [] (map (λ (n : Bor (List ℕ)). n.now) names) in
    let q = repeat_at-map (λ (k : Vec ℕ Global). k.items) same [] keys in
    let m = e ∙ sym (map_twice (λ (n : Bor (List ℕ)). n.now) folded_name names) in
    p ∙ ap (λ ks. option_and_then (slice_get (map (λ (n : Bor (List ℕ)). n.now) names)) (repeat_at same [] ks)) (sym m)
    ∙ ap (option_and_then (slice_get (map (λ (n : Bor (List ℕ)). n.now) names))) q

-- ---- the interface of a name, by the place of the folded name
pub interface_by_place : (items : List Item) (names : List (List ℕ)) (name : List ℕ) → names ≡ map (λ i. folded_name (item_name i)) items
    → interface_named items name ≡ option_and_then as_interface (option_and_then (slice_get items) (position (same (folded_name name)) names))
interface_by_place items names name e =
    let p = position-map (λ (i : Item). folded_name (item_name i)) (same (folded_name name)) items in
    let f = position_finds (λ (i : Item). same_name name (item_name i)) items in
    rw (e, p) (ap (option_and_then as_interface) (sym f))

-- ---- An error that `?` returns.
pub refused : {X : Type 0} (breach : Option CheckError) (P : X → Type 0) (e : CheckError) (r : Result X CheckError) → IsErr r → IsErrAnd r (λ e'. e' ≡ e)
    → UnlessMemory e (breach ≡ Some e) → RefusesBreach breach P r
refused breach P e (Ok x) is and h = absurd (true≢false (sym is))
refused breach P e (Err e') is and h = subst (λ (d : CheckError). UnlessMemory d (breach ≡ Some d)) (sym and) h

-- ---- The result of a search for a repeated key.
module _ {K : Type 0} (eq : K → K → Bool) (keys : List K) where
  pub told_none : (d : Distinct K) → TellsDistinct eq keys d → repeat_of d ≡ None → repeat_at eq [] keys ≡ None
  told_none (All seen) h is = h.0
  told_none (Repeat place) h is = absurd (cc)

  pub told_some : (d : Distinct K) (place : ℕ) → TellsDistinct eq keys d → repeat_of d ≡ Some place → (repeat_at eq [] keys ≡ Some place)
      × (place < length keys)
  told_some (All seen) place h is = absurd (cc)
  told_some (Repeat n) place h is = let e : n ≡ place = cc in (h.0 ∙ ap (λ m. Some m) e, rw (← e) h.1)

-- the first key repeats none
pub repeats_later : {K : Type 0} (eq : K → K → Bool) (keys : List K) (place : ℕ) → repeat_at eq [] keys ≡ Some place → 1 ≤ place
unfolding repeat_at
repeats_later eq [] place is = absurd (cc)
repeats_later eq (k ∷ ks) place is = by (repeat_at eq (k ∷ []) ks) is
  where
    by : (o : Option ℕ) → option_map (λ n. suc n) o ≡ Some place → 1 ≤ place
    by None is = absurd (cc)
    by (Some n) is = let e : suc n ≡ place = cc in omega (arith, e)

-- An entry after the first one.
pub behind_first : {X Y : Type 0} (f : X → Y) (y : Y) (xs : List X) (place : ℕ) (x : X) → 1 ≤ place → place - 1 < length xs → x ≡ get_or xs (place - 1) x
    → f x ≡ get_or (y ∷ map f xs) place (f x)
behind_first f y xs zero x some within is = absurd (omega (arith, some))
behind_first f y xs (suc n) x some within is =
    let e : suc n - 1 ≡ n = omega arith in
    let here : x ≡ get_or xs n x = rw e at is in
    ap f here ∙ sym (get_or-map f xs n x (f x) (omega (arith, within)))

-- ---- the first member that repeats the key of one before it, by the repeated key's place
module _ {X K : Type 0} (eq : K → K → Bool) (key : X → K) (xs : List X) (keys : List K) (same_keys : keys ≡ map key xs) where
  pub none_repeats : repeat_at eq [] keys ≡ None → first_repeat eq key [] xs ≡ None
  none_repeats none = repeat_by_place eq key [] xs ∙ ap (λ ks. option_and_then (slice_get xs) (repeat_at eq [] ks)) (sym same_keys)
      ∙ ap (option_and_then (slice_get xs)) none

  pub one_repeats : (place : ℕ) (x : X) → repeat_at eq [] keys ≡ Some place → place < length xs → x ≡ get_or xs place x → first_repeat eq key [] xs ≡ Some x
  one_repeats place x some within is = repeat_by_place eq key [] xs ∙ ap (λ ks. option_and_then (slice_get xs) (repeat_at eq [] ks)) (sym same_keys)
      ∙ ap (option_and_then (slice_get xs)) some ∙ slice_get_read xs (length xs) place x refl within is

-- ---- a name that is repeated among folded ones
module _ (names : List (Bor (List ℕ))) (keys : List (Vec ℕ Global)) (same_keys : map (λ k. k.items) keys ≡ map (λ n. folded_name n.now) names) where
  pub no_name_repeats : repeat_at (λ (x y : Vec ℕ Global). same x.items y.items) [] keys ≡ None → None ≡ repeated_name (map (λ n. n.now) names)
  no_name_repeats none = sym (name_repeat names keys same_keys ∙ ap (option_and_then (slice_get (map (λ (n : Bor (List ℕ)). n.now) names))) none)

  pub within_names : (place : ℕ) → place < length keys → place < length names
  within_names place h =
      omega (
        arith,
        h,
        sym (length-mapped (λ (k : Vec ℕ Global). k.items) keys) ∙ ap length same_keys
            ∙ length-mapped (λ (n : Bor (List ℕ)). folded_name n.now) names,
      )

  pub one_name_repeats : (place : ℕ) (x : Bor (List ℕ)) → (repeat_at (λ (x y : Vec ℕ Global). same x.items y.items) [] keys ≡ Some place)
      × (place < length keys) → x ≡ get_or names place x → Some x.now ≡ repeated_name (map (λ n. n.now) names)
  one_name_repeats place x h is =
      sym (name_repeat names keys same_keys ∙ ap (option_and_then (slice_get (map (λ (n : Bor (List ℕ)). n.now) names))) h.0
      ∙ slice_get-map (λ (n : Bor (List ℕ)). n.now) names place
      ∙ ap (option_map (λ (n : Bor (List ℕ)). n.now)) (slice_get_read names (length names) place x refl (within_names place h.1) is))

-- ---- whether a name is an interface's
pub interface_by_key : (items : List Item) (names : List (List ℕ)) (name key : List ℕ) (o : Option ℕ) → names ≡ map (λ i. folded_name (item_name i)) items
    → key ≡ folded_name name → o ≡ position (same key) names → interface_named items name ≡ option_and_then as_interface (option_and_then (slice_get items) o)
interface_by_key items names name key o e k p = interface_by_place items names name e ∙ sym (rw (p, k) refl)

pub some_copied : {X : Type 0} (o : Option (Bor X)) → is_some (option_copied o) ≡ is_some o
some_copied None = refl
some_copied (Some x) = refl

module _ {X Y : Type 0} (o : Option X) (y : Y) (b : Bool) where
  pub is_known : b ≡ is_some o → b ≡ true → (if is_some o then None else Some y) ≡ None
  is_known e t = rw (sym e ∙ t) refl

  pub is_unknown : b ≡ is_some o → b ≡ false → (if is_some o then None else Some y) ≡ Some y
  is_unknown e t = rw (sym e ∙ t) refl

pub same_list : {X : Type 0} (xs : List X) → xs ≡ map (λ x. x) xs
same_list [] = refl
same_list (x ∷ xs) = ap (λ ys. x ∷ ys) (same_list xs)

-- The last kind of error, after the others.
pub breach_before : {X : Type 0} (a b : Option X) (x : X) → a ≡ Some x → option_or a b ≡ Some x
breach_before a b x is = rw is refl

pub no_breach_before : {X : Type 0} (a b : Option X) → a ≡ None → option_or a b ≡ b
no_breach_before a b is = rw is refl
