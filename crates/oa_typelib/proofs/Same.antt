-- Lists by their places, and equal types, names and GUIDs, as the laws of keeping use them.
use Rattle.std.proofs.Common.{◌≡◌, ◌<◌, ◌≤◌, ℕ, zero, suc, Bool, true, false, cond, ◌&&◌, ◌||◌, List, [], ◌∷◌, ◌++◌, length, drop, find, slice_get, rules}
use Rattle.std.proofs.Common.{Option, None, Some, refl, sym, ap, subst, ◌∙◌, true≢false, arith, nat_eq}
use Rattle.std.proofs.lemmas.Bool.{and_parts, and_from}
use Rattle.std.proofs.lemmas.Bool.Decides.{nat_tests}
use Rattle.std.specs.Cmp.Lexicographic.{same_text}
use Rattle.std.specs.List.{list_any, list_all, filter_map, cons_option, flat_map}
use Rattle.std.specs.Option.{option_and_then, option_map_or, option_or}
use Rattle.oa_model.specs.promise.Types.{vt_of, type_at, vt_of_value}
use Rattle.oa_model.specs.declared.var_type.VarType.{VarType}
use Rattle.oa_model.specs.declared.var_type.VarType.TheVariants as types
use Rattle.oa_model.specs.declared.var_type.ValueType.{ValueType}
use Rattle.oa_model.specs.declared.var_type.ValueType.TheVariants.{One, Array}
use Rattle.oa_sema.specs.promise.Agreement.{same_value_type, same_result}
use Rattle.oa_sema.specs.promise.Libraries.{same}
use Rattle.oa_sema.specs.promise.Repeats.{first_answer}
use Rattle.oa_typelib.proofs.Sound.{neither}

pub inside : {X : Type 0} (x y : X) → Some x ≡ Some y → x ≡ y
inside x y e = cc

-- ---- The first result.

pub none_at : {X Y : Type 0} (f : X → Option Y) (xs : List X) → first_answer f xs ≡ None → (n : ℕ) (x : X) → slice_get xs n ≡ Some x → f x ≡ None
unfolding first_answer
none_at f [] e n x h = absurd cc
none_at f (y ∷ ys) e zero x h = subst (λ z. f z ≡ None) (inside y x h) (neither (f y) (first_answer f ys) e).0
none_at f (y ∷ ys) e (suc n) x h = none_at f ys (neither (f y) (first_answer f ys) e).1 n x h

pub all_none : {X Y : Type 0} (f : X → Option Y) (xs : List X) → ((n : ℕ) (x : X) → slice_get xs n ≡ Some x → f x ≡ None) → first_answer f xs ≡ None
unfolding first_answer
all_none f [] each = refl
all_none f (x ∷ xs) each = rw (each 0 x refl) (all_none f xs (λ n y h. each (suc n) y h))

or_more : {Y : Type 0} (o p q : Option Y) → option_or (option_or o p) q ≡ option_or o (option_or p q)
or_more None p q = refl
or_more (Some y) p q = refl

pub answer_append : {X Y : Type 0} (f : X → Option Y) (xs ys : List X) → first_answer f (xs ++ ys) ≡ option_or (first_answer f xs) (first_answer f ys)
unfolding first_answer
answer_append f [] ys = refl
answer_append f (x ∷ xs) ys = ap (option_or (f x)) (answer_append f xs ys) ∙ sym (or_more (f x) (first_answer f xs) (first_answer f ys))

-- For the results of a function.
pub answer_mapped : {X Y Z : Type 0} (f : Y → Option Z) (g : X → Option Y) (xs : List X)
    → first_answer f (filter_map g xs) ≡ first_answer (λ x. option_and_then f (g x)) xs
unfolding first_answer
answer_mapped f g [] = refl
answer_mapped f g (x ∷ xs) = by (g x) (answer_mapped f g xs)
  where
    by : (o : Option _) → first_answer f (filter_map g xs) ≡ first_answer (λ x. option_and_then f (g x)) xs
        → first_answer f (cons_option o (filter_map g xs)) ≡ option_or (option_and_then f o) (first_answer (λ x. option_and_then f (g x)) xs)
    by None h = h
    by (Some y) h = ap (option_or (f y)) h

-- of lists that are put together
pub answer_flat : {X Y Z : Type 0} (f : Y → Option Z) (g : X → List Y) (xs : List X)
    → first_answer f (flat_map g xs) ≡ first_answer (λ x. first_answer f (g x)) xs
unfolding first_answer
answer_flat f g [] = refl
answer_flat f g (x ∷ xs) = answer_append f (g x) (flat_map g xs) ∙ ap (option_or (first_answer f (g x))) (answer_flat f g xs)

-- For the rest of a list from a place on.
pub answer_here : {X Y Z : Type 0} (f : Y → Option Z) (g : X → Option Y) (xs : List X) (n : ℕ) → n < length xs
    → first_answer f (filter_map g (drop n xs)) ≡ option_or (option_and_then f (option_and_then g (slice_get xs n)))
    (first_answer f (filter_map g (drop (suc n) xs)))
unfolding first_answer
answer_here f g [] n h = absurd (omega (arith, h))
answer_here f g (x ∷ xs) zero h = by (g x)
  where
    by : (o : Option _) → first_answer f (cons_option o (filter_map g xs)) ≡ option_or (option_and_then f o) (first_answer f (filter_map g xs))
    by None = refl
    by (Some y) = refl
answer_here f g (x ∷ xs) (suc n) h = answer_here f g xs n (omega (arith, h))

pub all_here : {X Y : Type 0} (p : Y → Bool) (g : X → Option Y) (xs : List X) (n : ℕ) → n < length xs
    → list_all p (filter_map g (drop n xs)) ≡ (option_map_or p (option_and_then g (slice_get xs n)) true && list_all p (filter_map g (drop (suc n) xs)))
all_here p g [] n h = absurd (omega (arith, h))
all_here p g (x ∷ xs) zero h = by (g x)
  where
    by : (o : Option _) → list_all p (cons_option o (filter_map g xs)) ≡ (option_map_or p o true && list_all p (filter_map g xs))
    by None = refl
    by (Some y) = refl
all_here p g (x ∷ xs) (suc n) h = all_here p g xs n (omega (arith, h))

-- ---- The entries of a list.

pub any_at : {X : Type 0} (test : X → Bool) (xs : List X) → list_any test xs ≡ true → (n : ℕ) × (x : X) × (slice_get xs n ≡ Some x) × (test x ≡ true)
any_at {X = X} test [] e = absurd (true≢false (sym e))
any_at {X = X} test (x ∷ xs) e = by (test x) refl e (any_at test xs)
  where
    by : (b : Bool) → test x ≡ b → (b || list_any test xs) ≡ true → (list_any test xs ≡ true → (n : ℕ) × (y : X) × (slice_get xs n ≡ Some y) × (test y ≡ true))
        → (n : ℕ) × (y : X) × (slice_get (x ∷ xs) n ≡ Some y) × (test y ≡ true)
    by true is h rest = (zero, x, refl, is)
    by false is h rest = let r = rest h in (suc r.0, r.1, r.2, r.3)

pub or_true : (b : Bool) → (b || true) ≡ true
or_true true = refl
or_true false = refl

pub at_any : {X : Type 0} (test : X → Bool) (xs : List X) (n : ℕ) (x : X) → slice_get xs n ≡ Some x → test x ≡ true → list_any test xs ≡ true
at_any test [] n x h is = absurd cc
at_any test (y ∷ ys) zero x h is = ap (λ b. b || list_any test ys) (ap test (inside y x h) ∙ is)
at_any test (y ∷ ys) (suc n) x h is = ap (λ b. test y || b) (at_any test ys n x h is) ∙ or_true (test y)

pub all_at : {X : Type 0} (test : X → Bool) (xs : List X) → list_all test xs ≡ true → (n : ℕ) (x : X) → slice_get xs n ≡ Some x → test x ≡ true
all_at test [] e n x h = absurd cc
all_at test (y ∷ ys) e zero x h = ap test (sym (inside y x h)) ∙ (and_parts (test y) (list_all test ys) e).0
all_at test (y ∷ ys) e (suc n) x h = all_at test ys (and_parts (test y) (list_all test ys) e).1 n x h

pub all_from : {X : Type 0} (test : X → Bool) (xs : List X) → ((n : ℕ) (x : X) → slice_get xs n ≡ Some x → test x ≡ true) → list_all test xs ≡ true
all_from test [] each = refl
all_from test (y ∷ ys) each = and_from (test y) (list_all test ys) (each 0 y refl) (all_from test ys (λ n x h. each (suc n) x h))

abbrev pub Came : {X Y : Type 0} → (X → Option Y) → List X → Y → Type 0
Came {X} f xs y = (n : ℕ) × (x : X) × (slice_get xs n ≡ Some x) × (f x ≡ Some y)

pub in_mapped : {X Y : Type 0} (f : X → Option Y) (xs : List X) (n : ℕ) (y : Y) → slice_get (filter_map f xs) n ≡ Some y → Came f xs y
in_mapped {X = X} {Y = Y} f [] n y h = absurd cc
in_mapped {X = X} {Y = Y} f (x ∷ xs) n y h = by (f x) refl n (λ m k. in_mapped f xs m y k) h
  where
    later : Came f xs y → Came f (x ∷ xs) y
    later r = (suc r.0, r.1, r.2, r.3)

    by : (o : Option Y) → f x ≡ o → (n : ℕ) → ((m : ℕ) → slice_get (filter_map f xs) m ≡ Some y → Came f xs y)
        → slice_get (cons_option o (filter_map f xs)) n ≡ Some y → Came f (x ∷ xs) y
    by None is n rest k = later (rest n k)
    by (Some z) is zero rest k = (zero, x, refl, is ∙ k)
    by (Some z) is (suc n) rest k = later (rest n k)

pub mapped_in : {X Y : Type 0} (f : X → Option Y) (xs : List X) (n : ℕ) (x : X) (y : Y) → slice_get xs n ≡ Some x → f x ≡ Some y → (m : ℕ)
    × (slice_get (filter_map f xs) m ≡ Some y)
mapped_in {Y = Y} f [] n x y h is = absurd cc
mapped_in {Y = Y} f (z ∷ xs) zero x y h is = (zero, rw (ap f (inside z x h) ∙ is) refl)
mapped_in {Y = Y} f (z ∷ xs) (suc n) x y h is = by (f z) (mapped_in f xs n x y h is)
  where
    by : (o : Option Y) → ((m : ℕ) × (slice_get (filter_map f xs) m ≡ Some y)) → (m : ℕ) × (slice_get (cons_option o (filter_map f xs)) m ≡ Some y)
    by None r = r
    by (Some w) r = (suc r.0, r.1)

pub found_at : {X : Type 0} (test : X → Bool) (xs : List X) (x : X) → find test xs ≡ Some x → (n : ℕ) × (slice_get xs n ≡ Some x) × (test x ≡ true)
found_at {X = X} test [] x h = absurd cc
found_at {X = X} test (y ∷ ys) x h = by (test y) refl h (found_at test ys x)
  where
    by : (b : Bool) → test y ≡ b → cond b (Some y) (find test ys) ≡ Some x → (find test ys ≡ Some x → (n : ℕ) × (slice_get ys n ≡ Some x) × (test x ≡ true))
        → (n : ℕ) × (slice_get (y ∷ ys) n ≡ Some x) × (test x ≡ true)
    by true is k rest = (zero, k, ap test (sym (inside y x k)) ∙ is)
    by false is k rest = let r = rest k in (suc r.0, r.1, r.2)

-- ---- equal bytes

pub same_itself : (bytes : List ℕ) → same bytes bytes ≡ true
same_itself bytes = search rules

pub are_same : (a b : List ℕ) → same a b ≡ true → a ≡ b
are_same a b e = same_text a b (sym e)

-- ---- equal types

type_back : (t : VarType) → type_at (vt_of t) ≡ Some t
type_back types.Empty = refl
type_back t = refl

vt_small : (t : VarType) → vt_of t ≤ 23
vt_small types.Empty = omega arith
vt_small t = omega arith

equal_numbers : (m n : ℕ) → nat_eq m n ≡ true → m ≡ n
equal_numbers m n e = grind (arith, nat_tests, e)

one_type : (s t : VarType) → vt_of s ≡ vt_of t → s ≡ t
one_type s t e = inside s t (sym (type_back s) ∙ ap type_at e ∙ type_back t)

pub types_are : (s t : ValueType) → same_value_type s t ≡ true → s ≡ t
types_are (One s) (One t) e = ap One (one_type s t (equal_numbers (vt_of s) (vt_of t) e))
types_are (Array s) (Array t) e = ap Array (one_type s t (omega (arith, equal_numbers (vt_of_value (Array s)) (vt_of_value (Array t)) e)))
types_are (One s) (Array t) e = absurd (omega (arith, equal_numbers (vt_of s) (vt_of_value (Array t)) e, vt_small s))
types_are (Array s) (One t) e = absurd (omega (arith, equal_numbers (vt_of_value (Array s)) (vt_of t) e, vt_small t))

pub type_itself : (t : ValueType) → same_value_type t t ≡ true
type_itself t = grind (arith, nat_tests)

pub results_are : (o p : Option ValueType) → same_result o p ≡ true → o ≡ p
results_are None None e = refl
results_are None (Some t) e = absurd (true≢false (sym e))
results_are (Some s) None e = absurd (true≢false (sym e))
results_are (Some s) (Some t) e = ap (λ (t : ValueType). Some t) (types_are s t e)

pub result_itself : (o : Option ValueType) → same_result o o ≡ true
result_itself None = refl
result_itself (Some t) = type_itself t
