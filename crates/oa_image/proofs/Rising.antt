-- Lists that rise.
use Rattle.std.proofs.Common.{◌≡◌, suc, ◌-◌, Bool, true, false, cond, List, [], ◌∷◌, ◌++◌, length, slice_get, map, Some, refl, ap, arith}
use Rattle.std.specs.List.{AllByRecursion}
use Rattle.std.specs.List.Sorted.{IsStrictlySortedBy}
use Rattle.std.specs.Map.{keys_of}
use Rattle.std.specs.Cmp.{IsTotalOrder}
use Rattle.std.specs.Ordering.{is_lt}
use Rattle.std.specs.declared.cmp.Ordering.{Ordering}
use Rattle.std.specs.declared.cmp.Ordering.TheVariants.{Less, Equal, Greater}
use Rattle.oa_formats.specs.promise.Formats.{rising, same_content}
use Rattle.oa_image.specs.Reader.{is_behind}

less : (o : Ordering) → is_lt o ≡ true → o ≡ Less
less Less e = refl
less Equal e = absurd cc
less Greater e = absurd cc

both : (b c : Bool) → cond b c false ≡ true → (b ≡ true) × (c ≡ true)
both true c e = (refl, e)
both false c e = absurd cc

-- one more, behind the last
pub joined : {A : Type 0} (before : A → A → Bool) (xs : List A) (x : A) → rising before xs ≡ true → is_behind before xs x ≡ true
    → rising before (xs ++ x ∷ []) ≡ true
joined before [] x r b = refl
joined before (y ∷ []) x r b = rw b refl
joined before (y ∷ z ∷ xs) x r b = let p = both (before y z) (rising before (z ∷ xs)) r in rw p.0 (joined before (z ∷ xs) x p.1 b)

pub apart : {A : Type 0} (before : A → A → Bool) (xs : List A) (x : A) (ys : List A) → rising before (xs ++ x ∷ ys) ≡ true
    → is_behind before xs x ≡ true
apart before [] x ys r = refl
apart before (y ∷ []) x ys r = (both (before y x) (rising before (x ∷ ys)) r).0
apart before (y ∷ z ∷ xs) x ys r = apart before (z ∷ xs) x ys (both (before y z) (rising before (z ∷ xs ++ x ∷ ys)) r).1

-- the last one is the one before it
pub last_one : {A : Type 0} (before : A → A → Bool) (xs : List A) (l x : A) → Some l ≡ slice_get xs (length xs - 1) → before l x ≡ is_behind before xs x
last_one before [] l x e = absurd cc
last_one before (y ∷ []) l x e = ap (λ z. before z x) (same_content l y e)
last_one before (y ∷ z ∷ ys) l x e =
    let one : length (y ∷ z ∷ ys) - 1 ≡ suc (length ys) = omega arith in
    let two : length (z ∷ ys) - 1 ≡ length ys = omega arith in
    last_one before (z ∷ ys) l x (rw two (rw one at e))

above_all : {K : Type 0} (cmp : K → K → Ordering) (total : IsTotalOrder cmp) (k l : K) (ks : List K) → cmp k l ≡ Less
    → AllByRecursion (λ j. cmp l j ≡ Less) ks → AllByRecursion (λ j. cmp k j ≡ Less) ks
above_all cmp total k l [] e h = tt
above_all cmp total k l (j ∷ ks) e h = (total.trans k l j e h.0, above_all cmp total k l ks e h.1)

abbrev by_key : {K X : Type 0} → (K → K → Ordering) → K × X → K × X → Bool
by_key cmp a b = is_lt (cmp a.0 b.0)

-- each key before the next, so before all behind it
pub sorted : {K X : Type 0} (cmp : K → K → Ordering) → IsTotalOrder cmp → (xs : List (K × X)) → rising (by_key cmp) xs ≡ true
    → IsStrictlySortedBy cmp (keys_of xs)
unfolding IsStrictlySortedBy
sorted cmp total [] e = tt
sorted cmp total (x ∷ []) e = (tt, tt)
sorted cmp total (x ∷ y ∷ xs) e =
    let parts = both (by_key cmp x y) (rising (by_key cmp) (y ∷ xs)) e in
    let rest = sorted cmp total (y ∷ xs) parts.1 in
    let first = less (cmp x.0 y.0) parts.0 in
    ((first, above_all cmp total x.0 y.0 (keys_of xs) first rest.0), rest)

-- in order, with other values beside the keys
pub rises : {K X Y : Type 0} (cmp : K → K → Ordering) (g : X → Y) (xs : List (K × X)) → IsStrictlySortedBy cmp (keys_of xs)
    → rising (by_key cmp) (map (λ e. (e.0, g e.1)) xs) ≡ true
unfolding IsStrictlySortedBy
rises cmp g [] s = refl
rises cmp g (x ∷ []) s = refl
rises cmp g (x ∷ y ∷ xs) s = rw (s.0.0, rises cmp g (y ∷ xs) s.1) refl
