-- The names that declarations occupy.
use Rattle.std.proofs.Common.{◌≡◌, ◌<◌, ◌+◌, ℕ, Bool, true, false, not, cond, ◌&&◌, ◌||◌, if◌then◌else◌}
use Rattle.std.proofs.Common.{List, [], ◌∷◌, ◌++◌, length, map, take, get_or, Some, refl, sym, ap, ◌∙◌}
use Rattle.std.proofs.lemmas.List.{take_more}
use Rattle.std.specs.List.{list_any, filter}
use Rattle.oa_model.specs.promise.Folding.{folded_name}
use Rattle.oa_idl.specs.declared.parts.Parameter.{Parameter}
use Rattle.oa_sema.specs.promise.Breaches.{clashes, repeated_name, declared_breach}
use Rattle.oa_sema.specs.promise.DeclarationValues.{DeclarationValue}
use Rattle.oa_sema.specs.promise.Declarations.{are_one_member}
use Rattle.oa_sema.specs.promise.Libraries.{same}
use Rattle.oa_sema.specs.Taken.{takes_reading, takes_setting, names_taken, is_taken}
use Rattle.oa_sema.specs.declared.declaration.DeclarationKind.{DeclarationKind}
use Rattle.oa_sema.specs.declared.declaration.DeclarationKind.TheVariants as kinds

-- ---- with one declaration more

appended : (takes : DeclarationKind → Bool) (xs ys : List DeclarationValue) → names_taken takes (xs ++ ys) ≡ names_taken takes xs ++ names_taken takes ys
appended takes [] ys = refl
appended takes (x ∷ xs) ys = by (takes x.kind) (appended takes xs ys)
  where
    name : DeclarationValue → List ℕ
    name d = folded_name d.name

    left : List DeclarationValue → List DeclarationValue
    left ds = filter (λ (d : DeclarationValue). takes d.kind) ds

    by : (b : Bool) → map name (left (xs ++ ys)) ≡ map name (left xs) ++ map name (left ys)
        → map name (cond b (x ∷ left (xs ++ ys)) (left (xs ++ ys))) ≡ map name (cond b (x ∷ left xs) (left xs)) ++ map name (left ys)
    by true rest = ap (λ ns. name x ∷ ns) rest
    by false rest = rest

pub taken_more : (takes : DeclarationKind → Bool) (ds : List DeclarationValue) (i : ℕ) (d : DeclarationValue) → i < length ds → d ≡ get_or ds i d
    → names_taken takes (take (i + 1) ds) ≡ names_taken takes (take i ds) ++ names_taken takes (d ∷ [])
taken_more takes ds i d h is = ap (names_taken takes) (take_more ds i d h) ∙ appended takes (take i ds) (get_or ds i d ∷ [])
    ∙ ap (λ e. names_taken takes (take i ds) ++ names_taken takes (e ∷ [])) (sym is)

-- ---- A name that clashes is occupied.

either_taken : (k : DeclarationKind) → true ≡ (takes_reading k || takes_setting k)
either_taken kinds.Property = refl
either_taken kinds.ReadonlyProperty = refl
either_taken kinds.Method = refl
either_taken kinds.Get = refl
either_taken kinds.Put = refl

by_get : (k : DeclarationKind) → not (are_one_member kinds.Get k) ≡ (takes_reading k || false)
by_get kinds.Property = refl
by_get kinds.ReadonlyProperty = refl
by_get kinds.Method = refl
by_get kinds.Get = refl
by_get kinds.Put = refl

by_put : (k : DeclarationKind) → not (are_one_member kinds.Put k) ≡ takes_setting k
by_put kinds.Property = refl
by_put kinds.ReadonlyProperty = refl
by_put kinds.Method = refl
by_put kinds.Get = refl
by_put kinds.Put = refl

both_take : (j k : DeclarationKind) → not (are_one_member j k) ≡ ((takes_reading j && takes_reading k) || (takes_setting j && takes_setting k))
both_take kinds.Property k = either_taken k
both_take kinds.ReadonlyProperty k = either_taken k
both_take kinds.Method k = either_taken k
both_take kinds.Get k = by_get k
both_take kinds.Put k = by_put k

-- t: the names are equal; a, b: the later declaration occupies its name for reading, for setting; r, s: so does the
-- earlier one; m, n: one before it does.
joined : (t a b r s m n : Bool) → ((t && ((a && r) || (b && s))) || ((a && m) || (b && n))) ≡ ((a && (cond r (t || m) m)) || (b && (cond s (t || n) n)))
joined true true true true true m n = refl
joined true true true true false m n = refl
joined true true true false true true n = refl
joined true true true false true false n = refl
joined true true true false false m n = refl
joined true true false true s m n = refl
joined true true false false s m n = refl
joined true false true r true m n = refl
joined true false true r false m n = refl
joined true false false r s m n = refl
joined false true true true true m n = refl
joined false true true true false m n = refl
joined false true true false true m n = refl
joined false true true false false m n = refl
joined false true false true s m n = refl
joined false true false false s m n = refl
joined false false true r true m n = refl
joined false false true r false m n = refl
joined false false false r s m n = refl

if_taken : (key : List ℕ) (takes : DeclarationKind → Bool) (e : DeclarationValue) (ds : List DeclarationValue)
    → list_any (same key) (names_taken takes (e ∷ ds)) ≡ cond (takes e.kind) (same key (folded_name e.name) || list_any (same key) (names_taken takes ds))
    (list_any (same key) (names_taken takes ds))
if_taken key takes e ds = by (takes e.kind)
  where
    rest : List DeclarationValue
    rest = filter (λ (d : DeclarationValue). takes d.kind) ds

    by : (b : Bool) → list_any (same key) (map (λ (d : DeclarationValue). folded_name d.name) (cond b (e ∷ rest) rest)) ≡ cond b
        (same key (folded_name e.name) || list_any (same key) (map (λ (d : DeclarationValue). folded_name d.name) rest))
        (list_any (same key) (map (λ (d : DeclarationValue). folded_name d.name) rest))
    by true = refl
    by false = refl

none_taken : (a b : Bool) → false ≡ ((a && false) || (b && false))
none_taken true true = refl
none_taken true false = refl
none_taken false true = refl
none_taken false false = refl

pub clash_is_taken : (d : DeclarationValue) (ds : List DeclarationValue) → list_any (clashes d) ds ≡ is_taken (names_taken takes_reading ds)
    (names_taken takes_setting ds) d
clash_is_taken d [] = none_taken (takes_reading d.kind) (takes_setting d.kind)
clash_is_taken d (e ∷ ds) =
    let key = folded_name d.name in
    rw (both_take d.kind e.kind, clash_is_taken d ds, if_taken key takes_reading e ds, if_taken key takes_setting e ds)
    (joined (same key (folded_name e.name)) (takes_reading d.kind) (takes_setting d.kind) (takes_reading e.kind) (takes_setting e.kind)
    (list_any (same key) (names_taken takes_reading ds)) (list_any (same key) (names_taken takes_setting ds)))

pub declared_by_names : (before : List DeclarationValue) (d : DeclarationValue) (reading setting : List (List ℕ)) → reading ≡ names_taken takes_reading before
    → setting ≡ names_taken takes_setting before
    → (if is_taken reading setting d then Some d.name else repeated_name (map (λ (p : Parameter). p.name) d.parameters)) ≡ declared_breach before d
declared_by_names before d reading setting r s = rw (r, s, ← clash_is_taken d before) refl
