-- The names that the declarations of an interface occupy: each except a put occupies its name for reading, each except
-- a get for setting.
use Rattle.std.specs.Prelude.{ℕ, Bool, true, false, ◌&&◌, ◌||◌, if◌then◌else◌, List, [], ◌∷◌, ◌++◌, map, Option, Some}
use Rattle.std.specs.List.{list_any, filter}
use Rattle.oa_model.specs.promise.Folding.{folded_name}
use Rattle.oa_idl.specs.declared.parts.Parameter.{Parameter}
use Rattle.oa_sema.specs.promise.Breaches.{repeated_name}
use Rattle.oa_sema.specs.promise.DeclarationValues.{DeclarationValue}
use Rattle.oa_sema.specs.promise.Libraries.{same}
use Rattle.oa_sema.specs.declared.declaration.DeclarationKind.{DeclarationKind}
use Rattle.oa_sema.specs.declared.declaration.DeclarationKind.TheVariants as kinds

-- A declaration of this kind occupies its name for reading.
abbrev pub takes_reading : DeclarationKind → Bool
takes_reading kinds.Put = false
takes_reading k = true

-- A declaration of this kind occupies its name for setting.
abbrev pub takes_setting : DeclarationKind → Bool
takes_setting kinds.Get = false
takes_setting k = true

-- The folded names that declarations occupy.
abbrev pub names_taken : (DeclarationKind → Bool) → List DeclarationValue → List (List ℕ)
names_taken takes ds =
    map (λ (d : DeclarationValue). folded_name d.name) (filter (λ (d : DeclarationValue). takes d.kind) ds)

-- The declaration needs a name that is occupied.
abbrev pub is_taken : List (List ℕ) → List (List ℕ) → DeclarationValue → Bool
is_taken reading setting d =
    (takes_reading d.kind && list_any (same (folded_name d.name)) reading)
    || (takes_setting d.kind && list_any (same (folded_name d.name)) setting)

-- The occupied names, with that of one more declaration if it occupies its name.
abbrev pub with_taken : (DeclarationKind → Bool) → DeclarationValue → List (List ℕ) → List (List ℕ)
with_taken takes d names = names ++ names_taken takes (d ∷ [])

-- The name of the declaration if it is occupied, otherwise the first of its parameters' names that equals one before
-- it.
abbrev pub repeated_by : List (List ℕ) → List (List ℕ) → DeclarationValue → Option (List ℕ)
repeated_by reading setting d =
    if is_taken reading setting d then Some d.name else repeated_name (map (λ (p : Parameter). p.name) d.parameters)
