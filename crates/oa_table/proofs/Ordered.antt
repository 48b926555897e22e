-- An entry whose key is above all others goes last.
use Rattle.std.proofs.Common.{◌≡◌, ◌+◌, ◌<◌, ℕ, eqb, false, List, [], ◌∷◌, ◌++◌, refl, ap, arith}
use Rattle.std.specs.Prelude.{All}
use Rattle.std.specs.Map.{keys_of, values_of}
use Rattle.std.specs.BTreeMap.{insert_entry}
use Rattle.std.specs.Ordering.{nat_cmp}
use Rattle.std.specs.declared.cmp.Ordering.TheVariants.{Greater}
use Rattle.std.proofs.lemmas.Bool.{eqb-true, false_from_ne_true, le-ltb}
use Rattle.std.proofs.lemmas.List.{map-append}
use Rattle.std.proofs.lemmas.List.Elements.{All-head, All-tail}
use Rattle.std.proofs.lemmas.List.Sums.{sum_by-append}
use Rattle.oa_table.specs.Parts.{with_last}
use Rattle.oa_table.specs.promise.Sizes.{object_size, table_size}
use Rattle.oa_table.specs.promise.Tables.{ObjectValue, TableValue}

above : (k f : ℕ) → f < k → nat_cmp k f ≡ Greater
above k f lt =
    let other : eqb k f ≡ false = false_from_ne_true (eqb k f) (λ e. let same = eqb-true k f e in absurd (omega (arith, lt, same))) in
    rw (le-ltb k f (omega (arith, lt)), other) refl

pub goes_last : {X : Type 0} (es : List (ℕ × X)) (k : ℕ) (x : X) → All (λ other. other < k) (keys_of es) → insert_entry nat_cmp es k x ≡ es ++ (k, x) ∷ []
goes_last [] k x h = refl
goes_last (e ∷ es) k x h =
    rw (above k e.0 (All-head (λ other. other < k) e.0 (keys_of es) h))
    (ap (λ tail. e ∷ tail) (goes_last es k x (All-tail (λ other. other < k) e.0 (keys_of es) h)))

-- and takes as many bytes more as it has
pub last_adds : (number : ℕ) (object : ObjectValue) (table : TableValue) → table_size (with_last number object table) ≡ table_size table + object_size object
unfolding table_size
last_adds number object table =
    let parts : values_of (table.objects ++ (number, object) ∷ []) ≡ values_of table.objects ++ object ∷ [] =
    map-append (λ (e : ℕ × ObjectValue). e.1) table.objects ((number, object) ∷ []) in
    rw parts (omega (arith, sum_by-append object_size (values_of table.objects) (object ∷ [])))
