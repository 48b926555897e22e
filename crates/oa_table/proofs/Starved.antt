-- Changes that find no memory.
use Rattle.std.proofs.Common.{◌≡◌, ℕ, ◌≤◌, ◌<◌, Bool, true, false, cond, Option, Some, None, Result, Ok, Err, IfErr, arith}
use Rattle.std.proofs.Math.Logic.{inr}
use Rattle.std.specs.Map.{remove_entry}
use Rattle.std.specs.BTreeMap.{is_at}
use Rattle.std.specs.Ordering.{nat_cmp}
use Rattle.std.proofs.lemmas.Map.Entries.{sum_by-remove_entry}
use Rattle.oa_array.specs.declared.fault.ArrayFault.TheVariants as arrays
use Rattle.oa_table.specs.declared.event.Event.{Event}
use Rattle.oa_table.specs.declared.event.Event.TheVariants.{Create, Release, Put, PutElement, Redim}
use Rattle.oa_table.specs.declared.fault.TableFault.{TableFault}
use Rattle.oa_table.specs.declared.fault.TableFault.TheVariants.{Array, Memory}
use Rattle.oa_table.specs.promise.Events.{released, released_if_live}
use Rattle.oa_table.specs.Memory.{MayWantMemory}
use Rattle.oa_table.specs.promise.Objects.{any_locked}
use Rattle.oa_table.specs.Sizes.{largest_image, size_after, size_due}
use Rattle.oa_table.specs.promise.Sizes.{object_size, table_size}
use Rattle.oa_table.specs.promise.Tables.{ObjectValue, TableValue, object_at}
use Rattle.oa_table.proofs.Through.{told_by}

-- by a release no image gets longer
release_less : (number : ℕ) (t : TableValue) → size_due table_size (released number t) t ≤ table_size t
unfolding table_size
release_less number t = by (object_at number t)
  where
    at : (b : Bool) → size_due table_size (cond b (Err (Array arrays.IsLocked)) (Ok (record t { objects = remove_entry (is_at (nat_cmp number)) t.objects }))) t
        ≤ table_size t
    at true = omega arith
    at false = omega (arith, sum_by-remove_entry object_size (is_at (nat_cmp number)) t.objects)

    by : (o : Option ObjectValue) → size_due table_size (released_if_live number t o) t ≤ table_size t
    by None = omega arith
    by (Some object) = at (any_locked object.cells)

-- a change whose image is longer than the longest
pub too_long : (event : Event) (t : TableValue) → table_size t ≤ largest_image → largest_image < size_after event t → MayWantMemory event t
too_long (Create number class) t kept long = tt
too_long (Release number) t kept long = absurd (omega (arith, release_less number t, kept, long))
too_long (Put name value) t kept long = inr long
too_long (PutElement name index value) t kept long = long
too_long (Redim name bound) t kept long = tt

-- what holds of want of memory, told of another change
pub starved_told : {E F U : Type 0} (g : E → F) (P : Type 0) (result : Result U (E × TableFault)) → IfErr result (λ e. e.1 ≡ Memory → P)
    → IfErr (told_by g result) (λ e. e.1 ≡ Memory → P)
starved_told g P (Ok u) h = h
starved_told g P (Err e) h = h

-- what follows from no want of memory
pub never : {E U : Type 0} (P : Type 0) (result : Result U (E × TableFault)) → IfErr result (λ e. e.1 ≡ Memory → ⊥) → IfErr result (λ e. e.1 ≡ Memory → P)
never P (Ok u) h = h
never P (Err e) h = λ is. absurd (h is)
