-- The table of a bank has no locks.
use Rattle.std.proofs.Common.{◌≡◌, ℕ, List, [], ◌∷◌, map, Result, Ok, Err, refl, sym, ap, subst, ◌∙◌}
use Rattle.std.specs.List.{AllByRecursion}
use Rattle.std.specs.Map.{values_of}
use Rattle.oa_array.specs.promise.Arrays.{with_locks}
use Rattle.oa_variant.specs.promise.Variants.{unlocked}
use Rattle.oa_variant.specs.declared.variant.Variant.{Variant}
use Rattle.oa_variant.specs.declared.variant.Variant.TheVariants.{One, Array}
use Rattle.oa_table.specs.declared.event.Event.{Event}
use Rattle.oa_table.specs.declared.fault.TableFault.{TableFault}
use Rattle.oa_table.specs.promise.Elements.{locks_of}
use Rattle.oa_table.specs.promise.Events.{applied}
use Rattle.oa_table.specs.promise.Places.{PlaceValue}
use Rattle.oa_table.specs.promise.Tables.{ObjectValue, TableValue, unlocked_cell, unlocked_entry, unlocked_table}
use Rattle.oa_table.proofs.Unlocked.{event_follows}
use Rattle.oa_image.specs.promise.Events.{event}
use Rattle.oa_image.specs.promise.Tables.{object, table}
use Rattle.oa_image.proofs.Unlocked.{brings_none}
use Rattle.oa_image.proofs.TablesWithImages.{each_value, object_parts, table_parts}
use Rattle.oa_journal.specs.promise.Bank.{Replays, ReplaysAll, applied_all, followed, IsBank}
use Rattle.oa_journal.specs.declared.shape.BankFormat.{BankFormat}

value_stays : (value : Variant) → locks_of value ≡ 0 → unlocked value ≡ value
value_stays (One s) h = refl
value_stays (Array a) h = ap (λ n. Array (with_locks a n)) (sym h)

cells_stay : (cells : List (PlaceValue × Variant)) → AllByRecursion (λ v. locks_of v ≡ 0) (values_of cells) → map unlocked_cell cells ≡ cells
cells_stay [] h = refl
cells_stay (cell ∷ cells) h =
    let here = value_stays cell.1 h.0 in
    let rest = cells_stay cells h.1 in
    λ i. (cell.0, here i) ∷ rest i

objects_stay : (objects : List (ℕ × ObjectValue)) → AllByRecursion object.Is objects → map unlocked_entry objects ≡ objects
objects_stay [] h = refl
objects_stay (o ∷ os) h =
    let here = cells_stay o.1.cells (each_value o.1.cells (object_parts o h.0).all) in
    let rest = objects_stay os h.1 in
    λ i. (o.0, record { class = o.1.class; cells = here i }) ∷ rest i

-- a table that has an image
pub image_unlocked : (t : TableValue) → table.Is t → unlocked_table t ≡ t
image_unlocked t h =
    let all = objects_stay t.objects (table_parts t h).all in
    λ i. record { next = t.next; objects = all i }

abbrev made : TableValue → Result TableValue TableFault
made t = Ok t

same_made : (a b : TableValue) → made a ≡ made b → a ≡ b
same_made a b e = cc

-- and after events that have images
event_unlocked : (e : Event) (old new : TableValue) → event.Is e → unlocked_table old ≡ old → applied e old ≡ made new → unlocked_table new ≡ new
event_unlocked e old new is same makes =
    let follows : applied e (unlocked_table old) ≡ made (unlocked_table new) = rw makes at (event_follows e old (brings_none e is)) in
    same_made (unlocked_table new) new (sym follows ∙ ap (applied e) same ∙ makes)

events_unlocked : (es : List Event) (old new : TableValue) → AllByRecursion event.Is es → unlocked_table old ≡ old → applied_all es old ≡ made new
    → unlocked_table new ≡ new
events_unlocked [] old new all same makes = subst (λ t. unlocked_table t ≡ t) (same_made old new makes) same
events_unlocked (e ∷ es) old new all same makes = by (applied e old) refl makes (events_unlocked es)
  where
    by : (r : Result TableValue TableFault) → applied e old ≡ r → followed (λ next. applied_all es next) r ≡ made new
        → ((mid last : TableValue) → AllByRecursion event.Is es → unlocked_table mid ≡ mid → applied_all es mid ≡ made last → unlocked_table last ≡ last)
        → unlocked_table new ≡ new
    by (Ok mid) is rest next = next mid new all.1 (event_unlocked e old mid all.0 same is) rest
    by (Err fault) is rest next = absurd cc

-- so has the table that a group makes of one without locks
pub group_unlocked : (group : List ℕ) (old new : TableValue) → Replays group old new → unlocked_table old ≡ old → unlocked_table new ≡ new
group_unlocked group old new is same = events_unlocked is.events old new is.are.are same is.makes

groups_unlocked : (groups : List (List ℕ)) (old new : TableValue) → unlocked_table old ≡ old → ReplaysAll groups old new → unlocked_table new ≡ new
groups_unlocked [] old new same is = subst (λ t. unlocked_table t ≡ t) is same
groups_unlocked (group ∷ groups) old new same is = groups_unlocked groups is.0 new (group_unlocked group old is.0 is.1 same) is.2

pub no_locks : (shape : BankFormat) (head body : ℕ → ℕ) (library : List ℕ) (now : TableValue) (gate : ℕ)
    → IsBank shape head body library now gate → unlocked_table now ≡ now
no_locks shape head body library now gate bank = groups_unlocked bank.groups bank.first now (image_unlocked bank.first bank.is) bank.makes
