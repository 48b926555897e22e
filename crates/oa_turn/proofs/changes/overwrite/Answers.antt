use Rattle.std.proofs.Common.{◌≡◌, ◌-◌, ◌≤◌, ℕ, [], None, true≢false, Result, Ok, Err, IfErr, IsOk, OnErr, OnOk, refl, sym, arith}
use Rattle.oa_decision.specs.promise.Limits.{allowed, limited}
use Rattle.oa_image.specs.promise.Tables.{reserved_bytes}
use Rattle.oa_table.specs.promise.Events.{applied}
use Rattle.oa_formats.specs.promise.Lengths.{value_size}
use Rattle.oa_table.specs.Sizes.{size_after, size_due}
use Rattle.oa_table.specs.promise.Sizes.{table_size}
use Rattle.oa_table.specs.promise.Tables.{TableValue, cell_in, object_at}
use Rattle.oa_table.specs.declared.event.Event.TheVariants.{Put}
use Rattle.oa_table.specs.declared.fault.TableFault.{TableFault}
use Rattle.oa_table.specs.declared.name.CellName.{CellName}
use Rattle.oa_turn.specs.Limits.{IsSoundTable}
use Rattle.oa_turn.proofs.Allowed.{again_allowed, again_within, allowed_sound}
use Rattle.oa_variant.specs.declared.variant.Variant.{Variant}
use Rattle.oa_turn.proofs.changes.overwrite.Goals as goal

module _ (bank : ℕ) (name : CellName) (value : Variant) (old new : TableValue) where
  changes : {E : Type 0} (most longest : ℕ) (result : Result (Unit {0}) E) → name.place.key ≡ [] → longest ≤ 4194277 → most ≡ bank - reserved_bytes
      → OnOk result (applied (Put name value) old ≡ Ok new)
      → OnOk result (value_size value ≤ longest) → OnOk result (table_size new ≤ most) → OnOk result (allowed bank (Put name value) old ≡ Ok new)
  changes most longest (Ok u) keyless few is at short small = again_allowed bank name value old new keyless at (omega (arith, few, short)) (rw is at small)
  changes most longest (Err back) keyless few is at short small = tt

  sound : {E : Type 0} (v : E) (result : Result (Unit {0}) E) → OnOk result (allowed bank (Put name value) old ≡ Ok new)
      → IfErr result (λ back. (back ≡ v) × (new ≡ old)) → IsSoundTable bank old → IsSoundTable bank new
  sound v (Ok u) is same was = allowed_sound bank (Put name value) old new was is
  sound v (Err back) is same was = rw same.1 was

  refused : {E : Type 0} (most longest : ℕ) (result : Result (Unit {0}) E) → name.place.key ≡ [] → 4194277 ≤ longest → most ≡ bank - reserved_bytes
      → OnErr result (IsOk (applied (Put name value) old) → value_size value ≤ longest → size_after (Put name value) old ≤ most
      → cell_in name.place (object_at name.object old) ≡ None)
      → OnErr result (IsOk (allowed bank (Put name value) old) → cell_in name.place (object_at name.object old) ≡ None)
  refused most longest (Ok u) keyless many is h = tt
  refused most longest (Err back) keyless many is h = λ ok. by (applied (Put name value) old) ok h
    where
      by : (due : Result TableValue TableFault) → IsOk (limited bank (Put name value) due)
          → (IsOk due → value_size value ≤ longest → size_due table_size due old ≤ most → cell_in name.place (object_at name.object old) ≡ None)
          → cell_in name.place (object_at name.object old) ≡ None
      by (Ok made) ok h = let few = again_within bank name value made keyless ok in h refl (omega (arith, few.0, many)) (omega (arith, few.1, is))
      by (Err fault) ok h = absurd (true≢false (sym ok))

pub returns-clause-change : goal.returns-clause-change
returns-clause-change c =
    changes c.args.bank c.args.name.now c.args.value c.args.table.now c.overwrite.new.self c.max_table_image.result _ c.overwrite.result c.requires.keyless
    (omega arith) c.max_table_image.ensures
    c.overwrite.ensures.done c.overwrite.ensures.longest c.overwrite.ensures.most

pub returns-clause-sound : goal.returns-clause-sound
returns-clause-sound c =
    sound c.args.bank c.args.name.now c.args.value c.args.table.now c.overwrite.new.self c.args.value c.overwrite.result
    (changes c.args.bank c.args.name.now c.args.value c.args.table.now c.overwrite.new.self c.max_table_image.result _ c.overwrite.result c.requires.keyless
    (omega arith) c.max_table_image.ensures
    c.overwrite.ensures.done c.overwrite.ensures.longest c.overwrite.ensures.most)
    c.overwrite.ensures.back

pub returns-clause-refused : goal.returns-clause-refused
returns-clause-refused c =
    refused c.args.bank c.args.name.now c.args.value c.args.table.now c.overwrite.new.self c.max_table_image.result _ c.overwrite.result c.requires.keyless
    (omega arith) c.max_table_image.ensures c.overwrite.ensures.refused
