use Rattle.std.proofs.Common.{◌≡◌, map, take}
use Rattle.oa_sema.specs.Libraries.{folded_names}
use Rattle.oa_typelib.specs.Indexes.{entered_in}
use Rattle.oa_typelib.proofs.index.entered_rows.Given as goal

abbrev pub invariant-loop-item : goal.invariant-loop-item
invariant-loop-item l = map (λ row. row.items) l.rows.items ≡ map (entered_in (folded_names l.items)) (take l.item-index l.items)
