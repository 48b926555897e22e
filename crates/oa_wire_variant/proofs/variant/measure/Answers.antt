use Rattle.oa_wire_variant.proofs.VariantLaws.{as_long, canon_len}
use Rattle.oa_wire_variant.proofs.variant.measure.Goals as goal

pub returns-in-Array : goal.returns-in-Array
returns-in-Array c = rw c.in-Array.is (record {
  value = canon_len c.in-Array.array c.array_end.result c.array_end.ensures.value;
  array = as_long c.in-Array.array c.array_end.result c.array_end.ensures.value;
  small = c.array_end.ensures.near;
})
