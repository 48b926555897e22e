use Rattle.oa_ndr.proofs.Laws.{one_value}
use Rattle.oa_wire_variant.proofs.VariantLaws.{variant_reads}
use Rattle.oa_wire_variant.proofs.laws.one_value.Goals as goal

pub returns : goal.returns
returns c = λ bytes v w p q. one_value variant_reads bytes v w tt p tt q
