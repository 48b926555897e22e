use Rattle.oa_ndr.proofs.Laws.{no_proper_prefix}
use Rattle.oa_wire_variant.proofs.VariantLaws.{variant_reads}
use Rattle.oa_wire_variant.proofs.laws.no_proper_prefix.Goals as goal

pub returns : goal.returns
returns c = λ bytes rest v w p q. no_proper_prefix variant_reads bytes rest v w tt p tt q
