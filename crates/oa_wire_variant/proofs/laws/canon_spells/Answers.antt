use Rattle.oa_ndr.proofs.WritingLaws.{canon_is}
use Rattle.oa_variant.specs.promise.Variants.{unlocked}
use Rattle.oa_wire_variant.specs.promise.Variants.{variant}
use Rattle.oa_wire_variant.specs.promise.Canon.{put_variant}
use Rattle.oa_wire_variant.proofs.VariantLaws.{variant_writes}
use Rattle.oa_wire_variant.proofs.laws.canon_spells.Goals as goal

pub returns : goal.returns
returns c = λ v h. canon_is (λ w. variant (unlocked w)) put_variant v (variant_writes v h)
