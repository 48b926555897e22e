use Rattle.std.proofs.Common.{Ok, ℤ, SFits, sym, subst, rules}
use Rattle.std.specs.Int.{w32}
use Rattle.std.proofs.lemmas.Int.{to_z-of_z}
use Rattle.oa_ndr.proofs.Laws.{whole_takes}
use Rattle.oa_variant.specs.declared.scalar.Scalar.TheVariants.{I4}
use Rattle.oa_variant.specs.declared.variant.Variant.TheVariants.{One}
use Rattle.oa_wire_variant.specs.Variants.{ReadsVariant}
use Rattle.oa_wire_variant.proofs.VariantLaws.{variant_reads}
use Rattle.oa_wire_variant.proofs.variant.read_variant.Goals as goal

pub returns-in-Some : goal.returns-in-Some
returns-in-Some c =
    let fits : SFits w32 c.in-Some.number = search rules in
    record {
      exact = subst (λ (number : ℤ). ReadsVariant c.args.bytes.now (Ok (One (I4 number)))) (sym (to_z-of_z w32 c.in-Some.number fits))
          (whole_takes variant_reads c.args.bytes.now (One (I4 c.in-Some.number)) c.in-Some.ensures).1;
    }
