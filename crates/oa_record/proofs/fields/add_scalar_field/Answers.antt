use Rattle.std.proofs.Common.{length, refl}
use Rattle.oa_variant.specs.declared.variant.Variant.TheVariants.{One}
use Rattle.oa_wire_variant.specs.promise.Canon.{canon}
use Rattle.oa_record.specs.promise.Replies.{number_field}
use Rattle.oa_record.proofs.Lengths.{field_is}
use Rattle.oa_record.proofs.fields.add_scalar_field.Goals as goal

pub returns-clause-ok : goal.returns-clause-ok
returns-clause-ok c =
    rw (c.in_ok-pad.ensures.ok, c.in_ok-add_scalar.ensures.ok, c.in_ok-extend_from_slice.ensures.items, c.two_words.ensures, c.one_len-len.ensures.value)
    (field_is c.args.out.now.items (number_field (length (canon (One c.args.value.now)))) (canon (One c.args.value.now)) _ refl)
