use Rattle.std.proofs.Common.{◌≤◌, length, arith}
use Rattle.oa_variant.specs.declared.variant.Variant.TheVariants.{One}
use Rattle.oa_wire_variant.specs.promise.Canon.{canon}
use Rattle.oa_record.specs.Replies.{max_value_bytes}
use Rattle.oa_record.proofs.Lengths.{value_small}
use Rattle.oa_record.proofs.fields.scalar_field.Goals as goal

pub returns-clause-len : goal.returns-clause-len
returns-clause-len c =
    let is = c.one_len.ensures.value in
    let small = c.one_len.ensures.small in
    let few : length (canon (One c.args.value.now)) ≤ max_value_bytes = omega (arith, is, small) in
    rw (c.in_ok-put_scalar_field.ensures.value, c.in_ok-field.ensures.items)
    (value_small (length (canon (One c.args.value.now))) (canon (One c.args.value.now)) few)
