use Rattle.std.proofs.Common.{◌≤◌, length, rules}
use Rattle.oa_wire_variant.specs.promise.Canon.{canon}
use Rattle.oa_record.specs.Replies.{max_value_bytes}
use Rattle.oa_record.proofs.Lengths.{value_small}
use Rattle.oa_record.proofs.fields.variant_field.Goals as goal

pub returns-clause-len : goal.returns-clause-len
returns-clause-len c =
    let few : length (canon c.args.value.now) ≤ max_value_bytes = search rules in
    rw (c.in_ok-add_value.ensures.ok, c.in_ok-field.ensures.items) (value_small (length (canon c.args.value.now)) (canon c.args.value.now) few)
