use Rattle.std.proofs.Common.{append_assoc}
use Rattle.oa_model.specs.promise.Guids.{wire_order}
use Rattle.oa_record.specs.promise.Replies.{number_field}
use Rattle.oa_record.proofs.fields.add_object.Goals as goal

pub returns-clause-value : goal.returns-clause-value
returns-clause-value c =
    rw (c.in_ok-extend_from_slice.ensures.items, c.in_ok-put_number_field.ensures.value, c.guid_to_wire.ensures)
    (append_assoc c.args.out.now.items (number_field c.args.number) (wire_order c.args.class.now))
