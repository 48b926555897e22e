use Rattle.std.proofs.Common.{length}
use Rattle.std.specs.List.{flat_map}
use Rattle.oa_record.specs.promise.Replies.{number_field, half_word}
use Rattle.oa_record.proofs.Lengths.{field_is, units_length}
use Rattle.oa_record.proofs.fields.add_string.Goals as goal

pub returns-clause-ok : goal.returns-clause-ok
returns-clause-ok c =
    rw (c.in_ok-pad.ensures.ok, c.in_ok-put_units.ensures.ok, c.in_ok-extend_from_slice.ensures.items, c.two_words.ensures)
    (field_is c.args.out.now.items (number_field (length c.args.text.now)) (flat_map half_word c.args.text.now) _ (units_length c.args.text.now))
