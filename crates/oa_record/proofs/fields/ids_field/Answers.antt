use Rattle.std.proofs.Common.{◌≡◌, [], length}
use Rattle.std.specs.List.{flat_map}
use Rattle.oa_record.specs.promise.Replies.{ids_field, number_field, signed_word}
use Rattle.oa_record.proofs.Lengths.{field_is, signed_length, small_field}
use Rattle.oa_record.proofs.fields.ids_field.Goals.{In_ok-pad}
use Rattle.oa_record.proofs.fields.ids_field.Goals as goal

field_made : (c : In_ok-pad) → c.pad.new.out.items ≡ ids_field c.args.ids.now
field_made c =
    rw (c.in_ok-pad.ensures.ok, c.in_ok-put_ids.ensures, c.in_ok-extend_from_slice.ensures.items, c.two_words.ensures, c.in_ok-field.ensures.items)
    (field_is [] (number_field (length c.args.ids.now)) (flat_map signed_word c.args.ids.now) _ (signed_length c.args.ids.now))

pub returns-clause-value : goal.returns-clause-value
returns-clause-value c = field_made c

pub returns-clause-len : goal.returns-clause-len
returns-clause-len c = rw (field_made c) (small_field (length c.args.ids.now) c.args.ids.now c.requires)
