use Rattle.std.proofs.Common.{◌≡◌, ◌++◌, take}
use Rattle.std.specs.List.{flat_map}
use Rattle.oa_record.specs.promise.Replies.{half_word}
use Rattle.oa_record.proofs.fields.put_units.Given as goal

abbrev pub invariant-units : goal.invariant-units
invariant-units l = l.out.items ≡ l.fn.out.items ++ flat_map half_word (take l.character-index l.text)
