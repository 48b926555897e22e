use Rattle.std.proofs.Common.{◌≡◌, ◌++◌, take}
use Rattle.std.specs.List.{flat_map}
use Rattle.oa_record.specs.promise.Replies.{signed_word}
use Rattle.oa_record.proofs.fields.put_ids.Given as goal

abbrev pub invariant-ids : goal.invariant-ids
invariant-ids l = l.out.items ≡ l.fn.out.items ++ flat_map signed_word (take l.id-index l.ids)
