use Rattle.oa_formats.specs.promise.Formats.{made_where, raw}
use Rattle.oa_formats.specs.promise.Numbers.{guid_format}
use Rattle.oa_formats.proofs.writing.put_guid.Goals as goal

pub returns : goal.returns
unfolding guid_format made_where raw
returns c = rw c.guid_to_wire.ensures at c.put_bytes.ensures
