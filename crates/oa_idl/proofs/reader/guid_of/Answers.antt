use Rattle.std.proofs.Common.{◌∙◌}
use Rattle.oa_idl.proofs.Guids.{guid_is}
use Rattle.oa_idl.proofs.reader.guid_of.Goals as goal

pub returns : goal.returns
returns c = c.ok.ensures.value ∙ guid_is c.args.text.now c.try_parse_ascii.result c.if-text-ne-GUID_CHARACTERS.false c.try_parse_ascii.ensures.ok
    c.try_parse_ascii.ensures.bytes
