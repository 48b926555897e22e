use Rattle.std.proofs.Common.{◌∙◌, ap}
use Rattle.oa_model.specs.promise.Guids.{wire_order}
use Rattle.oa_image.proofs.LongPuts.{is_laid}
use Rattle.oa_image.proofs.event.long_put.Goals as goal

pub returns : goal.returns
returns c =
    is_laid c.args.name.now c.args.number.now c.to_le_bytes.result c.guid_to_wire.result c.dispid_bytes.result c.long_bytes.result c.requires
    c.to_le_bytes.ensures
    (c.guid_to_wire.ensures ∙ ap wire_order c.interface-interface.ensures) c.dispid_bytes.ensures c.long_bytes.ensures
