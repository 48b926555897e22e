use Rattle.oa_formats.proofs.Elements.{element_same}
use Rattle.oa_formats.proofs.array.put_cell.Goals as goal

pub returns : goal.returns
returns c = rw (← element_same c.args.elem c.args.s.now c.requires) c.put_element.ensures
