use Rattle.std.proofs.Common.{sym, ◌∙◌}
use Rattle.std.proofs.lemmas.List.Elements.{All-from_recursion}
use Rattle.oa_wire_array.proofs.ArrayLaws.{Fits, counted, read_cells}
use Rattle.oa_wire_array.proofs.array.cells.Goals as goal

pub of_cells-requires-clause-shape : goal.of_cells-requires-clause-shape
of_cells-requires-clause-shape c = (counted c.args.elem c.args.bounds.now c.args.count c.requires).0

pub of_cells-requires-clause-count : goal.of_cells-requires-clause-count
of_cells-requires-clause-count c =
    (read_cells c.args.elem c.args.count c.args.r.now c.elements.new.r c.in_ok-cells.cells c.in_ok-cells.ensures).0
    ∙ sym (counted c.args.elem c.args.bounds.now c.args.count c.requires).1

pub of_cells-requires-clause-fits : goal.of_cells-requires-clause-fits
of_cells-requires-clause-fits c =
    All-from_recursion (Fits c.args.elem) c.in_ok-cells.cells
    (read_cells c.args.elem c.args.count c.args.r.now c.elements.new.r c.in_ok-cells.cells c.in_ok-cells.ensures).1
