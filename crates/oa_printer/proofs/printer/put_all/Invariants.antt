use Rattle.std.proofs.Common.{◌≡◌, ◌++◌, drop}
use Rattle.std.specs.List.{flat_map}
use Rattle.oa_printer.proofs.printer.put_all.Given as goal

abbrev pub invariant-texts : goal.invariant-texts
invariant-texts g l = l.out.items ++ flat_map g.T.Listed.text (drop l.one-index l.all) ≡ l.fn.out.items ++ flat_map g.T.Listed.text l.fn.all
