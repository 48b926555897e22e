use Rattle.std.proofs.Common.{eqb, sym, ap, ◌∙◌, ℕ}
use Rattle.oa_wire_array.proofs.ArrayLaws.{counts, not_counted}
use Rattle.oa_wire_array.proofs.array.is_count.Goals as goal

pub returns-in-Some : goal.returns-in-Some
returns-in-Some c = let e = c.in-Some.ensures in ap (λ (n : ℕ). eqb n c.args.count) e.1 ∙ sym (counts c.args.elem c.args.bounds.now c.args.count e.0)

pub returns-in-None : goal.returns-in-None
returns-in-None c = not_counted c.args.elem c.args.bounds.now c.args.count c.in-None.ensures
