use Rattle.std.proofs.Common.{◌∙◌, ◌<◌, length, arith}
use Rattle.oa_ordered.proofs.Joined.{filled_rest, parted_rows}
use Rattle.oa_ordered.proofs.branch.Branch.split_off.Goals as goal

pub returns-clause-ok : goal.returns-clause-ok
returns-clause-ok g c =
    rw (← c.self.view_is) (parted_rows c.self.inside.rows.items c.shrink_to_fit.new.self.items c.in_ok-rest.rest.items c.args.at
    (c.shrink_to_fit.ensures.items ∙ c.in_ok-rest.ensures.items) c.in_ok-rest.ensures.tail)

pub returns-clause-rest : goal.returns-clause-rest
returns-clause-rest g c =
    let rows = c.self.inside.rows.items in
    let lt : c.args.at < length rows = omega (arith, c.len.ensures, c.if-len-at.false) in
    filled_rest rows c.in_ok-rest.rest.items c.args.at lt c.self.invariant c.in_ok-rest.ensures.tail
