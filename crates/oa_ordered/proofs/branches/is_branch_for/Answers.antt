use Rattle.std.proofs.Common.{◌∙◌, ◌+◌, ◌<◌, length, arith, sym}
use Rattle.std.proofs.lemmas.List.{drop_all}
use Rattle.oa_ordered.proofs.Places.{row_for_all, rows_above, rows_below}
use Rattle.oa_ordered.proofs.branches.is_branch_for.Goals as goal

pub returns-then-branch-branches : goal.returns-then-branch-branches
returns-then-branch-branches g c = λ yes.
    let branches = c.args.branches.now in
    let branch = c.args.branch in
    row_for_all g.K.Ord.cmp g.met.K.Ord.total c.args.key.now branches branch (branch + 1) (record {
      rises = omega arith;
      one = λ some. omega arith;
      inside = omega (arith, c.requires.branch);
      below = rows_below g.K.Ord.cmp g.met.K.Ord.total c.args.key.now branches c.requires.in_order.ordered branch c.requires.branch
          c.index-branches-branch.result c.index-branches-branch.result c.index-branches-branch.is c.requires.in_order.filled c.if-begins_after.ensures;
      above = rw (drop_all (branch + 1) branches (omega (arith, c.if-branch-branches.true))) tt;
    }) (omega arith)

pub returns : goal.returns
returns g c = λ yes.
    let branches = c.args.branches.now in
    let branch = c.args.branch in
    let lt : branch + 1 < length branches = omega (arith, c.requires.branch, c.if-branch-branches.false) in
    row_for_all g.K.Ord.cmp g.met.K.Ord.total c.args.key.now branches branch (branch + 1) (record {
      rises = omega arith;
      one = λ some. omega arith;
      inside = omega (arith, lt);
      below = rows_below g.K.Ord.cmp g.met.K.Ord.total c.args.key.now branches c.requires.in_order.ordered branch c.requires.branch
          c.index-branches-branch.result c.index-branches-branch.result c.index-branches-branch.is c.requires.in_order.filled c.if-begins_after.ensures;
      above = rows_above g.K.Ord.cmp g.met.K.Ord.total c.args.key.now branches c.requires.in_order.ordered
          (branch + 1) lt c.index-branches-branch-2.result c.index-branches-branch-2.result c.index-branches-branch-2.is (sym yes ∙ c.begins_after-2.ensures);
    }) (omega arith)
