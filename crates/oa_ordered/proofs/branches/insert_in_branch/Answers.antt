use Rattle.std.proofs.Common.{◌≡◌, ◌∙◌, None, IfOk, OnErr, sym, ap, subst}
use Rattle.std.specs.Map.{lookup}
use Rattle.std.specs.BTreeMap.{insert_entry, is_at}
use Rattle.std.proofs.lemmas.Result.{on_ok_weaker}
use Rattle.oa_ordered.specs.Rows.{IsOrdered}
use Rattle.oa_ordered.proofs.Around.{insert_in, lookup_in}
use Rattle.oa_ordered.proofs.Counted.{some_after}
use Rattle.oa_ordered.proofs.Joined.{filled_row, filled_set, row_is}
use Rattle.oa_ordered.proofs.Places.{row_ordered}
use Rattle.oa_ordered.proofs.branches.insert_in_branch.Goals as goal

pub insert-requires : goal.insert-requires
insert-requires g c =
    let branches = c.args.branches.now.items in
    let read = c.index_mut.result.now in
    subst (IsOrdered g.K.Ord.cmp) (sym (row_is branches c.args.branch read read c.requires.branch c.index_mut.ensures.value))
    (row_ordered g.K.Ord.cmp g.met.K.Ord.total c.args.key branches c.requires.in_order.ordered c.args.branch c.requires.branch)

pub returns-clause-old : goal.returns-clause-old
returns-clause-old g c =
    let branches = c.args.branches.now.items in
    let read = c.index_mut.result.now in
    let same = row_is branches c.args.branch read read c.requires.branch c.index_mut.ensures.value in
    let found = lookup_in g.K.Ord.cmp c.args.key branches c.args.branch c.requires.branch c.requires.for_key
    ∙ ap (lookup (is_at (g.K.Ord.cmp c.args.key))) (sym same) in
    subst (λ x. IfOk c.insert.result (λ old. old ≡ x)) (sym found) c.insert.ensures.old

pub returns-clause-entries : goal.returns-clause-entries
returns-clause-entries g c =
    let branches = c.args.branches.now.items in
    let read = c.index_mut.result.now in
    let same = row_is branches c.args.branch read read c.requires.branch c.index_mut.ensures.value in
    on_ok_weaker c.insert.result (λ is. insert_in g.K.Ord.cmp c.args.key branches c.args.branch c.requires.branch c.requires.for_key c.insert.new.self
    c.args.value (is ∙ ap (λ es. insert_entry g.K.Ord.cmp es c.args.key c.args.value) same)) c.insert.ensures.entries

pub returns-clause-absent : goal.returns-clause-absent
returns-clause-absent g c =
    let branches = c.args.branches.now.items in
    let read = c.index_mut.result.now in
    let same = row_is branches c.args.branch read read c.requires.branch c.index_mut.ensures.value in
    let found = lookup_in g.K.Ord.cmp c.args.key branches c.args.branch c.requires.branch c.requires.for_key
    ∙ ap (lookup (is_at (g.K.Ord.cmp c.args.key))) (sym same) in
    subst (λ x. OnErr c.insert.result (x ≡ None)) (sym found) c.insert.ensures.absent

pub returns-clause-filled : goal.returns-clause-filled
returns-clause-filled g c =
    let branches = c.args.branches.now.items in
    let read = c.index_mut.result.now in
    let same = row_is branches c.args.branch read read c.requires.branch c.index_mut.ensures.value in
    filled_set branches c.args.branch c.insert.new.self c.requires.branch
    (some_after g.K.Ord.cmp g.met.K.Ord.total c.args.key c.insert.result read c.insert.new.self c.args.value
    (rw same (filled_row branches c.args.branch c.requires.branch c.requires.in_order.filled)) c.insert.ensures.entries c.insert.ensures.err)
    c.requires.in_order.filled
