use Rattle.std.proofs.Common.{◌∙◌, Option, Some, sym, ap}
use Rattle.oa_ordered.proofs.Joined.{on_err_always}
use Rattle.oa_ordered.proofs.Places.{filled_changed, found_insert, found_read, gap_insert, gap_lookup}
use Rattle.oa_ordered.proofs.branch.Branch.insert.Goals as goal

abbrev some : {X : Type 0} → X → Option X
some x = Some x

-- the key is there
pub invariant_of-self : goal.invariant_of-self
invariant_of-self g c =
    let place = c.in-Ok.place in
    let row = c.index_mut.result.now in
    filled_changed g.K.Ord.cmp g.met.K.Ord.total c.args.key c.self.inside.rows.items c.deref.ensures.value place.row place.at c.in-Ok.ensures.found row row
    c.index_mut.ensures.value c.self.invariant c.replace.new.dest

pub returns-in-Ok-clause-old : goal.returns-in-Ok-clause-old
returns-in-Ok-clause-old g c =
    let place = c.in-Ok.place in
    let row = c.index_mut.result.now in
    rw (← c.self.view_is) (ap some c.replace.ensures.value ∙ sym c.value_mut.ensures.value
    ∙ found_read g.K.Ord.cmp g.met.K.Ord.total c.args.key c.self.inside.rows.items c.deref.ensures.value place.row place.at c.in-Ok.ensures.found row row
    c.index_mut.ensures.value)

pub returns-in-Ok-clause-entries : goal.returns-in-Ok-clause-entries
returns-in-Ok-clause-entries g c =
    let place = c.in-Ok.place in
    let row = c.index_mut.result.now in
    rw (← c.self.view_is, c.replace.ensures.after)
    (found_insert g.K.Ord.cmp g.met.K.Ord.total c.args.key c.self.inside.rows.items c.deref.ensures.value place.row place.at c.in-Ok.ensures.found row row
    c.index_mut.ensures.value c.args.value)

-- it is not
pub returns-in_err-insert_at-in-Err-clause-absent : goal.returns-in_err-insert_at-in-Err-clause-absent
returns-in_err-insert_at-in-Err-clause-absent g c =
    let place = c.in-Err.place in
    rw (← c.self.view_is) (on_err_always c.from_residual.result
    (gap_lookup g.K.Ord.cmp g.met.K.Ord.total c.args.key c.self.inside.rows.items c.deref.ensures.value place.row place.at c.in-Err.ensures.absent))

pub returns-in_ok-insert_at-in-Err-clause-old : goal.returns-in_ok-insert_at-in-Err-clause-old
returns-in_ok-insert_at-in-Err-clause-old g c =
    let place = c.in-Err.place in
    rw (← c.self.view_is) (sym (gap_lookup g.K.Ord.cmp g.met.K.Ord.total c.args.key c.self.inside.rows.items c.deref.ensures.value place.row place.at
    c.in-Err.ensures.absent))

pub returns-in_ok-insert_at-in-Err-clause-entries : goal.returns-in_ok-insert_at-in-Err-clause-entries
returns-in_ok-insert_at-in-Err-clause-entries g c =
    let place = c.in-Err.place in
    rw (← c.self.view_is) (c.in_ok-insert_at-in-Err.ensures.ok
    ∙ gap_insert g.K.Ord.cmp g.met.K.Ord.total c.args.key c.self.inside.rows.items c.deref.ensures.value place.row place.at c.in-Err.ensures.absent
    c.args.value)
