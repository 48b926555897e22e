use Rattle.std.proofs.Common.{◌∙◌, sym}
use Rattle.oa_ordered.proofs.Places.{gap_lookup, gap_remove, parted_lookup, parted_remove}
use Rattle.oa_ordered.proofs.branch.Branch.remove.Goals as goal

pub returns-in-Ok-clause-value : goal.returns-in-Ok-clause-value
returns-in-Ok-clause-value g c =
    let place = c.in-Ok.place in
    rw (← c.self.view_is) (sym (parted_lookup g.K.Ord.cmp g.met.K.Ord.total c.args.key.now c.self.inside.rows.items c.deref.ensures.value place.row place.at
    c.in-Ok.ensures.found c.remove_at-key.result c.remove_at-key.ensures.entry))

pub returns-in-Ok-clause-entries : goal.returns-in-Ok-clause-entries
returns-in-Ok-clause-entries g c =
    let place = c.in-Ok.place in
    rw (← c.self.view_is) (c.remove_at-key.ensures.rest
    ∙ sym (parted_remove g.K.Ord.cmp g.met.K.Ord.total c.args.key.now c.self.inside.rows.items c.deref.ensures.value place.row place.at c.in-Ok.ensures.found
    c.remove_at-key.result c.remove_at-key.ensures.entry))

pub returns-in-Err-clause-value : goal.returns-in-Err-clause-value
returns-in-Err-clause-value g c =
    let place = c.in-Err.field-0 in
    rw (← c.self.view_is) (sym (gap_lookup g.K.Ord.cmp g.met.K.Ord.total c.args.key.now c.self.inside.rows.items c.deref.ensures.value place.row place.at
    c.in-Err.ensures.absent))

pub returns-in-Err-clause-entries : goal.returns-in-Err-clause-entries
returns-in-Err-clause-entries g c =
    let place = c.in-Err.field-0 in
    rw (← c.self.view_is) (sym (gap_remove g.K.Ord.cmp g.met.K.Ord.total c.args.key.now c.self.inside.rows.items c.deref.ensures.value place.row place.at
    c.in-Err.ensures.absent))
