use Rattle.std.proofs.Common.{ap, sym, slice_index_or}
use Rattle.oa_ordered.proofs.Places.{found_lookup, gap_lookup}
use Rattle.oa_ordered.proofs.branch.Branch.get_near.Goals as goal

pub returns-in-Ok : goal.returns-in-Ok
returns-in-Ok g c =
    let place = c.in-Ok.place in
    let row = c.index.result.now in
    let d = c.index-as_slice-place.result in
    rw (← c.self.view_is) (sym (found_lookup g.K.Ord.cmp g.met.K.Ord.total c.args.key.now c.self.inside.rows.items c.deref.ensures.value place.row place.at
    c.in-Ok.ensures.found row row c.index.ensures
    _ d (ap (λ es. slice_index_or es place.at d) c.as_slice.ensures)))

pub returns-in-Err : goal.returns-in-Err
returns-in-Err g c =
    let place = c.in-Err.field-0 in
    rw (← c.self.view_is) (sym (gap_lookup g.K.Ord.cmp g.met.K.Ord.total c.args.key.now c.self.inside.rows.items c.deref.ensures.value place.row place.at
    c.in-Err.ensures.absent))
