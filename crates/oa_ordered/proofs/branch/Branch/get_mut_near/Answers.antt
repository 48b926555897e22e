use Rattle.std.proofs.Common.{◌∙◌, refl, sym}
use Rattle.oa_ordered.proofs.Places.{filled_changed, found_read, found_set, gap_lookup, gap_set}
use Rattle.oa_ordered.proofs.branch.Branch.get_mut_near.Goals as goal

pub invariant_of-self-lent : goal.invariant_of-self-lent
invariant_of-self-lent g c = λ w.
    let place = c.in-Ok.place in
    let row = c.index_mut.result.now in
    filled_changed g.K.Ord.cmp g.met.K.Ord.total c.args.key.now c.self.inside.rows.items c.deref.ensures.value place.row place.at c.in-Ok.ensures.found row row
    c.index_mut.ensures.value c.self.invariant w

pub returns-in-Ok : goal.returns-in-Ok
returns-in-Ok g c =
    let place = c.in-Ok.place in
    let row = c.index_mut.result.now in
    let rows = c.self.inside.rows.items in
    rw (← c.self.view_is) (
      (
        refl,
        λ w. found_set g.K.Ord.cmp g.met.K.Ord.total c.args.key.now rows c.deref.ensures.value place.row place.at c.in-Ok.ensures.found row row
            c.index_mut.ensures.value w,
        refl,
      ),
      record {
        writes_back = tt;
        value = sym c.value_mut.ensures.value ∙ found_read g.K.Ord.cmp g.met.K.Ord.total c.args.key.now rows c.deref.ensures.value place.row place.at
            c.in-Ok.ensures.found row row c.index_mut.ensures.value;
      },
    )

pub returns-in-Err : goal.returns-in-Err
returns-in-Err g c =
    let place = c.in-Err.field-0 in
    let rows = c.self.inside.rows.items in
    rw (← c.self.view_is) (
      (refl, λ w. sym (gap_set g.K.Ord.cmp g.met.K.Ord.total c.args.key.now rows c.deref.ensures.value place.row place.at c.in-Err.ensures.absent w), refl),
      record {
        writes_back = tt;
        value = sym (gap_lookup g.K.Ord.cmp g.met.K.Ord.total c.args.key.now rows c.deref.ensures.value place.row place.at
            c.in-Err.ensures.absent);
      },
    )
