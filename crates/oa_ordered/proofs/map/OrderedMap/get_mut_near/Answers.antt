use Rattle.std.proofs.Common.{◌≡◌, ◌∙◌, ◌<◌, Some, length, slice_get, slice_index_or, refl, sym, ap, subst, arith}
use Rattle.std.specs.Option.{option_map}
use Rattle.std.specs.Map.{lookup, set_value}
use Rattle.std.specs.BTreeMap.{is_at}
use Rattle.std.specs.Vec.{with_item}
use Rattle.oa_ordered.specs.Rows.{IsOrdered, IsRowFor, concat_rows, with_value_at}
use Rattle.oa_ordered.specs.Roots.{IsMap, entries_of}
use Rattle.oa_ordered.specs.declared.root.Root.TheVariants.{Many, One}
use Rattle.oa_ordered.proofs.Around.{filled_in, lookup_in, same_in, set_in}
use Rattle.oa_ordered.proofs.Counted.{map_same, map_set}
use Rattle.oa_ordered.proofs.InRow.{row_absent, row_gap_set, row_read, row_set}
use Rattle.oa_ordered.proofs.Joined.{filled_row, filled_set, row_is}
use Rattle.oa_ordered.proofs.Places.{row_ordered}
use Rattle.oa_ordered.proofs.map.OrderedMap.get_mut_near.Goals as goal

-- in one row
pub invariant_of-self-lent : goal.invariant_of-self-lent
invariant_of-self-lent g c =
    let row = c.in-One.row in
    let seen : c.as_slice.result.now ≡ row = c.as_slice.ensures ∙ c.in-One.row-is in
    let map : IsMap g.K.Ord.cmp (One row) c.self.inside.len = subst (λ f. IsMap g.K.Ord.cmp f c.self.inside.len) c.in-One.is c.self.invariant in
    rw c.in-One.is (λ w. map_set g.K.Ord.cmp g.met.K.Ord.total c.args.key.now (One row) (One (with_value_at row c.in-Ok.at w)) c.self.inside.len map tt w
    (row_set g.K.Ord.cmp c.args.key.now row seen c.in-Ok.at c.in-Ok.ensures.found w))

pub returns-in-Ok : goal.returns-in-Ok
returns-in-Ok g c =
    let row = c.in-One.row in
    let seen : c.as_slice.result.now ≡ row = c.as_slice.ensures ∙ c.in-One.row-is in
    let all : c.args.self.now ≡ row = sym c.self.view_is ∙ ap entries_of c.in-One.is in
    rw (all, c.in-One.is) (
      (refl, λ w. row_set g.K.Ord.cmp c.args.key.now row seen c.in-Ok.at c.in-Ok.ensures.found w, refl),
      record {
        writes_back = tt;
        value = sym (subst (λ es. option_map (λ e. e.1) (slice_get es c.in-Ok.at) ≡ Some c.value_mut.result.now) c.in-One.row-is
            c.value_mut.ensures.value) ∙ row_read g.K.Ord.cmp c.args.key.now row seen c.in-Ok.at c.in-Ok.ensures.found;
      },
    )

pub returns-in-Err : goal.returns-in-Err
returns-in-Err g c =
    let row = c.in-One.row in
    let seen : c.as_slice.result.now ≡ row = c.as_slice.ensures ∙ c.in-One.row-is in
    let all : c.args.self.now ≡ row = sym c.self.view_is ∙ ap entries_of c.in-One.is in
    rw all (
      (refl, λ w. rw c.in-One.is (sym (row_gap_set g.K.Ord.cmp c.args.key.now row seen c.in-Err.field-0 c.in-Err.ensures.absent w)), rw c.in-One.is refl),
      record { writes_back = tt; value = sym (row_absent g.K.Ord.cmp c.args.key.now row seen c.in-Err.field-0 c.in-Err.ensures.absent) },
    )

-- in branches
pub get_mut_near-requires : goal.get_mut_near-requires
get_mut_near-requires g c =
    let branches = c.in-Many.branches.items in
    let branch = c.branch_for-branch.result in
    let map : IsMap g.K.Ord.cmp (Many c.in-Many.branches) c.self.inside.len =
    subst (λ f. IsMap g.K.Ord.cmp f c.self.inside.len) c.in-Many.is c.self.invariant in
    let of : IsRowFor g.K.Ord.cmp c.args.key.now branches branch = subst (λ all. IsRowFor g.K.Ord.cmp c.args.key.now all branch)
    (c.deref.ensures.value ∙ ap (λ v. v.items) c.in-Many.branches-is) c.branch_for-branch.ensures in
    let lt : branch < length branches = omega (arith, of.place, c.len.ensures, ap (λ v. v.len) c.in-Many.branches-is, c.if-branch-len.false) in
    let read = c.index_mut.result.now in
    let same = row_is branches branch read read lt (c.index_mut.ensures.value ∙ ap (λ v. slice_index_or v.items branch read) c.in-Many.branches-is) in
    subst (IsOrdered g.K.Ord.cmp) (sym same) (row_ordered g.K.Ord.cmp g.met.K.Ord.total c.args.key.now branches map.ordered branch lt)

pub invariant_of-self-lent-in-Many : goal.invariant_of-self-lent-in-Many
invariant_of-self-lent-in-Many g c =
    let branches = c.in-Many.branches.items in
    let branch = c.branch_for-branch.result in
    let map : IsMap g.K.Ord.cmp (Many c.in-Many.branches) c.self.inside.len =
    subst (λ f. IsMap g.K.Ord.cmp f c.self.inside.len) c.in-Many.is c.self.invariant in
    let of : IsRowFor g.K.Ord.cmp c.args.key.now branches branch = subst (λ all. IsRowFor g.K.Ord.cmp c.args.key.now all branch)
    (c.deref.ensures.value ∙ ap (λ v. v.items) c.in-Many.branches-is) c.branch_for-branch.ensures in
    let lt : branch < length branches = omega (arith, of.place, c.len.ensures, ap (λ v. v.len) c.in-Many.branches-is, c.if-branch-len.false) in
    let read = c.index_mut.result.now in
    let same = row_is branches branch read read lt (c.index_mut.ensures.value ∙ ap (λ v. slice_index_or v.items branch read) c.in-Many.branches-is) in
    let follows = c.get_mut_near.follows in
    let some : 0 < length follows.lender-at-none = rw (follows.holds-at-none, same) (filled_row branches branch lt map.filled) in
    rw c.in-Many.is (λ r. (
      λ w. map_set g.K.Ord.cmp g.met.K.Ord.total c.args.key.now (Many c.in-Many.branches) (Many (with_item c.in-Many.branches branch (follows.lender w)))
          c.self.inside.len map
          (filled_in g.K.Ord.cmp c.args.key.now branches branch lt of map.filled read (follows.lender w) w same (follows.holds w)) w
          (set_in g.K.Ord.cmp c.args.key.now branches branch lt of (follows.lender w) w
          (follows.holds w ∙ ap (λ es. set_value (is_at (g.K.Ord.cmp c.args.key.now)) es w) same)),
      map_same g.K.Ord.cmp g.met.K.Ord.total c.args.key.now (Many c.in-Many.branches) (Many (with_item c.in-Many.branches branch follows.lender-at-none))
          c.self.inside.len map
          (filled_set branches branch follows.lender-at-none lt some map.filled)
          (same_in g.K.Ord.cmp c.args.key.now branches branch lt of follows.lender-at-none (follows.holds-at-none ∙ same)),
    ))

pub returns-else-branch-len : goal.returns-else-branch-len
returns-else-branch-len g c =
    let branches = c.in-Many.branches.items in
    let branch = c.branch_for-branch.result in
    let map : IsMap g.K.Ord.cmp (Many c.in-Many.branches) c.self.inside.len =
    subst (λ f. IsMap g.K.Ord.cmp f c.self.inside.len) c.in-Many.is c.self.invariant in
    let of : IsRowFor g.K.Ord.cmp c.args.key.now branches branch = subst (λ all. IsRowFor g.K.Ord.cmp c.args.key.now all branch)
    (c.deref.ensures.value ∙ ap (λ v. v.items) c.in-Many.branches-is) c.branch_for-branch.ensures in
    let lt : branch < length branches = omega (arith, of.place, c.len.ensures, ap (λ v. v.len) c.in-Many.branches-is, c.if-branch-len.false) in
    let read = c.index_mut.result.now in
    let same = row_is branches branch read read lt (c.index_mut.ensures.value ∙ ap (λ v. slice_index_or v.items branch read) c.in-Many.branches-is) in
    let all : c.args.self.now ≡ concat_rows branches = sym c.self.view_is ∙ ap entries_of c.in-Many.is in
    let follows = c.get_mut_near.follows in
    rw all (
      (
        refl,
        λ w. rw c.in-Many.is (set_in g.K.Ord.cmp c.args.key.now branches branch lt of (follows.lender w) w
            (follows.holds w ∙ ap (λ es. set_value (is_at (g.K.Ord.cmp c.args.key.now)) es w) same)),
        rw c.in-Many.is (same_in g.K.Ord.cmp c.args.key.now branches branch lt of follows.lender-at-none (follows.holds-at-none ∙ same)),
      ),
      record {
        writes_back = tt;
        value = c.get_mut_near.ensures.value
            ∙ (ap (lookup (is_at (g.K.Ord.cmp c.args.key.now))) same ∙ sym (lookup_in g.K.Ord.cmp c.args.key.now branches branch lt of));
      },
    )
