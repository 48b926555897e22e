use Rattle.std.proofs.Common.{◌≡◌, ◌∙◌, ◌<◌, length, slice_index_or, sym, ap, subst, arith}
use Rattle.std.specs.Map.{lookup}
use Rattle.std.specs.BTreeMap.{is_at}
use Rattle.oa_ordered.specs.Rows.{IsOrdered, IsRowFor, concat_rows}
use Rattle.oa_ordered.specs.Roots.{IsMap, entries_of}
use Rattle.oa_ordered.specs.declared.root.Root.TheVariants.{Many}
use Rattle.oa_ordered.proofs.Around.{lookup_in}
use Rattle.oa_ordered.proofs.InRow.{row_absent, row_lookup}
use Rattle.oa_ordered.proofs.Joined.{row_is}
use Rattle.oa_ordered.proofs.Places.{row_ordered}
use Rattle.oa_ordered.proofs.map.OrderedMap.get_near.Goals as goal

pub returns-in-Ok : goal.returns-in-Ok
returns-in-Ok g c =
    let row = c.in-One.row in
    let all : c.args.self.now ≡ row = sym c.self.view_is ∙ ap entries_of c.in-One.is in
    let d = c.index-as_slice-at.result in
    rw all (sym (row_lookup g.K.Ord.cmp c.args.key.now row c.as_slice.ensures c.in-Ok.at c.in-Ok.ensures.found _ d
    (ap (λ es. slice_index_or es c.in-Ok.at d) c.as_slice-in-Ok.ensures)))

pub returns-in-Err : goal.returns-in-Err
returns-in-Err g c =
    let row = c.in-One.row in
    let all : c.args.self.now ≡ row = sym c.self.view_is ∙ ap entries_of c.in-One.is in
    rw all (sym (row_absent g.K.Ord.cmp c.args.key.now row c.as_slice.ensures c.in-Err.field-0 c.in-Err.ensures.absent))

pub get_near-requires : goal.get_near-requires
get_near-requires g c =
    let branches = c.in-Many.branches.items in
    let branch = c.branch_for-branch.result in
    let map : IsMap g.K.Ord.cmp (Many c.in-Many.branches) c.self.inside.len =
    subst (λ f. IsMap g.K.Ord.cmp f c.self.inside.len) c.in-Many.is c.self.invariant in
    let of : IsRowFor g.K.Ord.cmp c.args.key.now branches branch =
    subst (λ all. IsRowFor g.K.Ord.cmp c.args.key.now all branch) c.deref.ensures.value c.branch_for-branch.ensures in
    let lt : branch < length branches = omega (arith, of.place, c.len.ensures, c.if-branch-len.false) in
    let read = c.index.result.now in
    let same = row_is branches branch read read lt c.index.ensures in
    subst (IsOrdered g.K.Ord.cmp) (sym same) (row_ordered g.K.Ord.cmp g.met.K.Ord.total c.args.key.now branches map.ordered branch lt)

pub returns-else-branch-len : goal.returns-else-branch-len
returns-else-branch-len g c =
    let branches = c.in-Many.branches.items in
    let branch = c.branch_for-branch.result in
    let map : IsMap g.K.Ord.cmp (Many c.in-Many.branches) c.self.inside.len =
    subst (λ f. IsMap g.K.Ord.cmp f c.self.inside.len) c.in-Many.is c.self.invariant in
    let of : IsRowFor g.K.Ord.cmp c.args.key.now branches branch =
    subst (λ all. IsRowFor g.K.Ord.cmp c.args.key.now all branch) c.deref.ensures.value c.branch_for-branch.ensures in
    let lt : branch < length branches = omega (arith, of.place, c.len.ensures, c.if-branch-len.false) in
    let read = c.index.result.now in
    let same = row_is branches branch read read lt c.index.ensures in
    let all : c.args.self.now ≡ concat_rows branches = sym c.self.view_is ∙ ap entries_of c.in-Many.is in
    rw all (c.get_near.ensures ∙ (ap (lookup (is_at (g.K.Ord.cmp c.args.key.now))) same ∙ sym (lookup_in g.K.Ord.cmp c.args.key.now branches branch lt of)))
