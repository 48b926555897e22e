use Rattle.std.proofs.Common.{◌≡◌, ◌∙◌, ◌<◌, length, sym, ap, subst, arith}
use Rattle.std.specs.Map.{lookup, remove_entry}
use Rattle.std.specs.BTreeMap.{is_at}
use Rattle.std.proofs.lemmas.List.{get_or-set_same}
use Rattle.oa_ordered.specs.Rows.{IsOrdered, IsRowFor}
use Rattle.oa_ordered.proofs.Around.{lookup_in, remove_in}
use Rattle.oa_ordered.proofs.Joined.{joined_dropped, row_is}
use Rattle.oa_ordered.proofs.Places.{row_ordered}
use Rattle.oa_ordered.proofs.branches.remove_in.Goals as goal

pub remove-value-requires : goal.remove-value-requires
remove-value-requires g c =
    let branches = c.args.branches.now.items in
    let branch = c.branch_for-branch.result in
    let of : IsRowFor g.K.Ord.cmp c.args.key.now branches branch =
    subst (λ all. IsRowFor g.K.Ord.cmp c.args.key.now all branch) c.deref.ensures.value c.branch_for-branch.ensures in
    let lt : branch < length branches = omega (arith, of.place, c.len.ensures, c.if-branch-len.false) in
    let read = c.index_mut.result.now in
    subst (IsOrdered g.K.Ord.cmp) (sym (row_is branches branch read read lt c.index_mut.ensures.value))
    (row_ordered g.K.Ord.cmp g.met.K.Ord.total c.args.key.now branches c.requires.ordered branch lt)

pub returns-then-len-eq0-clause-value : goal.returns-then-len-eq0-clause-value
returns-then-len-eq0-clause-value g c =
    let branches = c.args.branches.now.items in
    let branch = c.branch_for-branch.result in
    let of : IsRowFor g.K.Ord.cmp c.args.key.now branches branch =
    subst (λ all. IsRowFor g.K.Ord.cmp c.args.key.now all branch) c.deref.ensures.value c.branch_for-branch.ensures in
    let lt : branch < length branches = omega (arith, of.place, c.len.ensures, c.if-branch-len.false) in
    let read = c.index_mut.result.now in
    let same = row_is branches branch read read lt c.index_mut.ensures.value in
    c.remove-value.ensures.value ∙ (ap (lookup (is_at (g.K.Ord.cmp c.args.key.now))) same ∙ sym (lookup_in g.K.Ord.cmp c.args.key.now branches branch lt of))

pub returns-then-len-eq0-clause-entries : goal.returns-then-len-eq0-clause-entries
returns-then-len-eq0-clause-entries g c =
    let branches = c.args.branches.now.items in
    let branch = c.branch_for-branch.result in
    let of : IsRowFor g.K.Ord.cmp c.args.key.now branches branch =
    subst (λ all. IsRowFor g.K.Ord.cmp c.args.key.now all branch) c.deref.ensures.value c.branch_for-branch.ensures in
    let lt : branch < length branches = omega (arith, of.place, c.len.ensures, c.if-branch-len.false) in
    let read = c.index_mut.result.now in
    let same = row_is branches branch read read lt c.index_mut.ensures.value in
    let left = c.remove-value.new.self in
    let now : c.index.result.now ≡ left = c.index.ensures ∙ get_or-set_same branches branch left c.index.result.now lt in
    let none : length left ≡ 0 = ap length (sym now ∙ c.len-2.ensures.0 c.if-len-eq0.true) in
    rw c.drop_branch.ensures (joined_dropped branches branch left lt none
    ∙ remove_in g.K.Ord.cmp c.args.key.now branches branch lt of left
    (c.remove-value.ensures.entries ∙ ap (remove_entry (is_at (g.K.Ord.cmp c.args.key.now))) same))

pub returns-else-len-eq0-clause-value : goal.returns-else-len-eq0-clause-value
returns-else-len-eq0-clause-value g c =
    let branches = c.args.branches.now.items in
    let branch = c.branch_for-branch.result in
    let of : IsRowFor g.K.Ord.cmp c.args.key.now branches branch =
    subst (λ all. IsRowFor g.K.Ord.cmp c.args.key.now all branch) c.deref.ensures.value c.branch_for-branch.ensures in
    let lt : branch < length branches = omega (arith, of.place, c.len.ensures, c.if-branch-len.false) in
    let read = c.index_mut.result.now in
    let same = row_is branches branch read read lt c.index_mut.ensures.value in
    c.remove-value.ensures.value ∙ (ap (lookup (is_at (g.K.Ord.cmp c.args.key.now))) same ∙ sym (lookup_in g.K.Ord.cmp c.args.key.now branches branch lt of))

pub returns-else-len-eq0-clause-entries : goal.returns-else-len-eq0-clause-entries
returns-else-len-eq0-clause-entries g c =
    let branches = c.args.branches.now.items in
    let branch = c.branch_for-branch.result in
    let of : IsRowFor g.K.Ord.cmp c.args.key.now branches branch =
    subst (λ all. IsRowFor g.K.Ord.cmp c.args.key.now all branch) c.deref.ensures.value c.branch_for-branch.ensures in
    let lt : branch < length branches = omega (arith, of.place, c.len.ensures, c.if-branch-len.false) in
    let read = c.index_mut.result.now in
    let same = row_is branches branch read read lt c.index_mut.ensures.value in
    remove_in g.K.Ord.cmp c.args.key.now branches branch lt of c.remove-value.new.self
    (c.remove-value.ensures.entries ∙ ap (remove_entry (is_at (g.K.Ord.cmp c.args.key.now))) same)
