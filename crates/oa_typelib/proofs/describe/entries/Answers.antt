use Rattle.std.proofs.Common.{[], ◌∷◌, ◌++◌, sym, ap, ◌∙◌}
use Rattle.oa_typelib.specs.Indexes.{entry_in}
use Rattle.oa_typelib.proofs.Kept.{one_more, none_more}
use Rattle.oa_typelib.proofs.describe.entries.Goals as goal
use Rattle.oa_typelib.proofs.describe.entries.Goals.{in-Some+in_ok-push, in_default}

pub loop-one-preserved : goal.loop-one-preserved
loop-one-preserved c =
    elim c.match-branch-2.branch [
      | in-Some+in_ok-push w ↦ rw w.all-is (w.in_ok-push.ensures.items ∙ ap (λ es. es ++ w.in-Some.described ∷ []) c.loop-one.invariant
          ∙ sym (one_more (entry_in c.args.index.now.interfaces) c.args.entries.now c.loop-one.one-index c.one-item.result c.loop-one-test.true c.one-item.is
          w.in-Some.described (sym c.in_ok-described.ensures ∙ w.in-Some.is)))
      | in_default w ↦ rw w.all-is (c.loop-one.invariant
          ∙ sym (none_more (entry_in c.args.index.now.interfaces) c.args.entries.now c.loop-one.one-index c.one-item.result c.loop-one-test.true c.one-item.is
          (sym c.in_ok-described.ensures ∙ w.in_default.is)))
    ]
