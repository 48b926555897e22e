use Rattle.std.proofs.Common.{ℕ, List, subst}
use Rattle.oa_store.specs.promise.Holding.{CommitsAtomically}
use Rattle.oa_store.proofs.committing.commit.Goals as goal

pub returns-clause-commits : goal.returns-clause-commits
returns-clause-commits g c = subst (λ (l : List ℕ). CommitsAtomically l c.args.store.now c.commit_bytes.new.store) c.batch.view_is
    c.commit_bytes.ensures.commits
