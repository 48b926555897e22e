use Rattle.std.proofs.Common.{rules, ◌∙◌, ℕ, ◌+◌, List, length, inl, sym, subst}
use Rattle.oa_disk.specs.Moments.{weakened}
use Rattle.oa_journal.specs.Append.{group_of}
use Rattle.oa_journal.specs.promise.Bank.{Replays}
use Rattle.oa_journal.specs.declared.shape.BankFormat.{BankFormat}
use Rattle.oa_store.specs.promise.Stores.{IsStoreAt}
use Rattle.oa_table.specs.promise.Tables.{TableValue}
use Rattle.oa_store.specs.promise.Holding.{AllHold}
use Rattle.oa_store.proofs.Committed.{meanwhile, at_last, nothing_called, no_change}
use Rattle.oa_store.proofs.Batches.{no_events}
use Rattle.oa_store.proofs.committing.commit_bytes.Goals as goal

pub returns-then-len-le5-clause-commits : goal.returns-then-len-le5-clause-commits
returns-then-len-le5-clause-commits g c =
    let store = c.args.store.now in record {
      any_moment = λ committed now makes all. weakened g.D.Disk.moment g.D.Disk.image_since _ _ _ _
          (nothing_called g.D.Disk.moment g.D.Disk.image_since store.disk (g.D.Disk.image store.disk) store.bank.shape store.chosen store.bank.gate
          store.library.items committed (λ f left. g.met.D.Disk.only_now store.disk f all.0 left) all.1)
          (λ f is. inl is);
      each = λ going committed now makes all.
          subst (λ (t : TableValue). AllHold c.args.store.now t)
          (no_change (group_of c.args.bytes.now.items) committed now (no_events c.args.bytes.now.items (search rules)) makes) all;
      library = search rules;
    }

pub returns-clause-commits : goal.returns-clause-commits
returns-clause-commits g c =
    let store = c.args.store.now in
    let new = c.commit.new.self in
    let group = group_of c.deref_mut.result.now in record {
      any_moment = λ committed now makes all.
          weakened g.D.Disk.moment g.D.Disk.image_since _ _ _ _ (c.commit.ensures.leaves.any_moment all.0)
          (meanwhile store.library.items committed now store.bank.shape store.chosen store.bank.gate group (g.D.Disk.image store.disk)
          (subst (λ (l : List ℕ). Replays (group_of l) committed now) (sym c.deref_mut.ensures.value) makes) all.1);
      each = λ going committed now makes all. (
        c.commit.ensures.goes.honest ∙ all.0,
        λ f is.
            let here = at_last store.library.items committed now store.bank.shape store.chosen store.bank.gate group (g.D.Disk.image store.disk)
            (subst (λ (l : List ℕ). Replays (group_of l) committed now) (sym c.deref_mut.ensures.value) makes) all.1 f
            (c.in-Ok.ensures.leaves.done all.0 f is) in
            subst (λ (l : List ℕ). IsStoreAt new.bank.shape new.chosen new.bank.gate l now f) (sym c.commit.ensures.adds.library)
            (subst (λ (k : ℕ). IsStoreAt new.bank.shape new.chosen k store.library.items now f) (sym c.in-Ok.ensures.adds.gate)
            (subst (λ (k : ℕ). IsStoreAt new.bank.shape k (store.bank.gate + (5 + length group)) store.library.items now f) (sym c.commit.ensures.adds.chosen)
            (subst (λ (s : BankFormat). IsStoreAt s store.chosen (store.bank.gate + (5 + length group)) store.library.items now f)
            (sym c.commit.ensures.goes.shape) here))),
      );
      library = search rules;
    }

pub returns-in-Err-clause-commits : goal.returns-in-Err-clause-commits
returns-in-Err-clause-commits g c =
    let store = c.args.store.now in
    let group = group_of c.deref_mut.result.now in record {
      any_moment = λ committed now makes all.
          weakened g.D.Disk.moment g.D.Disk.image_since _ _ _ _ (c.commit.ensures.leaves.any_moment all.0)
          (meanwhile store.library.items committed now store.bank.shape store.chosen store.bank.gate group (g.D.Disk.image store.disk)
          (subst (λ (l : List ℕ). Replays (group_of l) committed now) (sym c.deref_mut.ensures.value) makes) all.1);
      each = search rules;
      library = search rules;
    }
