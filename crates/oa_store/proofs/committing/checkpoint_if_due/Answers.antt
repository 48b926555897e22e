use Rattle.std.proofs.Common.{rules}
use Rattle.oa_journal.specs.promise.Bank.{body_bytes}
use Rattle.oa_store.proofs.Counted.{within}
use Rattle.oa_store.proofs.Committed.{still_carried}
use Rattle.oa_store.proofs.committing.checkpoint_if_due.Goals as goal

pub returns-then-not-is_empty-clause-carries : goal.returns-then-not-is_empty-clause-carries
returns-then-not-is_empty-clause-carries g c = still_carried {g = g.D.Disk} (λ d f honest since. g.met.D.Disk.only_now d f honest since) c.args.batch.now _
    c.args.store.now

pub returns-then-not-checkpoint_due-clause-carries : goal.returns-then-not-checkpoint_due-clause-carries
returns-then-not-checkpoint_due-clause-carries g c = still_carried {g = g.D.Disk} (λ d f honest since. g.met.D.Disk.only_now d f honest since) c.args.batch.now
    _ c.args.store.now

pub returns-clause-carries : goal.returns-clause-carries
returns-clause-carries g c =
    let store = c.args.store.now in record {
      any_moment = search rules;
      each = search rules;
      library = search rules;
      once = λ honest. within (body_bytes store.bank.shape) store.library.items c.args.table.now _ _ store.small c.requires.kept.fits
          (c.checkpoint.ensures.calls honest);
    }
