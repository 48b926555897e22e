use Rattle.std.proofs.Common.{◌∙◌, ℕ, sym, subst}
use Rattle.oa_journal.specs.declared.shape.BankFormat.TheVariants.{Two}
use Rattle.oa_store.specs.promise.Stores.{IsStoreIn}
use Rattle.oa_store.proofs.Longer.{held_longer, held_still}
use Rattle.oa_commands.proofs.upgrade.upgraded.Goals as goal

pub migrate-requires-clause-held : goal.migrate-requires-clause-held
migrate-requires-clause-held c h =
    let goes_on = c.in_ok-long.ensures.goes_on in
    let h1 = sym goes_on.honest ∙ h in
    let none = c.in_ok-found.ensures.after.unfailed ∙ c.in_ok-disk.ensures.begins.failures in
    held_longer _ c.in_ok-found.found c.find_old_store.new.disk c.in_ok-long.long _ (goes_on.holds h1 none) (goes_on.settled h1 none)
    (held_still _ c.args.bank c.in_ok-disk.disk c.find_old_store.new.disk c.in_ok-found.found c.in_ok-found.ensures.found h1)

pub returns-clause-upgraded : goal.returns-clause-upgraded
returns-clause-upgraded c = record {
  before = c.in_ok-disk.disk;
  begins = c.in_ok-disk.ensures.begins;
  upgraded = λ h.
      let found = c.in_ok-found.found in
      let finds = c.in_ok-found.ensures.found in
      let h2 = sym c.in_ok-migrate.ensures.after.honest ∙ h in
      let there = finds.store (sym c.in_ok-long.ensures.goes_on.honest ∙ h2) in
      record {
        was = record { library = found.library.items; table = found.table; store = (found.chosen, there.0, there.1); short = finds.short; fits = finds.fits };
        each = λ f now.
            let step = c.in_ok-migrate.ensures.leaves.done h2 f now in
            subst (λ (s : ℕ). IsStoreIn (Two s) f found.library.items found.table) finds.size_is step.2;
      };
}
