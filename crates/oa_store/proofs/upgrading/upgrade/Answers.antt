use Rattle.std.proofs.Common.{inl, inr, ◌∙◌, List, ℕ, arith, sym, subst, rules}
use Rattle.std.proofs.lemmas.Result.{err_from_is_err_and}
use Rattle.oa_disk.specs.Moments.{chained}
use Rattle.oa_journal.specs.declared.shape.BankFormat.TheVariants.{Two}
use Rattle.oa_store.specs.promise.Changes.{IsUpgrade}
use Rattle.oa_store.specs.promise.Stores.{IsStoreIn}
use Rattle.oa_store.proofs.Upgraded.{upgrade_tells, was_done}
use Rattle.oa_store.proofs.upgrading.upgrade.Goals as goal

pub returns-in_err-map_err-clause-any_moment : goal.returns-in_err-map_err-clause-any_moment
returns-in_err-map_err-clause-any_moment g c h =
    let size = c.args.size in
    let old = c.args.disk.now in
    let mid = c.find_old_store.new.disk in
    let new = c.migrate.new.disk in
    let h1 = sym c.migrate.ensures.after.honest ∙ h in
    let reads = c.find_old_store.ensures.reads h1 in
    let P : List ℕ → Type 0 = λ f. (d : List ℕ) × g.D.Disk.image old d × IsUpgrade size d f in
    chained g.D.Disk.moment g.D.Disk.image_since old mid new (g.D.Disk.image old) _ P reads.moments (c.migrate.ensures.leaves.any_moment h1)
    (λ f is. (f, is, λ shape text other store. inl store))
    (λ f step. (step.0, reads.images step.0 step.1, subst (λ (s : ℕ). IsUpgrade s step.0 f) c.in_ok-old.ensures.found.size_is step.2))

pub returns-clause-any_moment : goal.returns-clause-any_moment
returns-clause-any_moment g c h =
    let size = c.args.size in
    let old = c.args.disk.now in
    let mid = c.find_old_store.new.disk in
    let new = c.migrate.new.disk in
    let h1 = sym c.migrate.ensures.after.honest ∙ h in
    let reads = c.find_old_store.ensures.reads h1 in
    let P : List ℕ → Type 0 = λ f. (d : List ℕ) × g.D.Disk.image old d × IsUpgrade size d f in
    chained g.D.Disk.moment g.D.Disk.image_since old mid new (g.D.Disk.image old) _ P reads.moments (c.migrate.ensures.leaves.any_moment h1)
    (λ f is. (f, is, λ shape text other store. inl store))
    (λ f step. (step.0, reads.images step.0 step.1, subst (λ (s : ℕ). IsUpgrade s step.0 f) c.in_ok-old.ensures.found.size_is step.2))

pub returns-clause-done : goal.returns-clause-done
returns-clause-done g c h =
    let found = c.in_ok-old.ensures.found in
    let store = c.in_ok-old.old in
    let h1 = sym c.migrate.ensures.after.honest ∙ h in
    let there = found.store h1 in
    let done = was_done _ _ _ c.migrate.result (sym c.in_ok-map_err.ensures.variant) c.migrate.ensures.leaves.done h1 in
    record {
      was = record { library = store.library.items; table = store.table; store = (store.chosen, there.0, there.1); short = found.short; fits = found.fits };
      each = λ f now. let step = done f now in subst (λ (s : ℕ). IsStoreIn (Two s) f store.library.items store.table) found.size_is step.2;
    }

pub returns-in_err-old-clause-refused : goal.returns-in_err-old-clause-refused
returns-in_err-old-clause-refused g c =
    let p = err_from_is_err_and c.from_residual.result c.from_residual.ensures.1 in
    let refused = c.in_err-old.ensures.refused in
    rw (p.1, p.2) (record {
      says = refused.says;
      refused = λ is h. c.find_old_store.ensures.reads h;
      cause = refused.cause;
      tells = λ h. upgrade_tells c.args.size _ _ _ c.in_err-old.field-0.0 (refused.tells h);
      calls = λ is h. refused.calls h;
      most = λ h. inl (refused.calls h);
    })

pub returns-in_err-map_err-clause-refused : goal.returns-in_err-map_err-clause-refused
returns-in_err-map_err-clause-refused g c =
    let p = err_from_is_err_and c.from_residual-in_err-map_err.result c.from_residual-in_err-map_err.ensures.1 in
    rw (p.1, p.2) (record {
      says = search rules;
      refused = search rules;
      cause = search rules;
      tells = search rules;
      calls = search rules;
      most = λ h.
          let h1 = sym c.migrate.ensures.after.honest ∙ h in
          let there = c.in_ok-old.ensures.found.store h1 in
          inr (
            c.in_ok-old.old.library.items,
            c.in_ok-old.old.table,
            c.in_ok-old.old.chosen,
            there.0,
            there.1,
            omega (arith, there.2, c.migrate.ensures.after.calls h1),
          );
    })
