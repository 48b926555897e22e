use Rattle.std.proofs.Common.{◌-◌, List, ℕ, subst, rules}
use Rattle.oa_disk.specs.Moments.{weakened}
use Rattle.oa_table.specs.promise.Tables.{unlocked_table}
use Rattle.oa_journal.specs.promise.Bank.{first_gate}
use Rattle.oa_store.specs.Changes.{IsMove, IsMoved}
use Rattle.oa_store.specs.promise.Changes.{IsUpgrade}
use Rattle.oa_store.proofs.Upgraded.{moved, arrived}
use Rattle.oa_store.proofs.upgrading.OldStore.migrate.Goals as goal

pub returns-in_err-switch_to-clause-leaves : goal.returns-in_err-switch_to-clause-leaves
returns-in_err-switch_to-clause-leaves g c = record {
  any_moment = λ h.
      let self = c.args.self in
      let old = c.args.disk.now in
      let first = g.D.Disk.contents old in
      let held = c.requires.held h in
      let P : List ℕ → Type 0 = λ f. (d : List ℕ) × g.D.Disk.image old d × IsUpgrade self.size d f in
      weakened g.D.Disk.moment g.D.Disk.image_since old c.switch_to.new.disk _ P (c.switch_to.ensures.leaves.any_moment h)
      (λ f step. (
        first,
        g.met.D.Disk.contents_is_image old h,
        moved self.size self.chosen held.gate (first_gate self.library.items self.table) self.library.items self.table first step.0 f held.store
            (held.settled step.0 step.1)
            (subst (λ (l : List ℕ). IsMove self.chosen self.size (first_gate l self.table) l (unlocked_table self.table) step.0 f) c.deref.ensures.value
            step.2),
      ));
  done = search rules;
}

pub returns-clause-leaves : goal.returns-clause-leaves
returns-clause-leaves g c = record {
  any_moment = λ h.
      let self = c.args.self in
      let old = c.args.disk.now in
      let first = g.D.Disk.contents old in
      let held = c.requires.held h in
      let P : List ℕ → Type 0 = λ f. (d : List ℕ) × g.D.Disk.image old d × IsUpgrade self.size d f in
      weakened g.D.Disk.moment g.D.Disk.image_since old c.switch_to.new.disk _ P (c.switch_to.ensures.leaves.any_moment h)
      (λ f step. (
        first,
        g.met.D.Disk.contents_is_image old h,
        moved self.size self.chosen held.gate (first_gate self.library.items self.table) self.library.items self.table first step.0 f held.store
            (held.settled step.0 step.1)
            (subst (λ (l : List ℕ). IsMove self.chosen self.size (first_gate l self.table) l (unlocked_table self.table) step.0 f) c.deref.ensures.value
            step.2),
      ));
  done = λ h f now.
      let self = c.args.self in
      let first = g.D.Disk.contents c.args.disk.now in
      let held = c.requires.held h in
      let step = c.in_ok-switch_to.ensures.leaves.done h f now in (
        step.0,
        step.1,
        (
          1 - self.chosen,
          first_gate self.library.items self.table,
          arrived self.size self.chosen held.gate (first_gate self.library.items self.table) self.library.items self.table first step.0 f held.store
              (held.settled step.0 step.1)
              (subst (λ (l : List ℕ). IsMoved self.chosen self.size (first_gate l self.table) l (unlocked_table self.table) step.0 f) c.deref.ensures.value
              step.2),
        ),
      );
}
