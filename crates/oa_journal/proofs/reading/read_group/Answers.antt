use Rattle.std.proofs.Common.{◌≡◌, ◌∙◌, ◌+◌, ◌^◌, ◌<◌, ℕ, List, length, ap, sym, subst, arith}
use Rattle.oa_journal.specs.promise.Bank.{from_place, IsGroupAt}
use Rattle.oa_journal.proofs.Banks.{group_numbered}
use Rattle.oa_journal.proofs.Lockless.{group_unlocked}
use Rattle.oa_journal.proofs.Applied.{no_group}
use Rattle.oa_journal.proofs.reading.read_group.Goals as goal

pub returns-in-Ok-clause-stored : goal.returns-in-Ok-clause-stored
returns-in-Ok-clause-stored g c = record {
  numbered = group_numbered c.deref.result.now c.args.table.now c.replay.new.table c.in-Ok.ensures;
  unlocked = group_unlocked c.deref.result.now c.args.table.now c.replay.new.table c.in-Ok.ensures;
}

pub returns-in-Err-Damaged-clause-damaged : goal.returns-in-Err-Damaged-clause-damaged
returns-in-Err-Damaged-clause-damaged g c place e =
    let is : place ≡ c.args.body + c.from.result = cc in (
      is ∙ ap (λ (k : ℕ). c.args.body + k) c.from.ensures,
      λ h opened.
          let small : c.args.size < 2 ^ 32 = omega (arith, c.ranges.size.fits) in
          let byte = from_place c.args.body (g.D.Disk.contents c.args.disk.now) in
          let there = subst (λ (x : List ℕ). IsGroupAt byte c.args.at x) (sym c.deref.ensures.value) (c.in_ok-group.ensures.found.found h opened) in
          let fits : c.args.at + (5 + length c.deref.result.now) < c.args.size =
          omega (arith, c.in_ok-group.ensures.found.inside, ap length c.deref.ensures.value) in
          no_group (Unit {0}) c.args.size byte c.args.at c.deref.result.now c.args.table.now c.replay.new.table c.in-Err-Damaged.field-0
          c.in-Err-Damaged.field-0-0 small c.in-Err-Damaged.field-0-is c.in-Err-Damaged.ensures opened there fits,
    )
