use Rattle.std.proofs.Common.{◌≡◌}
use Rattle.std.proofs.lemmas.Result.{err_from_is_err_and}
use Rattle.oa_journal.specs.promise.Bank.{from_place}
use Rattle.oa_journal.proofs.Unique.{one_head}
use Rattle.oa_journal.proofs.reading.head_of.Goals as goal

pub returns-in_err-head-clause-damaged : goal.returns-in_err-head-clause-damaged
returns-in_err-head-clause-damaged g c at e =
    let p = err_from_is_err_and c.from_residual.result c.from_residual.ensures.1 in
    let damaged = c.in_err-head.ensures.damaged at (rw (p.1, p.2) at e) in (damaged.0, λ h. damaged.1 h c.args.shape)

pub returns-then-not-is_same-clause-damaged : goal.returns-then-not-is_same-clause-damaged
returns-then-not-is_same-clause-damaged g c at e =
    let is : at ≡ c.args.place = cc in (
      is,
      λ h l s has.
          let byte = from_place c.args.place (g.D.Disk.contents c.args.disk.now) in
          let heads = one_head byte c.in_ok-head.head.shape c.in_ok-head.head.library c.in_ok-head.head.snapshot c.args.shape l s
          (c.in_ok-head.ensures.found h) has in
          let same = c.is_same.ensures.1 heads.shape_same in
          absurd (cc (same, c.if-not-is_same.true)),
    )
