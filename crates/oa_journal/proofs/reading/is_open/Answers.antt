use Rattle.std.proofs.Common.{◌≡◌, ◌∙◌, ◌+◌, ◌↔◌, ℕ, IsTrue, slice_index, ap, subst, sym, arith}
use Rattle.oa_journal.proofs.reading.is_open.Goals as goal

pub returns-clause-opened : goal.returns-clause-opened
returns-clause-opened g c h =
    let disk = g.D.Disk.contents c.args.disk.now in
    let holds = c.seen.ensures.holds disk (c.in_ok-cover.ensures.ahead.shown h) in
    let first : slice_index disk (c.args.at + 0) ≡ slice_index c.seen.result.now 0 = holds.each 0 (omega (arith, c.seen.ensures.len)) in
    let there : c.args.at + 0 ≡ c.args.at = omega arith in
    subst (λ (k : ℕ). IsTrue c.opens.result ↔ (k ≡ 1)) (sym first ∙ ap (λ (k : ℕ). slice_index disk k) there) c.opens.ensures
