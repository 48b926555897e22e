use Rattle.std.proofs.Common.{inl, inr, List, ℕ, length, ◌∙◌}
use Rattle.std.proofs.lemmas.Result.{on_ok_weaker}
use Rattle.oa_disk.specs.Moments.{started, goes_on, chained}
use Rattle.oa_disk.proofs.Ranges.{Torn_refl}
use Rattle.oa_disk.specs.Switch.{MaySwitch}
use Rattle.oa_disk.proofs.switching.write_then_flip.Goals as goal

pub returns-in_err-write_at-clause-any_moment : goal.returns-in_err-write_at-clause-any_moment
returns-in_err-write_at-clause-any_moment g c h =
    let M = g.D.Disk.moment in
    let S = g.D.Disk.image_since in
    let at = c.args.at in
    let bytes = c.args.bytes.now in
    let P : List ℕ → Type 0 = λ f. (d : List ℕ) × g.D.Disk.image c.args.disk.now d × MaySwitch at bytes c.args.switch d f in
    let at_start = started M S c.args.disk.now P (λ f left. (f, g.met.D.Disk.only_now c.args.disk.now f h left, inl (Torn_refl at (length bytes) f))) in
    goes_on M S c.args.disk.now c.args.disk.now c.write_at.new.self P _ at_start (c.write_at.ensures.time h)
    (λ f now. let from = (c.write_at.ensures.writes h).images f now in (from.0, from.1, inl from.2))

pub returns-clause-any_moment : goal.returns-clause-any_moment
returns-clause-any_moment g c h =
    let M = g.D.Disk.moment in
    let S = g.D.Disk.image_since in
    let at = c.args.at in
    let bytes = c.args.bytes.now in
    let P : List ℕ → Type 0 = λ f. (d : List ℕ) × g.D.Disk.image c.args.disk.now d × MaySwitch at bytes c.args.switch d f in
    let at_start = started M S c.args.disk.now P (λ f left. (f, g.met.D.Disk.only_now c.args.disk.now f h left, inl (Torn_refl at (length bytes) f))) in
    let still : (f : List ℕ) → g.D.Disk.image c.write_at.new.self f → P f = λ f now. let from = (c.write_at.ensures.writes h).images f now in
    (from.0, from.1, inl from.2) in
    let run = goes_on M S c.args.disk.now c.args.disk.now c.write_at.new.self P _ at_start (c.write_at.ensures.time h) still in
    let h1 = c.write_at.ensures.honest ∙ h in
    let mid = g.D.Disk.contents c.write_at.new.self in
    let was = (c.write_at.ensures.writes h).images mid (g.met.D.Disk.contents_is_image c.write_at.new.self h1) in
    chained M S c.args.disk.now c.write_at.new.self c.flip.new.disk P _ P run (c.flip.ensures.any_moment h1) (λ f p. p)
    (λ f left. elim left [
      | inl now ↦ still f now
      | inr torn ↦ (was.0, was.1, inr (record { mid = mid; written = was.2; whole = c.in_ok-write_at.ensures.written h; switched = torn }))
    ])

pub returns-clause-done : goal.returns-clause-done
returns-clause-done g c = on_ok_weaker c.flip.result (λ set h f now.
    let h1 = c.write_at.ensures.honest ∙ h in
    let mid = g.D.Disk.contents c.write_at.new.self in
    let was = (c.write_at.ensures.writes h).images mid (g.met.D.Disk.contents_is_image c.write_at.new.self h1) in
    let is = set h1 f now in
    (was.0, was.1, (record { mid = mid; written = was.2; whole = c.in_ok-write_at.ensures.written h; switched = is.0 }, is.1))) c.flip.ensures.done
