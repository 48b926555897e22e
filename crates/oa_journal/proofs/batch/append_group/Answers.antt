use Rattle.std.proofs.Common.{◌+◌, length, List, ℕ, subst, ap, ◌∙◌, arith}
use Rattle.std.proofs.lemmas.Result.{on_ok_weaker}
use Rattle.oa_disk.specs.Moments.{weakened}
use Rattle.oa_disk.specs.Switch.{MaySwitch, HasSwitched}
use Rattle.oa_journal.specs.Append.{group_of}
use Rattle.oa_journal.proofs.Sealing.{length-group_of, length-sealed, group-sealed}
use Rattle.oa_journal.proofs.batch.append_group.Goals as goal

pub returns-clause-any_moment : goal.returns-clause-any_moment
returns-clause-any_moment g c h =
    let gate = c.args.gate in
    weakened g.D.Disk.moment g.D.Disk.image_since _ _ _ _ (c.write_then_flip.ensures.any_moment h)
    (λ f step. (step.0, step.1, subst (λ (x : List ℕ). MaySwitch (gate + 1) x gate step.0 f) c.seal.ensures step.2))

pub returns-clause-done : goal.returns-clause-done
returns-clause-done g c = on_ok_weaker c.write_then_flip.result (λ done h f now.
    let gate = c.args.gate in
    let from = done h f now in
    (from.0, from.1, subst (λ (x : List ℕ). HasSwitched (gate + 1) x gate 1 from.0 f) c.seal.ensures from.2)) c.write_then_flip.ensures.done

pub returns-clause-long : goal.returns-clause-long
returns-clause-long g c =
    let group = group_of c.args.batch.now in
    omega (arith, ap length c.seal.ensures, length-sealed group, length-group_of c.args.batch.now c.requires.some, c.requires.some)

pub returns-clause-kept : goal.returns-clause-kept
returns-clause-kept g c = ap group_of c.seal.ensures ∙ group-sealed (group_of c.args.batch.now)

pub returns-clause-after : goal.returns-clause-after
returns-clause-after g c = c.write_then_flip.ensures.after
