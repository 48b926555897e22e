use Rattle.std.proofs.Common.{◌≡◌, ◌++◌, [], length, arith, append_assoc, refl, sym, ap, ◌∙◌}
use Rattle.std.specs.Vec.Iter.{into_iter_items}
use Rattle.oa_sema.specs.Repeats.{repeat_at}
use Rattle.oa_sema.proofs.Lists.{turn_finds, turn_goes_on, not_true, not_false}
use Rattle.oa_sema.proofs.repeats.told_apart.Goals as goal

pub loop-key-init : goal.loop-key-init
unfolding repeat_at
loop-key-init g c =
    let e : c.new-seen.result.keys ≡ [] = c.new-seen.ensures.empty in
    let i = c.into_iter-key-iterator.ensures.into_iter_gives in
    (tt, tt, sym (ap (λ ks. ks ++ into_iter_items c.into_iter-key-iterator.result) e ∙ i.0), i.1 ∙ c.args.keys.ok.0 ∙ ap length (sym i.0), rw e refl)

pub returns-then-not-branch : goal.returns-then-not-branch
returns-then-not-branch g c =
    let inv = c.loop-key.invariant in
    let s = c.in-Some.ensures.steps in
    turn_finds g.K.PartialEq.eq c.args.keys.items c.loop-key.seen.keys c.in-Some.key (into_iter_items c.next.new.self) c.len-place.result
    c.len-place.ensures.len
    (inv.2 ∙ ap (λ r. c.loop-key.seen.keys ++ r) s.0)
    inv.4
    (not_true _ _ c.in_ok-insert.ensures.added c.if-not-branch.true)

pub loop-key-preserved : goal.loop-key-preserved
loop-key-preserved g c =
    let inv = c.loop-key.invariant in
    let s = c.in-Some.ensures.steps in
    let t = turn_goes_on g.K.PartialEq.eq c.loop-key.seen.keys c.in-Some.key inv.4 (not_false _ _ c.in_ok-insert.ensures.added c.if-not-branch.false) in
    let k = c.in_ok-insert.ensures.keys ∙ t.0 in (
      tt,
      tt,
      inv.2 ∙ ap (λ r. c.loop-key.seen.keys ++ r) s.0 ∙ rw (k, append_assoc) refl,
      omega (arith, s.1, inv.3, ap length s.0),
      rw k t.1,
    )
