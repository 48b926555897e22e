use Rattle.std.proofs.Common.{◌≡◌, ◌++◌, ◌∷◌, [], length, arith, append_assoc, refl, sym, ap, ◌∙◌}
use Rattle.std.proofs.lemmas.List.{append-nil}
use Rattle.std.specs.Vec.Iter.{into_iter_items}
use Rattle.oa_sema.specs.Repeats.{last_place, places_before}
use Rattle.oa_sema.proofs.Walks.{last_more, none_left, length-places, places-append}
use Rattle.oa_sema.proofs.repeats.earlier.Goals as goal

pub loop-key-init : goal.loop-key-init
unfolding last_place places_before
loop-key-init g c =
    let i = c.into_iter-key-iterator.ensures.into_iter_gives in
    (tt, tt, i.1 ∙ c.args.keys.ok.0 ∙ ap length (sym i.0), ([], sym i.0, c.new-places.ensures.items, λ q. rw c.new-last.ensures.empty refl))

pub loop-key-preserved : goal.loop-key-preserved
loop-key-preserved g c =
    let inv = c.loop-key.invariant.3 in
    let s = c.in-Some.ensures.steps in
    let place_is : c.len-place.result ≡ length inv.0 = c.len-place.ensures ∙ c.loop-key.places.ok.0 ∙ ap length inv.2
    ∙ length-places g.K.PartialEq.eq [] inv.0 in (
      tt,
      tt,
      omega (arith, s.1, c.loop-key.invariant.2, ap length s.0),
      (
        inv.0 ++ c.in-Some.key ∷ [],
        inv.1 ∙ ap (λ r. inv.0 ++ r) s.0 ∙ rw append_assoc refl,
        c.in_ok-push.ensures.items ∙ rw (inv.2, c.in_ok-before.ensures.old, inv.3 c.in-Some.key) refl
            ∙ sym (places-append g.K.PartialEq.eq [] inv.0 c.in-Some.key),
        λ q. c.in_ok-before.ensures.updates.0 q ∙ rw (place_is, inv.3 q) refl ∙ sym (last_more (λ k. g.K.PartialEq.eq k q) inv.0 c.in-Some.key),
      ),
    )

pub returns : goal.returns
returns g c =
    let inv = c.loop-key.invariant.3 in
    inv.2
    ∙ ap (places_before g.K.PartialEq.eq [])
    (sym (inv.1 ∙ ap (λ r. inv.0 ++ r) (none_left (into_iter_items c.loop-key.key-iterator) (sym c.loop-key.invariant.2 ∙ c.in-None.ensures.steps.0))
    ∙ append-nil inv.0))
