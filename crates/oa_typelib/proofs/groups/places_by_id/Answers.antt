use Rattle.std.proofs.Common.{◌≡◌, rules, sym, ap, ◌∙◌}
use Rattle.std.proofs.Math.Facts.{to_z-of_z}
use Rattle.std.proofs.lemmas.Cmp.{int_eq_equiv}
use Rattle.std.specs.Ordering.{int_eq}
use Rattle.oa_sema.specs.promise.DeclarationValues.{DeclarationValue}
use Rattle.oa_typelib.proofs.Grouping.{keys_grow, places_grow}
use Rattle.oa_typelib.proofs.groups.places_by_id.Goals as goal
use mir.Val.{SFits}
use mir.Syntax.{w32}

pub ids-preserved : goal.ids-preserved
ids-preserved c =
    let f : SFits w32 c.declaration.inside.id = search rules in
    let same_id : c.declaration.inside.id ≡ c.index-declarations-place.result.id = ap (λ (d : DeclarationValue). d.id) c.declaration.view_is in
    record {
      keys = c.in_ok-add.ensures.keys
          ∙ rw (to_z-of_z f, same_id, c.ids.invariant.keys)
          (sym (keys_grow int_eq int_eq_equiv (λ (d : DeclarationValue). d.id) c.args.declarations.now c.ids.place c.index-declarations-place.result
          c.ids-test.true c.index-declarations-place.is));
      places = c.in_ok-add.ensures.places ∙ rw (to_z-of_z f, same_id, c.ids.invariant.keys, c.ids.invariant.places)
          (sym (places_grow int_eq int_eq_equiv (λ (d : DeclarationValue). d.id) c.args.declarations.now c.ids.place c.index-declarations-place.result
          c.ids-test.true c.index-declarations-place.is));
    }
