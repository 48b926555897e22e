use Rattle.std.proofs.Common.{◌≡◌, ℤ, rules, ap, ◌∙◌, Some}
use Rattle.std.proofs.Math.Facts.{to_z-of_z}
use Rattle.std.specs.List.{list_any}
use Rattle.oa_sema.specs.promise.DeclarationValues.{DeclarationValue}
use Rattle.oa_compat.specs.promise.Keeps.{is_kept_by}
use Rattle.oa_typelib.specs.promise.Members.{forms_with}
use Rattle.oa_compat.proofs.Searches.{among_forms, kept_none, lost_some}
use Rattle.oa_compat.proofs.lost.lost_declaration.Goals as goal
use mir.Syntax.{w32}
use mir.Val.{SFits, of_z, to_z}

pub returns-then-any_keeps : goal.returns-then-any_keeps
returns-then-any_keeps c =
    let f : SFits w32 c.was.inside.id = search rules in
    let id : to_z w32 (of_z w32 c.was.inside.id) ≡ c.args.was.now.id = to_z-of_z f ∙ ap (λ (d : DeclarationValue). d.id) c.was.view_is in
    kept_none c.args.now.now c.args.was.now c.any_keeps.result
    (c.any_keeps.ensures ∙ ap (list_any (is_kept_by c.args.was.now)) (c.places_with.ensures ∙ ap (λ z. forms_with z c.args.now.now) id)
    ∙ among_forms c.args.now.now c.args.was.now)
    c.if-any_keeps.true

pub returns-else-any_keeps : goal.returns-else-any_keeps
returns-else-any_keeps c =
    let f : SFits w32 c.was.inside.id = search rules in
    let id : to_z w32 (of_z w32 c.was.inside.id) ≡ c.args.was.now.id = to_z-of_z f ∙ ap (λ (d : DeclarationValue). d.id) c.was.view_is in
    ap (λ (z : ℤ). Some z) id
    ∙ lost_some c.args.now.now c.args.was.now c.any_keeps.result
    (c.any_keeps.ensures ∙ ap (list_any (is_kept_by c.args.was.now)) (c.places_with.ensures ∙ ap (λ z. forms_with z c.args.now.now) id)
    ∙ among_forms c.args.now.now c.args.was.now)
    c.if-any_keeps.false
