use Rattle.std.proofs.Common.{◌++◌, ◌∷◌, [], ℤ, Some, rules, ap, ◌∙◌}
use Rattle.std.proofs.Math.Facts.{to_z-of_z}
use Rattle.oa_sema.specs.promise.DeclarationValues.{DeclarationValue}
use Rattle.oa_typelib.proofs.Named.{ids_told}
use Rattle.oa_typelib.proofs.names.ids_in.Goals as goal
use mir.Syntax.{w32}
use mir.Val.{SFits, of_z, to_z}

pub returns : goal.returns
returns c =
    let f : SFits w32 c.member.inside.id = search rules in
    let id : ℤ = to_z w32 (of_z w32 c.member.inside.id) in
    ids_told c.args.member.now c.args.names.now c.in-Some.field-0-0.now c.in-Some.others.now c.add_parameters.new.ids.items c.push.new.self.items id
    c.own_parameters.result.now
    c.in-Some.ensures.cases.0
    c.in_ok-add_parameters.ensures
    (c.in_ok-push.ensures.items ∙ ap (λ xs. xs ++ Some id ∷ []) c.new-ids.ensures.items)
    (to_z-of_z f ∙ ap (λ (d : DeclarationValue). d.id) c.member.view_is)
    c.own_parameters.ensures
