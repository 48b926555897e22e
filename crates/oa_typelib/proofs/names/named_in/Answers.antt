use Rattle.std.proofs.Common.{◌≡◌, ℤ, List, Option, Some, None, IfOk, map, subst, ap, ◌∙◌}
use Rattle.std.specs.List.{filter}
use Rattle.oa_model.specs.promise.Folding.{folded_name}
use Rattle.oa_sema.specs.promise.DeclarationValues.{DeclarationValue}
use Rattle.oa_sema.specs.promise.Declarations.{declarations}
use Rattle.oa_sema.specs.promise.Libraries.{same}
use Rattle.oa_typelib.specs.promise.Members.{main_form}
use Rattle.oa_typelib.specs.promise.Names.{ids_in}
use Rattle.oa_typelib.proofs.Named.{by_member}
use Rattle.oa_typelib.proofs.names.named_in.Goals as goal

pub returns-in-Some-main : goal.returns-in-Some-main
returns-in-Some-main c =
    let m = c.in-Some-main.ensures
    ∙ ap main_form (c.forms_named.ensures ∙ ap (λ ns. filter (λ (d : DeclarationValue). same ns (folded_name d.name)) (declarations c.args.interface.now))
    (c.as_slice-2.ensures.value ∙ c.in_ok-key.ensures ∙ ap folded_name c.as_slice.ensures.value)) in
    subst (λ (ids : List (Option ℤ)). IfOk c.ids_in.result (λ v. v.items ≡ ids))
    (by_member c.args.interface.now c.args.names.now c.in-Some.first.now (Some c.in-Some-main.member) c.in-Some.ensures.value m)
    (subst (λ (d : DeclarationValue). IfOk c.ids_in.result (λ v. v.items ≡ ids_in (Some d) (map (λ n. n.items) c.args.names.now))) c.member.view_is
    c.ids_in.ensures)

pub returns : goal.returns
returns c =
    let m = c.in-None.ensures
    ∙ ap main_form (c.forms_named.ensures ∙ ap (λ ns. filter (λ (d : DeclarationValue). same ns (folded_name d.name)) (declarations c.args.interface.now))
    (c.as_slice-2.ensures.value ∙ c.in_ok-key.ensures ∙ ap folded_name c.as_slice.ensures.value)) in
    subst (λ (ids : List (Option ℤ)). IfOk c.unknown.result (λ v. v.items ≡ ids))
    (by_member c.args.interface.now c.args.names.now c.in-Some.first.now None c.in-Some.ensures.value m)
    c.unknown.ensures
