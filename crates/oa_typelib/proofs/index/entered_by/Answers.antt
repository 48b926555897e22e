use Rattle.std.proofs.Common.{◌≡◌, ℕ, Bool, List, map, IfOk, Bor, ap, subst, ◌∙◌}
use Rattle.oa_model.specs.promise.Folding.{folded_name}
use Rattle.oa_idl.specs.promise.Values.{CoclassValue}
use Rattle.oa_idl.specs.declared.parts.Entry.{Entry}
use Rattle.oa_typelib.specs.Groups.{keys_with_places}
use Rattle.oa_sema.specs.promise.Libraries.{same}
use Rattle.oa_typelib.proofs.Looks.{all_flags, names_folded}
use Rattle.oa_typelib.proofs.index.entered_by.Goals as goal

pub returns : goal.returns
returns c =
    let entries = c.as_slice.ensures.value ∙ ap (λ (d : CoclassValue). d.entries) c.class.view_is in
    let names =
    ap (map (λ (n : Bor (List ℕ)). folded_name n.now)) c.as_slice-2.ensures.value
    ∙ names_folded (λ (e : Entry). e.interface) c.in_ok-names.names.items c.as_slice.result.now c.in_ok-names.ensures
    ∙ ap (map (λ (e : Entry). folded_name e.interface)) entries in
    subst (λ (bs : List Bool). IfOk c.flags_of.result (λ v. v.items ≡ bs))
    (all_flags c.args.class.now c.in_ok-entries.entries c.args.keys.now (c.in_ok-entries.ensures ∙ ap (keys_with_places same) names)) c.flags_of.ensures
