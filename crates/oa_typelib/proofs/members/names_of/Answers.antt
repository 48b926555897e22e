use Rattle.std.proofs.Common.{Bor, List, ℕ, ◌+◌, ◌++◌, ◌∷◌, [], take, sym, ap, ◌∙◌}
use Rattle.std.proofs.lemmas.List.{take_more}
use Rattle.oa_sema.specs.promise.DeclarationValues.{DeclarationValue}
use Rattle.oa_typelib.proofs.Kept.{seen_more}
use Rattle.oa_typelib.proofs.members.names_of.Goals as goal

pub loop-declaration-preserved : goal.loop-declaration-preserved
loop-declaration-preserved c =
    let all = c.args.declarations.now in
    let n = c.loop-declaration.declaration-index in
    let declaration = c.declaration-item.result in
    seen_more (λ (n : Bor (List ℕ)). n.now) (λ (d : DeclarationValue). d.name) c.loop-declaration.names.items c.push.new.self.items (take n all)
    (take (n + 1) all) _ declaration
    c.loop-declaration.invariant c.in_ok-push.ensures.items (ap (λ (d : DeclarationValue). d.name) c.declaration.view_is)
    (take_more all n declaration c.loop-declaration-test.true ∙ ap (λ (d : DeclarationValue). take n all ++ d ∷ []) (sym c.declaration-item.is))
