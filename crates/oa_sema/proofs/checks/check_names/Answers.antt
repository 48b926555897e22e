use Rattle.std.proofs.Common.{◌≡◌, ◌++◌, ◌∷◌, [], ℕ, List, map, take, sym, ap, ◌∙◌, Some, if◌then◌else◌}
use Rattle.std.specs.List.{list_any}
use Rattle.std.specs.Option.{option_map}
use Rattle.oa_model.specs.promise.Folding.{folded_name}
use Rattle.oa_sema.specs.declared.fault.CheckError.TheVariants.{DuplicateName}
use Rattle.oa_sema.specs.promise.Breaches.{item_breach, inner_breach, name_breach}
use Rattle.oa_sema.specs.promise.Libraries.{same, item_name}
use Rattle.oa_sema.proofs.Passes.{refuses_more, no_refusal, item_breach_by_names, mapped_more, mapped_all, refused}
use Rattle.oa_sema.proofs.Walks.{after_found, after_on, after_done}
use Rattle.oa_sema.proofs.checks.check_names.Goals as goal

pub returns-in_err-admit : goal.returns-in_err-admit
returns-in_err-admit c =
    let same_breach = item_breach_by_names (take c.loop-item.item-index c.args.items.now) c.item-item.result c.loop-item.seen c.loop-item.invariant.names in
    refused (option_map DuplicateName (name_breach c.args.items.now)) (λ (names : List (List ℕ)). names ≡ map (λ i. folded_name (item_name i)) c.args.items.now)
    c.in_err-admit.field-0.0 c.from_residual.result
    c.from_residual.ensures.0 c.from_residual.ensures.1
    (refuses_more DuplicateName (if list_any (same (folded_name (item_name c.item-item.result))) c.loop-item.seen then Some
    (item_name c.item-item.result) else inner_breach c.item-item.result) (name_breach c.args.items.now) c.in_err-admit.field-0.0
    (λ n some. after_found item_breach c.args.items.now c.loop-item.item-index c.item-item.result n c.loop-item-test.true c.item-item.is
    c.loop-item.invariant.left (sym same_breach ∙ some))
    c.in_err-admit.ensures.refuses)

pub loop-item-preserved : goal.loop-item-preserved
loop-item-preserved c =
    let e = c.in_ok-admit.ensures.refuses in
    let same_breach = item_breach_by_names (take c.loop-item.item-index c.args.items.now) c.item-item.result c.loop-item.seen c.loop-item.invariant.names in
    record {
      names = e.1 ∙ ap (λ ns. ns ++ folded_name (item_name c.item-item.result) ∷ []) c.loop-item.invariant.names
          ∙ sym (mapped_more (λ i. folded_name (item_name i)) c.args.items.now c.loop-item.item-index c.item-item.result c.loop-item-test.true c.item-item.is);
      left = after_on item_breach c.args.items.now c.loop-item.item-index c.item-item.result c.loop-item-test.true c.item-item.is c.loop-item.invariant.left
          (sym same_breach ∙ no_refusal DuplicateName _ e.0);
    }

pub returns : goal.returns
returns c = (
  ap (option_map DuplicateName) (after_done item_breach c.args.items.now c.loop-item.item-index c.loop-item-test.false c.loop-item.invariant.left),
  c.loop-item.invariant.names ∙ mapped_all (λ i. folded_name (item_name i)) c.args.items.now c.loop-item.item-index c.loop-item-test.false,
)
