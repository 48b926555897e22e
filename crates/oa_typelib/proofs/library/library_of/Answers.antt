use Rattle.std.proofs.Common.{◌≡◌, ℕ, List, map, sym, ap, subst, ◌∙◌}
use Rattle.oa_idl.specs.promise.Trees.{TreeValue}
use Rattle.oa_idl.specs.declared.items.Item.{Item}
use Rattle.oa_printer.specs.promise.Canonical.{canonical}
use Rattle.oa_idl.specs.promise.IsTree.{MayBeText, IsTree}
use Rattle.oa_model.specs.promise.Folding.{folded_name}
use Rattle.oa_sema.specs.promise.Libraries.{item_name, item_guid, marked, marked_item}
use Rattle.oa_typelib.specs.Indexes.{default_in}
use Rattle.oa_sema.specs.Libraries.{folded_names}
use Rattle.oa_sema.specs.promise.Breaches.{tree_breach, text_breach}
use Rattle.oa_typelib.specs.Typed.{IsTyped}
use Rattle.oa_sema.proofs.Passes.{refused, for_memory}
use Rattle.oa_typelib.proofs.Finds.{fits_text, kept, name_kept, guid_kept, length_of_marked}
use Rattle.oa_sema.proofs.Passes.{no_breach_before}
use Rattle.oa_typelib.proofs.TypedTrees.{marked_typed}
use Rattle.oa_typelib.proofs.library.library_of.Goals as goal

pub returns-in_err-text : goal.returns-in_err-text
returns-in_err-text c =
    refused (text_breach c.args.tree) (λ (l : TreeValue). l ≡ marked c.args.tree) c.in_err-text.field-0.0 c.from_residual.result
    c.from_residual.ensures.0 c.from_residual.ensures.1
    (for_memory c.in_err-text.field-0.0 (λ is. length_of_marked c.args.tree c.mark-tree.result c.mark-tree.ensures ∙ is) c.in_err-text.ensures)

pub returns : goal.returns
returns c = (length_of_marked c.args.tree c.mark-tree.result c.mark-tree.ensures ∙ c.in_ok-text.ensures.0, c.mark-tree.ensures)

pub invariant_of-result : goal.invariant_of-result
invariant_of-result c =
    let tree = c.mark-tree.result in
    let items : tree.items ≡ map marked_item c.args.tree.items = ap (λ (t : TreeValue). t.items) c.mark-tree.ensures in
    let names : c.args.names.now ≡ folded_names tree.items = c.requires.names ∙ sym (kept (λ (i : Item). folded_name (item_name i)) name_kept c.args.tree.items)
    ∙ ap folded_names (sym items) in
    let text = c.in_ok-text.ensures.1.0 in
    let breach = length_of_marked c.args.tree tree c.mark-tree.ensures ∙ c.in_ok-text.ensures.0 in (
      (
        c.requires.guids ∙ sym (kept item_guid guid_kept c.args.tree.items) ∙ ap (map item_guid) (sym items),
        c.in_ok-text.ensures.1.1,
        c.in_ok-text.ensures.1.2 ∙ ap (λ (ns : List (List ℕ)). map (default_in ns) tree.items) names,
        text,
      ),
      subst IsTyped (sym c.mark-tree.ensures) (marked_typed c.args.tree c.requires.text),
      subst (λ (bs : List ℕ). IsTree bs tree) (sym text)
          (subst (λ (t : TreeValue). IsTree (canonical t) t) (sym c.mark-tree.ensures)
          (c.marked_is_read.ensures c.requires.text.0 c.args.tree c.requires.text.1
          (subst (λ (t : TreeValue). MayBeText (canonical t)) c.mark-tree.ensures (fits_text tree c.in_ok-text.ensures.0)))),
      (
        c.requires.text.0,
        record {
          tree = c.args.tree;
          stands = c.requires.text.1;
          unbroken = no_breach_before (tree_breach c.args.tree) (text_breach c.args.tree) c.requires.unbroken ∙ breach;
          says = c.mark-tree.ensures;
        },
      ),
    )
