use Rattle.std.proofs.Common.{◌-◌, ℕ, List, Some, IsSome, option_copied, slice_get, length, refl, subst, sym, ap, ◌∙◌}
use Rattle.std.proofs.lemmas.Result.{err_from_is_err_and}
use Rattle.oa_idl.specs.promise.Trees.{TreeValue}
use Rattle.oa_idl.specs.declared.items.Item.{Item}
use Rattle.oa_typelib.specs.promise.Descriptions.{interfaces_of, classes_of}
use Rattle.oa_typelib.specs.IndexValues.{IndexValue}
use Rattle.oa_typelib.specs.Indexes.{described_class, index_of}
use Rattle.oa_typelib.proofs.Looks.{class_there, class_by_name}
use Rattle.oa_typelib.proofs.library.Library.describe.Goals as goal

pub returns : goal.returns
returns c =
    let t = c.args.self.now in
    let count = c.count_interfaces.ensures ∙ ap (λ (is : List Item). length (interfaces_of is)) c.items-items.ensures in
    let class = c.in-Some-nth_class.class.now in
    class_there t c.args.index (c.args.index - c.count_interfaces.result) (option_copied c.nth_class.result) (sym c.nth_interface.ensures ∙ c.in_default.is)
    (ap (λ (n : ℕ). c.args.index - n) count)
    (c.nth_class.ensures ∙ ap (λ (is : List Item). slice_get (classes_of is) (c.args.index - c.count_interfaces.result)) c.items-items.ensures)
    ∙ rw c.in-Some-nth_class.is
    (ap (λ d. Some d)
    (sym (class_by_name (interfaces_of t.items) class) ∙ ap (λ (u : TreeValue). described_class (index_of u).interfaces class) (sym c.self.view_is)
    ∙ ap (λ (x : IndexValue). described_class x.interfaces class) (sym c.self.invariant.0.1) ∙ sym c.in_ok-class_description.ensures))

pub returns-in_err-class_description : goal.returns-in_err-class_description
returns-in_err-class_description c =
    let t = c.args.self.now in
    let count = c.count_interfaces.ensures ∙ ap (λ (is : List Item). length (interfaces_of is)) c.items-items.ensures in
    let p = err_from_is_err_and c.from_residual-in_err-class_description.result c.from_residual-in_err-class_description.ensures.1 in
    rw (p.1, p.2)
    (subst IsSome
    (sym (class_there t c.args.index (c.args.index - c.count_interfaces.result) (option_copied c.nth_class.result)
    (sym c.nth_interface.ensures ∙ c.in_default.is)
    (ap (λ (n : ℕ). c.args.index - n) count)
    (c.nth_class.ensures ∙ ap (λ (is : List Item). slice_get (classes_of is) (c.args.index - c.count_interfaces.result)) c.items-items.ensures)))
    (rw c.in-Some-nth_class.is refl))
