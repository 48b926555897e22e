use Rattle.std.proofs.Common.{◌<◌, ◌≤◌, List, length, sym, subst, ◌∙◌}
use Rattle.oa_idl.specs.declared.items.Item.{Item}
use Rattle.oa_typelib.specs.promise.Descriptions.{classes_of}
use Rattle.oa_compat.specs.promise.Keeps.{lost_class}
use Rattle.oa_sema.specs.promise.Libraries.{as_class}
use Rattle.oa_sema.specs.promise.Repeats.{first_answer}
use Rattle.oa_compat.proofs.Searches.{here_found, here_on, here_done}
use Rattle.oa_compat.proofs.lost.first_class.Goals as goal

pub returns-then-is_some : goal.returns-then-is_some
returns-then-is_some c =
    here_found (lost_class c.args.new.now c.args.old.now) as_class c.args.old.now.items c.items.place
    (first_answer (lost_class c.args.new.now c.args.old.now) (classes_of c.args.old.now.items)) c.lost_class-lost.result
    (subst (λ (xs : List Item). c.items.place < length xs) c.items-items.ensures c.items-test.true)
    c.items.invariant (c.lost_class-lost.ensures) (sym c.is_some.ensures ∙ c.if-is_some.true)

pub items-preserved : goal.items-preserved
items-preserved c =
    here_on (lost_class c.args.new.now c.args.old.now) as_class c.args.old.now.items c.items.place
    (first_answer (lost_class c.args.new.now c.args.old.now) (classes_of c.args.old.now.items)) c.lost_class-lost.result
    (subst (λ (xs : List Item). c.items.place < length xs) c.items-items.ensures c.items-test.true)
    c.items.invariant (c.lost_class-lost.ensures) (sym c.is_some.ensures ∙ c.if-is_some.false)

pub returns : goal.returns
returns c =
    here_done (lost_class c.args.new.now c.args.old.now) as_class c.args.old.now.items c.items.place
    (first_answer (lost_class c.args.new.now c.args.old.now) (classes_of c.args.old.now.items))
    (subst (λ (xs : List Item). length xs ≤ c.items.place) c.items-items.ensures c.items-test.false) c.items.invariant
