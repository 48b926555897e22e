use Rattle.std.proofs.Common.{◌<◌, ◌≤◌, List, length, ap, sym, subst, ◌∙◌}
use Rattle.std.specs.Option.{option_and_then}
use Rattle.oa_idl.specs.declared.items.Item.{Item}
use Rattle.oa_typelib.specs.promise.Descriptions.{interfaces_of}
use Rattle.oa_compat.specs.promise.Keeps.{lost_interface}
use Rattle.oa_sema.specs.promise.Libraries.{as_interface}
use Rattle.oa_sema.specs.promise.Repeats.{first_answer}
use Rattle.oa_compat.proofs.Searches.{here_found, here_on, here_done}
use Rattle.oa_compat.proofs.lost.first_interface.Goals as goal

pub returns-then-is_some : goal.returns-then-is_some
returns-then-is_some c =
    here_found (lost_interface c.args.new.now) as_interface c.args.old.now.items c.items.place
    (first_answer (lost_interface c.args.new.now) (interfaces_of c.args.old.now.items)) c.lost_of-lost.result
    (subst (λ (xs : List Item). c.items.place < length xs) c.items-items.ensures c.items-test.true)
    c.items.invariant (c.lost_of-lost.ensures ∙ ap (option_and_then (lost_interface c.args.new.now)) c.interface_at.ensures)
    (sym c.is_some.ensures ∙ c.if-is_some.true)

pub items-preserved : goal.items-preserved
items-preserved c =
    here_on (lost_interface c.args.new.now) as_interface c.args.old.now.items c.items.place
    (first_answer (lost_interface c.args.new.now) (interfaces_of c.args.old.now.items)) c.lost_of-lost.result
    (subst (λ (xs : List Item). c.items.place < length xs) c.items-items.ensures c.items-test.true)
    c.items.invariant (c.lost_of-lost.ensures ∙ ap (option_and_then (lost_interface c.args.new.now)) c.interface_at.ensures)
    (sym c.is_some.ensures ∙ c.if-is_some.false)

pub returns : goal.returns
returns c =
    here_done (lost_interface c.args.new.now) as_interface c.args.old.now.items c.items.place
    (first_answer (lost_interface c.args.new.now) (interfaces_of c.args.old.now.items))
    (subst (λ (xs : List Item). length xs ≤ c.items.place) c.items-items.ensures c.items-test.false) c.items.invariant
