use Rattle.std.proofs.Common.{List, map, ap}
use Rattle.oa_model.specs.promise.Folding.{folded_name}
use Rattle.oa_idl.specs.promise.Values.{InterfaceValue}
use Rattle.oa_idl.specs.declared.items.Item.{Item}
use Rattle.oa_typelib.specs.promise.Descriptions.{interfaces_of}
use Rattle.oa_typelib.specs.Indexes.{members_in, entered_in}
use Rattle.oa_sema.specs.Libraries.{folded_names}
use Rattle.oa_typelib.proofs.Looks.{indexed_by}
use Rattle.oa_typelib.proofs.index.Index.of.Goals as goal

pub returns : goal.returns
returns c =
    rw (c.in_ok-all_members.ensures, c.in_ok-by_interface.ensures, c.in_ok-entered_rows.ensures)
    (ap (λ (is : List Item). indexed_by (map members_in is) (map (λ (i : InterfaceValue). folded_name i.name) (interfaces_of is))
    (map (entered_in (folded_names is)) is)) c.items_of-items.ensures)
