use Rattle.oa_typelib.proofs.Classes.{class_default, tree_whole}
use Rattle.oa_typelib.proofs.library.Library.select.Goals as goal

pub returns-then-is_zero_guid-clause-default : goal.returns-then-is_zero_guid-clause-default
returns-then-is_zero_guid-clause-default c =
    λ nil some. rw c.default_interface.ensures (class_default c.args.self.now c.args.class.now (tree_whole c.args.self.now c.is_checked.ensures) some)
