use Rattle.std.proofs.Common.{subst}
use Rattle.oa_typelib.specs.promise.Checked.{IsChecked}
use Rattle.oa_typelib.proofs.library.Library.is_checked.Goals as goal

pub returns : goal.returns
returns c = subst IsChecked c.self.view_is c.self.invariant.3
