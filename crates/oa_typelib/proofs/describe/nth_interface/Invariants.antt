use Rattle.std.proofs.Common.{◌≡◌, slice_get, drop}
use Rattle.oa_typelib.specs.promise.Descriptions.{interfaces_of}
use Rattle.oa_typelib.proofs.describe.nth_interface.Given as goal

abbrev pub invariant-items : goal.invariant-items
invariant-items l = slice_get (interfaces_of (drop l.place l.items)) l.left ≡ slice_get (interfaces_of l.items) l.index
