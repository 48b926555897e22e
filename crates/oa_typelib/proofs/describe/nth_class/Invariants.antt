use Rattle.std.proofs.Common.{◌≡◌, slice_get, drop}
use Rattle.oa_typelib.specs.promise.Descriptions.{classes_of}
use Rattle.oa_typelib.proofs.describe.nth_class.Given as goal

abbrev pub invariant-loop-item : goal.invariant-loop-item
invariant-loop-item l = slice_get (classes_of (drop l.item-index l.items)) l.left ≡ slice_get (classes_of l.items) l.index
