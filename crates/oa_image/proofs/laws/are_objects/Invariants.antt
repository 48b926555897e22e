use Rattle.std.proofs.Common.{◌<◌, ◌^◌, length, map}
use Rattle.std.specs.List.{AllByRecursion, flat_map}
use Rattle.oa_table.specs.promise.Tables.{unlocked_entry}
use Rattle.oa_image.specs.promise.Tables.{object}
use Rattle.oa_image.proofs.laws.are_objects.Given as goal

-- if it is true of those that are left, it is true of all
abbrev pub invariant-objects : goal.invariant-objects
invariant-objects l = record {
  all : AllByRecursion object.Is (map unlocked_entry l.number-iterator) → AllByRecursion object.Is (map unlocked_entry l.fn.table.objects);
  small : length (flat_map object.image l.number-iterator) < 2 ^ 32;
}
