use Rattle.std.proofs.Common.{◌≡◌, is_some, map, take}
use Rattle.std.specs.List.{list_all}
use Rattle.oa_typelib.specs.promise.Names.{or_unknown}
use Rattle.oa_typelib.proofs.names.told.Given as goal

abbrev pub invariant-ids : goal.invariant-ids
invariant-ids l = record {
  ids : l.answered.items ≡ map or_unknown (take l.id-index l.ids);
  known : l.all_known ≡ list_all is_some (take l.id-index l.ids);
}
