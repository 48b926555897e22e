use Rattle.std.proofs.Common.{◌≡◌, map, take}
use Rattle.std.specs.Ordering.{int_eq}
use Rattle.oa_sema.specs.promise.DeclarationValues.{DeclarationValue}
use Rattle.oa_typelib.specs.Groups.{keys_with_places}
use Rattle.oa_typelib.proofs.groups.places_by_id.Given as goal

abbrev pub invariant-ids : goal.invariant-ids
invariant-ids l = record {
  keys : l.groups.keys ≡ (keys_with_places int_eq (map (λ (d : DeclarationValue). d.id) (take l.place l.declarations))).keys;
  places : l.groups.places ≡ (keys_with_places int_eq (map (λ (d : DeclarationValue). d.id) (take l.place l.declarations))).places;
}
