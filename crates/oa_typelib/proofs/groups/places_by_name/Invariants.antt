use Rattle.std.proofs.Common.{◌≡◌, ℕ, List, map, take, Bor}
use Rattle.oa_model.specs.promise.Folding.{folded_name}
use Rattle.oa_typelib.specs.Groups.{keys_with_places}
use Rattle.oa_sema.specs.promise.Libraries.{same}
use Rattle.oa_typelib.proofs.groups.places_by_name.Given as goal

abbrev pub invariant-names : goal.invariant-names
invariant-names l = record {
  keys : l.groups.keys ≡ (keys_with_places same (map (λ (n : Bor (List ℕ)). folded_name n.now) (take l.place l.names))).keys;
  places : l.groups.places ≡ (keys_with_places same (map (λ (n : Bor (List ℕ)). folded_name n.now) (take l.place l.names))).places;
}
