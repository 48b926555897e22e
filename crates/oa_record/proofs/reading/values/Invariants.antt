use Rattle.std.proofs.Common.{◌≡◌, length, take, map}
use Rattle.oa_record.specs.promise.Asks.{AllSpell}
use Rattle.oa_record.proofs.reading.values.Given as goal

abbrev pub invariant-fields : goal.invariant-fields
invariant-fields l = record {
  count : length l.values.items ≡ l.field-index;
  spelled : AllSpell (take l.field-index (map (λ f. f.now) l.fields)) l.values.items;
}
