use Rattle.std.proofs.Common.{take, map}
use Rattle.std.specs.List.{AllByRecursion}
use Rattle.oa_record.specs.promise.Asks.{IsUnbroken}
use Rattle.oa_record.proofs.reading.sound.Given as goal

abbrev pub invariant-fields : goal.invariant-fields
invariant-fields l = AllByRecursion IsUnbroken (take l.field-index (map (λ f. f.now) l.fields))
