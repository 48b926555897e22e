use Rattle.std.proofs.Common.{◌≡◌, ◌-◌}
use Rattle.oa_idl.specs.promise.Forms.{nowhere}
use Rattle.oa_idl.specs.Reading.{until}
use Rattle.oa_idl.specs.promise.Grammar.{one_more}
use Rattle.oa_idl.specs.GrammarReading.{property_at, methods_at, ends_properties}
use Rattle.oa_idl.proofs.Loop.{with_front}
use Rattle.oa_idl.proofs.parser.properties.Given as goal

abbrev pub invariant-loop : goal.invariant-loop
invariant-loop l = with_front l.all.items (until ends_properties nowhere property_at one_more methods_at (l.room - l.counter) l.count l.r)
    ≡ until ends_properties nowhere property_at one_more methods_at l.room 0 l.fn.r
