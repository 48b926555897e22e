use Rattle.std.specs.Prelude.{codes}
use Rattle.std.proofs.Common.{◌≡◌, ◌-◌}
use Rattle.oa_idl.specs.promise.Forms.{nowhere}
use Rattle.oa_idl.specs.promise.Words.{passes}
use Rattle.oa_idl.specs.Reading.{until}
use Rattle.oa_idl.specs.promise.Grammar.{one_more}
use Rattle.oa_idl.specs.GrammarReading.{next_parameter_at, last_parameter_at}
use Rattle.oa_idl.proofs.Loop.{with_front}
use Rattle.oa_idl.proofs.parameters.parameters.Given as goal

abbrev pub invariant-loop : goal.invariant-loop
invariant-loop l =
    with_front l.all.items (until (passes (codes ")")) nowhere next_parameter_at one_more (last_parameter_at l.kind) (l.room - l.counter) l.count l.r) ≡ until
    (passes (codes ")")) nowhere next_parameter_at one_more (last_parameter_at l.kind) l.room 0 l.fn.r
