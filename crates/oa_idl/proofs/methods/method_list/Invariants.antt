use Rattle.std.specs.Prelude.{codes}
use Rattle.std.proofs.Common.{◌≡◌, ◌-◌}
use Rattle.oa_idl.specs.promise.Forms.{nowhere}
use Rattle.oa_idl.specs.promise.Words.{passes}
use Rattle.oa_idl.specs.Reading.{until}
use Rattle.oa_idl.specs.promise.Grammar.{one_more}
use Rattle.oa_idl.specs.GrammarReading.{method_at, closing_at}
use Rattle.oa_idl.proofs.Loop.{with_front}
use Rattle.oa_idl.proofs.methods.method_list.Given as goal

abbrev pub invariant-loop : goal.invariant-loop
invariant-loop l = with_front l.all.items (until (passes (codes "}")) nowhere method_at one_more closing_at (l.room - l.counter) l.count l.r) ≡ until
    (passes (codes "}")) nowhere method_at one_more closing_at l.room l.before l.fn.r
