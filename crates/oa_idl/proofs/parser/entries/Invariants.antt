use Rattle.std.specs.Prelude.{codes}
use Rattle.std.proofs.Common.{◌≡◌, ◌-◌}
use Rattle.oa_idl.specs.promise.Forms.{nowhere}
use Rattle.oa_idl.specs.promise.Words.{passes}
use Rattle.oa_idl.specs.Reading.{until}
use Rattle.oa_idl.specs.promise.Grammar.{entry_grow, no_entry}
use Rattle.oa_idl.specs.GrammarReading.{entry_at, last_entry_at}
use Rattle.oa_idl.proofs.Loop.{with_front}
use Rattle.oa_idl.proofs.parser.entries.Given as goal

abbrev pub invariant-loop : goal.invariant-loop
invariant-loop l = with_front l.all.items (until (passes (codes "}")) nowhere entry_at entry_grow last_entry_at (l.room - l.counter) l.seen l.r) ≡ until
    (passes (codes "}")) nowhere entry_at entry_grow last_entry_at l.room no_entry l.fn.r
