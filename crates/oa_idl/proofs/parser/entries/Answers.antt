use Rattle.std.specs.Prelude.{codes}
use Rattle.std.proofs.Common.{rules}
use Rattle.oa_idl.specs.declared.stop.Stop.TheVariants.{Syntax}
use Rattle.oa_idl.specs.promise.Forms.{nowhere}
use Rattle.oa_idl.specs.promise.Words.{passes}
use Rattle.oa_idl.specs.Reading.{until, done}
use Rattle.oa_idl.specs.promise.Grammar.{entry_grow, no_entry}
use Rattle.oa_idl.specs.GrammarReading.{entry_at, last_entry_at}
use Rattle.oa_idl.proofs.Loop.{plain_goes_on, until_ends, until_early, until_out, entries_early, entries_end}
use Rattle.oa_idl.proofs.parser.entries.Goals as goal

pub returns-then-not-seen : goal.returns-then-not-seen
returns-then-not-seen c = until_early (passes (codes "}")) nowhere entry_at entry_grow last_entry_at c.loop.all.items c.args.room c.loop.counter c.loop.seen
    c.loop.r c.loop.r Syntax
    (until (passes (codes "}")) nowhere entry_at entry_grow last_entry_at c.args.room no_entry c.args.r.now) (search rules) (search rules)
    (entries_early c.loop.seen c.loop.r (search rules)) c.loop.invariant

pub returns-then-is : goal.returns-then-is
returns-then-is c =
    rw c.skip.ensures (until_ends (passes (codes "}")) nowhere entry_at entry_grow last_entry_at c.loop.all.items c.args.room c.loop.counter c.loop.seen done
    c.loop.r _
    (until (passes (codes "}")) nowhere entry_at entry_grow last_entry_at c.args.room no_entry c.args.r.now) (search rules) (search rules)
    (entries_end c.loop.seen c.loop.r (search rules) (search rules)) c.loop.invariant)

pub loop-preserved : goal.loop-preserved
loop-preserved c = rw (c.in_ok-push.ensures.items, c.with_entry-seen.ensures)
    (plain_goes_on (passes (codes "}")) entry_at entry_grow last_entry_at c.loop.all.items c.args.room c.loop.counter c.loop.seen c.loop.r c.entry.new.r
    c.in_ok-next.next
    (until (passes (codes "}")) nowhere entry_at entry_grow last_entry_at c.args.room no_entry c.args.r.now) (search rules)
    (search rules) c.in_ok-next.ensures c.loop.invariant)

pub returns : goal.returns
returns c = until_out (passes (codes "}")) nowhere entry_at entry_grow last_entry_at c.loop.all.items c.args.room c.loop.counter c.loop.seen c.loop.r
    (until (passes (codes "}")) nowhere entry_at entry_grow last_entry_at c.args.room no_entry c.args.r.now) (search rules) c.loop.invariant
