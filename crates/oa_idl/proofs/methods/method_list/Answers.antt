use Rattle.std.specs.Prelude.{codes}
use Rattle.std.proofs.Common.{rules}
use Rattle.oa_idl.specs.promise.Forms.{nowhere}
use Rattle.oa_idl.specs.promise.Words.{passes}
use Rattle.oa_idl.specs.Reading.{until}
use Rattle.oa_idl.specs.promise.Grammar.{one_more}
use Rattle.oa_idl.specs.GrammarReading.{method_at, closing_at}
use Rattle.oa_idl.proofs.Loop.{plain_goes_on, until_ends_at, until_out}
use Rattle.oa_idl.proofs.methods.method_list.Goals as goal

pub returns-then-is : goal.returns-then-is
returns-then-is c =
    rw c.skip.ensures (until_ends_at (passes (codes "}")) nowhere method_at one_more c.loop.all.items c.args.room c.loop.counter c.loop.count c.loop.r
    (until (passes (codes "}")) nowhere method_at one_more closing_at c.args.room c.args.before c.args.r.now) (search rules) (search rules) c.loop.invariant)

pub loop-preserved : goal.loop-preserved
loop-preserved c =
    rw c.in_ok-push.ensures.items (plain_goes_on (passes (codes "}")) method_at one_more closing_at c.loop.all.items c.args.room c.loop.counter c.loop.count
    c.loop.r c.method.new.r c.in_ok-next.next
    (until (passes (codes "}")) nowhere method_at one_more closing_at c.args.room c.args.before c.args.r.now) (search rules)
    (search rules) c.in_ok-next.ensures.value c.loop.invariant)

pub returns : goal.returns
returns c = until_out (passes (codes "}")) nowhere method_at one_more closing_at c.loop.all.items c.args.room c.loop.counter c.loop.count c.loop.r
    (until (passes (codes "}")) nowhere method_at one_more closing_at c.args.room c.args.before c.args.r.now) (search rules) c.loop.invariant
