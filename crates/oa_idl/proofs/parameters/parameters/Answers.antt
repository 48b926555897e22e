use Rattle.std.specs.Prelude.{codes}
use Rattle.std.proofs.Common.{rules}
use Rattle.std.proofs.lemmas.Result.{err_from_is_err_and}
use Rattle.oa_idl.specs.declared.stop.Stop.TheVariants.{Syntax}
use Rattle.oa_idl.specs.promise.Forms.{nowhere}
use Rattle.oa_idl.specs.promise.Words.{passes}
use Rattle.oa_idl.specs.Reading.{until, done}
use Rattle.oa_idl.specs.promise.Grammar.{one_more}
use Rattle.oa_idl.specs.GrammarReading.{next_parameter_at, last_parameter_at}
use Rattle.oa_idl.proofs.Loop.{plain_goes_on, until_ends, until_early, until_err, until_out, parameters_early, parameters_end}
use Rattle.oa_idl.proofs.parameters.parameters.Goals as goal

pub returns-then-not-may_end : goal.returns-then-not-may_end
returns-then-not-may_end c = until_early (passes (codes ")")) nowhere next_parameter_at one_more (last_parameter_at c.args.kind) c.loop.all.items c.args.room
    c.loop.counter c.loop.count c.loop.r c.loop.r Syntax
    (until (passes (codes ")")) nowhere next_parameter_at one_more (last_parameter_at c.args.kind) c.args.room 0 c.args.r.now) (search rules) (search rules)
    (parameters_early c.args.kind c.loop.count c.loop.r (search rules)) c.loop.invariant

pub returns-then-is : goal.returns-then-is
returns-then-is c =
    rw c.skip.ensures (until_ends (passes (codes ")")) nowhere next_parameter_at one_more (last_parameter_at c.args.kind) c.loop.all.items c.args.room
    c.loop.counter c.loop.count done c.loop.r _
    (until (passes (codes ")")) nowhere next_parameter_at one_more (last_parameter_at c.args.kind) c.args.room 0 c.args.r.now) (search rules) (search rules)
    (parameters_end c.args.kind c.loop.count c.loop.r (search rules) (search rules)) c.loop.invariant)

pub returns-in_err-next : goal.returns-in_err-next
returns-in_err-next c =
    let p = err_from_is_err_and c.from_residual.result c.from_residual.ensures.1 in
    rw (p.1, p.2) (until_err (passes (codes ")")) nowhere next_parameter_at one_more (last_parameter_at c.args.kind) c.in_err-next.field-0.0 c.loop.all.items
    c.args.room c.loop.counter c.loop.count c.loop.r c.next_parameter.new.r
    (until (passes (codes ")")) nowhere next_parameter_at one_more (last_parameter_at c.args.kind) c.args.room 0 c.args.r.now) (search rules)
    (search rules) c.in_err-next.ensures.value c.loop.invariant)

pub loop-preserved : goal.loop-preserved
loop-preserved c =
    rw c.in_ok-push.ensures.items (plain_goes_on (passes (codes ")")) next_parameter_at one_more (last_parameter_at c.args.kind) c.loop.all.items c.args.room
    c.loop.counter c.loop.count c.loop.r c.next_parameter.new.r c.in_ok-next.next
    (until (passes (codes ")")) nowhere next_parameter_at one_more (last_parameter_at c.args.kind) c.args.room 0 c.args.r.now) (search rules)
    (search rules) c.in_ok-next.ensures.value c.loop.invariant)

pub returns : goal.returns
returns c = until_out (passes (codes ")")) nowhere next_parameter_at one_more (last_parameter_at c.args.kind) c.loop.all.items c.args.room c.loop.counter
    c.loop.count c.loop.r (until (passes (codes ")")) nowhere next_parameter_at one_more (last_parameter_at c.args.kind) c.args.room 0 c.args.r.now)
    (search rules) c.loop.invariant
