use Rattle.std.proofs.Common.{rules}
use Rattle.oa_idl.specs.promise.Forms.{nowhere}
use Rattle.oa_idl.specs.Reading.{until}
use Rattle.oa_idl.specs.promise.Grammar.{one_more}
use Rattle.oa_idl.specs.GrammarReading.{property_at, methods_at, ends_properties}
use Rattle.oa_idl.proofs.Loop.{plain_goes_on, until_ends, until_out}
use Rattle.oa_idl.proofs.parser.properties.Goals as goal

pub returns-then-ends_section : goal.returns-then-ends_section
returns-then-ends_section c = until_ends ends_properties nowhere property_at one_more methods_at c.loop.all.items c.args.room c.loop.counter c.loop.count
    c.in_ok-methods.methods.items c.loop.r c.methods.new.r
    (until ends_properties nowhere property_at one_more methods_at c.args.room 0 c.args.r.now) (search rules)
    (search rules) c.in_ok-methods.ensures c.loop.invariant

pub loop-preserved : goal.loop-preserved
loop-preserved c =
    rw c.in_ok-push.ensures.items (plain_goes_on ends_properties property_at one_more methods_at c.loop.all.items c.args.room c.loop.counter c.loop.count
    c.loop.r c.property.new.r c.in_ok-next.next
    (until ends_properties nowhere property_at one_more methods_at c.args.room 0 c.args.r.now) (search rules)
    (search rules) c.in_ok-next.ensures.value c.loop.invariant)

pub returns : goal.returns
returns c = until_out ends_properties nowhere property_at one_more methods_at c.loop.all.items c.args.room c.loop.counter c.loop.count c.loop.r
    (until ends_properties nowhere property_at one_more methods_at c.args.room 0 c.args.r.now) (search rules) c.loop.invariant
