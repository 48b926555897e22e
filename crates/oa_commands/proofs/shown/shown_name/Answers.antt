use Rattle.std.proofs.Common.{string_bytes}
use Rattle.std.specs.Str.Iter.{chars_rest}
use Rattle.oa_commands.specs.Shown.{shown_name as as_shown}
use Rattle.oa_commands.proofs.Showing.{goes_on, ends}
use Rattle.oa_commands.proofs.shown.shown_name.Goals as goal

pub loop-c-preserved : goal.loop-c-preserved
loop-c-preserved c =
    goes_on (string_bytes c.loop-c.shown) (string_bytes c.push_shown.new.shown) (chars_rest c.loop-c.c-iterator) (chars_rest c.next.new.self)
    (as_shown c.args.name.now) c.in-Some.c
    c.loop-c.invariant.0 c.in-Some.ensures.steps.0 c.in_ok-push_shown.ensures c.loop-c.invariant.1

pub returns : goal.returns
returns c = ends (string_bytes c.loop-c.shown) (chars_rest c.loop-c.c-iterator) (as_shown c.args.name.now) c.in-None.ensures.steps.0.0 c.loop-c.invariant.1
