use Rattle.std.proofs.Common.{◌+◌, ◌≤◌, length, drop, refl, sym, ◌∙◌, arith}
use Rattle.oa_disk.specs.declared.call.DeviceCall.TheVariants.{Write}
use Rattle.oa_disk.specs.promise.Disk.{count_all}
use Rattle.oa_disk.proofs.Steps.{count_step, count_other, torn_write, torn_other}
use Rattle.oa_disk.proofs.crash.tear_all.Goals as goal
use Rattle.oa_disk.proofs.crash.tear_all.Goals.{in-Write+in_ok-tear_range, in_default}

pub loop-call-preserved : goal.loop-call-preserved
loop-call-preserved c =
    let calls = c.args.calls.now in
    let written = c.args.written.now in
    let i = c.loop-call.call-index in
    let from = c.loop-call.from in
    let was = c.loop-call.invariant in
    let lt = c.loop-call-test.true in
    let fits : from + count_all (drop i calls) ≤ length written = omega (arith, was.count, c.requires.written) in
    elim c.match-call.branch [
      | in-Write+in_ok-tear_range w ↦ record {
        torn =
            rw (w.disk-is, w.from-is, w.tear-is) (torn_write calls written i from lt fits w.in-Write.at w.in-Write.count c.loop-call.tear _ _ _ w.in-Write.is
            w.in_ok-tear_range.ensures.bytes w.in_ok-tear_range.ensures.rest ∙ was.torn);
        size = rw w.disk-is (w.tear_range.ensures.size ∙ was.size);
        count = sym (count_step calls written i from lt (Write w.in-Write.at w.in-Write.count) c.match-call.from w.in-Write.is w.from-is) ∙ was.count;
      }
      | in_default w ↦ record {
        torn = rw (w.disk-is, w.from-is, w.tear-is) (torn_other calls written i from lt c.loop-call.tear _ _ refl w.in_default.not-Write ∙ was.torn);
        size = rw w.disk-is was.size;
        count = sym (count_other calls written i from lt _ c.match-call.from refl w.in_default.not-Write w.from-is) ∙ was.count;
      }
    ]
