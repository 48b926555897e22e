use Rattle.std.proofs.Common.{◌+◌, ◌≤◌, length, drop, refl, sym, ◌∙◌, arith}
use Rattle.oa_disk.specs.declared.call.DeviceCall.TheVariants.{Write}
use Rattle.oa_disk.specs.promise.Disk.{count_all}
use Rattle.oa_disk.proofs.Steps.{count_step, count_other, replay_write, replay_other}
use Rattle.oa_disk.proofs.crash.replay.Goals as goal
use Rattle.oa_disk.proofs.crash.replay.Goals.{in-Write+in_ok-put, in_default}

pub loop-call-preserved : goal.loop-call-preserved
loop-call-preserved c =
    let calls = c.args.calls.now in
    let written = c.args.written.now in
    let i = c.loop-call.call-index in
    let from = c.loop-call.from in
    let was = c.loop-call.invariant in
    let lt = c.loop-call-test.true in
    let fits : from + count_all (drop i calls) ≤ length written = omega (arith, was.count, c.requires.written) in
    elim c.match-call.branch [
      | in-Write+in_ok-put w ↦ record {
        contents =
            rw (w.disk-is, w.from-is) (replay_write calls written i from lt fits w.in-Write.at w.in-Write.count _ _ w.in-Write.is w.in_ok-put.ensures.bytes
            ∙ was.contents);
        size = rw w.disk-is (w.put.ensures.size ∙ was.size);
        count = sym (count_step calls written i from lt (Write w.in-Write.at w.in-Write.count) c.match-call.from w.in-Write.is w.from-is) ∙ was.count;
      }
      | in_default w ↦ record {
        contents = rw (w.disk-is, w.from-is) (replay_other calls written i from lt _ _ refl w.in_default.not-Write ∙ was.contents);
        size = rw w.disk-is was.size;
        count = sym (count_other calls written i from lt _ c.match-call.from refl w.in_default.not-Write w.from-is) ∙ was.count;
      }
    ]
