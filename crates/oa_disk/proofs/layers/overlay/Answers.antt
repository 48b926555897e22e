use Rattle.std.proofs.Common.{◌+◌, ◌≤◌, length, drop, refl, sym, ◌∙◌, arith}
use Rattle.oa_disk.specs.declared.call.DeviceCall.TheVariants.{Write}
use Rattle.oa_disk.specs.promise.Disk.{count_all}
use Rattle.oa_disk.proofs.Steps.{count_step, count_other}
use Rattle.oa_disk.proofs.Laid.{made_start, made_write, made_other, made_end}
use Rattle.std.proofs.lemmas.List.{drop_all}
use Rattle.oa_disk.proofs.layers.overlay.Goals as goal
use Rattle.oa_disk.proofs.layers.overlay.Goals.{in-Write, in_default}

pub loop-call-preserved : goal.loop-call-preserved
loop-call-preserved c =
    let calls = c.args.calls.now in
    let written = c.args.written.now in
    let i = c.loop-call.call-index in
    let from = c.loop-call.from in
    let was = c.loop-call.invariant in
    let lt = c.loop-call-test.true in
    let fits : from + count_all (drop i calls) ≤ length written = omega (arith, was.count, c.requires.written) in
    elim c.match-call.branch [
      | in-Write w ↦ record {
        shown =
            λ disk inside holds. rw (w.window-is, w.from-is)
            (made_write disk calls written c.args.at i from lt fits w.in-Write.to w.in-Write.count c.loop-call.window w.show.new.window w.in-Write.is inside
            w.show.ensures.shown (was.shown disk inside holds));
        len = rw w.window-is (w.show.ensures.len ∙ was.len);
        count = sym (count_step calls written i from lt (Write w.in-Write.to w.in-Write.count) c.match-call.from w.in-Write.is w.from-is) ∙ was.count;
      }
      | in_default w ↦ record {
        shown =
            λ disk inside holds. rw (w.window-is, w.from-is)
            (made_other disk calls written c.args.at i from lt _ c.loop-call.window refl w.in_default.not-Write (was.shown disk inside holds));
        len = rw w.window-is was.len;
        count = sym (count_other calls written i from lt _ c.match-call.from refl w.in_default.not-Write w.from-is) ∙ was.count;
      }
    ]

pub returns-clause-shown : goal.returns-clause-shown
returns-clause-shown c disk inside holds =
    let calls = c.args.calls.now in
    made_end disk calls c.args.written.now c.args.at c.loop-call.window (drop c.loop-call.call-index calls) _
    (drop_all c.loop-call.call-index calls c.loop-call-test.false) (c.loop-call.invariant.shown disk inside holds)

pub loop-call-init : goal.loop-call-init
loop-call-init c = record {
  shown = λ disk inside holds. made_start disk c.args.calls.now c.args.written.now c.args.at c.args.window.now holds;
  len = refl;
  count = omega arith;
}
