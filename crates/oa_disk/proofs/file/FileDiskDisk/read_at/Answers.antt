use Rattle.std.proofs.Common.{◌+◌, ◌≤◌, Bool, IsTrue, [], length, refl, rules, sym, ◌∙◌, ap, subst, arith}
use Rattle.std.proofs.lemmas.Result.{on_ok_weaker}
use Rattle.oa_disk.specs.declared.call.DeviceCall.TheVariants.{Read}
use Rattle.oa_disk.specs.declared.record.Record.{Record}
use Rattle.oa_disk.specs.Record.{recorded_history}
use Rattle.oa_disk.specs.promise.Disk.{contents_after}
use Rattle.oa_disk.specs.Replaying.{contents_size}
use Rattle.oa_disk.proofs.Recorded.{time_is, read_stays}
use Rattle.oa_disk.proofs.Noted.{at_ok, at_err, some_read, agrees_none, agrees_holds, holds_agrees}
use Rattle.oa_disk.proofs.file.FileDiskDisk.read_at.Goals as goal

pub returns-clause-read : goal.returns-clause-read
returns-clause-read c =
    let self = c.args.self.now in
    let old = self.history in
    let bytes = c.get.new.bytes in
    let inside : c.args.at + length bytes ≤ length (contents_after old.first old.calls old.written) =
    omega (arith, c.requires, contents_size self.size (recorded_history old) self.whole) in
    on_ok_weaker c.get.result (λ is h. agrees_holds (contents_after old.first old.calls old.written) c.args.at bytes old.honest inside
    (subst (λ (b : Bool). IsTrue b) (ap (λ (r : Record). r.honest) is) h)) (at_ok _ _ c.get.result c.get.ensures.noted)

pub returns-clause-stays : goal.returns-clause-stays
returns-clause-stays c h =
    let self = c.args.self.now in
    let some = some_read _ c.get.result self.history _ _ _ c.get.ensures.noted in
    read_stays self.size (recorded_history self.history) self.whole _ (ap (λ (r : Record). recorded_history r) some.1)

pub returns-clause-time : goal.returns-clause-time
returns-clause-time c h =
    let self = c.args.self.now in
    let some = some_read _ c.get.result self.history _ _ _ c.get.ensures.noted in
    time_is self.size (recorded_history self.history) self.whole Read [] refl _ (ap (λ (r : Record). recorded_history r) some.1)

pub returns-clause-honest : goal.returns-clause-honest
returns-clause-honest c =
    let old = c.args.self.now.history in record {
      before = search rules;
      kept =
          on_ok_weaker c.get.result (λ is h holds. subst (λ (b : Bool). IsTrue b) (sym (ap (λ (r : Record). r.honest) is))
          (holds_agrees (contents_after old.first old.calls old.written) c.args.at c.get.new.bytes old.honest h holds))
          (at_ok _ _ c.get.result c.get.ensures.noted);
      same =
          at_err _ _ _ c.get.result (λ e is. ap (λ (r : Record). r.honest) is.0
          ∙ agrees_none (contents_after old.first old.calls old.written) c.args.at old.honest) c.get.ensures.noted;
    }
