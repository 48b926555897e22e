use Rattle.std.proofs.Common.{[], refl, ap}
use Rattle.oa_disk.specs.declared.call.DeviceCall.TheVariants.{Read, Sync}
use Rattle.oa_disk.specs.declared.record.Record.{Record}
use Rattle.oa_disk.specs.Record.{recorded_history}
use Rattle.oa_disk.proofs.Recorded.{whole_is}
use Rattle.oa_disk.proofs.file.FileDisk.flush.Goals as goal

pub invariant_of-self-clause-whole : goal.invariant_of-self-clause-whole
invariant_of-self-clause-whole c =
    let self = c.args.self.now in
    whole_is self.size (recorded_history self.history) self.whole Read [] refl _ (ap (λ (r : Record). recorded_history r) c.with-self.ensures)

pub invariant_of-self-2-clause-whole : goal.invariant_of-self-2-clause-whole
invariant_of-self-2-clause-whole c =
    let self = c.args.self.now in
    whole_is self.size (recorded_history self.history) self.whole Sync [] refl _ (ap (λ (r : Record). recorded_history r) c.with-self-2.ensures)
