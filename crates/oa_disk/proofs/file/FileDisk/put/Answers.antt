use Rattle.std.proofs.Common.{refl, ap}
use Rattle.oa_disk.specs.declared.call.DeviceCall.TheVariants.{Write}
use Rattle.oa_disk.specs.declared.record.Record.{Record}
use Rattle.oa_disk.specs.Record.{recorded_history}
use Rattle.oa_disk.proofs.Recorded.{whole_is}
use Rattle.oa_disk.proofs.file.FileDisk.put.Goals as goal

pub invariant_of-self-clause-whole : goal.invariant_of-self-clause-whole
invariant_of-self-clause-whole c =
    let self = c.args.self.now in
    whole_is self.size (recorded_history self.history) self.whole (Write c.args.at _) c.args.bytes.now (refl, c.requires, (λ i. (c.type_inv.bytes i).fits)) _
    (ap (λ (r : Record). recorded_history r) c.with-self.ensures)

pub invariant_of-self-else-is_err-clause-whole : goal.invariant_of-self-else-is_err-clause-whole
invariant_of-self-else-is_err-clause-whole c =
    let self = c.args.self.now in
    whole_is self.size (recorded_history self.history) self.whole (Write c.args.at _) c.args.bytes.now (refl, c.requires, (λ i. (c.type_inv.bytes i).fits)) _
    (ap (λ (r : Record). recorded_history r) c.with-self.ensures)
