use Rattle.std.proofs.Common.{ap, refl, ◌∙◌}
use Rattle.oa_disk.specs.declared.call.DeviceCall.TheVariants.{Write}
use Rattle.oa_disk.specs.declared.record.Record.{Record}
use Rattle.oa_disk.specs.Record.{recorded_history}
use Rattle.oa_disk.specs.promise.Disk.{contents_after}
use Rattle.oa_disk.proofs.Recorded.{time_is, write_holds, write_writes, write_all}
use Rattle.oa_disk.proofs.Noted.{agrees_none, on_ok}
use Rattle.oa_disk.proofs.file.FileDiskDisk.write_at.Goals as goal

pub returns-clause-written : goal.returns-clause-written
returns-clause-written c =
    let self = c.args.self.now in
    let is = ap (λ (r : Record). recorded_history r) c.put.ensures.noted in
    on_ok c.put.result (λ h. write_holds self.size (recorded_history self.history) self.whole _ c.args.at c.args.bytes.now c.requires
    (λ i. (c.type_inv.bytes i).fits) is)

pub returns-clause-writes : goal.returns-clause-writes
returns-clause-writes c h =
    let self = c.args.self.now in
    let is = ap (λ (r : Record). recorded_history r) c.put.ensures.noted in
    write_writes self.size (recorded_history self.history) self.whole _ c.args.at c.args.bytes.now c.requires (λ i. (c.type_inv.bytes i).fits) is

pub returns-clause-any_bytes : goal.returns-clause-any_bytes
returns-clause-any_bytes c =
    let self = c.args.self.now in
    let is = ap (λ (r : Record). recorded_history r) c.put.ensures.noted in
    on_ok c.put.result (λ h. write_all self.size (recorded_history self.history) self.whole _ c.args.at c.args.bytes.now c.requires
    (λ i. (c.type_inv.bytes i).fits) is)

pub returns-clause-time : goal.returns-clause-time
returns-clause-time c h =
    let self = c.args.self.now in
    time_is self.size (recorded_history self.history) self.whole (Write c.args.at _) c.args.bytes.now (refl, c.requires, (λ i. (c.type_inv.bytes i).fits)) _
    (ap (λ (r : Record). recorded_history r) c.put.ensures.noted)

pub returns-clause-honest : goal.returns-clause-honest
returns-clause-honest c =
    let old = c.args.self.now.history in
    ap (λ (r : Record). r.honest) c.put.ensures.noted ∙ agrees_none (contents_after old.first old.calls old.written) 0 old.honest
