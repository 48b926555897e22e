use Rattle.std.proofs.Common.{inl, inr, [], refl, ◌∙◌, ap}
use Rattle.std.proofs.lemmas.Result.{on_ok_weaker}
use Rattle.oa_disk.specs.declared.call.DeviceCall.TheVariants.{Read, Sync}
use Rattle.oa_disk.specs.declared.record.Record.{Record}
use Rattle.oa_disk.specs.Record.{recorded_history}
use Rattle.oa_disk.specs.promise.Disk.{contents_after}
use Rattle.oa_disk.proofs.Recorded.{time_is, read_stays, sync_syncs, sync_images}
use Rattle.oa_disk.proofs.Noted.{at_ok, at_err, at_either, agrees_none}
use Rattle.oa_disk.proofs.file.FileDiskDisk.sync.Goals as goal

pub returns-clause-syncs : goal.returns-clause-syncs
returns-clause-syncs c =
    let self = c.args.self.now in
    on_ok_weaker c.flush.result (λ is h. sync_syncs self.size (recorded_history self.history) self.whole _ (ap (λ (r : Record). recorded_history r) is))
    (at_ok _ _ c.flush.result c.flush.ensures.noted)

pub returns-clause-images : goal.returns-clause-images
returns-clause-images c h image left =
    let self = c.args.self.now in
    elim (at_either _ _ c.flush.result c.flush.ensures.noted) [
      | inl is ↦ sync_images self.size (recorded_history self.history) self.whole _ (ap (λ (r : Record). recorded_history r) is) image left
      | inr e ↦ (read_stays self.size (recorded_history self.history) self.whole _ (ap (λ (r : Record). recorded_history r) e.1.0)).images image left
    ]

pub returns-clause-stay : goal.returns-clause-stay
returns-clause-stay c =
    let self = c.args.self.now in
    at_err _ _ _ c.flush.result (λ e is h. (read_stays self.size (recorded_history self.history) self.whole _
    (ap (λ (r : Record). recorded_history r) is.0)).stay) c.flush.ensures.noted

pub returns-clause-time : goal.returns-clause-time
returns-clause-time c h =
    let self = c.args.self.now in
    elim (at_either _ _ c.flush.result c.flush.ensures.noted) [
      | inl is ↦ time_is self.size (recorded_history self.history) self.whole Sync [] refl _ (ap (λ (r : Record). recorded_history r) is)
      | inr e ↦ time_is self.size (recorded_history self.history) self.whole Read [] refl _ (ap (λ (r : Record). recorded_history r) e.1.0)
    ]

pub returns-clause-honest : goal.returns-clause-honest
returns-clause-honest c =
    let old = c.args.self.now.history in
    elim (at_either _ _ c.flush.result c.flush.ensures.noted) [
      | inl is ↦ ap (λ (r : Record). r.honest) is ∙ agrees_none (contents_after old.first old.calls old.written) 0 old.honest
      | inr e ↦ ap (λ (r : Record). r.honest) e.1.0 ∙ agrees_none (contents_after old.first old.calls old.written) 0 old.honest
    ]
