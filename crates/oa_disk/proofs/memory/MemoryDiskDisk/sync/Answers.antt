use Rattle.std.proofs.Common.{[], refl}
use Rattle.std.proofs.lemmas.Result.{on_ok_weaker}
use Rattle.oa_disk.specs.declared.call.DeviceCall.TheVariants.{Sync}
use Rattle.oa_disk.specs.declared.disk.DeviceFault.TheVariants as faults
use Rattle.oa_disk.specs.promise.CallLog.{history}
use Rattle.oa_disk.proofs.Entered.{recorded, refused, either_of, on_err_weaker}
use Rattle.oa_disk.proofs.Recorded.{whole_is, time_is, same_whole, same_time, same_stays, sync_syncs, sync_images}
use Rattle.oa_disk.proofs.memory.MemoryDiskDisk.sync.Goals as goal

pub invariant_of-self : goal.invariant_of-self
invariant_of-self c =
    let self = c.args.self.now in
    let h = history self.first self.ledger in
    let ok = recorded self.first Sync [] faults.Write self.ledger c.enter.new.self c.enter.result c.enter.ensures in
    let err = refused self.first Sync [] faults.Write self.ledger c.enter.new.self c.enter.result c.enter.ensures in
    record {
      whole = either_of c.enter.result (λ is. whole_is self.first.size h self.whole Sync [] refl _ is)
          (λ is. same_whole self.first.size h _ is self.whole) ok err;
    }

pub returns-clause-recorded : goal.returns-clause-recorded
returns-clause-recorded c =
    let self = c.args.self.now in
    let h = history self.first self.ledger in
    let ok = recorded self.first Sync [] faults.Write self.ledger c.enter.new.self c.enter.result c.enter.ensures in
    let err = refused self.first Sync [] faults.Write self.ledger c.enter.new.self c.enter.result c.enter.ensures in
    record {
      serves = c.enter.ensures.serves;
      recorded = ok;
      refused = err;
      calls_room = c.enter.ensures.calls_room;
      bytes_room =
          c.enter.ensures.bytes_room;
    }

pub returns-clause-time : goal.returns-clause-time
returns-clause-time c =
    let self = c.args.self.now in
    let h = history self.first self.ledger in
    let ok = recorded self.first Sync [] faults.Write self.ledger c.enter.new.self c.enter.result c.enter.ensures in
    let err = refused self.first Sync [] faults.Write self.ledger c.enter.new.self c.enter.result c.enter.ensures in
    either_of c.enter.result (λ is. time_is self.first.size h self.whole Sync [] refl _ is) (λ is. same_time self.first.size h _ is) ok err

pub returns-clause-syncs : goal.returns-clause-syncs
returns-clause-syncs c =
    let self = c.args.self.now in
    let h = history self.first self.ledger in
    let ok = recorded self.first Sync [] faults.Write self.ledger c.enter.new.self c.enter.result c.enter.ensures in
    let err = refused self.first Sync [] faults.Write self.ledger c.enter.new.self c.enter.result c.enter.ensures in
    on_ok_weaker c.enter.result (λ is. sync_syncs self.first.size h self.whole _ is) ok

pub returns-clause-images : goal.returns-clause-images
returns-clause-images c =
    let self = c.args.self.now in
    let h = history self.first self.ledger in
    let ok = recorded self.first Sync [] faults.Write self.ledger c.enter.new.self c.enter.result c.enter.ensures in
    let err = refused self.first Sync [] faults.Write self.ledger c.enter.new.self c.enter.result c.enter.ensures in
    either_of c.enter.result (λ is. sync_images self.first.size h self.whole _ is) (λ is. (same_stays self.first.size h _ is).images) ok err

pub returns-clause-stay : goal.returns-clause-stay
returns-clause-stay c =
    let self = c.args.self.now in
    let h = history self.first self.ledger in
    let ok = recorded self.first Sync [] faults.Write self.ledger c.enter.new.self c.enter.result c.enter.ensures in
    let err = refused self.first Sync [] faults.Write self.ledger c.enter.new.self c.enter.result c.enter.ensures in
    on_err_weaker c.enter.result (λ is. (same_stays self.first.size h _ is).stay) err
