use Rattle.std.proofs.Common.{List, ℕ, [], refl, subst}
use Rattle.oa_disk.specs.declared.call.DeviceCall.TheVariants.{Read}
use Rattle.oa_disk.specs.Disk.{HasBytesAt}
use Rattle.oa_disk.specs.History.{with_call}
use Rattle.oa_disk.specs.promise.CallLog.{history}
use Rattle.oa_disk.specs.declared.disk.DeviceFault.TheVariants as faults
use Rattle.oa_disk.proofs.Entered.{is_history, recorded, refused, either_of}
use Rattle.oa_disk.proofs.Recorded.{whole_is, same_whole, time_is, read_stays}
use Rattle.oa_disk.proofs.memory.MemoryDiskDisk.read_at.Goals as goal

pub invariant_of-self : goal.invariant_of-self
invariant_of-self c =
    let self = c.args.self.now in
    let h = history self.first self.ledger in
    let ok = recorded self.first Read [] faults.Read self.ledger c.enter.new.self c.enter.result c.enter.ensures in
    let err = refused self.first Read [] faults.Read self.ledger c.enter.new.self c.enter.result c.enter.ensures in
    record {
      whole = either_of c.enter.result (λ is. whole_is self.first.size h self.whole Read [] refl _ is)
          (λ is. same_whole self.first.size h _ is self.whole) ok err;
    }

pub returns-clause-read : goal.returns-clause-read
returns-clause-read c =
    let self = c.args.self.now in
    let h = history self.first self.ledger in
    let is = is_history self.first self.ledger c.enter.new.self (with_call h Read []) refl c.in_ok-enter.ensures.calls c.in_ok-enter.ensures.written in
    subst (λ (l : List ℕ). HasBytesAt l c.args.at c.show.new.bytes) (read_stays self.first.size h self.whole _ is).contents c.show.ensures.bytes

pub returns-clause-stays : goal.returns-clause-stays
returns-clause-stays c =
    let self = c.args.self.now in
    let h = history self.first self.ledger in
    let is = is_history self.first self.ledger c.enter.new.self (with_call h Read []) refl c.in_ok-enter.ensures.calls c.in_ok-enter.ensures.written in
    read_stays self.first.size h self.whole _ is

pub returns-clause-time : goal.returns-clause-time
returns-clause-time c =
    let self = c.args.self.now in
    let h = history self.first self.ledger in
    let is = is_history self.first self.ledger c.enter.new.self (with_call h Read []) refl c.in_ok-enter.ensures.calls c.in_ok-enter.ensures.written in
    time_is self.first.size h self.whole Read [] refl _ is
