use Rattle.std.proofs.Common.{length, refl}
use Rattle.std.proofs.lemmas.Result.{on_ok_weaker}
use Rattle.oa_disk.specs.declared.call.DeviceCall.TheVariants.{Write}
use Rattle.oa_disk.specs.declared.disk.DeviceFault.TheVariants as faults
use Rattle.oa_disk.specs.promise.CallLog.{history}
use Rattle.oa_disk.proofs.Entered.{recorded, refused, either_of}
use Rattle.oa_disk.proofs.Recorded.{whole_is, time_is, same_whole, same_time, same_writes, write_holds, write_writes, write_all}
use Rattle.oa_disk.proofs.memory.MemoryDiskDisk.write_at.Goals as goal

pub invariant_of-self : goal.invariant_of-self
invariant_of-self c =
    let self = c.args.self.now in
    let h = history self.first self.ledger in
    let ok = recorded self.first (Write c.args.at (length c.args.bytes.now)) c.args.bytes.now faults.Write self.ledger c.enter.new.self c.enter.result
    c.enter.ensures in
    let err = refused self.first (Write c.args.at (length c.args.bytes.now)) c.args.bytes.now faults.Write self.ledger c.enter.new.self c.enter.result
    c.enter.ensures in
    record {
      whole = either_of c.enter.result (λ is.
          whole_is self.first.size h self.whole (Write c.args.at (length c.args.bytes.now)) c.args.bytes.now (
            refl,
            c.requires,
            (λ i. (c.type_inv.bytes i).fits),
          ) _ is) (λ is. same_whole self.first.size h _ is self.whole) ok err;
    }

pub returns-clause-recorded : goal.returns-clause-recorded
returns-clause-recorded c =
    let self = c.args.self.now in
    let h = history self.first self.ledger in
    let ok = recorded self.first (Write c.args.at (length c.args.bytes.now)) c.args.bytes.now faults.Write self.ledger c.enter.new.self c.enter.result
    c.enter.ensures in
    let err = refused self.first (Write c.args.at (length c.args.bytes.now)) c.args.bytes.now faults.Write self.ledger c.enter.new.self c.enter.result
    c.enter.ensures in
    record {
      serves = c.enter.ensures.serves;
      recorded = ok;
      refused = err;
      calls_room = c.enter.ensures.calls_room;
      bytes_room =
          c.enter.ensures.bytes_room;
    }

pub returns-clause-time : goal.returns-clause-time
returns-clause-time c =
    let self = c.args.self.now in
    let h = history self.first self.ledger in
    let ok = recorded self.first (Write c.args.at (length c.args.bytes.now)) c.args.bytes.now faults.Write self.ledger c.enter.new.self c.enter.result
    c.enter.ensures in
    let err = refused self.first (Write c.args.at (length c.args.bytes.now)) c.args.bytes.now faults.Write self.ledger c.enter.new.self c.enter.result
    c.enter.ensures in
    either_of c.enter.result (λ is. time_is self.first.size h self.whole (Write c.args.at (length c.args.bytes.now)) c.args.bytes.now
    (refl, c.requires, (λ i. (c.type_inv.bytes i).fits)) _ is) (λ is. same_time self.first.size h _ is) ok err

pub returns-clause-written : goal.returns-clause-written
returns-clause-written c =
    let self = c.args.self.now in
    let h = history self.first self.ledger in
    let ok = recorded self.first (Write c.args.at (length c.args.bytes.now)) c.args.bytes.now faults.Write self.ledger c.enter.new.self c.enter.result
    c.enter.ensures in
    let err = refused self.first (Write c.args.at (length c.args.bytes.now)) c.args.bytes.now faults.Write self.ledger c.enter.new.self c.enter.result
    c.enter.ensures in
    on_ok_weaker c.enter.result (λ is. write_holds self.first.size h self.whole _ c.args.at c.args.bytes.now c.requires (λ i. (c.type_inv.bytes i).fits) is) ok

pub returns-clause-writes : goal.returns-clause-writes
returns-clause-writes c =
    let self = c.args.self.now in
    let h = history self.first self.ledger in
    let ok = recorded self.first (Write c.args.at (length c.args.bytes.now)) c.args.bytes.now faults.Write self.ledger c.enter.new.self c.enter.result
    c.enter.ensures in
    let err = refused self.first (Write c.args.at (length c.args.bytes.now)) c.args.bytes.now faults.Write self.ledger c.enter.new.self c.enter.result
    c.enter.ensures in
    either_of c.enter.result (λ is. write_writes self.first.size h self.whole _ c.args.at c.args.bytes.now c.requires (λ i. (c.type_inv.bytes i).fits) is)
    (λ is. same_writes self.first.size h _ is c.args.at (length c.args.bytes.now)) ok err

pub returns-clause-any_bytes : goal.returns-clause-any_bytes
returns-clause-any_bytes c =
    let self = c.args.self.now in
    let h = history self.first self.ledger in
    let ok = recorded self.first (Write c.args.at (length c.args.bytes.now)) c.args.bytes.now faults.Write self.ledger c.enter.new.self c.enter.result
    c.enter.ensures in
    let err = refused self.first (Write c.args.at (length c.args.bytes.now)) c.args.bytes.now faults.Write self.ledger c.enter.new.self c.enter.result
    c.enter.ensures in
    on_ok_weaker c.enter.result (λ is. write_all self.first.size h self.whole _ c.args.at c.args.bytes.now c.requires (λ i. (c.type_inv.bytes i).fits) is) ok
