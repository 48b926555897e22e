use Rattle.std.proofs.Common.{List, ℕ, length, sym, subst, arith}
use Rattle.oa_disk.specs.Disk.{HasBytesAt}
use Rattle.oa_disk.specs.declared.call.DeviceCall.{DeviceCall}
use Rattle.oa_disk.specs.promise.CallLog.{laid}
use Rattle.oa_disk.specs.Replay.{AllInside}
use Rattle.oa_disk.specs.promise.Disk.{contents_after}
use Rattle.oa_disk.proofs.Calls.{inside_more}
use Rattle.oa_disk.proofs.memory.MemoryDisk.show.Goals as goal

pub overlay-requires-clause-window : goal.overlay-requires-clause-window
overlay-requires-clause-window c = omega (arith, c.requires, c.args.self.now.first.fits, c.give.ensures.len)

pub overlay-requires-clause-inside : goal.overlay-requires-clause-inside
overlay-requires-clause-inside c =
    let self = c.args.self.now in
    rw c.deref.ensures.value (inside_more self.first.size _ self.ledger.calls.items (omega (arith, self.first.fits)) self.whole.inside)

pub overlay-requires-clause-written : goal.overlay-requires-clause-written
overlay-requires-clause-written c = rw (c.deref.ensures.value, c.deref-2.ensures.value) (omega (arith, c.args.self.now.whole.count_of_all))

pub returns-clause-bytes : goal.returns-clause-bytes
returns-clause-bytes c =
    let self = c.args.self.now in
    let at = c.args.at in
    let w = c.overlay.new.window in
    let inside = subst (λ (n : ℕ). AllInside n self.ledger.calls.items) (sym self.whole.size_of_first) self.whole.inside in
    let inside_now : AllInside (length (laid self.first)) c.deref.result.now = rw c.deref.ensures.value inside in
    let shown = c.overlay.ensures.shown (laid self.first) inside_now c.give.ensures.bytes in
    subst (λ (k : List DeviceCall). HasBytesAt (contents_after (laid self.first) k self.ledger.written.items) at w) c.deref.ensures.value
    (subst (λ (b : List ℕ). HasBytesAt (contents_after (laid self.first) c.deref.result.now b) at w) c.deref-2.ensures.value shown)
