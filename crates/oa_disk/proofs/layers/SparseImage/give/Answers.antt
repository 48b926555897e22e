use Rattle.std.proofs.Common.{List, ℕ, length, subst, arith}
use Rattle.oa_disk.specs.Disk.{HasBytesAt}
use Rattle.oa_disk.specs.declared.call.DeviceCall.{DeviceCall}
use Rattle.oa_disk.specs.Replay.{AllInside}
use Rattle.oa_disk.specs.promise.Disk.{contents_after, zeros}
use Rattle.oa_disk.proofs.Calls.{inside_more}
use Rattle.oa_disk.proofs.Laid.{zeros_hold, inside_zeros}
use Rattle.oa_disk.proofs.layers.SparseImage.give.Goals as goal

pub overlay-requires-clause-inside : goal.overlay-requires-clause-inside
overlay-requires-clause-inside c =
    let self = c.args.self.now in
    rw c.deref.ensures.value (inside_more self.size _ self.calls.items (omega (arith, self.fits)) self.whole.inside)

pub returns-clause-bytes : goal.returns-clause-bytes
returns-clause-bytes c =
    let self = c.args.self.now in
    let at = c.args.at in
    let w = c.overlay.new.window in
    let inside : AllInside (length (zeros self.size)) c.deref.result.now =
    rw c.deref.ensures.value (inside_zeros self.size self.calls.items self.whole.inside) in
    let shown =
    c.overlay.ensures.shown (zeros self.size) inside (zeros_hold self.size at c.clear.new.bytes (length c.args.bytes.now) c.requires c.clear.ensures) in
    subst (λ (k : List DeviceCall). HasBytesAt (contents_after (zeros self.size) k self.written.items) at w) c.deref.ensures.value
    (subst (λ (b : List ℕ). HasBytesAt (contents_after (zeros self.size) c.deref.result.now b) at w) c.deref-2.ensures.value shown)
