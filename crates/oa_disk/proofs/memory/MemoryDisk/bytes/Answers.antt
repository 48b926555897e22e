use Rattle.std.proofs.Common.{◌≡◌, ◌++◌, ℕ, length, take, drop, ◌∙◌, sym, ap, rules}
use Rattle.std.proofs.Math.Seq.{take-append_seam}
use Rattle.oa_disk.specs.promise.Memory.{memory_contents, memory_history}
use Rattle.oa_disk.specs.Replaying.{contents_size}
use Rattle.oa_disk.proofs.Laid.{held_whole}
use Rattle.oa_disk.proofs.memory.MemoryDisk.bytes.Goals as goal

pub returns : goal.returns
returns c =
    let self = c.args.self.now in
    let count : c.in_ok-bytes.bytes.len ≡ length c.show.new.bytes = search rules in
    let long : length c.show.new.bytes ≡ self.first.size = search rules in
    ap (λ (k : ℕ). take k (c.show.new.bytes ++ drop (length c.show.new.bytes) c.in_ok-bytes.bytes.items)) count
    ∙ take-append_seam c.show.new.bytes (drop (length c.show.new.bytes) c.in_ok-bytes.bytes.items)
    ∙ held_whole (memory_contents self) c.show.new.bytes (long ∙ sym (contents_size self.first.size (memory_history self) self.whole)) c.show.ensures.bytes
