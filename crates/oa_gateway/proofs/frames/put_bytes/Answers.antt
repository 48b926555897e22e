use Rattle.std.proofs.Common.{◌≡◌, ◌<◌, ◌≤◌, ◌+◌, ◌-◌, ℕ, [], length, min, take, drop, ap, ◌∙◌, arith}
use Rattle.std.proofs.lemmas.List.{length-drop, length-take-le}
use Rattle.oa_mux.specs.promise.Frames.{frame_of, max_frame_bytes}
use Rattle.oa_gateway.proofs.Spelling.{frame_length, mid_length, more_bytes, no_bytes, room_first, room_next}
use Rattle.oa_gateway.proofs.frames.put_bytes.Goals as goal

pub frames-init : goal.frames-init
frames-init c = record {
  within = omega arith;
  room = room_first (length c.args.bytes.now) (length c.args.out.now) c.if-out-bytes.false c.if-out-bytes-2.false;
  spells = no_bytes c.args.number [] [];
}

pub frames-preserved : goal.frames-preserved
frames-preserved c =
    let bytes = c.args.bytes.now in
    let at : ℕ = c.frames.at in
    let done : ℕ = c.frames.done in
    let count : ℕ = c.min-count.result in
    let room = c.frames.invariant.room in
    let more : done < length bytes = c.frames-test.true in
    let least : count ≡ min (length bytes - done) 1048576 = c.min-count.ensures in
    let next = room_next at (length bytes) done count (length c.frames.out) more least room in
    let some : 0 < count = omega (arith, more, least) in
    let short : count ≤ max_frame_bytes = omega (arith, least) in
    let left : count ≤ length bytes - done = omega (arith, least) in
    let same : done + count - done ≡ count = omega arith in
    let frame = c.put_frame.ensures ∙ ap (λ k. frame_of c.args.number (take k (drop done bytes))) same in
    let behind = length-drop done bytes in
    let long : length c.put_frame.new.out ≡ 8 + count =
    ap length frame ∙ frame_length c.args.number (take count (drop done bytes))
    ∙ ap (λ n. 8 + n) (length-take-le count (drop done bytes) (omega (arith, behind, left))) in
    let all = mid_length at (at + 8 + count - at) c.frames.out c.put_frame.new.out (omega (arith, next)) (omega (arith, long)) in
    record {
      within = omega (arith, left, more);
      room = omega (arith, next, all);
      spells = more_bytes c.frames_are_read.ensures.bytes c.args.number at count done _ c.frames.out bytes c.put_frame.new.out c.requires some short left frame
          (omega (arith, next)) c.frames.invariant.spells;
    }
