use Rattle.std.proofs.Common.{◌≡◌, ◌+◌, ◌-◌, ◌≤◌, ◌<◌, min, refl, length, take, drop, arith, ap, subst, ◌∙◌, rules, List, ℕ, IsTrue, length-drop}
use Rattle.std.proofs.lemmas.List.{drop-drop}
use Rattle.std.proofs.Math.Seq.{take_all}
use Rattle.oa_disk.specs.Disk.{HasBytesAt}
use Rattle.oa_journal.proofs.Counted.{counted, one_more}
use Rattle.oa_journal.proofs.Laying.{tears_head, tears_more, head_kept, holds_more, given_front}
use Rattle.oa_journal.proofs.batch.lay_out.Goals as goal

pub pieces-preserved : goal.pieces-preserved
pieces-preserved g c =
    let d = g.D.Disk in
    let all = c.args.bytes.now in
    let at = c.pieces.at in
    let n = c.fill-count.result in
    let piece = take n c.fill-count.new.out in
    let so_far = c.pieces.invariant in
    let given = given_front c.pieces.bytes c.fill-count.new.self c.pieces.buffer c.fill-count.new.out n c.fill-count.ensures in
    let left : length c.pieces.bytes ≡ length all - at = ap length so_far.left ∙ length-drop at all in
    let enough : at + n ≤ length all = omega (arith, c.fill-count.ensures.many, left, so_far.enough) in
    let fits : c.args.body + at + length piece ≤ c.args.body + c.args.size = omega (arith, given.1, enough, c.requires.few) in
    let some : 0 < n = omega (arith, c.if-count-eq0.false) in
    let most : n ≡ min (length c.args.buffer.now) (length all - at) = omega (arith, c.fill-count.ensures.many, left, so_far.buffer) in
    let text : piece ≡ take (length piece) (drop at all) = given.0 ∙ ap (take n) so_far.left ∙ (rw given.1 refl) in
    record {
      enough = enough;
      left = c.fill-count.ensures.rest ∙ ap (drop n) so_far.left ∙ drop-drop n at all;
      buffer = (search rules) ∙ so_far.buffer;
      tears = λ h. let h1 = so_far.honest ∙ h in
          tears_more d.contents d.image d.moment d.image_since c.args.head c.args.body c.args.size c.args.disk.now c.pieces.disk c.write_at-in-pieces.new.self
          (c.args.body + at) (length piece) (so_far.tears h) (omega arith) fits (c.write_at-in-pieces.ensures.writes h1) (c.write_at-in-pieces.ensures.time h1);
      titled = λ h. let h1 = so_far.honest ∙ h in
          head_kept c.args.head c.args.body c.args.size (c.args.body + at) (length piece) c.args.header.now (d.contents c.pieces.disk)
          (d.contents c.write_at-in-pieces.new.self) c.requires.apart c.told-header (omega arith) fits (c.write_at-in-pieces.ensures.writes h1).others
          (so_far.titled h);
      held = λ h. let h1 = so_far.honest ∙ h in
          subst (λ (k : ℕ). HasBytesAt (d.contents c.write_at-in-pieces.new.self) c.args.body (take (at + k) all)) given.1
          (holds_more (d.contents c.pieces.disk) (d.contents c.write_at-in-pieces.new.self) c.args.body at (c.args.body + at)
          (length piece) all piece so_far.enough (so_far.held h) refl (c.write_at-in-pieces.ensures.writes h1).others
          (c.in_ok-write_at-2.ensures.written h1) text);
      calls = λ h. one_more _ _ _ (length c.args.buffer.now) at (length all) n (so_far.calls h) (c.write_at-in-pieces.ensures.time (so_far.honest ∙ h)).soon
          some most;
      size = c.write_at-in-pieces.ensures.size ∙ so_far.size;
      honest = c.write_at-in-pieces.ensures.honest ∙ so_far.honest;
      failures = (search rules) ∙ so_far.failures;
    }

pub returns-in_err-write_at-2-clause-lays : goal.returns-in_err-write_at-2-clause-lays
returns-in_err-write_at-2-clause-lays g c =
    let d = g.D.Disk in
    let all = c.args.bytes.now in
    let at = c.pieces.at in
    let n = c.fill-count.result in
    let piece = take n c.fill-count.new.out in
    let so_far = c.pieces.invariant in
    let given = given_front c.pieces.bytes c.fill-count.new.self c.pieces.buffer c.fill-count.new.out n c.fill-count.ensures in
    let left : length c.pieces.bytes ≡ length all - at = ap length so_far.left ∙ length-drop at all in
    let enough : at + n ≤ length all = omega (arith, c.fill-count.ensures.many, left, so_far.enough) in
    let fits : c.args.body + at + length piece ≤ c.args.body + c.args.size = omega (arith, given.1, enough, c.requires.few) in
    let tears = λ (h : IsTrue (d.is_honest c.args.disk.now)). let h1 = so_far.honest ∙ h in
    tears_more d.contents d.image d.moment d.image_since c.args.head c.args.body c.args.size c.args.disk.now c.pieces.disk c.write_at-in-pieces.new.self
    (c.args.body + at) (length piece) (so_far.tears h) (omega arith) fits (c.write_at-in-pieces.ensures.writes h1) (c.write_at-in-pieces.ensures.time h1) in
    record { any_moment = λ h. (tears h).run; written = search rules; others = λ h. (tears h).others }

pub returns-in_err-write_at-clause-lays : goal.returns-in_err-write_at-clause-lays
returns-in_err-write_at-clause-lays g c =
    let d = g.D.Disk in
    let tears = λ (h : IsTrue (d.is_honest c.args.disk.now)). tears_head d.contents d.image d.moment d.image_since c.args.head c.args.body c.args.size
    c.args.disk.now c.write_at.new.self (length c.args.header.now) (λ f left. g.met.D.Disk.only_now c.args.disk.now f h left) c.told-header
    (c.write_at.ensures.writes h) (c.write_at.ensures.time h) in
    record { any_moment = λ h. (tears h).run; written = search rules; others = λ h. (tears h).others }

pub returns-then-count-eq0-clause-lays : goal.returns-then-count-eq0-clause-lays
returns-then-count-eq0-clause-lays g c =
    let all = c.args.bytes.now in
    let so_far = c.pieces.invariant in
    let left : length c.pieces.bytes ≡ length all - c.pieces.at = ap length so_far.left ∙ length-drop c.pieces.at all in
    let done : length all ≤ c.pieces.at = omega (arith, c.fill-count.ensures.many, left, so_far.enough, so_far.buffer, c.requires.some, c.if-count-eq0.true) in
    record {
      any_moment = λ h. (so_far.tears h).run;
      written =
          λ h. (
            so_far.titled h,
            subst (λ (x : List ℕ). HasBytesAt (g.D.Disk.contents c.pieces.disk) c.args.body x) (take_all c.pieces.at all done)
                (so_far.held h),
          );
      others = λ h. (so_far.tears h).others;
    }

pub returns-then-count-eq0-clause-after : goal.returns-then-count-eq0-clause-after
returns-then-count-eq0-clause-after g c = record {
  size = search rules;
  honest = search rules;
  counts = search rules;
  fault = search rules;
  calls = λ h.
      let so_far = c.pieces.invariant in
      counted _ _ (length c.args.buffer.now) c.pieces.at (length c.args.bytes.now) (so_far.calls h) so_far.enough c.requires.some;
}

pub returns-in_err-write_at-2-clause-after : goal.returns-in_err-write_at-2-clause-after
returns-in_err-write_at-2-clause-after g c = record {
  size = search rules;
  honest = search rules;
  counts = search rules;
  fault = search rules;
  calls = λ h.
      let all = c.args.bytes.now in
      let at = c.pieces.at in
      let n = c.fill-count.result in
      let so_far = c.pieces.invariant in
      let left : length c.pieces.bytes ≡ length all - at = ap length so_far.left ∙ length-drop at all in
      let some : 0 < n = omega (arith, c.if-count-eq0.false) in
      let most : n ≡ min (length c.args.buffer.now) (length all - at) = omega (arith, c.fill-count.ensures.many, left, so_far.buffer) in
      let enough : at + n ≤ length all = omega (arith, most, so_far.enough) in
      let more = one_more _ _ _ (length c.args.buffer.now) at (length all) n (so_far.calls h) (c.write_at-in-pieces.ensures.time (so_far.honest ∙ h)).soon some
      most in
      counted _ _ (length c.args.buffer.now) (at + n) (length all) more enough c.requires.some;
}
