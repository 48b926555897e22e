use Rattle.std.proofs.Common.{◌≡◌, ◌∙◌, ◌+◌, ◌-◌, ◌++◌, ℕ, List, length, ap, subst, sym, arith}
use Rattle.std.proofs.lemmas.List.{length-append}
use Rattle.oa_disk.specs.Disk.{HasBytesAt}
use Rattle.oa_journal.proofs.Laying.{holds_both}
use Rattle.oa_journal.proofs.Stretches.{one_read}
use Rattle.oa_journal.proofs.snapshot.read_snapshot.Goals as goal

pub stretches-preserved : goal.stretches-preserved
stretches-preserved g c =
    let d = g.D.Disk in
    let disk = d.contents c.args.disk.now in
    let so_far = c.stretches.invariant in
    let passed = c.stretches.reader ++ c.stretches.window.items in
    let passes = c.in_ok-left.ensures.passes in
    let more = passes.reads.more in
    let long : length (c.read_stretch.new.reader ++ c.read_stretch.new.window.items) ≡ length passed + length more = ap length passes.reads.behind
    ∙ length-append passed more in
    record {
      long = omega (arith, long, passes.reads.long, passes.nearer, so_far.long);
      there = λ h.
          let before = c.in_ok-left.ensures.after.calls.honest h in
          let place : c.args.at + c.from.result - c.stretches.left ≡ c.args.at + length passed = omega (arith, so_far.long, c.from.ensures) in
          let here = subst (λ (k : ℕ). HasBytesAt (d.contents c.stretches.disk) k more) place (passes.reads.there h) in
          let next = subst (λ (x : List ℕ). HasBytesAt x (c.args.at + length passed) more) (so_far.read.after.reads before).contents_stay here in
          subst (λ (x : List ℕ). HasBytesAt disk c.args.at x) (sym passes.reads.behind) (holds_both disk c.args.at passed more (so_far.there before) next);
      whole = passes.whole;
      read = one_read d (c.args.count - c.stretches.left) c.stretches.left c.in_ok-left.left (c.args.count - c.in_ok-left.left) so_far.read
          (omega (arith, c.stretches-test.true)) c.in_ok-left.ensures.after passes.nearer passes.far (omega (arith, so_far.long, passes.nearer));
    }
