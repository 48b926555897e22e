use Rattle.std.proofs.Common.{◌≡◌, ◌≢◌, ◌∙◌, ◌+◌, ◌-◌, ℕ, List, subst, sym, get_or, ap, length, take, IsTrue, arith}
use Rattle.oa_disk.specs.Disk.{HasBytesAt}
use Rattle.oa_journal.specs.promise.Bank.{from_place, IsGroupAt, Replays}
use Rattle.oa_journal.proofs.Damages.{to_closed}
use Rattle.oa_journal.proofs.Opened.{group_more, gate_moved}
use Rattle.oa_journal.proofs.ReadOn.{reads_ok, reads_then}
use Rattle.oa_journal.proofs.reading.read_groups.Goals as goal

pub groups-preserved : goal.groups-preserved
groups-preserved g c =
    let d = g.D.Disk in
    let disk = d.contents c.args.disk.now in
    let so_far = c.groups.invariant in
    let passes = c.in_ok-at.ensures.passes in
    let before = λ (h : IsTrue (d.is_honest c.is_open-in-groups.new.disk)). c.in_ok-opened-2.ensures.after.calls.honest h in
    let first = λ (h : IsTrue (d.is_honest c.is_open-in-groups.new.disk)). c.in_ok-at.ensures.after.calls.honest (before h) in
    record {
      behind = omega (arith, so_far.behind, passes.nearer);
      inside = passes.inside;
      stored = record {
        numbered = c.in_ok-at.ensures.stored.numbered so_far.stored.numbered;
        unlocked = c.in_ok-at.ensures.stored.unlocked so_far.stored.unlocked;
      };
      kept = c.in_ok-opened-2.ensures.ahead.kept ∙ c.in_ok-at.ensures.ahead.kept ∙ so_far.kept;
      so_far = λ h.
          let stay = (so_far.after.reads (first h)).contents_stay in
          let opened = (so_far.gate (first h)).0 c.groups-test.true in
          let found = subst (λ (x : List ℕ). get_or x (c.args.body + c.groups.at) 0 ≡ 1
          → (group : List ℕ) × IsGroupAt (from_place c.args.body x) c.groups.at group × Replays group c.groups.table c.read_group.new.table
          × (c.in_ok-at.at ≡ c.groups.at + (5 + length group))) stay (passes.found (before h)) opened in
          group_more (from_place c.args.body disk) c.args.from c.groups.at c.in_ok-at.at c.args.first c.groups.table c.read_group.new.table
          (so_far.so_far (first h)) found;
      gate = λ h.
          let stay = (c.in_ok-at.ensures.after.reads (before h)).contents_stay ∙ (so_far.after.reads (first h)).contents_stay in
          gate_moved c.in_ok-opened-2.opened (d.contents c.read_group.new.disk) disk (c.args.body + c.from-in-groups.result) (c.args.body + c.in_ok-at.at) stay
          (ap (λ (k : ℕ). c.args.body + k) c.from-in-groups.ensures) (c.in_ok-opened-2.ensures.opened h);
      ahead =
          λ h. subst (λ (x : List ℕ). HasBytesAt x c.is_open-in-groups.new.ahead.from
          (take c.is_open-in-groups.new.ahead.len c.is_open-in-groups.new.ahead.buffer.items)) (sym (c.in_ok-opened-2.ensures.after.reads h).contents_stay)
          (c.in_ok-opened-2.ensures.ahead.shown h);
      after = let far = c.groups.at - c.args.from in
          let more = reads_then d (2 + far) 4 (6 + far) so_far.after c.in_ok-at.ensures.after (omega arith) in
          reads_ok d (reads_then d (6 + far) 2 (2 + (c.in_ok-at.at - c.args.from)) more c.in_ok-opened-2.ensures.after
          (omega (arith, so_far.behind, passes.nearer)));
    }

pub returns-clause-found : goal.returns-clause-found
returns-clause-found g c = record {
  found = λ h.
      let byte = from_place c.args.body (g.D.Disk.contents c.args.disk.now) in
      let far = c.groups.invariant.so_far h in
      let shut : byte c.groups.at ≢ 1 = λ is. let opened = (c.groups.invariant.gate h).1 is in absurd (cc (opened, c.groups-test.false)) in
      (far.0, to_closed byte c.args.from far.0 c.groups.at far.1 shut, far.2);
  stored = c.groups.invariant.stored;
  inside = c.groups.invariant.inside;
  calls = λ h. omega (arith, c.groups.invariant.behind, c.groups.invariant.after.most h);
}
