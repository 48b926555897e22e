use Rattle.std.proofs.Common.{◌≡◌, ◌∙◌, ◌+◌, List, ℕ, length, sym, ap, subst, arith}
use Rattle.std.specs.Int.{to_le_bytes, w32}
use Rattle.oa_disk.specs.Disk.{HasBytesAt}
use Rattle.oa_journal.specs.promise.Bank.{from_place, Shows}
use Rattle.oa_journal.proofs.Fronts.{held}
use Rattle.oa_journal.proofs.Opened.{both_ok}
use Rattle.oa_journal.proofs.Unique.{same_number}
use Rattle.oa_journal.proofs.reading.group_at.Goals as goal

pub returns-clause-found : goal.returns-clause-found
returns-clause-found g c = both_ok _ _ _ c.group_bytes.result (λ group bytes len. record {
  found = λ h opened.
      let disk = g.D.Disk.contents c.args.disk.now in
      let body = c.args.body in
      let items = group.items in
      let before = c.group_bytes.ensures.after.calls.honest h in
      let stay : g.D.Disk.contents c.cover.new.disk ≡ disk = (c.cover.ensures.after.reads before).contents_stay in
      let four = c.seen.ensures.holds disk (c.in_ok-cover.ensures.ahead.shown before) in
      let count : Shows (from_place body disk) (c.args.at + 1) c.seen.result.now = held body (c.args.at + 1) (body + c.from.result + 1) disk c.seen.result.now
      (omega (arith, c.from.ensures)) four in
      let spelled : c.seen.result.now ≡ to_le_bytes w32 (length items) = sym c.number-count.ensures ∙ ap (λ (k : ℕ). to_le_bytes w32 k) (sym len) in
      let events = subst (λ (d : List ℕ). HasBytesAt d (body + c.from.result + 5) items) stay (bytes h) in
      record {
        opened = opened;
        count = subst (λ (x : List ℕ). Shows (from_place body disk) (c.args.at + 1) x) spelled count;
        events = held body (c.args.at + 5) (body + c.from.result + 5) disk items (omega (arith, c.from.ensures)) events;
        some = omega (arith, len, c.if-count-eq0.false);
      };
  inside = omega (arith, len, c.if-room-count.false);
  some = omega (arith, len, c.if-count-eq0.false);
}) c.group_bytes.ensures.bytes c.group_bytes.ensures.len

pub returns-then-count-eq0-clause-damaged : goal.returns-then-count-eq0-clause-damaged
returns-then-count-eq0-clause-damaged g c place e =
    let is : place ≡ c.args.body + c.from.result = cc in (
      is ∙ ap (λ (k : ℕ). c.args.body + k) c.from.ensures,
      λ h group there fits.
          let disk = g.D.Disk.contents c.args.disk.now in
          let byte = from_place c.args.body disk in
          let four = c.seen.ensures.holds disk (c.in_ok-cover.ensures.ahead.shown h) in
          let shown : Shows byte (c.args.at + 1) c.seen.result.now = held c.args.body (c.args.at + 1) (c.args.body + c.from.result + 1) disk c.seen.result.now
          (omega (arith, c.from.ensures)) four in
          let spelled : c.seen.result.now ≡ to_le_bytes w32 c.number-count.result = sym c.number-count.ensures in
          let count = same_number byte (c.args.at + 1) c.number-count.result (length group) (omega (arith, c.number-count.type_inv))
          (omega (arith, fits, c.ranges.size.fits)) (subst (λ (x : List ℕ). Shows byte (c.args.at + 1) x) spelled shown) there.count in
          omega (arith, count, c.if-count-eq0.true, there.some),
    )

pub returns-then-room-count-clause-damaged : goal.returns-then-room-count-clause-damaged
returns-then-room-count-clause-damaged g c place e =
    let is : place ≡ c.args.body + c.from.result = cc in (
      is ∙ ap (λ (k : ℕ). c.args.body + k) c.from.ensures,
      λ h group there fits.
          let disk = g.D.Disk.contents c.args.disk.now in
          let byte = from_place c.args.body disk in
          let four = c.seen.ensures.holds disk (c.in_ok-cover.ensures.ahead.shown h) in
          let shown : Shows byte (c.args.at + 1) c.seen.result.now = held c.args.body (c.args.at + 1) (c.args.body + c.from.result + 1) disk c.seen.result.now
          (omega (arith, c.from.ensures)) four in
          let spelled : c.seen.result.now ≡ to_le_bytes w32 c.number-count.result = sym c.number-count.ensures in
          let count = same_number byte (c.args.at + 1) c.number-count.result (length group) (omega (arith, c.number-count.type_inv))
          (omega (arith, fits, c.ranges.size.fits)) (subst (λ (x : List ℕ). Shows byte (c.args.at + 1) x) spelled shown) there.count in
          omega (arith, count, c.if-room-count.true, fits),
    )
