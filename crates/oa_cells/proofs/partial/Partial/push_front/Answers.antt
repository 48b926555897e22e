use Rattle.std.proofs.Common.{◌≡◌, ap, ◌∙◌, suc, ◌+◌, ◌-◌, ◌<◌, ◌≤◌, ◌∷◌, length, arith}
use Rattle.oa_cells.specs.Windows.{values}
use Rattle.oa_cells.proofs.Laid.{length-row, empty_ahead, pushed_front}
use Rattle.oa_cells.proofs.partial.Partial.push_front.Goals as goal

pub put-requires : goal.put-requires
put-requires g c =
    let i = c.self.inside in let inv = c.self.invariant in let seen = c.self.view_is in
    let before : i.from ≡ c.args.self.now.before = ap (λ w. w.before) seen in let asked : 0 < c.args.self.now.before = c.requires in
    let room : 0 < i.from = omega (arith, before, asked) in let long : length i.row ≡ i.len = length-row i.row i.from i.to i.len inv.count inv.fits inv.shape in
    let count : i.from + length (values i.row) ≡ i.to = inv.count in let fits : i.to ≤ i.len = inv.fits in
    (omega (arith, long, room, count, fits), empty_ahead i.row (i.from - 1) i.from (values i.row) c.args.item (i.len - i.to) inv.shape (omega (arith, room)))

pub invariant_of-self : goal.invariant_of-self
invariant_of-self g c =
    let i = c.self.inside in let inv = c.self.invariant in let seen = c.self.view_is in
    let before : i.from ≡ c.args.self.now.before = ap (λ w. w.before) seen in let asked : 0 < c.args.self.now.before = c.requires in
    let room : 0 < i.from = omega (arith, before, asked) in
    let made = pushed_front i.row i.from i.to i.len inv.count inv.fits inv.shape c.put.new.self c.args.item room c.put.ensures in
    let long : length (values c.put.new.self) ≡ suc (length (values i.row)) = ap length made.0 in let count : i.from + length (values i.row) ≡ i.to =
    inv.count in
    record { count = omega (arith, long, count, room); fits = inv.fits; shape = made.1 }

pub returns : goal.returns
returns g c =
    let i = c.self.inside in let inv = c.self.invariant in let seen = c.self.view_is in
    let before : i.from ≡ c.args.self.now.before = ap (λ w. w.before) seen in let asked : 0 < c.args.self.now.before = c.requires in
    let room : 0 < i.from = omega (arith, before, asked) in
    let made = pushed_front i.row i.from i.to i.len inv.count inv.fits inv.shape c.put.new.self c.args.item room c.put.ensures in
    (ap (λ w. w.before - 1) seen, made.0 ∙ ap (λ w. c.args.item ∷ w.items) seen, ap (λ w. w.after) seen)
