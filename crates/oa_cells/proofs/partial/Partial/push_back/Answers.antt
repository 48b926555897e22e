use Rattle.std.proofs.Common.{◌≡◌, sym, ap, ◌∙◌, ◌+◌, ◌-◌, ◌<◌, [], ◌∷◌, ◌++◌, length, arith}
use Rattle.std.proofs.lemmas.List.{length-append}
use Rattle.oa_cells.specs.Windows.{values}
use Rattle.oa_cells.proofs.Laid.{length-row, empty_behind, pushed_back}
use Rattle.oa_cells.proofs.partial.Partial.push_back.Goals as goal

pub put-requires : goal.put-requires
put-requires g c =
    let i = c.self.inside in let inv = c.self.invariant in let seen = c.self.view_is in
    let after : i.len - i.to ≡ c.args.self.now.after = ap (λ w. w.after) seen in let asked : 0 < c.args.self.now.after = c.requires in
    let room : 0 < i.len - i.to = omega (arith, after, asked) in let long : length i.row ≡ i.len =
    length-row i.row i.from i.to i.len inv.count inv.fits inv.shape in (
      omega (arith, long, room),
      empty_behind i.row i.from (values i.row) c.args.item (i.len - (i.to + 1)) (i.len - i.to) i.to inv.shape (omega (arith, room))
          (sym inv.count),
    )

pub invariant_of-self : goal.invariant_of-self
invariant_of-self g c =
    let i = c.self.inside in let inv = c.self.invariant in let seen = c.self.view_is in
    let after : i.len - i.to ≡ c.args.self.now.after = ap (λ w. w.after) seen in let asked : 0 < c.args.self.now.after = c.requires in
    let room : 0 < i.len - i.to = omega (arith, after, asked) in
    let made = pushed_back i.row i.from i.to i.len inv.count inv.fits inv.shape c.put.new.self c.args.item room c.put.ensures in
    let long : length (values c.put.new.self) ≡ length (values i.row) + 1 = ap length made.0 ∙ length-append (values i.row) (c.args.item ∷ []) in
    let count : i.from + length (values i.row) ≡ i.to = inv.count in
    record { count = omega (arith, long, count); fits = omega (arith, room); shape = made.1 }

pub returns : goal.returns
returns g c =
    let i = c.self.inside in let inv = c.self.invariant in let seen = c.self.view_is in
    let after : i.len - i.to ≡ c.args.self.now.after = ap (λ w. w.after) seen in let asked : 0 < c.args.self.now.after = c.requires in
    let room : 0 < i.len - i.to = omega (arith, after, asked) in
    let made = pushed_back i.row i.from i.to i.len inv.count inv.fits inv.shape c.put.new.self c.args.item room c.put.ensures in
    (ap (λ w. w.before) seen, made.0 ∙ ap (λ w. w.items ++ c.args.item ∷ []) seen, omega (arith, after, room))
