use Rattle.std.proofs.Common.{◌≡◌, sym, ap, ◌∙◌, ◌+◌, ◌-◌, ◌<◌, ◌≤◌, [], ◌∷◌, length, arith}
use Rattle.std.proofs.lemmas.List.{length-append}
use Rattle.oa_cells.specs.Windows.{values}
use Rattle.oa_cells.proofs.Laid.{last_value, popped}
use Rattle.oa_cells.proofs.partial.Partial.pop_back.Goals as goal

pub take-requires : goal.take-requires
take-requires g c =
    let i = c.self.inside in let inv = c.self.invariant in let seen = c.self.view_is in
    let items : values i.row ≡ c.args.self.now.items = ap (λ w. w.items) seen in let long : length (values i.row) ≡ length c.args.self.now.items =
    ap length items in let asked : 0 < length c.args.self.now.items = c.requires in
    last_value i.row i.from i.to i.len inv.count inv.fits inv.shape (omega (arith, long, asked))

pub invariant_of-self : goal.invariant_of-self
invariant_of-self g c =
    let i = c.self.inside in let inv = c.self.invariant in let seen = c.self.view_is in
    let items : values i.row ≡ c.args.self.now.items = ap (λ w. w.items) seen in let long : length (values i.row) ≡ length c.args.self.now.items =
    ap length items in let asked : 0 < length c.args.self.now.items = c.requires in
    let left = popped i.row i.from i.to i.len inv.count inv.fits inv.shape c.take.new.self c.take.result
    (omega (arith, long, asked)) c.take.ensures.value c.take.ensures.emptied in
    let shorter : length (values i.row) ≡ length (values c.take.new.self) + 1 = ap length left.0
    ∙ length-append (values c.take.new.self) (c.take.result ∷ []) in
    let count : i.from + length (values i.row) ≡ i.to = inv.count in let fits : i.to ≤ i.len = inv.fits in
    record { count = omega (arith, shorter, count); fits = omega (arith, fits); shape = left.1 }

pub returns : goal.returns
returns g c =
    let i = c.self.inside in let inv = c.self.invariant in let seen = c.self.view_is in
    let items : values i.row ≡ c.args.self.now.items = ap (λ w. w.items) seen in let long : length (values i.row) ≡ length c.args.self.now.items =
    ap length items in let asked : 0 < length c.args.self.now.items = c.requires in
    let left = popped i.row i.from i.to i.len inv.count inv.fits inv.shape c.take.new.self c.take.result
    (omega (arith, long, asked)) c.take.ensures.value c.take.ensures.emptied in
    let after : i.len - i.to ≡ c.args.self.now.after = ap (λ w. w.after) seen in let count : i.from + length (values i.row) ≡ i.to = inv.count in
    let fits : i.to ≤ i.len = inv.fits in
    (sym items ∙ left.0, ap (λ w. w.before) seen, omega (arith, after, count, fits, long, asked))
