use Rattle.std.proofs.Common.{◌≡◌, ◌++◌, length, drop, take, arith, length-drop, ap, ◌∙◌, ℕ}
use Rattle.oa_formats.proofs.Adding.{filled}
use Rattle.oa_formats.proofs.image.put_tail.Goals as goal

pub returns : goal.returns
returns g c =
    let image = g.F.ReadImage.format.image c.args.value.now in
    let w = c.new-w.result in
    let long : length (drop w.at c.args.out.now) ≡ length image = omega (arith, length-drop w.at c.args.out.now, c.requires, c.new-w.ensures.1) in
    filled w c.put.new.w c.args.out.now c.put.new.out image c.put.ensures c.new-w.ensures.0 long
    ∙ ap (λ (n : ℕ). take n c.args.out.now ++ image) c.new-w.ensures.1
