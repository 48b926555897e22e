use Rattle.std.proofs.Common.{◌≡◌, ℕ, ◌+◌, ◌≤◌, List, ◌++◌, length, take, drop, refl, ◌∙◌, ap, arith}
use Rattle.std.proofs.Math.Seq.{take-length}
use Rattle.oa_formats.specs.Windows.{Adds}
use Rattle.oa_formats.specs.declared.window.OutputCursor.{OutputCursor}
use Rattle.oa_formats.proofs.Adding.{gave}
use Rattle.oa_image.proofs.event.write_event.Goals as goal

-- bytes of which none is left out and for all of which there is room
laid : (old new : OutputCursor) (before after bytes : List ℕ) (start : ℕ) → Adds bytes old new before after → old.skip ≡ 0 → old.at ≡ start
    → start + length bytes ≤ length before
    → after ≡ take start before ++ (bytes ++ drop (start + length bytes) before)
laid old new before after bytes start adds none at room =
    let text : drop old.skip bytes ≡ bytes = ap (λ (n : ℕ). drop n bytes) none in
    let told = gave old new before after bytes (length bytes) adds (omega (arith, at, room)) (omega (arith, at, room, ap length text)) in
    told.1 ∙ rw (text, at, take-length bytes) refl

pub returns : goal.returns
returns c = laid c.new-w.result c.put.new.w c.args.out.now c.put.new.out _ c.args.start c.put.ensures c.new-w.ensures.0 c.new-w.ensures.1 c.requires
