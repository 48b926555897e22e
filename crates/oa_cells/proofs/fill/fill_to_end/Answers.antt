use Rattle.std.proofs.Common.{rules, ◌≡◌, refl, sym, ap, subst, ◌∙◌, ℕ, ◌+◌, ◌-◌, ◌<◌, List, [], ◌∷◌, length, arith}
use Rattle.std.specs.Prelude.{Ok}
use Rattle.std.specs.List.{FoldsTo, enumerate_from}
use Rattle.std.proofs.lemmas.List.{length-append}
use Rattle.std.proofs.lemmas.Fn.{FoldsTo-push}
use Rattle.core.proofs.iter.Next as next
use Rattle.oa_cells.proofs.Filled.{counted_on}
use Rattle.oa_cells.proofs.fill.fill_to_end.Goals as goal

pub fill-requires : goal.fill-requires
fill-requires g c = search (rules, next.served c.turns.invariant.callable c.turns.index (c.turns.index + 1) (c.turns-test.true, refl, refl))

pub turns-preserved : goal.turns-preserved
turns-preserved g c =
    let at = c.turns.index in let inv = c.turns.invariant in let xs = c.turns.part.items in let x = c.in-Ok.item in
    let call = next.called g.F.FnMut c.fill.ensures c.in-Ok.is in
    let pushed = c.push_back.ensures in
    let count : c.args.from + length xs ≡ at = inv.count in let after : c.turns.part.after ≡ c.args.to - at = inv.after in let below : at < c.args.to =
    c.turns-test.true in
    let long : length c.push_back.new.self.items ≡ length xs + 1 = ap length pushed.1 ∙ length-append xs (x ∷ []) in
    let left : c.push_back.new.self.after ≡ c.turns.part.after - 1 = pushed.2 in
    let Calls : List (ℕ × g.row.T.Denot) → Type 0 = λ l. FoldsTo (λ f cell h. goal.F-step g f cell.0 (Ok cell.1) h) c.args.fill l c.fill.new.self in
    record {
      before = pushed.0 ∙ inv.before;
      count = omega (arith, count, long);
      after = omega (arith, left, after, below);
      end = refl;
      within = omega (arith, below);
      calls = subst Calls (sym (ap (enumerate_from c.args.from) pushed.1 ∙ counted_on c.args.from xs x at count))
          (FoldsTo-push (λ f cell h. goal.F-step g f cell.0 (Ok cell.1) h) c.args.fill (enumerate_from c.args.from xs) c.turns.fill
          (at, x) c.fill.new.self inv.calls call);
      callable = next.Serves-on inv.callable at (at + 1) (below, refl, refl) c.fill.new.self (x, call);
    }
