use Rattle.std.proofs.Common.{rules, ◌≡◌, ◌-◌, ◌+◌, ◌++◌, min, List, ℕ, length, drop, take, ◌∙◌, ap, arith}
use Rattle.std.proofs.lemmas.List.{take_rest}
use Rattle.oa_formats.specs.Windows.{added, same_parts}
use Rattle.oa_formats.proofs.Adding.{left_out}
use Rattle.oa_formats.proofs.window.OutputCursor.add.Goals as goal

pub returns : goal.returns
unfolding added
returns c =
    let w = c.args.self.now in
    let bytes = c.args.bytes.now in
    let out = c.args.out.now in
    let is : c.min-skipped.result ≡ min w.skip (length bytes) = search rules in
    let left = left_out w.skip bytes in
    let given : take (length bytes - c.min-skipped.result) (drop c.min-skipped.result bytes) ≡ drop w.skip bytes =
    take_rest bytes c.min-skipped.result ∙ ap (λ (n : ℕ). drop n bytes) is ∙ left.0 in
    same_parts _ _ _ _ _ _ _ _
    (c.lay-self-2.ensures.front ∙ ap (λ (l : List ℕ). take w.at out ++ take (length (drop w.at out)) l) given)
    (c.lay-self-2.ensures.room ∙ ap (λ (l : List ℕ). drop (length l) (drop w.at out)) given)
    (c.lay-self-2.ensures.place ∙ ap (λ (l : List ℕ). w.at + length (take (length (drop w.at out)) l)) given)
    (ap (λ (n : ℕ). w.skip - n) is ∙ left.1)

pub returns-then-self-eq0 : goal.returns-then-self-eq0
unfolding added
returns-then-self-eq0 c =
    let lay = c.lay-self.ensures in
    rw c.if-self-eq0.true (same_parts _ _ _ _ _ _ _ _ lay.front lay.room lay.place (omega arith))
