use Rattle.std.proofs.Common.{◌≡◌, ◌≤◌, ◌==◌, true, ℕ, List, length, ap, sym, ◌∙◌, rules}
use Rattle.oa_record.specs.ValueCalls.{body_number}
use Rattle.oa_record.proofs.Fronts.{call_laid}
use Rattle.oa_record.proofs.layout.read_value_parts.Goals as goal

pub returns-then-is_empty : goal.returns-then-is_empty
returns-then-is_empty c =
    let long : 64 ≤ length c.args.body.now = search rules in
    let invoke : body_number 2 4 c.args.body.now ≡ 4 = search rules in
    let none : (length c.call_behind.new.r.rest == 0) ≡ true = ap (λ (bytes : List ℕ). length bytes == 0) (sym c.rest.ensures)
    ∙ (sym c.is_empty.ensures ∙ c.if-is_empty.true) in
    call_laid c.args.body.now c.in_ok-bytes.field-0.now c.new-r.result c.bytes.new.self c.call_behind.new.r _ long invoke c.new-r.ensures
    c.in_ok-bytes.ensures.bytes c.in-Ok.ensures none
