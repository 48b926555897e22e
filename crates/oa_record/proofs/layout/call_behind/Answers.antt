use Rattle.std.proofs.Common.{Some, None, refl, sym, ◌∙◌}
use Rattle.oa_record.specs.ValueCalls.{parts_bringing}
use Rattle.oa_record.proofs.Fronts.{lists_are}
use Rattle.oa_record.proofs.layout.call_behind.Goals as goal

pub returns-then-named_count-eq0 : goal.returns-then-named_count-eq0
returns-then-named_count-eq0 c =
    lists_are c.args.body.now c.head_in-head.result 0 0 c.args.r.now c.no_lists.new.r (parts_bringing c.head_in-head.result None) c.head_in-head.ensures
    (sym c.if-count-eq0.true ∙ c.u32_at-count.ensures) (sym c.if-named_count-eq0.true ∙ c.u32_at-named_count.ensures) refl c.in_ok-no_lists.ensures

pub returns-then-named_count-eq1 : goal.returns-then-named_count-eq1
returns-then-named_count-eq1 c =
    lists_are c.args.body.now c.head_in-head.result 1 1 c.args.r.now c.new_value.new.r
    (parts_bringing c.head_in-head.result (Some c.in_ok-new_value.field-0.now)) c.head_in-head.ensures
    (sym c.if-count-eq1.true ∙ c.u32_at-count.ensures) (sym c.if-named_count-eq1.true ∙ c.u32_at-named_count.ensures) refl c.in_ok-new_value.ensures
