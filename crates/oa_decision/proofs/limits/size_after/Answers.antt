use Rattle.std.proofs.Common.{ap, ◌∙◌}
use Rattle.oa_table.specs.Sizes.{size_due}
use Rattle.oa_table.specs.promise.Sizes.{table_size}
use Rattle.oa_decision.proofs.limits.size_after.Goals as goal

pub returns : goal.returns
returns c = λ new made. c.size_after.ensures ∙ ap (λ due. size_due table_size due c.args.table.now) made
