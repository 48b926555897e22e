use Rattle.std.proofs.Common.{sym, ◌∙◌}
use Rattle.oa_formats.proofs.Exact.{one_list}
use Rattle.oa_image.specs.promise.Events.{event}
use Rattle.oa_image.proofs.Lengths.{event_bytes}
use Rattle.oa_image.proofs.laws.one_row.Goals as goal

pub returns : goal.returns
returns c = λ bytes xs ys a b. one_list event event_bytes xs ys a.are b.are (sym a.whole ∙ b.whole)
