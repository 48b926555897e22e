use Rattle.std.proofs.Common.{◌∙◌}
use Rattle.oa_image.specs.promise.Tables.{place_before}
use Rattle.oa_image.proofs.Rising.{last_one}
use Rattle.oa_image.proofs.reader.stands_behind.Goals as goal

pub returns-in-Some : goal.returns-in-Some
returns-in-Some c = c.is_before.ensures ∙ last_one place_before c.args.cells.now c.in-Some.last.now c.args.next.now c.in-Some.ensures.value
