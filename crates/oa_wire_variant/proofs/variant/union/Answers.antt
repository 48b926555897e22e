use Rattle.oa_ndr.proofs.Laws.{told_reads}
use Rattle.oa_wire_array.proofs.ScalarLaws.{union_reads}
use Rattle.oa_wire_text.proofs.Fronts.{front_answers}
use Rattle.oa_wire_variant.proofs.variant.union.Goals as goal

pub returns-clause-value : goal.returns-clause-value
returns-clause-value c = front_answers (told_reads (union_reads c.args.vt)) c.read_union.result c.args.r.now c.read_union.new.r c.read_union.ensures.exact
