use Rattle.std.proofs.Common.{◌≡◌, true, false, rules}
use Rattle.std.specs.Result.{is_ok}
use Rattle.oa_ndr.proofs.Laws.{told_reads}
use Rattle.oa_wire_text.proofs.Fronts.{front_ok, front_err}
use Rattle.oa_wire_array.proofs.ScalarLaws.{union_reads}
use Rattle.oa_wire_array.proofs.scalar.read_union.Goals as goal

pub returns-then-is_ok : goal.returns-then-is_ok
returns-then-is_ok c =
    let ok : is_ok c.union-answer.result ≡ true = search rules in
    record {
      exact = front_ok (told_reads (union_reads c.args.vt)) c.union-answer.result c.args.r.now c.fork-ahead.result c.union-answer.new.r
          c.fork-ahead.ensures c.union-answer.ensures.value ok;
      memory = rw c.fork-ahead.ensures at c.union-answer.ensures.memory;
    }

pub returns-else-is_ok : goal.returns-else-is_ok
returns-else-is_ok c =
    let err : is_ok c.union-answer.result ≡ false = search rules in
    record {
      exact = front_err (told_reads (union_reads c.args.vt)) c.union-answer.result c.args.r.now c.fork-ahead.result c.union-answer.new.r
          c.fork-ahead.ensures c.union-answer.ensures.value err;
      memory = rw c.fork-ahead.ensures at c.union-answer.ensures.memory;
    }
