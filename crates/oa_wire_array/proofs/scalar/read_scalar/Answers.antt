use Rattle.std.proofs.Common.{◌≡◌, true, false, rules}
use Rattle.std.specs.Result.{is_ok}
use Rattle.oa_wire_text.proofs.Fronts.{front_ok, front_err}
use Rattle.oa_wire_array.proofs.ScalarLaws.{scalar_reads}
use Rattle.oa_wire_array.proofs.scalar.read_scalar.Goals as goal

pub returns-then-is_ok : goal.returns-then-is_ok
returns-then-is_ok c =
    let ok : is_ok c.scalar-answer.result ≡ true = search rules in
    record {
      exact = front_ok scalar_reads c.scalar-answer.result c.args.r.now c.fork-ahead.result c.scalar-answer.new.r c.fork-ahead.ensures
          c.scalar-answer.ensures.value ok;
      memory = rw c.fork-ahead.ensures at c.scalar-answer.ensures.memory;
    }

pub returns-else-is_ok : goal.returns-else-is_ok
returns-else-is_ok c =
    let err : is_ok c.scalar-answer.result ≡ false = search rules in
    record {
      exact = front_err scalar_reads c.scalar-answer.result c.args.r.now c.fork-ahead.result c.scalar-answer.new.r c.fork-ahead.ensures
          c.scalar-answer.ensures.value err;
      memory = rw c.fork-ahead.ensures at c.scalar-answer.ensures.memory;
    }
