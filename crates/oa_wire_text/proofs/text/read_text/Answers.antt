use Rattle.std.proofs.Common.{◌≡◌, true, false, rules}
use Rattle.std.specs.Result.{is_ok}
use Rattle.oa_wire_text.proofs.Fronts.{front_ok, front_err}
use Rattle.oa_wire_text.proofs.TextLaws.{blob_reads}
use Rattle.oa_wire_text.proofs.text.read_text.Goals as goal

pub returns-then-is_ok : goal.returns-then-is_ok
returns-then-is_ok c =
    let ok : is_ok c.read_blob-answer.result ≡ true = search rules in
    record {
      exact = front_ok blob_reads c.read_blob-answer.result c.args.r.now c.fork-ahead.result c.read_blob-answer.new.r c.fork-ahead.ensures
          c.read_blob-answer.ensures.value ok;
      memory = rw c.fork-ahead.ensures at c.read_blob-answer.ensures.memory;
    }

pub returns-else-is_ok : goal.returns-else-is_ok
returns-else-is_ok c =
    let err : is_ok c.read_blob-answer.result ≡ false = search rules in
    record {
      exact = front_err blob_reads c.read_blob-answer.result c.args.r.now c.fork-ahead.result c.read_blob-answer.new.r c.fork-ahead.ensures
          c.read_blob-answer.ensures.value err;
      memory = rw c.fork-ahead.ensures at c.read_blob-answer.ensures.memory;
    }
