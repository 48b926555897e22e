use Rattle.std.proofs.Common.{◌≡◌, true, is_some, refl, rules}
use Rattle.oa_model.specs.promise.Types.{sf_type_of}
use Rattle.oa_wire_text.proofs.Fronts.{front_of, no_front_of}
use Rattle.oa_wire_array.proofs.ArrayLaws.{array_reads}
use Rattle.oa_wire_array.proofs.array.read_array.Goals as goal

pub returns-in-Ok : goal.returns-in-Ok
returns-in-Ok c = record {
  exact = front_of (array_reads c.args.elem) c.args.r.now c.fork-ahead.result c.array.new.r c.in-Ok.array c.fork-ahead.ensures
      c.in-Ok.ensures.value;
}

pub returns-in-Err-BadStub : goal.returns-in-Err-BadStub
returns-in-Err-BadStub c =
    let typed : is_some (sf_type_of c.args.elem) ≡ true = search rules in
    let none = (rw c.in-Err-BadStub.field-0-is at c.in-Err-BadStub.ensures).value in
    record { exact = (typed, no_front_of (array_reads c.args.elem) c.args.r.now c.fork-ahead.result c.fork-ahead.ensures none, refl) }
