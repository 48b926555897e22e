use Rattle.std.proofs.Common.{sym, ap, ◌∙◌, ◌%◌, length, ℕ, arith}
use Rattle.oa_ndr.specs.promise.Writing.{put_all}
use Rattle.oa_wire_array.specs.promise.ArrayCanon.{put_cell_referent}
use Rattle.oa_wire_array.proofs.ArrayLengths.{referents_len, elements_are_pointed, elements_are_plain}
use Rattle.oa_wire_array.proofs.array_len.elements_end.Goals as goal

pub returns-then-is_pointed : goal.returns-then-is_pointed
returns-then-is_pointed c = record {
  value = λ out e.
      let same = ap length (elements_are_pointed c.args.elem c.args.cells.now out (sym c.if-is_pointed.ensures)) in
      let refs = referents_len c.args.elem c.args.cells.now out (ap (λ (n : ℕ). n % 4) e ∙ c.requires.place) in
      same ∙ c.pointees_end.ensures.value (put_all (put_cell_referent c.args.elem) c.args.cells.now out) (omega (arith, refs, e));
  near = omega (arith, c.pointees_end.ensures.near);
}

pub returns : goal.returns
returns c = record {
  value = λ out e. ap length (elements_are_plain c.args.elem c.args.cells.now out (sym c.if-is_pointed.ensures)) ∙ c.plain_end.ensures.value out e;
  near = c.plain_end.ensures.near;
}
