use Rattle.std.proofs.Common.{rules, refl}
use Rattle.std.proofs.lemmas.Result.{err_from_is_err_and}
use Rattle.oa_commands.specs.Dumps.{cell_line, cell_place, value_digits}
use Rattle.oa_commands.proofs.Dumped.{first_off, goes_on, is_done, later_off, second_off}
use Rattle.oa_commands.proofs.dump.put_cells.Goals as goal

pub cells-preserved : goal.cells-preserved
cells-preserved g c = record {
  unbroken = c.in_ok-put_value.ensures.written.sound;
  whole = λ end rest. c.cells.invariant.whole end
      (goes_on cell_line c.cells.place-iterator c.next.new.self (c.in-Some.place.now, c.in-Some.value.now) _ _ _ end _ _ (search rules) refl
      c.in_ok-put_place.ensures.written c.in_ok-put_value.ensures.written rest);
  off = λ fault end rest. c.cells.invariant.off fault end
      (later_off cell_line c.cells.place-iterator c.next.new.self (c.in-Some.place.now, c.in-Some.value.now) _ _ (search rules) refl fault _ _ _ end
      c.in_ok-put_place.ensures.written c.in_ok-put_value.ensures.written rest);
}

pub returns-in_err-put_place-clause-broken : goal.returns-in_err-put_place-clause-broken
returns-in_err-put_place-clause-broken g c =
    let p = err_from_is_err_and c.from_residual.result c.from_residual.ensures.1 in
    rw (p.1, p.2) (c.cells.invariant.off _ _
    (first_off cell_line c.cells.place-iterator c.next.new.self (c.in-Some.place.now, c.in-Some.value.now) (cell_place c.in-Some.place.now)
    (value_digits c.in-Some.value.now) (search rules) refl _ _ _
    c.in_err-put_place.ensures.broken))

pub returns-in_err-put_value-clause-broken : goal.returns-in_err-put_value-clause-broken
returns-in_err-put_value-clause-broken g c =
    let p = err_from_is_err_and c.from_residual-in_err-put_value.result c.from_residual-in_err-put_value.ensures.1 in
    rw (p.1, p.2) (c.cells.invariant.off _ _
    (second_off cell_line c.cells.place-iterator c.next.new.self (c.in-Some.place.now, c.in-Some.value.now) (cell_place c.in-Some.place.now)
    (value_digits c.in-Some.value.now) (search rules) refl _ _ _ _
    c.in_ok-put_place.ensures.written c.in_err-put_value.ensures.broken))

pub returns-clause-written : goal.returns-clause-written
returns-clause-written g c = c.cells.invariant.whole _ (is_done cell_line c.cells.place-iterator _ (search rules) c.cells.invariant.unbroken)
