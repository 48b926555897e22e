use Rattle.std.proofs.Common.{rules, refl}
use Rattle.std.proofs.lemmas.Result.{err_from_is_err_and}
use Rattle.std.specs.List.{flat_map}
use Rattle.oa_stream.proofs.Stretches.{breaks_before}
use Rattle.oa_commands.specs.Dumps.{cell_line, next_line, object_line, object_lines, table_lines}
use Rattle.oa_commands.proofs.Dumped.{begins, begins_off, first_off, goes_on, is_done, later_off, nothing_put, second_off}
use Rattle.oa_commands.proofs.dump.put_table.Goals as goal

pub returns-in_err-next_line-clause-broken : goal.returns-in_err-next_line-clause-broken
returns-in_err-next_line-clause-broken g c =
    let p = err_from_is_err_and c.from_residual.result c.from_residual.ensures.1 in
    rw (p.1, p.2) (nothing_put _ (table_lines c.args.table.now) (search rules))

pub returns-in_err-put-clause-broken : goal.returns-in_err-put-clause-broken
returns-in_err-put-clause-broken g c =
    let p = err_from_is_err_and c.from_residual-in_err-put.result c.from_residual-in_err-put.ensures.1 in
    rw (p.1, p.2) (breaks_before _ _ (next_line c.args.table.now.next) (flat_map object_lines c.args.table.now.objects) (search rules))

pub objects-init : goal.objects-init
objects-init g c = record {
  unbroken = c.in_ok-put.ensures.sound;
  whole = λ end rest. begins object_lines _ c.args.table.now.objects _ (g.W.Sink.out c.put.new.self) end (next_line c.args.table.now.next)
      (search rules) (search rules) rest;
  off = λ fault end rest. begins_off object_lines _ c.args.table.now.objects _ (g.W.Sink.out c.put.new.self) end (next_line c.args.table.now.next) fault
      (search rules) (search rules) rest;
}

pub objects-preserved : goal.objects-preserved
objects-preserved g c = record {
  unbroken = c.in_ok-put_cells.ensures.written.sound;
  whole = λ end rest. c.objects.invariant.whole end
      (goes_on object_lines c.objects.number-iterator c.next-in-objects.new.self (c.in-Some.number.now, c.in-Some.object.now) _ _ _ end _ _ (search rules) refl
      c.in_ok-put_object.ensures.written c.in_ok-put_cells.ensures.written rest);
  off = λ fault end rest. c.objects.invariant.off fault end
      (later_off object_lines c.objects.number-iterator c.next-in-objects.new.self (c.in-Some.number.now, c.in-Some.object.now) _ _
      (search rules) refl fault _ _ _ end
      c.in_ok-put_object.ensures.written c.in_ok-put_cells.ensures.written rest);
}

pub returns-in_err-put_object-clause-broken : goal.returns-in_err-put_object-clause-broken
returns-in_err-put_object-clause-broken g c =
    let p = err_from_is_err_and c.from_residual-in_err-put_object.result c.from_residual-in_err-put_object.ensures.1 in
    rw (p.1, p.2) (c.objects.invariant.off _ _
    (first_off object_lines c.objects.number-iterator c.next-in-objects.new.self (c.in-Some.number.now, c.in-Some.object.now)
    (object_line c.in-Some.number.now c.in-Some.object.now) (flat_map cell_line c.in-Some.object.now.cells) (search rules) refl _ _ _
    c.in_err-put_object.ensures.broken))

pub returns-in_err-put_cells-clause-broken : goal.returns-in_err-put_cells-clause-broken
returns-in_err-put_cells-clause-broken g c =
    let p = err_from_is_err_and c.from_residual-in_err-put_cells.result c.from_residual-in_err-put_cells.ensures.1 in
    rw (p.1, p.2) (c.objects.invariant.off _ _
    (second_off object_lines c.objects.number-iterator c.next-in-objects.new.self (c.in-Some.number.now, c.in-Some.object.now)
    (object_line c.in-Some.number.now c.in-Some.object.now) (flat_map cell_line c.in-Some.object.now.cells) (search rules) refl _ _ _ _
    c.in_ok-put_object.ensures.written c.in_err-put_cells.ensures.broken))

pub returns-clause-written : goal.returns-clause-written
returns-clause-written g c = c.objects.invariant.whole _ (is_done object_lines c.objects.number-iterator _ (search rules) c.objects.invariant.unbroken)
