use Rattle.std.proofs.Common.{◌≡◌, [], Option, Some, None, true, false, ⊎_elim, refl, sym, ap, subst, ◌∙◌, arith}
use Rattle.std.specs.Option.{is_some}
use Rattle.oa_image.specs.promise.Tables.{table_image}
use Rattle.oa_image.specs.Reader.{IsReader, bytes_taken, table_taken}
use Rattle.oa_image.proofs.Taken.{is_whole, not_whole, some_bytes}
use Rattle.oa_image.proofs.reader.TableReader.finish.Goals as goal

none_there : {A : Type 0} (o : Option A) → false ≡ is_some o → o ≡ None
none_there None e = refl
none_there (Some x) e = absurd cc

pub returns-in_err-table : goal.returns-in_err-table
returns-in_err-table c =
    let none : [] ≡ c.args.self = sym (ap bytes_taken c.in_err-table.was) ∙ c.self.view_is in
    rw c.from_residual.ensures (λ t is e. some_bytes t (none ∙ e))

pub returns-then-is_some : goal.returns-then-is_some
returns-then-is_some c whole is e =
    let t = c.in_ok-table.table in
    let taken : table_taken t ≡ table_image whole = sym (ap bytes_taken c.in_ok-table.was) ∙ c.self.view_is ∙ e in
    not_whole t (subst IsReader c.in_ok-table.was c.self.invariant)
    (λ none. ⊎_elim (λ some. let e : true ≡ false = sym some ∙ c.is_some.ensures ∙ ap is_some none in absurd cc) (λ left. left.1) c.then-is_some.either) whole
    is taken

pub returns : goal.returns
returns c =
    let t = c.in_ok-table.table in
    let between = subst IsReader c.in_ok-table.was c.self.invariant in (
      between.0.is,
      sym c.self.view_is ∙ ap bytes_taken c.in_ok-table.was ∙ is_whole t (none_there t.object c.if-is_some.ensures)
          (omega (arith, c.if-table-gt0.false)),
    )
