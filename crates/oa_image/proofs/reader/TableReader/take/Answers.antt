use Rattle.std.proofs.Common.{◌≡◌, List, ℕ, [], ◌++◌, sym, ap, ◌∙◌, arith, length-drop}
use Rattle.oa_image.specs.Reader.{bytes_taken, table_taken}
use Rattle.oa_image.proofs.Taken.{all_behind, ends, further}
use Rattle.oa_image.proofs.reader.TableReader.take.Goals as goal

pub returns-clause-taken : goal.returns-clause-taken
returns-clause-taken c =
    let begun = rw c.in-Some-2.is at c.in_ok-table.ensures in
    let more = rw (all_behind c.args.bytes.now c.in-Some-2.head) at c.in_ok-parts.ensures.takes in
    let none : [] ≡ c.args.self.now = sym (ap bytes_taken c.in_default.is) ∙ c.self.view_is in (
      omega (arith, begun.1, more.within, length-drop c.in-Some-2.head c.args.bytes.now),
      rw (← none) (further [] (table_taken c.in-Some-2.table) (table_taken c.take_parts-2.new.table) c.args.bytes.now c.in-Some-2.head c.in_ok-parts.parts
          (sym begun.2) more.taken),
    )

pub returns-clause-whole : goal.returns-clause-whole
returns-clause-whole c t is same =
    let begun = rw c.in-Some-2.is at c.in_ok-table.ensures in
    let none : c.args.self.now ≡ [] = sym c.self.view_is ∙ ap bytes_taken c.in_default.is in
    ends [] (table_taken c.in-Some-2.table) c.args.bytes.now c.in-Some-2.head c.in_ok-parts.parts begun.1 (sym begun.2)
    (rw (all_behind c.args.bytes.now c.in-Some-2.head) at c.in_ok-parts.ensures.whole) t is
    (ap (λ (l : List ℕ). l ++ c.args.bytes.now) (sym none) ∙ same)
