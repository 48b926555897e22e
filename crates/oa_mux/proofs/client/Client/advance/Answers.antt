use Rattle.std.proofs.Common.{◌++◌, rules, subst, sym}
use Rattle.oa_mux.specs.Readers.{IsPartRecord}
use Rattle.oa_mux.specs.Steps.{FindsEnd}
use Rattle.oa_mux.specs.declared.found.Found.TheVariants as found
use Rattle.oa_mux.proofs.Advances.{passes_over, takes_end, takes_part}
use Rattle.oa_mux.proofs.client.Client.advance.Goals as goal

pub returns-then-self-clause-brings : goal.returns-then-self-clause-brings
returns-then-self-clause-brings c = passes_over c.args.self.now c.self.inside.over c.self.inside.part.items c.args.bytes.now (sym c.self.view_is) c.if-self.true

pub returns-in_ok-extend_from_slice-in-Part-clause-brings : goal.returns-in_ok-extend_from_slice-in-Part-clause-brings
returns-in_ok-extend_from_slice-in-Part-clause-brings c =
    takes_part c.args.self.now c.self.inside.over c.self.inside.part.items c.extend_from_slice.new.self.items c.args.bytes.now
    (sym c.self.view_is) c.if-self.false
    (subst (λ l. IsPartRecord (l ++ c.args.bytes.now)) c.deref.ensures.value c.in-Part.ensures) (search rules)

pub returns-in-Ends-clause-brings : goal.returns-in-Ends-clause-brings
returns-in-Ends-clause-brings c =
    takes_end c.args.self.now c.self.inside.over c.self.inside.part.items c.args.bytes.now c.in-Ends.why c.in-Ends.taken (sym c.self.view_is) c.if-self.false
    (subst (λ l. FindsEnd (found.Ends c.in-Ends.why c.in-Ends.taken) l c.args.bytes.now) c.deref.ensures.value c.in-Ends.ensures)
