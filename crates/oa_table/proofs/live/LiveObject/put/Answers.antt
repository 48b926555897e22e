use Rattle.std.proofs.Common.{◌≡◌, ◌+◌, ℕ, Result, Ok, Err, IfOk, sym, arith, rules}
use Rattle.oa_table.specs.declared.difference.Difference.{Difference}
use Rattle.oa_table.specs.declared.fault.TableFault.{TableFault}
use Rattle.oa_table.specs.Elements.{replaced_value}
use Rattle.oa_table.proofs.Sums.{put_is_change, set_sum}
use Rattle.oa_table.proofs.Starved.{never, starved_told}
use Rattle.oa_table.proofs.Through.{does_in_cell, does_told, told_by, told_where_made}
use Rattle.oa_table.proofs.live.LiveObject.put.Goals as goal

-- sizes before and after, with what is taken and added
sizes : {E F : Type 0} (g : E → F) (gone come old new : ℕ) (result : Result Difference (E × TableFault)) → IfOk result (λ d. d.gone ≡ gone)
    → IfOk result (λ d. d.come ≡ come)
    → new + gone ≡ old + come → IfOk (told_by g result) (λ d. new + d.gone ≡ old + d.come)
sizes g gone come old new (Ok d) is more sum = rw (is, more) sum
sizes g gone come old new (Err e) is more sum = tt

pub returns-clause-does : goal.returns-clause-does
returns-clause-does c =
    let there = sym c.in-Some.ensures.value in
    let made = does_in_cell c.args.place (replaced_value c.args.value) c.self.inside.class c.self.inside.cells _ c.in-Some.old.now c.replace.new.old there
    (c.get_mut.follows.holds c.replace.new.old) c.args.value c.replace.result c.replace.ensures.does in
    let sorted = rw (← c.self.view_is) at c.places_rise.ensures in
    let due = put_is_change c.args.place c.args.value (record { class = c.self.inside.class; cells = c.self.inside.cells }) c.in-Some.old.now sorted there in
    let told = told_where_made (λ v. (c.args.place, v)) _ c.replace.result c.map_err.result c.map_err.ensures.cases (λ e f h. search rules) in
    rw (← c.self.view_is, told, due) (does_told (λ v. (c.args.place, v)) c.args.value _ _ _ c.replace.result made)

pub returns-clause-size : goal.returns-clause-size
returns-clause-size c =
    let sum = set_sum c.args.place c.self.inside.class c.self.inside.cells _ c.in-Some.old.now c.replace.new.old (sym c.in-Some.ensures.value)
    (c.get_mut.follows.holds c.replace.new.old) in
    let told = told_where_made (λ v. (c.args.place, v)) _ c.replace.result c.map_err.result c.map_err.ensures.cases (λ e f h. search rules) in
    rw (← c.self.view_is, told) (sizes (λ v. (c.args.place, v)) _ _ _ _ c.replace.result c.replace.ensures.gone c.replace.ensures.come (omega (arith, sum)))

pub returns-clause-starved : goal.returns-clause-starved
returns-clause-starved c =
    let told = told_where_made (λ v. (c.args.place, v)) _ c.replace.result c.map_err.result c.map_err.ensures.cases (λ e f h. search rules) in
    rw told (starved_told (λ v. (c.args.place, v)) _ c.replace.result (never _ c.replace.result c.replace.ensures.starved))
