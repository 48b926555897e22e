use Rattle.std.proofs.Common.{sym}
use Rattle.oa_table.specs.promise.Elements.{with_element_put}
use Rattle.oa_table.specs.promise.Objects.{with_change}
use Rattle.oa_table.specs.declared.event.Event.TheVariants.{PutElement}
use Rattle.oa_table.proofs.Through.{refused_in_object}
use Rattle.oa_table.proofs.objects.Objects.put_element.Goals as goal

pub returns-clause-does : goal.returns-clause-does
returns-clause-does c =
    let name = c.args.name in
    rw (← c.self.view_is) (refused_in_object name.object c.self.inside.next (with_change name.place (with_element_put c.args.index c.args.value))
    c.self.inside.objects _ c.in-Some.found.now c.put_element.new.self (sym c.in-Some.ensures.value)
    (c.get_mut_near.follows.holds c.put_element.new.self) (λ v. PutElement name c.args.index v) c.args.value c.in-Err.value c.in-Err.fault
    (rw c.as_slice.ensures.value at c.in-Err.ensures.does))
