use Rattle.std.proofs.Common.{sym, ◌∙◌}
use Rattle.oa_table.specs.declared.event.Event.TheVariants.{Release}
use Rattle.oa_table.proofs.Through.{object_goes, object_lacks}
use Rattle.oa_table.proofs.objects.Objects.release.Goals as goal
use Rattle.oa_table.proofs.objects.Objects.release.Goals.{in-Some, in-None}

pub returns-clause-does : goal.returns-clause-does
returns-clause-does c =
    let number = c.args.number in
    let free = rw (← c.self.view_is) at c.if-locked.ensures in
    rw (← c.self.view_is) (elim c.match-remove.branch [
      | in-Some w ↦ rw w.result-is (object_goes number c.self.inside.next c.self.inside.objects _ c.remove.ensures.entries (Release number) w.in-Some.field-0
          (sym c.remove.ensures.value ∙ w.in-Some.is) free)
      | in-None w ↦ rw w.result-is (object_lacks number c.self.inside.next c.self.inside.objects _ c.remove.ensures.entries (Release number)
          (sym c.remove.ensures.value ∙ w.in-None.is))
    ])
