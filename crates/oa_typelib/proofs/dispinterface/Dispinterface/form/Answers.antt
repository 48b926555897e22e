use Rattle.std.proofs.Common.{ap, ◌∙◌}
use Rattle.oa_sema.specs.promise.Declarations.{declarations}
use Rattle.oa_typelib.specs.IndexValues.{MembersValue}
use Rattle.oa_typelib.proofs.Looks.{kept_at}
use Rattle.oa_typelib.proofs.dispinterface.Dispinterface.form.Goals as goal

pub of-requires : goal.of-requires
of-requires c =
    c.as_slice-2.ensures.value
    ∙ kept_at (declarations c.self.inside.interface.now) c.members.inside.defaults.items c.args.place c.in_ok-declaration.declaration
    c.in_ok-defaults.defaults.now
    (ap (λ (m : MembersValue). m.defaults) c.members.view_is ∙ ap (λ (m : MembersValue). m.defaults) c.self.invariant.0)
    c.in_ok-declaration.ensures (rw (← c.as_slice.ensures.value) c.in_ok-defaults.ensures)
