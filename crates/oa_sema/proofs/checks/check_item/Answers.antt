use Rattle.oa_sema.proofs.checks.check_item.Goals as goal

pub returns-in-Coclass : goal.returns-in-Coclass
returns-in-Coclass c = rw (c.in-Coclass.is, ← c.class.view_is, ← c.as_slice.ensures.value) c.check_entries.ensures
