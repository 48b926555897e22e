use Rattle.std.proofs.Common.{sym}
use Rattle.oa_sema.proofs.Passes.{told_none, told_some, no_name_repeats, within_names, one_name_repeats}
use Rattle.oa_sema.proofs.checks.first_repeated.Goals as goal

pub bounds-names-place : goal.bounds-names-place
bounds-names-place c = within_names c.args.names.now c.in_ok-keys.keys.items c.in_ok-keys.ensures c.in-Some.place
    (told_some _ _ c.in_ok-told_apart.field-0 c.in-Some.place c.in_ok-told_apart.ensures (sym c.in-Some.ensures)).1

pub returns-in_default : goal.returns-in_default
returns-in_default c = no_name_repeats c.args.names.now c.in_ok-keys.keys.items c.in_ok-keys.ensures
    (told_none _ _ c.in_ok-told_apart.field-0 c.in_ok-told_apart.ensures (sym c.in_default.ensures))

pub returns : goal.returns
returns c =
    one_name_repeats c.args.names.now c.in_ok-keys.keys.items c.in_ok-keys.ensures c.in-Some.place c.index-names-place.result
    (told_some _ _ c.in_ok-told_apart.field-0 c.in-Some.place c.in_ok-told_apart.ensures (sym c.in-Some.ensures)) c.index-names-place.is
