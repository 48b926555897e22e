use Rattle.std.proofs.Common.{◌≡◌, drop}
use Rattle.std.specs.List.{position_from}
use Rattle.oa_bind.specs.promise.Names.{names_none}
use Rattle.oa_bind.proofs.names.first_unknown.Given as goal

abbrev pub invariant-named : goal.invariant-named
invariant-named l = position_from (names_none l.positions l.parameters) l.i (drop l.i l.named) ≡ position_from
    (names_none l.fn.positions l.fn.parameters) 0 l.fn.named
