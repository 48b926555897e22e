use Rattle.std.proofs.Common.{◌≡◌, ◌++◌, string_bytes}
use Rattle.std.specs.Char.{encode_utf8}
use Rattle.std.specs.Char.Escape.{escape_unicode}
use Rattle.std.specs.Char.Iter.{escape_rest}
use Rattle.std.specs.List.{flat_map}
use Rattle.oa_commands.proofs.shown.push_shown.Given as goal

abbrev pub invariant-loop-sign : goal.invariant-loop-sign
invariant-loop-sign l = string_bytes l.shown ++ flat_map encode_utf8 (escape_rest l.sign-iterator)
    ≡ string_bytes l.fn.shown ++ flat_map encode_utf8 (escape_unicode l.fn.c)
