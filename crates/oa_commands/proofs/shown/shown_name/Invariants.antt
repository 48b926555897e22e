use Rattle.std.proofs.Common.{◌≡◌, ◌++◌, string_bytes}
use Rattle.std.specs.List.{flat_map}
use Rattle.std.specs.Str.{chars, IsUtf8}
use Rattle.std.specs.Str.Iter.{chars_rest}
use Rattle.oa_commands.specs.Shown.{shown_character, shown_name as as_shown}
use Rattle.oa_commands.proofs.shown.shown_name.Given as goal

abbrev pub invariant-loop-c : goal.invariant-loop-c
invariant-loop-c l = IsUtf8 (chars_rest l.c-iterator)
    × (string_bytes l.shown ++ flat_map shown_character (chars (chars_rest l.c-iterator)) ≡ as_shown l.fn.name)
