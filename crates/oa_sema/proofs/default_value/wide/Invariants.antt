use Rattle.std.proofs.Common.{◌≡◌, take}
use Rattle.oa_sema.specs.promise.Defaults.{wide}
use Rattle.oa_sema.proofs.default_value.wide.Given as goal

abbrev pub invariant-loop-character : goal.invariant-loop-character
invariant-loop-character l = l.bytes.items ≡ wide (take l.character-index l.characters)
