use Rattle.std.proofs.Common.{false, rules}
use Rattle.oa_idl.specs.promise.Words.{characters_from}
use Rattle.oa_idl.proofs.Strings.{character_refused}
use Rattle.oa_idl.proofs.reader.characters.Goals as goal

pub returns-then-not-is_printable : goal.returns-then-not-is_printable
returns-then-not-is_printable c = character_refused c.loop-n.out.items c.args.text.now c.loop-n.n c.loop-n.marked (characters_from false c.args.text.now)
    (search rules) (search rules) (search rules) (search rules) (search rules) c.loop-n.invariant.so_far
