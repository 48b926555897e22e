use Rattle.std.proofs.Common.{arith}
use Rattle.oa_image.proofs.InMemory as law
use Rattle.oa_image.proofs.laws.is_table.Goals as goal

pub are_objects-requires : goal.are_objects-requires
are_objects-requires c = law.few_objects c.args.table.now c.requires.small

pub returns : goal.returns
returns c = law.is_table c.args.table.now c.requires.numbered c.numbers_rise.ensures c.are_objects.ensures (omega arith) c.requires.small
