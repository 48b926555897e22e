use Rattle.oa_typelib.proofs.Classes.{tree_whole}
use Rattle.oa_typelib.proofs.laws.sound_items.Goals as goal

pub returns : goal.returns
returns c = tree_whole
