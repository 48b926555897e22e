use Rattle.oa_compat.proofs.Losses.{all_kept, keeps_all}
use Rattle.oa_turn.proofs.laws.kept_library_fits.Goals as goal

pub returns-clause-keeps : goal.returns-clause-keeps
returns-clause-keeps c new old checked = (keeps_all new old, all_kept new old checked)
