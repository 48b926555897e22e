use Rattle.std.proofs.Common.{◌∙◌}
use Rattle.oa_journal.proofs.Sealing.{sealing}
use Rattle.oa_journal.proofs.batch.seal.Goals as goal

pub returns : goal.returns
returns c = sealing c.args.batch.now c.copy_from_slice.new.self c.requires.some (c.copy_from_slice.ensures.after ∙ c.to_le_bytes-length.ensures)
