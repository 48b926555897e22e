use Rattle.std.proofs.Common.{◌∙◌, ap, length}
use Rattle.std.proofs.lemmas.List.{nil_from_length}
use Rattle.oa_disk.proofs.no_disk.NoDiskDisk.write_at.Goals as goal

pub returns-clause-any_bytes : goal.returns-clause-any_bytes
returns-clause-any_bytes c h older image was torn = nil_from_length image (torn.size ∙ ap length was)
