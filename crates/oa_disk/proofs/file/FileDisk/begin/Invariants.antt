use Rattle.oa_disk.proofs.file.FileDisk.begin.Given as goal

abbrev pub ghost-beginning : goal.ghost-beginning
ghost-beginning g a = g.held
