use Rattle.oa_disk.proofs.file.FileDisk.over.Given as goal

abbrev pub ghost-begin : goal.ghost-begin
ghost-begin g a = g.held
