use Rattle.oa_commands.proofs.store.opened_to_read.Given as goal

abbrev pub ghost-over : goal.ghost-over
ghost-over a = λ _. 0
