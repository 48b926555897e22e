use Rattle.oa_commands.proofs.store.made_store.Goals as goal

pub returns-clause-new : goal.returns-clause-new
returns-clause-new c = record {
  text = c.in_ok-library.ensures.read.0;
  library = c.in_ok-library.library;
  stands = c.in_ok-library.ensures.read.1;
  stored = λ image is. rw (← c.text.ensures.text) (c.in_ok-format.ensures.done c.in_ok-disk.ensures.begins.honest image is);
}
