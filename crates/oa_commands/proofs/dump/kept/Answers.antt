use Rattle.oa_commands.proofs.dump.kept.Goals as goal

pub returns-clause-read : goal.returns-clause-read
returns-clause-read c = record {
  before = c.in_ok-disk.disk;
  after = c.inspect.new.disk;
  begins = c.in_ok-disk.ensures.begins;
  found = c.in_ok-inspect.ensures.found;
}
