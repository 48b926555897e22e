use Rattle.std.proofs.Common.{arith, rules}
use Rattle.oa_disk.proofs.fuse.FuseDisk.new.Goals as goal

pub returns-clause-shows : goal.returns-clause-shows
returns-clause-shows g c = record {
  size = search rules;
  failures = let fits = g.met.D.Disk.failures_fit c.args.disk in omega (arith, fits);
  honest = search rules;
  contents = search rules;
  image = search rules;
  moment = search rules;
  image_since = search rules;
}
