use Rattle.oa_stream.proofs.ReadAhead.{more_passed, slice_advanced}
use Rattle.oa_stream.proofs.stretch.Front.advance.Goals as goal

pub returns-clause-held : goal.returns-clause-held
returns-clause-held c = let f = c.args.self.now in slice_advanced f.bytes.items f.from f.to c.args.count c.requires

pub returns-clause-passed : goal.returns-clause-passed
returns-clause-passed c = let f = c.args.self.now in more_passed f.bytes.items f.from f.to c.args.count c.requires
