use Rattle.oa_stream.specs.BufferedSource.{read_ahead}
use Rattle.oa_stream.proofs.ReadAhead.{takes_front}
use Rattle.oa_stream.proofs.ahead.BufferedSource.advance.Goals as goal

pub returns-clause-taken : goal.returns-clause-taken
returns-clause-taken g c = takes_front (g.R.Source.input c.args.self.now.reader) (read_ahead c.args.self.now) _ c.args.count c.advance.ensures.held
