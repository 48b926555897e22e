use Rattle.std.proofs.Common.{rules}
use Rattle.oa_mux.proofs.Talks.{over_unknown}
use Rattle.oa_mux.proofs.serving.part.Goals as goal

pub returns-then-reads_nothing-clause-progresses : goal.returns-then-reads_nothing-clause-progresses
returns-then-reads_nothing-clause-progresses g c = over_unknown g.S.SharedResponder.barrier g.S.SharedResponder.turn _ _ _ _ _ c.requires.unbroken.writer
    c.requires.unbroken.reader (search rules)
