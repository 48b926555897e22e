use Rattle.std.proofs.Common.{rules}
use Rattle.oa_array.proofs.Fills.{copies_answer}
use Rattle.oa_array.proofs.array.copies.Goals as goal

pub returns : goal.returns
returns g c = copies_answer _ _ c.filled_by.result (λ p. p.0.now) c.len.result c.len.ensures c.filled_by.ensures.count c.filled_by.ensures.filled
    (λ p i x q e. search rules)
