use Rattle.std.proofs.Common.{rules}
use Rattle.oa_array.proofs.Fills.{zeros_answer}
use Rattle.oa_array.specs.declared.fault.ArrayFault.TheVariants.{Memory}
use Rattle.oa_array.proofs.array.zeros.Goals as goal

pub returns : goal.returns
returns g c = zeros_answer _ _ c.filled_by.result c.args.count Memory c.filled_by.ensures.count c.filled_by.ensures.filled c.filled_by.ensures.error
    (λ p. g.T.Cell.zero_of p.0) (λ p i x q e. search rules) (λ p i x q e. search rules)
