use Rattle.std.proofs.Common.{rules}
use Rattle.oa_array.proofs.Fills.{resized_answer}
use Rattle.oa_array.specs.declared.fault.ArrayFault.TheVariants.{Memory}
use Rattle.oa_array.proofs.array.resize.Goals as goal

pub returns : goal.returns
returns g c = resized_answer _ _ c.resized.result c.args.cells.now c.resized.new.self c.args.count Memory c.resized.ensures.count c.resized.ensures.filled
    c.resized.ensures.same c.resized.ensures.error (λ p. g.T.Cell.zero_of p.0) (λ p i x q e. search rules) (λ p i x q e. search rules)
