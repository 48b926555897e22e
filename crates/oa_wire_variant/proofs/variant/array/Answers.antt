use Rattle.std.proofs.Common.{rules}
use Rattle.oa_wire_variant.proofs.VariantLaws.{array_told, array_starved}
use Rattle.oa_wire_variant.proofs.variant.array.Goals as goal

pub returns-clause-value : goal.returns-clause-value
returns-clause-value c = array_told _ c.args.elem c.read_array.result c.map_err.result c.args.r.now c.read_array.new.r c.read_array.ensures.exact
    c.map_err.ensures.cases
    (λ f h. search rules) (λ f h. search rules) (λ f h. search rules)

pub returns-clause-memory : goal.returns-clause-memory
returns-clause-memory c = array_starved _ c.args.elem c.read_array.result c.map_err.result c.args.r.now c.read_array.new.r c.read_array.ensures.exact
    c.map_err.ensures.cases
    (λ f h. search rules) (λ f h. search rules)
