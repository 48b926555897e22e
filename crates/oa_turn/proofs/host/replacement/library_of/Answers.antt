use Rattle.std.proofs.Common.{rules}
use Rattle.oa_turn.proofs.Replacing.{text_told}
use Rattle.oa_turn.proofs.host.replacement.library_of.Goals as goal

pub returns : goal.returns
returns c =
    text_told c.args.body.now c.in-Some.text.now c.in-Some.ensures.found _ c.read_library.result c.map_err.result c.read_library.ensures c.map_err.ensures.cases
    (λ e code h. search rules)
