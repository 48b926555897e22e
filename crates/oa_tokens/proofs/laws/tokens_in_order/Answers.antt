use Rattle.oa_tokens.proofs.Spans.{in_order}
use Rattle.oa_tokens.proofs.laws.tokens_in_order.Goals as goal

pub returns : goal.returns
returns c = in_order
