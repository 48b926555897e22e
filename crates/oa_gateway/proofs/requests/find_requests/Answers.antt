use Rattle.std.proofs.Common.{length, arith}
use Rattle.std.proofs.lemmas.Slice.{between_to_end}
use Rattle.oa_gateway.proofs.Bodies.{whole_more}
use Rattle.oa_gateway.proofs.requests.find_requests.Goals as goal

pub requests-preserved : goal.requests-preserved
requests-preserved c =
    let bytes = c.args.bytes.now in
    let whole = c.requests.whole in
    let within = c.requests.invariant.within in
    let more = whole_more bytes _ whole c.in-Whole.count (between_to_end bytes whole (length bytes) (omega arith)) within c.in-Whole.ensures
    c.requests.invariant.requests in
    record { within = more.0; requests = more.1 }
