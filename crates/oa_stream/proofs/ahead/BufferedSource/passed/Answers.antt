use Rattle.std.proofs.Common.{◌∙◌, arith, length-take}
use Rattle.oa_stream.proofs.ReadAhead.{last_of}
use Rattle.oa_stream.proofs.ahead.BufferedSource.passed.Goals as goal

pub passed-requires : goal.passed-requires
passed-requires g c =
    let f = c.args.self.now.front in
    let few = length-take f.from f.bytes.items in
    let some = c.requires in
    omega (arith, few, some)

pub returns : goal.returns
returns g c =
    let f = c.args.self.now.front in
    let ordered = f.ordered in
    let within = f.within in
    c.passed.ensures ∙ last_of f.bytes.items f.from c.args.count (omega (arith, ordered, within)) c.requires
