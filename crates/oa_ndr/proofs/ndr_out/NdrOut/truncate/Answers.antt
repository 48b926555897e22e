use Rattle.std.proofs.Common.{◌+◌, refl, arith}
use Rattle.std.proofs.lemmas.List.{take-take, drop-take}
use Rattle.oa_ndr.proofs.ndr_out.NdrOut.truncate.Goals as goal

pub returns-then-len-position : goal.returns-then-len-position
returns-then-len-position c =
    let start = c.self.inside.start in
    let items = c.self.inside.out.items in
    rw (c.truncate.ensures.items, ← c.self.view_is, take-take start (start + c.args.len) items (omega arith), drop-take start c.args.len items) refl
