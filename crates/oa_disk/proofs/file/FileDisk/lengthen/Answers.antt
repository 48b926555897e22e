use Rattle.std.proofs.Common.{◌≡◌, ◌+◌, ◌-◌, arith, rules}
use Rattle.oa_disk.proofs.Lengthened.{holds_the_same, lengthened_settled, lengthened_whole}
use Rattle.oa_disk.proofs.file.FileDisk.lengthen.Goals as goal
use Rattle.oa_disk.proofs.file.FileDisk.lengthen.Goals.{then-old-size, else-old-size}

pub invariant_of-result-clause-whole : goal.invariant_of-result-clause-whole
invariant_of-result-clause-whole c =
    let self = c.args.self in
    let longer : c.if-old-size.result ≡ self.size + (c.args.size - self.size) = elim c.if-old-size.branch [
      | then-old-size w ↦ omega (arith, w.result-is, w.if-old-size)
      | else-old-size w ↦ omega (arith, w.result-is, w.if-old-size)
    ] in
    lengthened_whole self.size self.history self.whole c.args.size _ c.lengthened-history.ensures c.if-old-size.result longer

pub returns-clause-goes_on : goal.returns-clause-goes_on
returns-clause-goes_on c =
    let self = c.args.self in
    record {
      honest = search rules;
      failures = search rules;
      settled = λ honest none. lengthened_settled self.size self.history self.whole c.args.size _ c.lengthened-history.ensures;
      holds = λ honest none. holds_the_same self.size self.history self.whole c.args.size _ c.lengthened-history.ensures;
    }
