use Rattle.std.proofs.Common.{◌≡◌, [], rules}
use Rattle.oa_disk.proofs.Laid.{zeros_whole}
use Rattle.oa_disk.proofs.layers.SparseImage.new.Goals as goal

pub invariant_of-result-clause-whole : goal.invariant_of-result-clause-whole
invariant_of-result-clause-whole c =
    let calls : c.new.result.items ≡ [] = search rules in
    let written : c.new-2.result.items ≡ [] = search rules in
    zeros_whole c.args.size c.new.result.items c.new-2.result.items calls written
