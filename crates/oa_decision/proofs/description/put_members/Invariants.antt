use Rattle.std.proofs.Common.{◌≡◌, ◌++◌, take}
use Rattle.std.specs.List.{flat_map}
use Rattle.oa_decision.specs.promise.DescriptionFields.{member_field}
use Rattle.oa_decision.proofs.description.put_members.Given as goal

abbrev pub invariant-members : goal.invariant-members
invariant-members l = l.out.items ≡ l.fn.out.items ++ flat_map member_field (take l.member-index l.members)
