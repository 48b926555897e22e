use Rattle.std.proofs.Common.{◌≡◌, ℕ, drop, slice_get, Vec, Global}
use Rattle.std.specs.List.{filter_map}
use Rattle.oa_sema.specs.promise.Declarations.{declarations}
use Rattle.oa_typelib.specs.promise.Descriptions.{put_last}
use Rattle.oa_compat.specs.promise.Keeps.{lost_declaration, lost_member}
use Rattle.oa_sema.specs.promise.Repeats.{first_answer}
use Rattle.oa_compat.proofs.lost.lost_member.Given as goal

abbrev pub invariant-members : goal.invariant-members
invariant-members l =
    first_answer (λ (ps : Vec ℕ Global). first_answer (lost_declaration l.fn.now) (put_last (filter_map (slice_get (declarations l.fn.was)) ps.items)))
    (drop l.places-index l.groups)
    ≡ lost_member l.fn.now l.fn.was
