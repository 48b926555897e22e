use Rattle.std.proofs.Common.{◌≡◌, ◌++◌, map, take, slice_get, if◌then◌else◌, Some, None}
use Rattle.std.specs.List.{filter_map}
use Rattle.std.specs.Option.{option_and_then}
use Rattle.oa_sema.specs.promise.Declarations.{declarations}
use Rattle.oa_typelib.specs.promise.Descriptions.{member_description}
use Rattle.oa_typelib.specs.Indexes.{is_put_or_not}
use Rattle.oa_typelib.proofs.describe.add_forms.Given as goal

abbrev pub invariant-loop-place : goal.invariant-loop-place
invariant-loop-place l = l.members.items ≡ l.fn.members.items ++ map member_description
    (filter_map (λ n. option_and_then (λ d. if is_put_or_not l.puts d.kind then Some d else None) (slice_get (declarations l.interface) n))
    (take l.place-index l.places))
