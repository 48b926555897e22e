use Rattle.std.proofs.Common.{ℕ, List, map, slice_get, Option, ap, ◌∙◌}
use Rattle.std.proofs.lemmas.Option.{slice_get-map}
use Rattle.oa_idl.specs.promise.Trees.{TreeValue}
use Rattle.oa_typelib.specs.Indexes.{default_in}
use Rattle.oa_sema.specs.Libraries.{folded_names}
use Rattle.oa_typelib.proofs.Finds.{flat}
use Rattle.oa_typelib.proofs.library.Library.default_at.Goals as goal

pub returns : goal.returns
returns c =
    flat (default_in (folded_names c.args.self.now.items)) (slice_get c.args.self.now.items c.args.place) c.in_ok-at.field-0.now
    (c.in_ok-at.ensures
    ∙ ap (λ (xs : List (Option ℕ)). slice_get xs c.args.place)
    (c.as_slice.ensures.value ∙ c.self.invariant.0.2 ∙ ap (λ (t : TreeValue). map (default_in (folded_names t.items)) t.items) c.self.view_is)
    ∙ slice_get-map (default_in (folded_names c.args.self.now.items)) c.args.self.now.items c.args.place)
