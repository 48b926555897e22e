use Rattle.std.proofs.Common.{ap, ◌∙◌}
use Rattle.oa_idl.specs.promise.Trees.{TreeValue}
use Rattle.oa_typelib.specs.IndexValues.{IndexValue}
use Rattle.oa_typelib.specs.Indexes.{flag_at, index_of}
use Rattle.oa_typelib.proofs.library.Library.enters.Goals as goal

pub returns : goal.returns
returns c =
    c.enters.ensures ∙ ap (λ (x : IndexValue). flag_at x.entered c.args.class c.args.place) c.self.invariant.0.1
    ∙ ap (λ (t : TreeValue). flag_at (index_of t).entered c.args.class c.args.place) c.self.view_is
