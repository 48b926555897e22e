use Rattle.std.proofs.Common.{true, false, slice_get, sym, ◌∙◌}
use Rattle.std.specs.List.{filter_map}
use Rattle.oa_sema.specs.promise.Declarations.{declarations}
use Rattle.oa_typelib.specs.promise.Descriptions.{put_last}
use Rattle.oa_compat.specs.promise.Keeps.{lost_declaration}
use Rattle.oa_compat.specs.Keeps.{lost_form}
use Rattle.oa_sema.specs.promise.Repeats.{first_answer}
use Rattle.oa_compat.proofs.Searches.{answered_here, answered_later, of_member}
use Rattle.oa_compat.proofs.lost.lost_of_member.Goals as goal

pub returns-then-is_some : goal.returns-then-is_some
returns-then-is_some c =
    answered_here (first_answer (lost_declaration c.args.now.now) (put_last (filter_map (slice_get (declarations c.args.was.now)) c.args.places.now)))
    (first_answer (lost_form c.args.now.now c.args.was.now false) c.args.places.now)
    (first_answer (lost_form c.args.now.now c.args.was.now true) c.args.places.now)
    c.lost_at-lost.result (of_member c.args.now.now c.args.was.now c.args.places.now) c.lost_at-lost.ensures (sym c.is_some.ensures ∙ c.if-is_some.true)

pub returns : goal.returns
returns c =
    answered_later (first_answer (lost_declaration c.args.now.now) (put_last (filter_map (slice_get (declarations c.args.was.now)) c.args.places.now)))
    (first_answer (lost_form c.args.now.now c.args.was.now false) c.args.places.now)
    (first_answer (lost_form c.args.now.now c.args.was.now true) c.args.places.now)
    c.lost_at-lost.result c.lost_at.result (of_member c.args.now.now c.args.was.now c.args.places.now) c.lost_at-lost.ensures
    (sym c.is_some.ensures ∙ c.if-is_some.false) c.lost_at.ensures
