use Rattle.std.proofs.Common.{slice_get, ap, sym, ◌∙◌, List, ℕ}
use Rattle.std.specs.List.{filter_map}
use Rattle.oa_sema.specs.promise.Declarations.{declarations}
use Rattle.oa_typelib.specs.promise.Descriptions.{put_last}
use Rattle.oa_compat.specs.promise.Keeps.{lost_declaration, lost_member}
use Rattle.oa_sema.specs.promise.Repeats.{first_answer}
use Rattle.oa_compat.proofs.Searches.{each_found, each_on, each_done, of_groups, of_places}
use Rattle.oa_compat.proofs.lost.lost_member.Goals as goal

pub members-init : goal.members-init
members-init c = of_groups c.args.now.now c.args.was.now c.groups-groups.result.now c.groups-groups.ensures

pub returns-then-is_some : goal.returns-then-is_some
returns-then-is_some c =
    each_found (of_places c.args.now.now c.args.was.now) c.groups-groups.result.now c.members.places-index
    (lost_member c.args.now.now c.args.was.now) c.places-item.result c.lost_of_member-lost.result c.members-test.true
    c.places-item.is c.members.invariant
    (c.lost_of_member-lost.ensures
    ∙ ap (λ (ps : List ℕ). first_answer (lost_declaration c.args.now.now) (put_last (filter_map (slice_get (declarations c.args.was.now)) ps)))
    c.as_slice.ensures.value)
    (sym c.is_some.ensures ∙ c.if-is_some.true)

pub members-preserved : goal.members-preserved
members-preserved c =
    each_on (of_places c.args.now.now c.args.was.now) c.groups-groups.result.now c.members.places-index
    (lost_member c.args.now.now c.args.was.now) c.places-item.result c.lost_of_member-lost.result c.members-test.true
    c.places-item.is c.members.invariant
    (c.lost_of_member-lost.ensures
    ∙ ap (λ (ps : List ℕ). first_answer (lost_declaration c.args.now.now) (put_last (filter_map (slice_get (declarations c.args.was.now)) ps)))
    c.as_slice.ensures.value)
    (sym c.is_some.ensures ∙ c.if-is_some.false)

pub returns : goal.returns
returns c = each_done (of_places c.args.now.now c.args.was.now) c.groups-groups.result.now c.members.places-index
    (lost_member c.args.now.now c.args.was.now) c.members-test.false c.members.invariant
