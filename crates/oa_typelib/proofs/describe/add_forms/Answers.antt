use Rattle.std.proofs.Common.{◌≡◌, ℕ, ◌+◌, ◌++◌, Bool, map, take, get_or, slice_get, Option, Some, None, if◌then◌else◌, sym, ap, ◌∙◌}
use Rattle.std.proofs.lemmas.List.{take_all, get_or_default}
use Rattle.std.specs.List.{filter_map}
use Rattle.std.specs.Option.{option_and_then}
use Rattle.oa_sema.specs.promise.DeclarationValues.{DeclarationValue}
use Rattle.oa_sema.specs.promise.Declarations.{declarations}
use Rattle.oa_typelib.specs.promise.Descriptions.{member_description}
use Rattle.oa_typelib.specs.Indexes.{is_put_or_not}
use Rattle.oa_typelib.proofs.Kept.{one_more, none_more, described_more, filter_of_map}
use Rattle.oa_typelib.proofs.describe.add_forms.Goals as goal
use Rattle.oa_typelib.proofs.describe.add_forms.Goals.{in-Some+in_ok-member+in_ok-push, in_default}

pub loop-place-preserved : goal.loop-place-preserved
loop-place-preserved c =
    let f : ℕ → Option DeclarationValue = λ n. option_and_then (λ (d : DeclarationValue). if is_put_or_not c.args.puts d.kind then Some d else None)
    (slice_get (declarations c.args.interface.now) n) in
    let x = get_or c.args.places.now c.loop-place.place-index 0 in
    let is : x ≡ get_or c.args.places.now c.loop-place.place-index x = get_or_default c.args.places.now c.loop-place.place-index 0 x c.loop-place-test.true in
    elim c.match-form_at.branch [
      | in-Some+in_ok-member+in_ok-push w ↦ rw w.members-is
          (described_more c.args.members.now.items member_description (filter_map f (take c.loop-place.place-index c.args.places.now))
          (filter_map f (take (c.loop-place.place-index + 1) c.args.places.now)) w.in-Some.form c.loop-place.members.items w.push.new.self.items _
          c.loop-place.invariant w.in_ok-push.ensures.items w.in_ok-member.ensures
          (one_more f c.args.places.now c.loop-place.place-index x c.loop-place-test.true is w.in-Some.form (sym c.form_at.ensures ∙ w.in-Some.is)))
      | in_default w ↦ rw w.members-is (c.loop-place.invariant ∙ ap (λ ds. c.args.members.now.items ++ map member_description ds)
          (sym (none_more f c.args.places.now c.loop-place.place-index x c.loop-place-test.true is (sym c.form_at.ensures ∙ w.in_default.is))))
    ]

pub returns : goal.returns
returns c =
    let g = slice_get (declarations c.args.interface.now) in
    let p : DeclarationValue → Bool = λ d. is_put_or_not c.args.puts d.kind in
    c.loop-place.invariant ∙ ap (λ ds. c.args.members.now.items ++ map member_description ds)
    (ap (filter_map (λ n. option_and_then (λ (d : DeclarationValue). if p d then Some d else None) (g n)))
    (take_all c.loop-place.place-index c.args.places.now c.loop-place-test.false) ∙ sym (filter_of_map p g c.args.places.now))
