use Rattle.std.proofs.Common.{◌<◌, ◌-◌, ◌∷◌, ℕ, List, Some, map, length, ap, sym, ◌∙◌}
use Rattle.std.specs.Option.{option_map}
use Rattle.oa_sema.specs.declared.fault.CheckError.TheVariants.{DuplicateGuid}
use Rattle.oa_sema.specs.promise.Libraries.{same, item_guid}
use Rattle.std.proofs.lemmas.List.{length-map}
use Rattle.oa_sema.proofs.Passes.{behind_first, none_repeats, one_repeats, repeats_later, same_list}
use Rattle.std.proofs.Common.{subst, arith, remove}
use Rattle.oa_sema.specs.Keys.{TellsDistinct}
use Rattle.oa_sema.proofs.checks.check_guids.Goals as goal

pub returns-in-All : goal.returns-in-All
returns-in-All c =
    let t = subst (TellsDistinct same c.in_ok-all_guids.field-0.items) c.in-All.is c.in_ok-set.ensures in (
      ap (option_map DuplicateGuid) (none_repeats same (λ (g : List ℕ). g) (c.args.library ∷ map item_guid c.args.items.now) c.in_ok-all_guids.field-0.items
          (c.in_ok-all_guids.ensures ∙ same_list _) t.0),
      c.from_set.ensures ∙ c.shift_remove_index.ensures.keys ∙ ap (λ (ks : List (List ℕ)). remove ks 0) (t.1 ∙ c.in_ok-all_guids.ensures),
    )

pub overflow_sub-place : goal.overflow_sub-place
overflow_sub-place c =
    let t = subst (TellsDistinct same c.in_ok-all_guids.field-0.items) c.in-Repeat.is c.in_ok-set.ensures in
    repeats_later same c.in_ok-all_guids.field-0.items c.in-Repeat.place t.0

pub bounds-items-place : goal.bounds-items-place
bounds-items-place c =
    let t = subst (TellsDistinct same c.in_ok-all_guids.field-0.items) c.in-Repeat.is c.in_ok-set.ensures in
    let some = repeats_later same c.in_ok-all_guids.field-0.items c.in-Repeat.place t.0 in
    omega (arith, some, t.1, ap length c.in_ok-all_guids.ensures, length-map c.args.items.now item_guid)

pub returns-in-Repeat : goal.returns-in-Repeat
returns-in-Repeat c =
    let t = subst (TellsDistinct same c.in_ok-all_guids.field-0.items) c.in-Repeat.is c.in_ok-set.ensures in
    let some = repeats_later same c.in_ok-all_guids.field-0.items c.in-Repeat.place t.0 in
    let within : c.in-Repeat.place - 1 < length c.args.items.now =
    omega (arith, some, t.1, ap length c.in_ok-all_guids.ensures, length-map c.args.items.now item_guid) in
    let is = behind_first item_guid c.args.library c.args.items.now c.in-Repeat.place c.index-items-place.result some within c.index-items-place.is in
    ap (option_map DuplicateGuid) (one_repeats same (λ (g : List ℕ). g) (c.args.library ∷ map item_guid c.args.items.now) c.in_ok-all_guids.field-0.items
    (c.in_ok-all_guids.ensures ∙ same_list _) c.in-Repeat.place (item_guid c.index-items-place.result) t.0
    (omega (arith, t.1, ap length c.in_ok-all_guids.ensures)) is ∙ ap (λ (g : List ℕ). Some g) (sym c.item_guid.ensures))
