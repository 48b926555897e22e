use Rattle.std.proofs.Common.{◌≡◌, ℤ, List, get_or, length, slice_get, refl, sym, subst, ap, ◌∙◌, Some}
use Rattle.std.proofs.Math.Facts.{to_z-of_z}
use Rattle.std.proofs.lemmas.Option.{slice_get_read}
use Rattle.std.specs.List.{filter_map}
use Rattle.oa_sema.specs.promise.Declarations.{declarations}
use Rattle.oa_idl.specs.promise.Values.{InterfaceValue}
use Rattle.oa_idl.specs.declared.parts.Property.{Property}
use Rattle.oa_typelib.specs.promise.Members.{forms_with}
use Rattle.oa_decision.proofs.Keyless.{keyless, only_one}
use Rattle.oa_decision.proofs.decider.value_call.find_keyless.Goals as goal

pub returns-then-lets-clause-found : goal.returns-then-lets-clause-found
returns-then-lets-clause-found c =
    let i = c.args.interface.now in
    let places = c.places_with-places.result.now in
    let place = get_or places 0 0 in
    let p = c.in_ok-property.property.now in
    let all = subst (λ (z : ℤ). filter_map (slice_get (declarations i)) places ≡ forms_with z i) (to_z-of_z c.ranges.dispid) c.places_with-places.ensures in
    let same = c.deref.ensures.value ∙ ap (λ (x : InterfaceValue). x.properties) (c.behind-interface.view_is ∙ c.interface.ensures) in
    let at = subst (λ (ps : List Property). slice_get ps place ≡ Some p) same
    (slice_get_read c.deref.result.now (length c.deref.result.now) place p refl c.in_ok-property.ensures.lookup.3.0 c.in_ok-property.ensures.lookup.1) in
    keyless i c.args.dispid c.args.access c.in_ok-form.form places place p all (only_one places 0 c.if-places-ne1.false) at c.in_ok-form.ensures
    (sym c.lets.ensures ∙ c.if-lets.true)
