use Rattle.std.proofs.Common.{get_or, refl, sym}
use Rattle.oa_gateway.specs.Places.{Hears, place_number}
use Rattle.oa_gateway.specs.declared.place.NumberState.{NumberState}
use Rattle.oa_gateway.proofs.Outcomes.{heard_at, nobodys, replies_wrong}
use Rattle.oa_gateway.proofs.hearing.hear_replies.Goals as goal

pub returns-in-Given : goal.returns-in-Given
returns-in-Given c = λ inside e. (refl, sym e, heard_at c.args.places.now c.args.client _ inside _ c.requires (c.in-Given.ensures inside))

pub returns-in-Dropped : goal.returns-in-Dropped
returns-in-Dropped c = λ inside e. (refl, sym e, heard_at c.args.places.now c.args.client _ inside _ c.requires (c.in-Dropped.ensures inside))

pub returns-in-Ended : goal.returns-in-Ended
returns-in-Ended c =
    let places = c.args.places.now in
    let d : NumberState = record { presence = 0; owed = 0 } in
    λ inside e. nobodys places c.args.client d (Hears inside) c.requires
    (replies_wrong c.hear.result (place_number (get_or places c.args.client d)) inside c.in-Ended.is (c.hear.ensures inside))
