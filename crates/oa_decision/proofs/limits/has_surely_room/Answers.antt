use Rattle.std.proofs.Common.{◌≡◌, ◌∙◌, arith, sym}
use Rattle.std.proofs.lemmas.Bool.{leb-true}
use Rattle.oa_image.proofs.Sized.{put_adds}
use Rattle.oa_image.specs.promise.Sizes.{event_size}
use Rattle.oa_table.specs.promise.Sizes.{table_size}
use Rattle.oa_table.specs.declared.event.Event.TheVariants.{Put}
use Rattle.oa_decision.proofs.limits.has_surely_room.Goals as goal

pub returns-in-Put-clause-room : goal.returns-in-Put-clause-room
unfolding table_size
returns-in-Put-clause-room c = λ is.
    let put : c.args.event.now ≡ Put c.in-Put.name c.in-Put.value = sym c.as_event.ensures ∙ c.in-Put.is in
    let counted : c.len.result ≡ event_size (Put c.in-Put.name c.in-Put.value) = rw put at c.len.ensures.counted in
    let below = leb-true c.image_size.result c.saturating_sub.result is in
    let adds = put_adds c.in-Put.name c.in-Put.value c.args.table.now in
    rw put (omega (arith, adds, counted, below, c.image_size.ensures, c.saturating_sub.ensures, c.max_table_image-most.ensures))
