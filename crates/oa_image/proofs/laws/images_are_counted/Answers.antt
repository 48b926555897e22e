use Rattle.oa_image.proofs.Sized.{applied_sized, event_sized, table_sized}
use Rattle.oa_image.proofs.laws.images_are_counted.Goals as goal

pub returns-clause-now : goal.returns-clause-now
returns-clause-now c = table_sized

pub returns-clause-after : goal.returns-clause-after
returns-clause-after c = applied_sized

pub returns-clause-event : goal.returns-clause-event
returns-clause-event c = event_sized
