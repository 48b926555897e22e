-- What is read of an image has no locks.
use Rattle.oa_formats.specs.promise.Formats.{next_by, tagged, case}
use Rattle.oa_table.specs.declared.event.Event.{Event}
use Rattle.oa_table.specs.declared.event.Event.TheVariants.{Create, Release, Put, PutElement, Redim}
use Rattle.oa_table.specs.Events.{BringsNoLocks}
use Rattle.oa_image.specs.promise.Events.{event, of_kind, put}
use Rattle.oa_image.proofs.TablesWithImages.{no_locks}

pub brings_none : (e : Event) → event.Is e → BringsNoLocks e
unfolding event tagged of_kind put case next_by
brings_none (Create number class) h = tt
brings_none (Release number) h = tt
brings_none (Put n v) h = no_locks v h.1.1.1
brings_none (PutElement n i v) h = tt
brings_none (Redim n b) h = tt
