-- The limits of changes. (This project's choice: a table must leave enough of a bank's body free for a group of one
-- event, and a server in memory has the same limits as one over a store.)
use Rattle.std.specs.Prelude.{◌-◌, ℕ, nat_lt, if◌then◌else◌, Result, Ok, Err}
use Rattle.oa_image.specs.promise.Sizes.{event_size}
use Rattle.oa_image.specs.promise.Tables.{reserved_bytes}
use Rattle.oa_model.specs.promise.Limits.{max_event_bytes}
use Rattle.oa_model.specs.declared.hresult.HResult.{HResult}
use Rattle.oa_model.specs.promise.Codes.{e_invalidarg, stg_e_mediumfull}
use Rattle.oa_table.specs.declared.event.Event.{Event}
use Rattle.oa_table.specs.declared.fault.TableFault.{TableFault}
use Rattle.oa_table.specs.promise.Events.{applied}
use Rattle.oa_table.specs.promise.Faults.{table_code}
use Rattle.oa_table.specs.promise.Sizes.{table_size}
use Rattle.oa_table.specs.promise.Tables.{TableValue}

-- First the length of the event's image, and then that of the table's image after it, for a bank of this size: these
-- are the lengths of what is written (`images_are_counted` of oa_image).
abbrev pub within_limits : ℕ → Event → TableValue → Result TableValue HResult
within_limits bank event new =
    if nat_lt max_event_bytes (event_size event) then Err e_invalidarg
    else if nat_lt (bank - reserved_bytes) (table_size new) then Err stg_e_mediumfull
    else Ok new

abbrev pub limited : ℕ → Event → Result TableValue TableFault → Result TableValue HResult
limited bank event (Ok new) = within_limits bank event new
limited bank event (Err fault) = Err (table_code fault)

-- the table after an event, or why there is none: the table or a limit refuses it
abbrev pub allowed : ℕ → Event → TableValue → Result TableValue HResult
allowed bank event table = limited bank event (applied event table)
