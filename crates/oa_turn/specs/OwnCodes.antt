-- The codes that report faults of the device, which no step has. (This project's choice.)
use Rattle.std.specs.Prelude.{◌==◌, ◌&&◌, not, Bool}
use Rattle.oa_model.specs.declared.hresult.HResult.{HResult}
use Rattle.oa_model.specs.promise.Codes.{e_fail, stg_e_writefault}

-- the code reports neither a fault of the device nor a server that has stopped after one
abbrev pub is_own : HResult → Bool
is_own code = not (code.0 == stg_e_writefault.0) && not (code.0 == e_fail.0)
