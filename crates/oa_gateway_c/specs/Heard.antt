-- The decision on a frame of the server, as numbers for C. (This project's choice.)
use Rattle.oa_gateway.specs.declared.hearing.Heard.{Heard}
use Rattle.oa_gateway.specs.declared.hearing.Heard.TheVariants as heard
use Rattle.oa_gateway_c.specs.declared.Frame.{Frame}

abbrev pub c_frame : Heard → Frame
c_frame heard.More = record { what = 0; client = 0; count = 0 }
c_frame heard.Answered = record { what = 1; client = 0; count = 0 }
c_frame (heard.Given client count) = record { what = 2; client = client; count = count }
c_frame (heard.Ended client) = record { what = 3; client = client; count = 0 }
c_frame (heard.Dropped client count) = record { what = 4; client = client; count = count }
c_frame heard.Wrong = record { what = 5; client = 0; count = 0 }
