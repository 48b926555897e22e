use Rattle.oa_commands.proofs.Printed.{in_part, whole}
use Rattle.oa_commands.proofs.text.write_library_text.Goals as goal

pub returns-clause-written : goal.returns-clause-written
returns-clause-written g c =
    let read = c.in_ok-library.ensures.read in
    whole read.0 c.in_ok-library.library c.text.result.now read.1 c.text.ensures.text _ _ c.put_text.result c.put_text.ensures.written

pub returns-clause-broken : goal.returns-clause-broken
returns-clause-broken g c =
    let read = c.in_ok-library.ensures.read in
    in_part read.0 c.in_ok-library.library c.text.result.now read.1 c.text.ensures.text _ _ c.put_text.result c.put_text.ensures.broken
