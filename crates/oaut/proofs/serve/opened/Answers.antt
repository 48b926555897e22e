use Rattle.oaut.proofs.SessionEnds.{opens}
use Rattle.oaut.proofs.serve.opened.Goals as goal

pub returns-in-Ok-clause-opened : goal.returns-in-Ok-clause-opened
returns-in-Ok-clause-opened c = opens _ _ _ c.in_ok-library.library c.in_ok-library.ensures.read.0 c.in_ok-disk.disk c.in_ok-library.ensures.read.1
    c.in_ok-disk.ensures.begins c.in-Ok.ensures.library c.in-Ok.ensures.bank c.in-Ok.ensures.opened
