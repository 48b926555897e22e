use Rattle.oa_commands.proofs.Dumped.{dump_off}
use Rattle.oa_commands.proofs.dump.write_dump.Goals as goal

pub returns-clause-broken : goal.returns-clause-broken
returns-clause-broken g c = dump_off _ c.args.library c.in_ok-text.text.items c.in_ok-text.table _ _ c.put_dump.result c.in_ok-text.ensures.read
    (rw c.deref.ensures.value at c.put_dump.ensures.broken)
