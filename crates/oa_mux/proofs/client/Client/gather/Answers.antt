use Rattle.std.proofs.Common.{sym, rules}
use Rattle.oa_mux.proofs.Advances.{takes_gathered, takes_here}
use Rattle.oa_mux.proofs.client.Client.gather.Goals as goal

pub returns-then-is_empty-clause-record : goal.returns-then-is_empty-clause-record
returns-then-is_empty-clause-record c = takes_here c.args.self.now c.self.inside.over c.self.inside.part.items c.args.bytes.now (sym c.self.view_is) c.requires
    (search rules)

pub returns-clause-record : goal.returns-clause-record
returns-clause-record c = takes_gathered c.args.self.now c.self.inside.over c.self.inside.part.items c.replace-gathered.new.dest.items c.args.bytes.now
    c.replace-gathered.result.items (sym c.self.view_is) c.requires (search rules) (search rules)
