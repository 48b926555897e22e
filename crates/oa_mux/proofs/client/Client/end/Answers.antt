use Rattle.std.proofs.Common.{sym, rules}
use Rattle.oa_mux.proofs.Advances.{ends_closed, ends_cut, over_before}
use Rattle.oa_mux.proofs.client.Client.end.Goals as goal

pub returns-then-self : goal.returns-then-self
returns-then-self c = over_before c.args.self c.self.inside.over c.self.inside.part.items (sym c.self.view_is) c.if-self.true

pub returns-then-is_empty : goal.returns-then-is_empty
returns-then-is_empty c = ends_closed c.args.self c.self.inside.over c.self.inside.part.items (sym c.self.view_is) c.if-self.false (search rules)

pub returns : goal.returns
returns c = ends_cut c.args.self c.self.inside.over c.self.inside.part.items (sym c.self.view_is) c.if-self.false (search rules)
