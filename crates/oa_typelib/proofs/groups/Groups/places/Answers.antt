use Rattle.std.proofs.Common.{ℕ, Some, None, ◌∙◌, Vec, Global}
use Rattle.oa_typelib.proofs.Entries.{found_places}
use Rattle.oa_typelib.proofs.groups.Groups.places.Goals as goal

pub returns-in-Some : goal.returns-in-Some
returns-in-Some g c =
    rw (← c.self.view_is)
    (c.as_slice.ensures.value ∙ found_places (λ (ps : Vec ℕ Global). ps.items) c.self.inside.groups.entries (g.Q.Equivalent.equivalent c.args.key)
    (Some c.in-Some.places.now) c.in-Some.ensures.value)

pub returns-in-None : goal.returns-in-None
returns-in-None g c =
    rw (← c.self.view_is)
    (found_places (λ (ps : Vec ℕ Global). ps.items) c.self.inside.groups.entries (g.Q.Equivalent.equivalent c.args.key) None c.in-None.ensures.value)
