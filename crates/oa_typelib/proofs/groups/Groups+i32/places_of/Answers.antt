use Rattle.std.proofs.Common.{◌≡◌, ℕ, ℤ, Some, Vec, Global, SFits, to_z, ap, sym, subst, ◌∙◌, rules}
use Rattle.std.specs.Int.{w32}
use Rattle.std.specs.Map.{lookup}
use Rattle.std.specs.Ordering.{int_eq}
use Rattle.std.proofs.lemmas.Int.{to_z-of_z}
use Rattle.oa_typelib.proofs.Entries.{own_places}
use Rattle.oa_typelib.proofs.groups.Groups+i32.places_of.Goals as goal

pub returns-then-key-id : goal.returns-then-key-id
returns-then-key-id c =
    let fits : SFits w32 c.in-Some.key.now = search rules in
    let own : SFits w32 c.args.id = search rules in
    let same : c.in-Some.key.now ≡ c.args.id = sym (to_z-of_z w32 c.in-Some.key.now fits) ∙ ap (to_z w32) c.if-key-id.true ∙ to_z-of_z w32 c.args.id own in
    let found = subst (λ (id : ℤ). lookup (int_eq id) c.self.inside.groups.entries ≡ Some c.in-Some.places.now) same c.in-Some.ensures.value in
    rw (← c.self.view_is)
    (c.as_slice.ensures.value ∙ own_places (λ (ps : Vec ℕ Global). ps.items) c.self.inside.groups.entries (int_eq c.args.id) c.in-Some.places.now found)
