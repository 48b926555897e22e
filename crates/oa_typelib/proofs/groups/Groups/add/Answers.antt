use Rattle.std.proofs.Common.{ℕ, List, ◌++◌, ◌∷◌, [], ◌∙◌, ap, Vec, Global}
use Rattle.indexmap.specs.IndexMap.{insert_entry}
use Rattle.oa_typelib.specs.Groups.{GroupsValue}
use Rattle.oa_typelib.proofs.Entries.{keys_stay, place_added, key_new, place_new}
use Rattle.oa_typelib.proofs.groups.Groups.add.Goals as goal
use Rattle.oa_typelib.proofs.groups.Groups.add.Goals.{in-Some-1, in-None-1}

pub returns-in_ok-push-in-Some-clause-keys : goal.returns-in_ok-push-in-Some-clause-keys
returns-in_ok-push-in-Some-clause-keys g c =
    rw (← c.self.view_is)
    (keys_stay (λ (ps : Vec ℕ Global). ps.items) c.self.inside.groups.entries g.K.PartialEq.eq c.args.key (c.get_mut.follows.lender c.push.new.self).entries
    c.in-Some.places.now c.push.new.self c.in-Some.ensures.value (c.get_mut.follows.holds c.push.new.self).0)

pub returns-in_ok-push-in-Some-clause-places : goal.returns-in_ok-push-in-Some-clause-places
returns-in_ok-push-in-Some-clause-places g c =
    rw (← c.self.view_is)
    (place_added (λ (ps : Vec ℕ Global). ps.items) c.self.inside.groups.entries g.K.PartialEq.eq c.args.key (c.get_mut.follows.lender c.push.new.self).entries
    c.in-Some.places.now c.push.new.self c.in-Some.ensures.value (c.get_mut.follows.holds c.push.new.self).0 c.args.place c.in_ok-push-in-Some.ensures.items)

pub returns-in_ok-insert-in-None-clause-keys : goal.returns-in_ok-insert-in-None-clause-keys
returns-in_ok-insert-in-None-clause-keys g c =
    let first = c.push-in-None.new.self in
    let is = c.in_ok-insert-in-None.ensures.entries ∙ ap (λ m. insert_entry g.K.PartialEq.eq m.entries c.args.key first) c.get_mut.follows.holds-at-none in
    let new = key_new (λ (ps : Vec ℕ Global). ps.items) c.self.inside.groups.entries g.K.PartialEq.eq c.args.key c.insert.new.self.entries first is in
    rw (← c.self.view_is)
    (elim c.match-branch-4.branch [
      | in-Some-1 w ↦ ap (λ (v : GroupsValue g.row.K.Denot). v.keys) w.self-is ∙ new
      | in-None-1 w ↦ ap (λ (v : GroupsValue g.row.K.Denot). v.keys) w.self-is ∙ new
    ])

pub returns-in_ok-insert-in-None-clause-places : goal.returns-in_ok-insert-in-None-clause-places
returns-in_ok-insert-in-None-clause-places g c =
    let f = λ (ps : Vec ℕ Global). ps.items in
    let first = c.push-in-None.new.self in
    let is = c.in_ok-insert-in-None.ensures.entries ∙ ap (λ m. insert_entry g.K.PartialEq.eq m.entries c.args.key first) c.get_mut.follows.holds-at-none in
    let one = c.in_ok-push-in-None.ensures.items ∙ ap (λ (ns : List ℕ). ns ++ c.args.place ∷ []) c.new-first.ensures.items in
    let new = place_new f c.self.inside.groups.entries g.K.PartialEq.eq c.args.key c.insert.new.self.entries first is c.args.place c.in-None.ensures.value
    one in
    rw (← c.self.view_is)
    (elim c.match-branch-4.branch [
      | in-Some-1 w ↦ ap (λ (v : GroupsValue g.row.K.Denot). v.places) w.self-is ∙ new
      | in-None-1 w ↦ ap (λ (v : GroupsValue g.row.K.Denot). v.places) w.self-is ∙ new
    ])
