-- A map after one of its values was borrowed and returned.
use Rattle.std.specs.Prelude.{◌≡◌, Bool, List}
use Rattle.std.specs.declared.cmp.Ordering.{Ordering}
use Rattle.std.specs.declared.option.Option.{Option}
use Rattle.std.specs.Borrow.{LendsSo, Fml, RattleType, MutBor}
use Rattle.std.specs.BTreeMap.{is_at}
use Rattle.std.specs.Map.{set_value}
use Rattle.oa_ordered.specs.contracts.map.OrderedMap.{the_row}
use Rattle.oa_ordered.specs.contracts.branch.Branch as branch

-- the members of K.Ord in a clause
abbrev pub OrdMembers : Type 0 → Type 0
OrdMembers K = record { partial_cmp : K → K → Option Ordering; eq : K → K → Bool; cmp : K → K → Ordering }

-- the key's value is the last one written through r, and at `None` the map does not change
abbrev pub lends_get : (K V : RattleType) (o : OrdMembers K.Denot) → MutBor (List (K.Denot × V.Denot)) → K.Denot
    → Option (MutBor V.Denot) → Fml
lends_get K V o m key r =
    LendsSo (the_row K V (record { cmp = o.cmp }) (record { eq = o.eq }) (record { partial_cmp = o.partial_cmp })) V m r
    (λ n w. n ≡ set_value (is_at (o.cmp key)) m.now w) (λ n. n ≡ m.now)

-- the same for a branch
abbrev pub lends_in_branch : (K V : RattleType) (o : OrdMembers K.Denot) → MutBor (List (K.Denot × V.Denot)) → K.Denot
    → Option (MutBor V.Denot) → Fml
lends_in_branch K V o m key r =
    LendsSo (branch.the_row K V) V m r (λ n w. n ≡ set_value (is_at (o.cmp key)) m.now w) (λ n. n ≡ m.now)
