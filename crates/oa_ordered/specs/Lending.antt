-- A row after one of its values was borrowed and returned.
use Rattle.std.specs.Prelude.{ℕ, List}
use Rattle.std.specs.Borrow.{Lends, Fml, RattleType, MutBor}
use Rattle.oa_ordered.specs.Rows.{with_value_at}
use Rattle.oa_ordered.specs.contracts.row.Row.{the_row}

-- the value at the place is the last one written through r
abbrev pub lends_value : (K V : RattleType) → MutBor (List (K.Denot × V.Denot)) → ℕ → MutBor V.Denot → Fml
lends_value K V s at r = Lends (the_row K V) V s r (with_value_at s.now at)
