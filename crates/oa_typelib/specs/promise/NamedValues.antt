-- The reply to a look-up of names, as contracts see it.
use Rattle.std.specs.Prelude.{ℤ, Bool, List}

-- A DISPID for each name, -1 (DISPID_UNKNOWN) for an unknown one, and whether all names are known.
pub record DispIdsValue : Type 0 where
  pub ids : List ℤ
  pub all_known : Bool
