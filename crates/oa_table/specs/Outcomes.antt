-- Definitions for contracts and proofs, beside promise/Outcomes.
use Rattle.std.specs.Prelude.{◌≡◌, ℕ, Result, Ok, Err, IsOk}
use Rattle.oa_table.specs.declared.fault.TableFault.{TableFault}
use Rattle.oa_table.specs.declared.fault.TableFault.TheVariants.{Memory}

-- the refusal is the one that applies; out of memory may replace only a change
abbrev pub Because : {T : Type 0} → Result T TableFault → TableFault → Type 0
Because due Memory = IsOk due
Because due fault = due ≡ Err fault

-- The change is made as it applies, or it is returned and nothing changes.
abbrev pub Does : {E T U : Type 0} → E → Result T TableFault → T → T → Result U (E × TableFault) → Type 0
Does change due old new (Ok u) = due ≡ Ok new
Does change due old new (Err (back, fault)) = (back ≡ change) × (new ≡ old) × Because due fault

-- A change of locks is made as it applies, and the new count is returned; nothing is allocated.
abbrev pub CountsLocks : {T : Type 0} → Result T TableFault → (T → ℕ) → T → T → Result ℕ TableFault → Type 0
CountsLocks due count old new (Ok n) = (due ≡ Ok new) × (n ≡ count new)
CountsLocks due count old new (Err fault) = (due ≡ Err fault) × (new ≡ old)
