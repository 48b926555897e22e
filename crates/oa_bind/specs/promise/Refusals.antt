-- Results that may be errors, one after another: the first error counts. (This project's choice.)
use Rattle.std.specs.Prelude.{ℕ, ◌+◌, Bool, false, ◌||◌, if◌then◌else◌, List, [], ◌∷◌, Option, Some, None, Result, Ok}
use Rattle.std.specs.Prelude.{Err}
use Rattle.oa_model.specs.declared.hresult.HResult.{HResult}
use Rattle.oa_bind.specs.declared.fault.BindFault.{BindFault}

infixl 10 ◌>>=◌
abbrev pub ◌>>=◌ : {A B : Type 0} → Result A BindFault → (A → Result B BindFault) → Result B BindFault
Ok x >>= f = f x
Err e >>= f = Err e

-- An error about no argument.
abbrev pub bind_fault : {A : Type 0} → HResult → Result A BindFault
bind_fault code = Err (record { code = code; index = None })

-- An error about the argument at an index of rgvarg.
abbrev pub refused_at : {A : Type 0} → HResult → ℕ → Result A BindFault
refused_at code i = Err (record { code = code; index = Some i })

-- The error with this code, if the flag is true.
abbrev pub bind_fault_if : HResult → Bool → Result (Unit {0}) BindFault
bind_fault_if code bad = if bad then bind_fault code else Ok tt

-- The error with this code about the argument at an index, if there is one.
abbrev pub unless_at : HResult → Option ℕ → Result (Unit {0}) BindFault
unless_at code None = Ok tt
unless_at code (Some i) = refused_at code i

-- For the entries of a list with their places, of which the first place is given: the test passes for one of them.
unfoldable pub any_at : {X : Type 0} → (ℕ → X → Bool) → ℕ → List X → Bool
any_at test place [] = false
any_at test place (x ∷ xs) = test place x || any_at test (place + 1) xs

-- For these entries and places: their results in order, or the first error among them.
unfoldable pub each_at : {X Y : Type 0} → (ℕ → X → Result Y BindFault) → ℕ → List X → Result (List Y) BindFault
each_at answer place [] = Ok []
each_at answer place (x ∷ xs) = answer place x >>= λ y. each_at answer (place + 1) xs >>= λ ys. Ok (y ∷ ys)
