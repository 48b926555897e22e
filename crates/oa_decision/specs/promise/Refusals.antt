-- Results that may be refusals, one after another: the first refusal counts. (This project's choice.)
use Rattle.std.specs.Prelude.{Bool, if◌then◌else◌, Option, Some, None, Result, Ok, Err}
use Rattle.oa_model.specs.declared.hresult.HResult.{HResult}
use Rattle.oa_decision.specs.declared.refusal.Refusal.{Refusal}

infixl 10 ◌>>=◌
abbrev pub ◌>>=◌ : {A B : Type 0} → Result A Refusal → (A → Result B Refusal) → Result B Refusal
Ok x >>= f = f x
Err e >>= f = Err e

-- a refusal that refers to no argument
abbrev pub refused : {A : Type 0} → HResult → Result A Refusal
refused code = Err (record { code = code; index = None })

abbrev pub known : {A : Type 0} → HResult → Option A → Result A Refusal
known code None = refused code
known code (Some x) = Ok x

abbrev pub unless : HResult → Bool → Result (Unit {0}) Refusal
unless code bad = if bad then refused code else Ok tt
