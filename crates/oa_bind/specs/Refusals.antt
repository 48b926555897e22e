-- Definitions for contracts and proofs, beside promise/Refusals.
use Rattle.std.specs.Prelude.{◌≡◌, ◌⊎◌, None, Result, Ok, Err}
use Rattle.oa_model.specs.promise.Codes.{e_outofmemory}
use Rattle.oa_bind.specs.declared.fault.BindFault.{BindFault}

-- The error of a failed allocation.
abbrev pub lacks_memory : BindFault
lacks_memory = record { code = e_outofmemory; index = None }

-- The result of a call is right: it is this one, seen through `shown`, or a failed allocation.
abbrev pub BindsAs : {A B : Type 0} → (A → B) → Result B BindFault → Result A BindFault → Type 0
BindsAs shown answer (Ok x) = answer ≡ Ok (shown x)
BindsAs shown answer (Err fault) = (fault ≡ lacks_memory) ⊎ (answer ≡ Err fault)
