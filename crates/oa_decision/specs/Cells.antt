-- Definitions for contracts and proofs, beside promise/Cells.
use Rattle.std.specs.Prelude.{◌≡◌, ℤ, ◌==◌, ◌&&◌, is_none, if◌then◌else◌, [], Result, Ok, Err}
use Rattle.oa_model.specs.promise.Codes.{e_outofmemory}
use Rattle.oa_bind.specs.declared.fault.BindFault.{BindFault}
use Rattle.oa_idl.specs.promise.Values.{InterfaceValue}
use Rattle.oa_model.specs.declared.var_type.ValueType.{ValueType}
use Rattle.oa_typelib.specs.declared.access.Access.{Access}
use Rattle.oa_typelib.specs.declared.access.Kind.{Kind}
use Rattle.oa_typelib.specs.promise.MemberValues.{MemberValue}
use Rattle.oa_typelib.specs.promise.Members.{member_in}
use Rattle.oa_decision.specs.declared.decision.DecideError.{DecideError}
use Rattle.oa_decision.specs.declared.decision.DecideError.TheVariants.{Refused, OutOfMemory}
use Rattle.oa_decision.specs.declared.refusal.Refusal.{Refusal}
use Rattle.oa_decision.specs.promise.Cells.{member_found, as_refusal}

-- the member is a property without parameters, with values of this type, and has the required form
pub record IsKeyless (interface : InterfaceValue) (dispid : ℤ) (access : Access) (declared : ValueType)
    (form : Kind) : Type 0 where
  pub member : MemberValue
  pub found : member_found (member_in interface dispid access) ≡ Ok (member, form)
  pub typed : member.value_type ≡ declared
  pub keyless : member.parameters ≡ []

-- binding reports out of memory by a code without an index; then nothing is decided
abbrev pub undecided : BindFault → DecideError
undecided fault = if fault.code.0 == e_outofmemory.0 && is_none fault.index then OutOfMemory
    else Refused (as_refusal fault)

-- What is defined is found, or out of memory is returned if an allocation may be needed.
abbrev pub FindsDue : {A : Type 0} → Result A Refusal → Type 0 → Result A DecideError → Type 0
FindsDue due takes (Ok found) = due ≡ Ok found
FindsDue due takes (Err (Refused refusal)) = due ≡ Err refusal
FindsDue due takes (Err OutOfMemory) = takes
