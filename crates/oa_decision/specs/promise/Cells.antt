-- The cell of a property that a call addresses, or the first refusal (MS-OAUT section 3.1.4.4; the order of the
-- refusals is this project's choice). An INVOKE reads or puts such a cell, and requests on an array's elements or
-- locks act on one.
use Rattle.std.specs.Prelude.{◌≡◌, ℕ, List, Result, Ok, Err}
use Rattle.oa_bind.specs.declared.fault.BindFault.{BindFault}
use Rattle.oa_bind.specs.promise.Bindings.{BindingTakesMemory, bound_to}
use Rattle.oa_bind.specs.promise.Calls.{BoundCallValue}
use Rattle.oa_idl.specs.promise.Values.{InterfaceValue}
use Rattle.oa_record.specs.declared.request.Call.{Call}
use Rattle.oa_record.specs.declared.request.CallHead.{CallHead}
use Rattle.oa_table.specs.declared.name.CellName.{CellName}
use Rattle.oa_table.specs.promise.Places.{PlaceValue}
use Rattle.oa_typelib.specs.declared.access.Access.{Access}
use Rattle.oa_typelib.specs.declared.access.Access.TheVariants as accesses
use Rattle.oa_typelib.specs.declared.access.Kind.{Kind}
use Rattle.oa_typelib.specs.declared.access.Kind.TheVariants as forms
use Rattle.oa_typelib.specs.declared.access.MemberFault.{MemberFault}
use Rattle.oa_typelib.specs.promise.MemberCodes.{member_code}
use Rattle.oa_typelib.specs.promise.MemberValues.{MemberValue}
use Rattle.oa_typelib.specs.promise.Members.{member_in}
use Rattle.oa_decision.specs.declared.refusal.Refusal.{Refusal}
use Rattle.oa_decision.specs.declared.decider.cell.BoundCell.{BoundCell}
use Rattle.oa_decision.specs.promise.Interfaces.{interface_found}
use Rattle.oa_decision.specs.promise.Refusals.{◌>>=◌, refused}
use Rattle.oa_decision.specs.promise.States.{State}

-- a member, or why a call addresses none
abbrev pub member_found : Result (MemberValue × Kind) MemberFault → Result (MemberValue × Kind) Refusal
member_found (Ok found) = Ok found
member_found (Err fault) = refused (member_code fault)

-- the form in which arguments are bound: the member's form that an INVOKE's flags ask for; for other requests a get,
-- whatever form the member must have
abbrev pub bound_as : Access → Kind → Kind
bound_as (accesses.Flags flags) form = form
bound_as accesses.Get form = forms.Get
bound_as accesses.Put form = forms.Get

-- the bound arguments, or why they cannot be bound
abbrev pub as_refusal : BindFault → Refusal
as_refusal fault = record { code = fault.code; index = fault.index }

abbrev pub call_found : Result BoundCallValue BindFault → Result BoundCallValue Refusal
call_found (Ok bound) = Ok bound
call_found (Err fault) = Err (as_refusal fault)

abbrev pub place_of : List ℕ → CallHead → BoundCallValue → PlaceValue
place_of interface head bound = record { interface = interface; dispid = head.dispid; key = bound.key }

abbrev pub called_cell : List ℕ → CallHead → BoundCallValue → CellName
called_cell interface head bound = record { object = head.object; place = place_of interface head bound }

-- the object, its interface, riid; the member, in the requested form; the arguments
unfoldable pub cell_called : State → Call → Access → Result BoundCell Refusal
cell_called state call access = do
  interface ← interface_found state call.head.object call.head.interface call.head.riid
  found ← member_found (member_in interface call.head.dispid access)
  bound ← call_found
      (bound_to found.0 (bound_as access found.1) (record { named = call.named; arguments = call.arguments }))
  Ok (record { name = called_cell interface.guid call.head bound; declared = found.0.value_type; value = bound.value })

-- Finding a cell allocates if its arguments need memory: then the object, its interface, riid and the member have
-- been found.
pub record FindingTakesMemory (state : State) (call : Call) (access : Access) : Type 0 where
  pub interface : InterfaceValue
  pub member : MemberValue
  pub form : Kind
  pub reached : interface_found state call.head.object call.head.interface call.head.riid ≡ Ok interface
  pub found : member_found (member_in interface call.head.dispid access) ≡ Ok (member, form)
  pub binding : BindingTakesMemory member.parameters member.value_type (bound_as access form)
      (record { named = call.named; arguments = call.arguments })
