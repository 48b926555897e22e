-- The cell that a call names, where its interface, its member and its arguments are found.
use Rattle.std.proofs.Common.{◌≡◌, Ok, refl, sym}
use Rattle.oa_bind.specs.promise.Bindings.{bound_to}
use Rattle.oa_bind.specs.promise.Calls.{BoundCallValue}
use Rattle.oa_idl.specs.promise.Values.{InterfaceValue}
use Rattle.oa_record.specs.declared.request.Call.{Call}
use Rattle.oa_typelib.specs.promise.MemberValues.{MemberValue}
use Rattle.oa_typelib.specs.promise.Members.{member_in}
use Rattle.oa_typelib.specs.declared.access.Access.{Access}
use Rattle.oa_typelib.specs.declared.access.Kind.{Kind}
use Rattle.oa_decision.specs.promise.Cells.{bound_as, call_found, cell_called, member_found, called_cell}
use Rattle.oa_decision.specs.promise.Interfaces.{interface_found}
use Rattle.oa_decision.specs.promise.States.{State}

pub cell_found : (state : State) (call : Call) (access : Access) (interface : InterfaceValue) (member : MemberValue) (form : Kind) (bound : BoundCallValue)
    → interface_found state call.head.object call.head.interface call.head.riid ≡ Ok interface
    → Ok (member, form) ≡ member_found (member_in interface call.head.dispid access)
    → call_found (bound_to member (bound_as access form) (record { named = call.named; arguments = call.arguments })) ≡ Ok bound
    → cell_called state call access ≡ Ok (record { name = called_cell interface.guid call.head bound; declared = member.value_type; value = bound.value })
unfolding cell_called
cell_found state call access interface member form bound is found at = rw (is, sym found, at) refl
