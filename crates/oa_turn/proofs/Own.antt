-- No step answers a code that tells of the device.
use Rattle.std.proofs.Common.{◌≡◌, ◌-◌, inl, inr, ℕ, ◌+◌, Bool, true, false, if◌then◌else◌, List, [], ◌∷◌, Option, Some, None, Result, Ok, Err}
use Rattle.std.proofs.Common.{refl, sym, ap, ◌∙◌}
use Rattle.std.specs.Prelude.{ℤ, nat_lt, ⊤, length}
use Rattle.oa_image.specs.promise.Tables.{reserved_bytes}
use Rattle.oa_model.specs.promise.Limits.{max_event_bytes}
use Rattle.oa_array.specs.promise.Arrays.{ArrayValue, array_element}
use Rattle.oa_array.specs.promise.Faults.{array_code}
use Rattle.oa_array.specs.declared.fault.ArrayFault.{ArrayFault}
use Rattle.oa_array.specs.declared.fault.ArrayFault.TheVariants as arrays
use Rattle.oa_bind.specs.promise.Bindings as bindings
use Rattle.oa_bind.specs.promise.Calls.{BoundCallValue}
use Rattle.oa_bind.specs.promise.Given.{Given, argument_for, given_argument, by_position, argument_index, new_value_id}
use Rattle.oa_bind.specs.promise.Names.{complete, well_named, is_consistent, lacks, most, names_none}
use Rattle.oa_bind.specs.promise.Refusals as binding
use Rattle.oa_bind.specs.declared.fault.BindFault.{BindFault}
use Rattle.oa_coerce.specs.promise.Refusals.{coercion_code}
use Rattle.oa_coerce.specs.declared.fault.CoerceFault.{CoerceFault}
use Rattle.oa_coerce.specs.declared.fault.CoerceFault.TheVariants as coercions
use Rattle.oa_model.specs.declared.hresult.HResult.{HResult}
use Rattle.oa_model.specs.declared.var_type.ValueType.{ValueType}
use Rattle.oa_model.specs.declared.var_type.ValueType.TheVariants as kinds
use Rattle.oa_model.specs.declared.var_type.VarType.{VarType}
use Rattle.oa_record.specs.declared.request.Call.{Call}
use Rattle.oa_record.specs.declared.request.GetIds.{GetIds}
use Rattle.oa_record.specs.declared.request.Request.{Request}
use Rattle.oa_record.specs.declared.request.Request.TheVariants as requests
use Rattle.oa_record.specs.declared.opcode.ByCall.TheVariants as by_call
use Rattle.oa_record.specs.declared.opcode.ByNumber.TheVariants as by_number
use Rattle.oa_record.specs.promise.Replies.{ReplyValue}
use Rattle.oa_table.specs.declared.event.Event.{Event}
use Rattle.oa_table.specs.declared.event.Event.TheVariants as events
use Rattle.oa_table.specs.declared.fault.TableFault.{TableFault}
use Rattle.oa_table.specs.declared.fault.TableFault.TheVariants as tables
use Rattle.oa_table.specs.promise.Elements.{redimensioned_value}
use Rattle.oa_table.specs.promise.Events.{applied}
use Rattle.oa_table.specs.promise.Faults.{table_code}
use Rattle.oa_table.specs.promise.Tables.{TableValue, class_in, object_at}
use Rattle.oa_typelib.specs.declared.access.Access.{Access}
use Rattle.oa_typelib.specs.declared.access.Access.TheVariants as accesses
use Rattle.oa_typelib.specs.declared.access.Kind.{Kind}
use Rattle.oa_typelib.specs.declared.access.Kind.TheVariants as forms
use Rattle.oa_typelib.specs.declared.access.MemberFault.{MemberFault}
use Rattle.oa_typelib.specs.declared.access.MemberFault.TheVariants as members
use Rattle.oa_typelib.specs.promise.MemberValues.{MemberValue}
use Rattle.oa_variant.specs.declared.scalar.Scalar.{Scalar}
use Rattle.oa_variant.specs.declared.variant.Variant.{Variant}
use Rattle.oa_variant.specs.declared.variant.Variant.TheVariants as variants
use Rattle.std.specs.Prelude.{not}
use Rattle.std.specs.List.{position_from}
use Rattle.oa_array.specs.promise.Within.{in_bounds}
use Rattle.oa_bind.specs.promise.Refusals.{any_at, each_at}
use Rattle.oa_coerce.specs.promise.Answers.{coerced, coerced_scalar}
use Rattle.oa_idl.specs.declared.parts.Parameter.{Parameter}
use Rattle.oa_image.specs.promise.Sizes.{event_size}
use Rattle.oa_table.specs.promise.Sizes.{table_size}
use Rattle.oa_model.specs.promise.Codes.{disp_e_badindex, disp_e_badparamcount, disp_e_paramnotfound}
use Rattle.oa_model.specs.promise.Codes.{disp_e_paramnotoptional, disp_e_unknowninterface, disp_e_unknownname}
use Rattle.oa_model.specs.promise.Codes.{e_invalidarg, e_nointerface, e_unexpected, regdb_e_classnotreg}
use Rattle.oa_model.specs.promise.Codes.{rpc_e_disconnected, s_ok, stg_e_mediumfull}
use Rattle.oa_record.specs.promise.Asks.{tag_at}
use Rattle.oa_sema.specs.promise.Libraries.{class_of, selected_in}
use Rattle.oa_typelib.specs.promise.Members.{member_in}
use Rattle.oa_variant.specs.promise.Variants.{zero_value}
use Rattle.uuid.specs.Parts.{is_nil_bytes}
use Rattle.oa_decision.specs.promise.Cells.{bound_as, call_found, cell_called, member_found}
use Rattle.oa_decision.specs.promise.Create.{class_found, fitting, is_used_up}
use Rattle.oa_decision.specs.promise.Invoke.{acting}
use Rattle.oa_decision.specs.promise.TypeInfo.{description_of}
use Rattle.oa_decision.specs.declared.decision.Decision.{Decision}
use Rattle.oa_decision.specs.declared.decision.Decision.TheVariants.{Answer, Change, Relock}
use Rattle.oa_decision.specs.declared.decider.cell.BoundCell.{BoundCell}
use Rattle.oa_decision.specs.declared.refusal.Refusal.{Refusal}
use Rattle.oa_decision.specs.promise.ArrayCells as array_cells
use Rattle.oa_turn.specs.promise.Steps.{changed, outcome_of, relocked, relocking, reply_to}
use Rattle.oa_decision.specs.promise.Interfaces.{interface_found}
use Rattle.oa_decision.specs.promise.Limits.{allowed, limited, within_limits}
use Rattle.oa_decision.specs.promise.LookUps.{ids_found}
use Rattle.oa_turn.specs.OwnCodes.{is_own}
use Rattle.oa_decision.specs.promise.PutElement.{element_for}
use Rattle.oa_decision.specs.promise.Redimension.{resizing, zero_with}
use Rattle.oa_decision.specs.promise.Refusals.{◌>>=◌, known, unless}
use Rattle.oa_decision.specs.promise.States.{State}
use Rattle.oa_decision.specs.promise.Decided.{decided}
use Rattle.oa_compat.specs.promise.Keeps.{first_lost}
use Rattle.oa_compat.specs.declared.lost.Incompatibility.{Incompatibility}
use Rattle.oa_turn.specs.promise.Replacing.{Replacement, replacement_reply}
use Rattle.oa_turn.specs.promise.Turns.{Ordinary, Turn}

-- a refusal's code is own
abbrev Own : {A : Type 0} → Result A Refusal → Type 0
Own (Ok x) = ⊤
Own (Err r) = is_own r.code ≡ true

abbrev OwnBind : {A : Type 0} → Result A BindFault → Type 0
OwnBind (Ok x) = ⊤
OwnBind (Err fault) = is_own fault.code ≡ true

-- so is a decided one
abbrev OwnAnswer : Decision → Type 0
OwnAnswer (Answer code fields) = is_own code ≡ true
OwnAnswer (Change event fields) = ⊤
OwnAnswer (Relock change fields) = ⊤

abbrev OwnDecision : Result Decision Refusal → Type 0
OwnDecision (Ok decision) = OwnAnswer decision
OwnDecision (Err r) = is_own r.code ≡ true

then_own : {A B : Type 0} (a : Result A Refusal) (f : A → Result B Refusal) → Own a → ((x : A) → Own (f x)) → Own (a >>= f)
then_own (Ok x) f one two = two x
then_own (Err r) f one two = one

then_decides : {A : Type 0} (a : Result A Refusal) (f : A → Result Decision Refusal) → Own a → ((x : A) → OwnDecision (f x)) → OwnDecision (a >>= f)
then_decides (Ok x) f one two = two x
then_decides (Err r) f one two = one

bind_then : {A B : Type 0} (a : Result A BindFault) (f : A → Result B BindFault) → OwnBind a → ((x : A) → OwnBind (f x)) → OwnBind (binding.◌>>=◌ a f)
bind_then (Ok x) f one two = two x
bind_then (Err r) f one two = one

known_own : {A : Type 0} (code : HResult) (o : Option A) → is_own code ≡ true → Own (known code o)
known_own code None own = own
known_own code (Some x) own = tt

unless_own : (code : HResult) (bad : Bool) → is_own code ≡ true → Own (unless code bad)
unless_own code true own = own
unless_own code false own = tt

bind_unless : (code : HResult) (bad : Bool) → is_own code ≡ true → OwnBind (binding.bind_fault_if code bad)
bind_unless code true own = own
bind_unless code false own = tt

bind_unless_at : (code : HResult) (o : Option ℕ) → is_own code ≡ true → OwnBind (binding.unless_at code o)
bind_unless_at code None own = tt
bind_unless_at code (Some i) own = own

abbrev err : HResult → Result TableValue HResult
err code = Err code

-- the codes of the crates below
coerce_own : (fault : CoerceFault) → is_own (coercion_code fault) ≡ true
coerce_own coercions.Overflow = refl
coerce_own coercions.TypeMismatch = refl
coerce_own coercions.Memory = refl

array_own : (fault : ArrayFault) → is_own (array_code fault) ≡ true
array_own arrays.BadIndex = refl
array_own arrays.TypeMismatch = refl
array_own arrays.IsLocked = refl
array_own arrays.InvalidArgument = refl
array_own arrays.Unexpected = refl
array_own arrays.Memory = refl

table_own : (fault : TableFault) → is_own (table_code fault) ≡ true
table_own tables.NoObject = refl
table_own tables.WrongNumber = refl
table_own tables.NotArray = refl
table_own (tables.Array fault) = array_own fault
table_own tables.Memory = refl

-- binding
told_own : {A : Type 0} (i : ℕ) (r : Result A CoerceFault) → OwnBind (bindings.told_of_argument i r)
told_own i (Ok x) = tt
told_own i (Err fault) = coerce_own fault

value_own : (t : VarType) (i : ℕ) (v : Variant) → OwnBind (bindings.value_by_argument t i v)
value_own t i (variants.One s) = told_own i (coerced_scalar s t)
value_own t i (variants.Array a) = refl

parameter_own : (call : Given) (place : ℕ) (p : Parameter) → OwnBind (bindings.parameter_value call place p)
parameter_own call place p = by (argument_for call place)
  where
    by : (o : Option (ℕ × Variant)) → OwnBind (bindings.value_of_parameter p o)
    by None = tt
    by (Some (i, argument)) = value_own (bindings.scalar_type p.value_type) i argument

each_own : {X Y : Type 0} (answer : ℕ → X → Result Y BindFault) → ((place : ℕ) (x : X) → OwnBind (answer place x)) → (place : ℕ) (xs : List X)
    → OwnBind (each_at answer place xs)
unfolding each_at
each_own answer own place [] = tt
each_own answer own place (x ∷ xs) =
    bind_then (answer place x) _ (own place x) (λ y. bind_then (each_at answer (place + 1) xs) _ (each_own answer own (place + 1) xs) (λ ys. tt))

new_own : (call : Given) (declared : ValueType) (kind : Kind) → OwnBind (bindings.given_new_value call declared kind)
new_own call declared forms.Get = tt
new_own call declared forms.Put = by i (given_argument i call.arguments)
  where
    i : Option ℕ
    i = argument_index call.named (length call.arguments) new_value_id

    by : (i : Option ℕ) (argument : Option Variant) → OwnBind (bindings.new_value_of declared i argument)
    by None argument = refl
    by (Some i) None = refl
    by (Some i) (Some argument) = bind_then (bindings.told_of_argument i (coerced argument declared)) _ (told_own i (coerced argument declared)) (λ value. tt)

named_own : (parameters : List Parameter) (kind : Kind) (named : List ℤ) (count : ℕ) → OwnBind (well_named parameters kind named count)
unfolding well_named
named_own parameters kind named count = bind_then (unless_consistent) _ (bind_unless e_invalidarg (not (is_consistent kind named count)) refl)
    (λ _. bind_then (binding.bind_fault_if disp_e_badparamcount (nat_lt (most kind parameters) count)) _
    (bind_unless disp_e_badparamcount (nat_lt (most kind parameters) count) refl)
    (λ _. bind_unless_at disp_e_paramnotfound (position_from (names_none (by_position named count) (length parameters)) 0 named) refl))
  where
    unless_consistent : Result (Unit {0}) BindFault
    unless_consistent = binding.bind_fault_if e_invalidarg (not (is_consistent kind named count))

complete_own : (parameters : List Parameter) (call : Given) → OwnBind (complete parameters call)
unfolding complete
complete_own parameters call = bind_unless disp_e_paramnotoptional (any_at (lacks call) 0 parameters) refl

bound_own : (member : MemberValue) (kind : Kind) (call : Given) → OwnBind (bindings.bound_to member kind call)
unfolding bindings.bound_call
bound_own member kind call =
    bind_then (well_named member.parameters kind call.named (length call.arguments)) _ (named_own member.parameters kind call.named (length call.arguments))
    (λ _. bind_then (complete member.parameters call) _ (complete_own member.parameters call)
    (λ _. bind_then (each_at (bindings.parameter_value call) 0 member.parameters) _
    (each_own (bindings.parameter_value call) (parameter_own call) 0 member.parameters)
    (λ key. bind_then (bindings.given_new_value call member.value_type kind) _ (new_own call member.value_type kind) (λ value. tt))))

call_own : (r : Result BoundCallValue BindFault) → OwnBind r → Own (call_found r)
call_own (Ok bound) own = tt
call_own (Err fault) own = own

-- calls
member_own : (r : Result (MemberValue × Kind) MemberFault) → Own (member_found r)
member_own (Ok found) = tt
member_own (Err members.MemberNotFound) = refl
member_own (Err members.NotImplemented) = refl

interface_own : (state : State) (object : ℕ) (interface riid : List ℕ) → Own (interface_found state object interface riid)
unfolding interface_found
interface_own state object interface riid =
    then_own (known rpc_e_disconnected (class_in (object_at object state.table))) _
    (known_own rpc_e_disconnected (class_in (object_at object state.table)) refl)
    (λ class. then_own (known e_nointerface (selected_in state.library class interface)) _
    (known_own e_nointerface (selected_in state.library class interface) refl)
    (λ found. then_own (unless disp_e_unknowninterface (not (is_nil_bytes riid))) _ (unless_own disp_e_unknowninterface (not (is_nil_bytes riid)) refl)
    (λ _. tt)))

cell_own : (state : State) (call : Call) (access : Access) → Own (cell_called state call access)
unfolding cell_called
cell_own state call access =
    then_own (interface_found state call.head.object call.head.interface call.head.riid) _
    (interface_own state call.head.object call.head.interface call.head.riid)
    (λ interface. then_own (member_found (member_in interface call.head.dispid access)) _ (member_own (member_in interface call.head.dispid access))
    (λ found. then_own (call_found (bindings.bound_to found.0 (bound_as access found.1) (record { named = call.named; arguments = call.arguments }))) _
    (call_own (bindings.bound_to found.0 (bound_as access found.1) (record { named = call.named; arguments = call.arguments }))
    (bound_own found.0 (bound_as access found.1) (record { named = call.named; arguments = call.arguments })))
    (λ bound. tt)))

-- arrays in cells
array_of_own : (v : Variant) → Own (array_cells.array_in_value v)
array_of_own (variants.One s) = refl
array_of_own (variants.Array a) = tt

within_own : (index : List ℤ) (array : ArrayValue Scalar) → Own (array_cells.if_in_bounds index array)
within_own index array = unless_own (array_code arrays.BadIndex) (not (in_bounds array.bounds index)) refl

element_own : (index : List ℤ) (v : Variant) → Own (array_cells.element_of index v)
element_own index v = then_own (array_cells.array_in_value v) (array_cells.array_element_at index) (array_of_own v)
    (λ array. then_own (array_cells.if_in_bounds index array) _ (within_own index array)
    (λ _. known_own (array_code arrays.BadIndex) (array_element array index) refl))

type_own : (index : List ℤ) (v : Variant) → Own (array_cells.element_type_of index v)
type_own index v = then_own (array_cells.array_in_value v) (array_cells.element_type_at index) (array_of_own v)
    (λ array. then_own (array_cells.if_in_bounds index array) _ (within_own index array) (λ _. tt))

coerced_own : (r : Result Scalar CoerceFault) → Own (array_cells.told_as_element r)
coerced_own (Ok element) = tt
coerced_own (Err fault) = coerce_own fault

as_element_own : (elem : VarType) (v : Variant) → Own (array_cells.as_element elem v)
as_element_own elem (variants.One s) = coerced_own (coerced_scalar s elem)
as_element_own elem (variants.Array a) = refl

locks_own : (declared : ValueType) (o : Option Variant) → Own (array_cells.array_locks declared o)
locks_own declared (Some v) = then_own (array_cells.array_in_value v) _ (array_of_own v) (λ array. tt)
locks_own (kinds.One t) None = refl
locks_own (kinds.Array t) None = refl

refused_own : {A : Type 0} (r : Result A TableFault) → Own (array_cells.as_refused r)
refused_own (Ok x) = tt
refused_own (Err fault) = table_own fault

-- what an event is refused for
limits_own : (bank : ℕ) (event : Event) (new : TableValue) → (code : HResult) → within_limits bank event new ≡ Err code → is_own code ≡ true
limits_own bank event new code is = by (nat_lt max_event_bytes (event_size event))
    (nat_lt (bank - reserved_bytes) (table_size new)) is
  where
    same : (a b : HResult) → err a ≡ err b → a ≡ b
    same a b e = cc

    by : (long full : Bool) → (if long then Err e_invalidarg else if full then Err stg_e_mediumfull else Ok new) ≡ Err code → is_own code ≡ true
    by true full is = ap is_own (sym (same e_invalidarg code is))
    by false true is = ap is_own (sym (same stg_e_mediumfull code is))
    by false false is = absurd cc

allowed_own : (bank : ℕ) (event : Event) (table : TableValue) (code : HResult) → allowed bank event table ≡ Err code → is_own code ≡ true
allowed_own bank event table code is = by (applied event table) is
  where
    same : (a b : HResult) → err a ≡ err b → a ≡ b
    same a b e = cc

    by : (due : Result TableValue TableFault) → limited bank event due ≡ Err code → is_own code ≡ true
    by (Ok new) is = limits_own bank event new code is
    by (Err fault) is = ap is_own (sym (same (table_code fault) code is)) ∙ table_own fault

ids_own : (state : State) (call : GetIds) → Own (ids_found state call)
unfolding ids_found
ids_own state call = then_own (interface_found state call.object call.interface call.riid) _ (interface_own state call.object call.interface call.riid)
    (λ interface. tt)

-- what is decided
decided_own : (state : State) (request : Request) → OwnDecision (decided state request)
decided_own state (requests.Create class) =
    then_decides (class_found state class) _
    (then_own (known regdb_e_classnotreg (class_of state.library class)) _ (known_own regdb_e_classnotreg (class_of state.library class) refl)
    (λ _. unless_own e_unexpected (is_used_up state.table) refl))
    (λ _. then_decides (fitting (allowed state.bank (events.Create state.table.next class) state.table)) _
    (fits (allowed state.bank (events.Create state.table.next class) state.table) refl) (λ _. tt))
  where
    fits : (due : Result TableValue HResult) → allowed state.bank (events.Create state.table.next class) state.table ≡ due → Own (fitting due)
    fits (Ok table) is = tt
    fits (Err code) is = allowed_own state.bank (events.Create state.table.next class) state.table code is
decided_own state (requests.ByNumber by_number.Release number) = tt
decided_own state (requests.GetIds call) = then_decides (ids_found state call) _ (ids_own state call) (λ ids. told ids.all_known)
  where
    told : (known : Bool) → is_own (if known then s_ok else disp_e_unknownname) ≡ true
    told true = refl
    told false = refl
decided_own state (requests.ByCall by_call.Invoke call) = then_decides (cell_called state call (accesses.Flags call.head.flags)) _
    (cell_own state call (accesses.Flags call.head.flags)) (λ cell. acted cell cell.value)
  where
    acted : (cell : BoundCell) (value : Option Variant) → OwnAnswer (acting state cell.name cell.declared value)
    acted cell None = refl
    acted cell (Some value) = tt
decided_own state (requests.GetElement call index) = then_decides (cell_called state call accesses.Get) _ (cell_own state call accesses.Get)
    (λ cell. then_decides (array_cells.element_in state index cell) _ (element_own index (array_cells.value_in state cell.name cell.declared))
    (λ element. refl))
decided_own state (requests.PutElement call index value) = then_decides (cell_called state call accesses.Put) _ (cell_own state call accesses.Put)
    (λ cell. then_decides (element_for state index value cell) _
    (then_own (array_cells.element_type_in state index cell) _ (type_own index (array_cells.value_in state cell.name cell.declared))
    (λ elem. as_element_own elem value))
    (λ element. tt))
decided_own state (requests.Redimension call bound) = then_decides (cell_called state call accesses.Put) _ (cell_own state call accesses.Put)
    (λ cell. by cell (array_cells.put_in state cell.name))
  where
    by : (cell : BoundCell) (o : Option Variant) → OwnDecision (resizing cell.name cell.declared bound o)
    by cell None = then_decides (zero_with bound cell.declared) _ (refused_own (redimensioned_value bound (zero_value cell.declared))) (λ value. tt)
    by cell (Some value) = tt
decided_own state (requests.ByCall by_call.Lock call) = then_decides (cell_called state call accesses.Get) _ (cell_own state call accesses.Get)
    (λ cell. then_decides (array_cells.locks_found state cell) _ (locks_own cell.declared (array_cells.put_in state cell.name)) (λ locks. tt))
decided_own state (requests.ByCall by_call.Unlock call) = then_decides (cell_called state call accesses.Get) _ (cell_own state call accesses.Get)
    (λ cell. then_decides (array_cells.locks_found state cell) _ (locks_own cell.declared (array_cells.put_in state cell.name)) (λ locks. tt))
decided_own state (requests.ByNumber by_number.TypeInfo index) = then_decides (known disp_e_badindex (description_of state index)) _
    (known_own disp_e_badindex (description_of state index) refl) (λ description. refl)
decided_own state (requests.Query query) = refl

outcome_own : (state : State) (due : Result Decision Refusal) → OwnDecision due → is_own (outcome_of state due).code ≡ true
outcome_own state (Err r) own = own
outcome_own state (Ok (Answer code fields)) own = own
outcome_own state (Ok (Change event fields)) own = by (allowed state.bank event state.table) refl
  where
    by : (due : Result TableValue HResult) → allowed state.bank event state.table ≡ due → is_own (changed event fields due).code ≡ true
    by (Ok table) is = refl
    by (Err code) is = allowed_own state.bank event state.table code is
outcome_own state (Ok (Relock change fields)) own = by (relocked change state.table)
  where
    by : (due : Result TableValue TableFault) → is_own (relocking change fields due).code ≡ true
    by (Ok table) = refl
    by (Err fault) = table_own fault

pub step_own : (state : State) (tag : ℕ) (request : Request) → is_own (reply_to state tag request).code ≡ true
step_own state tag request = outcome_own state (decided state request) (decided_own state request)

ordinary_own : (old : State) (body : List ℕ) (reply : ReplyValue) (new : State) → Ordinary old body reply new → is_own reply.code ≡ true
ordinary_own old body reply new (inl it) = ap (λ (r : ReplyValue). is_own r.code) it.answers ∙ step_own old (tag_at body) it.request
ordinary_own old body reply new (inr (inl it)) = ap (λ (r : ReplyValue). is_own r.code) it.answers
ordinary_own old body reply new (inr (inr (inl it))) = ap (λ (r : ReplyValue). is_own r.code) it.answers
ordinary_own old body reply new (inr (inr (inr it))) = ap (λ (r : ReplyValue). is_own r.code) it.answers

lost_own : (tag : ℕ) (lost : Option Incompatibility) → is_own (replacement_reply tag lost).code ≡ true
lost_own tag None = refl
lost_own tag (Some lost) = refl

replacement_own : (old : State) (body : List ℕ) (reply : ReplyValue) (new : State) → Replacement old body reply new → is_own reply.code ≡ true
replacement_own old body reply new (inl it) = ap (λ (r : ReplyValue). is_own r.code) it.answers ∙ lost_own (tag_at body) (first_lost it.library old.library)
replacement_own old body reply new (inr (inl it)) = ap (λ (r : ReplyValue). is_own r.code) it.answers
replacement_own old body reply new (inr (inr it)) = ap (λ (r : ReplyValue). is_own r.code) it.answers

pub turn_own : (old : State) (body : List ℕ) (reply : ReplyValue) (new : State) → Turn old body reply new → is_own reply.code ≡ true
turn_own old body reply new (inl it) = ordinary_own old body reply new it.turn
turn_own old body reply new (inr it) = replacement_own old body reply new it.turn
