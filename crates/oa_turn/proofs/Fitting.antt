-- A turn leaves a table that its library can have.
use Rattle.std.proofs.Common.{rules, ◌≡◌, ℕ, Bool, true, false, List, [], ◌∷◌, Option, Some, None, Result, Ok, Err, IfOk, IfSome, is_some}
use Rattle.std.proofs.Common.{inl, inr, refl, sym, ap, subst, ◌∙◌}
use Rattle.std.specs.Prelude.{if◌then◌else◌, not}
use Rattle.std.specs.Option.{option_and_then}
use Rattle.std.proofs.lemmas.Bool.{and_from}
use Rattle.std.proofs.lemmas.Option.{none-some}
use Rattle.uuid.specs.Parts.{is_nil_bytes}
use Rattle.oa_model.specs.promise.Codes.{disp_e_unknowninterface}
use Rattle.oa_model.specs.declared.bound.Bound.{Bound}
use Rattle.oa_model.specs.declared.hresult.HResult.{HResult}
use Rattle.oa_model.specs.declared.var_type.ValueType.{ValueType}
use Rattle.oa_model.specs.declared.var_type.ValueType.TheVariants as kinds
use Rattle.oa_idl.specs.promise.Trees.{TreeValue}
use Rattle.oa_idl.specs.promise.Values.{CoclassValue, InterfaceValue}
use Rattle.oa_idl.specs.declared.items.Item.{Item}
use Rattle.oa_idl.specs.declared.items.Item.TheVariants.{Interface, Coclass}
use Rattle.oa_variant.specs.promise.Variants.{fits_declared, unlocked, zero_value}
use Rattle.oa_variant.specs.declared.variant.Variant.{Variant}
use Rattle.oa_typelib.specs.Bindable.{AreSound, IsBindable, IsSoundItem}
use Rattle.oa_typelib.specs.promise.Checked.{IsChecked}
use Rattle.oa_sema.specs.promise.Declarations.{declarations}
use Rattle.oa_sema.specs.promise.Libraries.{as_interface, class_of, item_guid, has_interface, if_entered, interface_of}
use Rattle.oa_sema.specs.promise.Libraries.{item_with, same, selected_in}
use Rattle.oa_typelib.specs.promise.MemberValues.{MemberValue}
use Rattle.oa_typelib.specs.promise.Members.{member_in, property_in}
use Rattle.oa_typelib.specs.declared.access.Access.{Access}
use Rattle.oa_typelib.specs.declared.access.Access.TheVariants as accesses
use Rattle.oa_typelib.specs.declared.access.Kind.{Kind}
use Rattle.oa_typelib.specs.declared.access.MemberFault.{MemberFault}
use Rattle.oa_typelib.proofs.Found.{find_all, member_bindable}
use Rattle.oa_typelib.proofs.Sound.{tree_sound}
use Rattle.oa_bind.specs.promise.Bindings.{bound_to}
use Rattle.oa_bind.specs.promise.Calls.{BoundCallValue}
use Rattle.oa_bind.specs.promise.Given.{Given}
use Rattle.oa_bind.specs.declared.fault.BindFault.{BindFault}
use Rattle.oa_record.specs.promise.Replies.{ReplyValue}
use Rattle.oa_record.specs.declared.request.Call.{Call}
use Rattle.oa_record.specs.declared.request.Request.{Request}
use Rattle.oa_record.specs.declared.request.Request.TheVariants as requests
use Rattle.oa_record.specs.declared.opcode.ByCall.TheVariants as by_call
use Rattle.oa_record.specs.declared.opcode.ByNumber.TheVariants as by_number
use Rattle.oa_table.specs.declared.event.Event.{Event}
use Rattle.oa_table.specs.declared.event.Event.TheVariants as events
use Rattle.oa_table.specs.declared.fault.TableFault.{TableFault}
use Rattle.oa_table.specs.promise.Elements.{redimensioned_value}
use Rattle.oa_table.specs.promise.Events.{applied}
use Rattle.oa_table.specs.promise.Places.{PlaceValue}
use Rattle.oa_table.specs.promise.Tables.{ObjectValue, TableValue, class_in, object_at}
use Rattle.oa_compat.specs.Brings.{brings_fitting, put_fits}
use Rattle.oa_compat.specs.promise.Fits.{entered, fits, key_fits}
use Rattle.oa_compat.proofs.Entered.{found_property, selected_entered}
use Rattle.oa_compat.proofs.Kept.{lock_kept, redim_leaves, unlock_kept, unlocked_alike}
use Rattle.oa_decision.specs.promise.Limits.{allowed}
use Rattle.oa_decision.specs.declared.decision.Decision.{Decision}
use Rattle.oa_decision.specs.declared.decision.Decision.TheVariants.{Answer, Change, Relock}
use Rattle.oa_decision.specs.declared.decision.LockChange.{LockChange}
use Rattle.oa_decision.specs.declared.decision.LockChange.TheVariants.{Lock, Unlock}
use Rattle.oa_decision.specs.declared.refusal.Refusal.{Refusal}
use Rattle.oa_decision.specs.declared.decider.cell.BoundCell.{BoundCell}
use Rattle.oa_decision.specs.promise.ArrayCells.{as_refused, element_in, locks_found, put_in}
use Rattle.oa_decision.specs.promise.Cells.{bound_as, call_found, cell_called, member_found, place_of}
use Rattle.oa_decision.specs.promise.Create.{class_found, is_used_up, fitting}
use Rattle.oa_turn.specs.promise.Steps.{after_outcome, changed, outcome_of, relocked, relocking, with_table}
use Rattle.oa_decision.specs.promise.Interfaces.{interface_found}
use Rattle.oa_decision.specs.promise.Invoke.{acting}
use Rattle.oa_decision.specs.promise.LookUps.{ids_found}
use Rattle.oa_decision.specs.promise.PutElement.{element_for}
use Rattle.oa_decision.specs.promise.Redimension.{resizing, zero_with}
use Rattle.oa_decision.specs.promise.Refusals.{◌>>=◌, known, unless}
use Rattle.oa_decision.specs.promise.States.{State}
use Rattle.oa_decision.specs.promise.Decided.{decided}
use Rattle.oa_compat.specs.promise.Keeps.{first_lost}
use Rattle.oa_compat.specs.declared.lost.Incompatibility.{Incompatibility}
use Rattle.oa_compat.proofs.KeptFits.{kept_fits}
use Rattle.oa_compat.proofs.Losses.{keeps_all}
use Rattle.oa_turn.specs.promise.Replacing.{Replacement, after_replacement}
use Rattle.oa_turn.specs.promise.Turns.{Ordinary, Run, Turn}
use Rattle.oa_decision.specs.promise.TypeInfo.{description_of}
use Rattle.oa_turn.proofs.Bound.{FitsMember, bound_fits}

-- ---- answers one after another
after_both : {A B : Type 0} (P : B → Type 0) (first : Result A Refusal) (next : A → Result B Refusal) → ((x : A) → first ≡ Ok x → IfOk (next x) P)
    → IfOk (first >>= next) P
after_both P (Ok x) next h = h x refl
after_both P (Err r) next h = tt

always : {A : Type 0} (P : A → Type 0) (r : Result A Refusal) → ((x : A) → P x) → IfOk r P
always P (Ok x) h = h x
always P (Err r) h = tt

known_is : {A : Type 0} (code : HResult) (o : Option A) (x : A) → known code o ≡ Ok x → o ≡ Some x
known_is code None x h = absurd cc
known_is code (Some y) x h = cc

member_is : (r : Result (MemberValue × Kind) MemberFault) (x : MemberValue × Kind) → member_found r ≡ Ok x → r ≡ Ok x
member_is (Ok y) x h = cc
member_is (Err f) x h = absurd cc

call_is : (r : Result BoundCallValue BindFault) (x : BoundCallValue) → call_found r ≡ Ok x → r ≡ Ok x
call_is (Ok y) x h = cc
call_is (Err f) x h = absurd cc

-- ---- the interface
item_sound : (o : Option Item) (i : InterfaceValue) → option_and_then as_interface o ≡ Some i → IfSome o IsSoundItem → AreSound (declarations i)
item_sound None i h all = absurd (none-some i h)
item_sound (Some (Interface d)) i h all = let e : d ≡ i = cc in subst (λ (x : InterfaceValue). AreSound (declarations x)) e all
item_sound (Some (Coclass c)) i h all = absurd (none-some i h)

entered_there : (c : CoclassValue) (o : Option InterfaceValue) (i : InterfaceValue) → option_and_then (if_entered c) o ≡ Some i → o ≡ Some i
entered_there c None i h = absurd (none-some i h)
entered_there c (Some d) i h = by (has_interface c d) h
  where
    by : (b : Bool) → (if b then Some d else None) ≡ Some i → Some d ≡ Some i
    by true is = is
    by false is = absurd (none-some i is)

class_entered : (library : TreeValue) (guid : List ℕ) (o : Option CoclassValue) (i : InterfaceValue)
    → option_and_then (λ c. option_and_then (if_entered c) (interface_of library guid)) o ≡ Some i → interface_of library guid ≡ Some i
class_entered library guid None i h = absurd (none-some i h)
class_entered library guid (Some c) i h = entered_there c (interface_of library guid) i h

-- an object's interface is one of its coclass, and calls can be bound to its properties
pub record IsReached (state : State) (number : ℕ) (found : InterfaceValue) : Type 0 where
  pub class : List ℕ
  pub object : class_in (object_at number state.table) ≡ Some class
  pub there : entered state.library class found.guid ≡ Some found
  pub sound : AreSound (declarations found)

reached : (state : State) (number : ℕ) (class : List ℕ) (found : InterfaceValue) → IsChecked state.library
    → class_in (object_at number state.table) ≡ Some class
    → entered state.library class found.guid ≡ Some found → IsReached state number found
reached state number class found is object there = record {
  class = class;
  object = object;
  there = there;
  sound =
      item_sound (item_with state.library.items found.guid) found (class_entered state.library found.guid (class_of state.library class) found there)
      (find_all IsSoundItem (λ (x : Item). same found.guid (item_guid x)) state.library.items (tree_sound state.library is));
}

interface_reached : (state : State) (number : ℕ) (interface riid : List ℕ) → IsChecked state.library → IfOk (interface_found state number interface riid)
    (IsReached state number)
unfolding interface_found
interface_reached state number interface riid is =
    after_both (IsReached state number) (known _ (class_in (object_at number state.table))) _ (λ class a.
    after_both (IsReached state number) (known _ (selected_in state.library class interface)) _ (λ found b.
    after_both (IsReached state number) (unless disp_e_unknowninterface (not (is_nil_bytes riid))) _ (λ zero c.
    let object : class_in (object_at number state.table) ≡ Some class = known_is _ (class_in (object_at number state.table)) class a in
    let chosen : selected_in state.library class interface ≡ Some found = known_is _ (selected_in state.library class interface) found b in
    reached state number class found is object (rw chosen at (selected_entered state.library class interface is)))))

-- ---- the cell
-- a value of the declared type fits in the cell, and the new value is of it
pub record IsFor (state : State) (cell : BoundCell) : Type 0 where
  pub put : (value : Variant) → fits_declared value cell.declared ≡ true → put_fits state.library cell.name.place value (object_at cell.name.object state.table)
      ≡ true
  pub brought : IfSome cell.value (λ value. fits_declared value cell.declared ≡ true)

put_into : (library : TreeValue) (place : PlaceValue) (value : Variant) (o : Option ObjectValue) (class : List ℕ) (found : InterfaceValue)
    (member : MemberValue) → class_in o ≡ Some class → entered library class place.interface ≡ Some found
    → property_in found place.dispid ≡ Some member → key_fits member.parameters place.key ≡ true → fits_declared value member.value_type ≡ true
    → put_fits library place value o ≡ true
put_into library place value None class found member here there property key fit = refl
put_into library place value (Some object) class found member here there property key fit =
    let e : object.class ≡ class = cc in
    rw (e, there, property) (and_from (key_fits member.parameters place.key) (fits_declared value member.value_type) key fit)

cell_is_for : (state : State) (call : Call) (access : Access) → IsChecked state.library → IfOk (cell_called state call access) (IsFor state)
unfolding cell_called
cell_is_for state call access is =
    after_both (IsFor state) (interface_found state call.head.object call.head.interface call.head.riid) _ (λ interface a.
    after_both (IsFor state) (member_found (member_in interface call.head.dispid access)) _ (λ found b.
    after_both (IsFor state) (call_found (bound_to found.0 (bound_as access found.1) (record { named = call.named; arguments = call.arguments }))) _ (λ bound c.
    let given : Given = record { named = call.named; arguments = call.arguments } in
    let reach : IsReached state call.head.object interface = rw a at (interface_reached state call.head.object call.head.interface call.head.riid is) in
    let member : member_in interface call.head.dispid access ≡ Ok found = member_is (member_in interface call.head.dispid access) found b in
    let made : bound_to found.0 (bound_as access found.1) given ≡ Ok bound = call_is (bound_to found.0 (bound_as access found.1) given) bound c in
    let property : property_in interface call.head.dispid ≡ Some found.0 = rw member at (found_property interface call.head.dispid access) in
    let bindable : IsBindable found.0 = rw member at (member_bindable interface call.head.dispid access reach.sound) in
    let fit : FitsMember found.0 bound = rw made at (bound_fits found.0 (bound_as access found.1) given bindable) in
    record {
      put = λ value of_type.
          put_into state.library (place_of interface.guid call.head bound) value (object_at call.head.object state.table) reach.class interface found.0
          reach.object reach.there property fit.key of_type;
      brought = fit.value;
    })))

-- ---- what is decided
abbrev Brings : State → Decision → Type 0
Brings state (Answer code fields) = Unit {0}
Brings state (Change event fields) = brings_fitting state.library state.table event ≡ true
Brings state (Relock change fields) = Unit {0}

class_known : (state : State) (class : List ℕ) → IfOk (class_found state class) (λ _. is_some (class_of state.library class) ≡ true)
class_known state class = after_both _ (known _ (class_of state.library class)) _
    (λ c a. always _ (unless _ (is_used_up state.table)) (λ _. ap is_some (known_is _ (class_of state.library class) c a)))

invoked : (state : State) (cell : BoundCell) → IsFor state cell → Brings state (acting state cell.name cell.declared cell.value)
invoked state cell is = by cell.value is.brought
  where
    by : (o : Option Variant) → IfSome o (λ value. fits_declared value cell.declared ≡ true) → Brings state (acting state cell.name cell.declared o)
    by None h = tt
    by (Some value) h = is.put (unlocked value) (sym (unlocked_alike value cell.declared) ∙ h)

-- the zero of an array type is of the type, whatever its bounds become
zero_resized : (bound : Bound) (declared : ValueType) → IfOk (zero_with bound declared) (λ value. fits_declared value declared ≡ true)
zero_resized bound (kinds.One t) = tt
zero_resized bound (kinds.Array t) = by (redimensioned_value bound (zero_value (kinds.Array t))) (redim_leaves bound (zero_value (kinds.Array t)))
  where
    by : (r : Result Variant TableFault) → IfOk r (λ w. (u : ValueType) → fits_declared (zero_value (kinds.Array t)) u ≡ fits_declared w u)
        → IfOk (as_refused r) (λ value. fits_declared value (kinds.Array t) ≡ true)
    by (Ok value) alike = sym (alike (kinds.Array t)) ∙ search rules
    by (Err fault) alike = tt

resized : (state : State) (cell : BoundCell) (bound : Bound) (o : Option Variant) → IsFor state cell
    → IfOk (resizing cell.name cell.declared bound o) (Brings state)
resized state cell bound None is = after_both (Brings state) (zero_with bound cell.declared) _
    (λ value a. is.put value (rw a at (zero_resized bound cell.declared)))
resized state cell bound (Some value) is = refl

module _ (state : State) (is : IsChecked state.library) where
  called : (call : Call) (access : Access) (next : BoundCell → Result Decision Refusal)
      → ((cell : BoundCell) → IsFor state cell → IfOk (next cell) (Brings state)) → IfOk (cell_called state call access >>= next) (Brings state)
  called call access next each =
      after_both (Brings state) (cell_called state call access) next
      (λ cell a. let for : IsFor state cell = rw a at (cell_is_for state call access is) in each cell for)

  decided_brings : (request : Request) → IfOk (decided state request) (Brings state)
  decided_brings (requests.Create class) = after_both (Brings state) (class_found state class) _
      (λ u a. after_both (Brings state) (fitting (allowed state.bank (events.Create state.table.next class) state.table)) _
      (λ v b. rw a at (class_known state class)))
  decided_brings (requests.ByNumber by_number.Release number) = refl
  decided_brings (requests.GetIds call) = after_both (Brings state) (ids_found state call) _ (λ found a. tt)
  decided_brings (requests.ByCall by_call.Invoke call) = called call (accesses.Flags call.head.flags) _ (λ cell for. invoked state cell for)
  decided_brings (requests.GetElement call index) =
      called call accesses.Get _ (λ cell for. after_both (Brings state) (element_in state index cell) _ (λ element a. tt))
  decided_brings (requests.PutElement call index value) =
      called call accesses.Put _ (λ cell for. after_both (Brings state) (element_for state index value cell) _ (λ element a. refl))
  decided_brings (requests.Redimension call bound) = called call accesses.Put _ (λ cell for. resized state cell bound (put_in state cell.name) for)
  decided_brings (requests.ByCall by_call.Lock call) =
      called call accesses.Get _ (λ cell for. after_both (Brings state) (locks_found state cell) _ (λ locks a. tt))
  decided_brings (requests.ByCall by_call.Unlock call) =
      called call accesses.Get _ (λ cell for. after_both (Brings state) (locks_found state cell) _ (λ locks a. tt))
  decided_brings (requests.ByNumber by_number.TypeInfo index) = after_both (Brings state) (known _ (description_of state index)) _ (λ description a. tt)
  decided_brings (requests.Query query) = tt

-- ---- what becomes of it
-- the library stays, and the table is one of it
abbrev pub StaysFit : State → State → Type 0
StaysFit old new = (new.library ≡ old.library) × (fits new.library new.table ≡ true)

abbrev pub EventKept : Type 0
EventKept = (library : TreeValue) (table : TableValue) (event : Event) → fits library table ≡ true → brings_fitting library table event ≡ true
    → IfOk (applied event table) (λ new. fits library new ≡ true)

module _ (event_kept : EventKept) where
  with_fit : (state : State) (r : Result TableValue TableFault) → fits state.library state.table ≡ true → IfOk r (λ new. fits state.library new ≡ true)
      → StaysFit state (with_table state r)
  with_fit state (Ok table) fit h = (refl, h)
  with_fit state (Err fault) fit h = (refl, fit)

  lock_fit : (state : State) (change : LockChange) → fits state.library state.table ≡ true
      → IfOk (relocked change state.table) (λ new. fits state.library new ≡ true)
  lock_fit state (Lock name) fit = lock_kept state.library state.table name fit
  lock_fit state (Unlock name) fit = unlock_kept state.library state.table name fit

  outcome_fit : (state : State) (due : Result Decision Refusal) → fits state.library state.table ≡ true → IfOk due (Brings state)
      → StaysFit state (after_outcome state (outcome_of state due))
  outcome_fit state (Err r) fit brings = (refl, fit)
  outcome_fit state (Ok (Answer code fields)) fit brings = (refl, fit)
  outcome_fit state (Ok (Change event fields)) fit brings = by (allowed state.bank event state.table)
    where
      by : (r : Result TableValue HResult) → StaysFit state (after_outcome state (changed event fields r))
      by (Ok table) = with_fit state (applied event state.table) fit (event_kept state.library state.table event fit brings)
      by (Err code) = (refl, fit)
  outcome_fit state (Ok (Relock change fields)) fit brings = by (relocked change state.table)
    where
      by : (r : Result TableValue TableFault) → StaysFit state (after_outcome state (relocking change fields r))
      by (Ok table) = with_fit state (relocked change state.table) fit (lock_fit state change fit)
      by (Err fault) = (refl, fit)

  stays : (old new : State) → new ≡ old → fits old.library old.table ≡ true → StaysFit old new
  stays old new e fit = rw e (refl, fit)

  ordinary_fit : (old new : State) (body : List ℕ) (reply : ReplyValue) → IsChecked old.library → fits old.library old.table ≡ true
      → Ordinary old body reply new → StaysFit old new
  ordinary_fit old new body reply is fit (inl s) =
      subst (StaysFit old) (sym s.leaves) (outcome_fit old (decided old s.request) fit (decided_brings old is s.request))
  ordinary_fit old new body reply is fit (inr (inl s)) = stays old new s.leaves fit
  ordinary_fit old new body reply is fit (inr (inr (inl s))) = stays old new s.leaves fit
  ordinary_fit old new body reply is fit (inr (inr (inr s))) = stays old new s.leaves fit

  abbrev pub IsFit : State → Type 0
  IsFit state = IsChecked state.library × (fits state.library state.table ≡ true)

  replacement_fit : (old new : State) (body : List ℕ) (reply : ReplyValue) → IsChecked old.library → fits old.library old.table ≡ true
      → Replacement old body reply new → IsFit new
  replacement_fit old new body reply is fit (inl s) = by (first_lost s.library old.library) refl s.leaves
    where
      by : (lost : Option Incompatibility) → first_lost s.library old.library ≡ lost → new ≡ after_replacement old s.library lost → IsFit new
      by None none leaves = let checked : IsChecked s.library = (s.asked.text, s.asked.stands.1) in
          subst IsFit (sym leaves) (checked, kept_fits s.library old.library checked (keeps_all s.library old.library none) old.table fit)
      by (Some lost) some leaves = subst IsFit (sym leaves) (is, fit)
  replacement_fit old new body reply is fit (inr (inl s)) = subst IsFit (sym s.leaves) (is, fit)
  replacement_fit old new body reply is fit (inr (inr s)) = subst IsFit (sym s.leaves) (is, fit)

  pub turn_fit : (old new : State) (body : List ℕ) (reply : ReplyValue) → IsChecked old.library → fits old.library old.table ≡ true → Turn old body reply new
      → IsFit new
  turn_fit old new body reply is fit (inl s) = let here = ordinary_fit old new body reply is fit s.turn in (subst IsChecked (sym here.0) is, here.1)
  turn_fit old new body reply is fit (inr s) = replacement_fit old new body reply is fit s.turn

  pub run_fit : (old new : State) (bodies : List (List ℕ)) (replies : List ReplyValue) → IsChecked old.library → fits old.library old.table ≡ true
      → Run old bodies replies new → IsFit new
  run_fit old new [] [] is fit r = subst IsFit (sym r) (is, fit)
  run_fit old new [] (y ∷ ys) is fit r = absurd r
  run_fit old new (x ∷ xs) [] is fit r = absurd r
  run_fit old new (x ∷ xs) (y ∷ ys) is fit r =
      let here = turn_fit old r.0 x y is fit r.1 in
      run_fit r.0 new xs ys here.0 here.1 r.2
