-- Lists of no member and of one, as they are read; and the request of a call that brings no more than a new value.
use Rattle.std.proofs.Common.{◌≡◌, ℕ, ◌≤◌, List, [], ◌∷◌, length, Option, Some, None, IfSome, refl}
use Rattle.oa_model.specs.promise.Limits.{max_request_bytes}
use Rattle.oa_ndr.specs.promise.Reading.{Cursor, Decoder, bind, give, many}
use Rattle.oa_ndr.specs.Reading.{whole}
use Rattle.oa_variant.specs.declared.variant.Variant.{Variant}
use Rattle.oa_record.specs.promise.Asks.{Asks}
use Rattle.oa_record.specs.promise.Layouts.{Layout}
use Rattle.oa_record.specs.Reading.{layout_at}
use Rattle.oa_record.specs.ValueCalls.{SpellsNew, bringing, parts_bringing}
use Rattle.oa_record.specs.declared.request.CallHead.{CallHead}
use Rattle.oa_record.specs.declared.opcode.ByCall.TheVariants.{Invoke}
use Rattle.oa_record.specs.declared.request.Request.TheVariants.{ByCall}
use Rattle.oa_record.specs.declared.request.ValueCall.{ValueCall}
use Rattle.oa_record.proofs.Requests.{asks}

pub many_none : {A : Type 0} (read : Decoder A) (s : Cursor) → many read 0 s ≡ Some ([], s)
unfolding many give
many_none read s = refl

pub many_one : {A : Type 0} (read : Decoder A) (s t : Cursor) (x : A) → read s ≡ Some (x, t) → many read 1 s ≡ Some (x ∷ [], t)
unfolding many bind give
many_one read s t x is = rw is refl

-- the request of a body that is laid out so
pub asks_value : (body : List ℕ) (head : CallHead) (field : Option (List ℕ)) (value : Option Variant) → length body ≤ max_request_bytes
    → whole layout_at body ≡ Some (Layout.CallBody Invoke (parts_bringing head field)) → SpellsNew field value → Asks body (ByCall Invoke (bringing head value))
asks_value body head None None short read is = asks body _ _ short read (record { values = []; spelled = tt; is = refl })
asks_value body head (Some field) (Some value) short read is = asks body _ _ short read (record { values = value ∷ []; spelled = (is, tt); is = refl })
asks_value body head None (Some value) short read is = absurd is
asks_value body head (Some field) None short read is = absurd is

-- As above, for the decoded call.
pub asks_read : (body : List ℕ) (head : CallHead) (field : Option (List ℕ)) (read : Option ValueCall) → length body ≤ max_request_bytes
    → whole layout_at body ≡ Some (Layout.CallBody Invoke (parts_bringing head field)) → IfSome read (λ call. (call.head ≡ head) × SpellsNew field call.value)
    → IfSome read (λ call. Asks body (ByCall Invoke (bringing call.head call.value)))
asks_read body head field None short laid is = tt
asks_read body head field (Some call) short laid is = rw is.0 (asks_value body head field call.value short laid is.1)
