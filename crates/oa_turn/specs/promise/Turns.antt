-- Turns of a server, and runs of turns. (This project's choice.)
use Rattle.std.specs.Prelude.{◌≡◌, ◌⊎◌, ℕ, true, false, List, [], ◌∷◌, Option, None}
use Rattle.oa_model.specs.promise.Codes.{bad_stub_data, disp_e_badvartype, e_outofmemory}
use Rattle.oa_record.specs.declared.request.Request.{Request}
use Rattle.oa_record.specs.promise.Asks.{Asks, IsBadVarType, IsStub, MayStarve, tag_at}
use Rattle.oa_record.specs.promise.Replies.{ReplyValue}
use Rattle.oa_record.specs.promise.Replacement.{is_replacement}
use Rattle.oa_turn.specs.promise.Replacing.{Replacement}
use Rattle.oa_decision.specs.promise.States.{State}
use Rattle.oa_turn.specs.promise.Steps.{reply_to, state_after}
use Rattle.oa_decision.specs.promise.Decided.{RequestTakesMemory, refusal}

-- the body is a request, and this is its step
pub record Steps (old : State) (body : List ℕ) (reply : ReplyValue) (new : State) : Type 0 where
  pub request : Request
  pub asked : Asks body request
  pub answers : reply ≡ reply_to old (tag_at body) request
  pub leaves : new ≡ state_after old request

-- the body has the layout of no request, or the field of a value is invalid; nothing changes
pub record RefusesStub (old : State) (body : List ℕ) (reply : ReplyValue) (new : State) : Type 0 where
  pub why : IsStub body
  pub answers : reply ≡ refusal (tag_at body) bad_stub_data None
  pub leaves : new ≡ old

-- a value has a type outside the profile; nothing changes
pub record RefusesType (old : State) (body : List ℕ) (reply : ReplyValue) (new : State) : Type 0 where
  pub index : Option ℕ
  pub why : IsBadVarType body index
  pub answers : reply ≡ refusal (tag_at body) disp_e_badvartype index
  pub leaves : new ≡ old

-- the body is a request that allocates when it is decided or when its change is made
pub record MayLack (old : State) (body : List ℕ) : Type 0 where
  pub request : Request
  pub asked : Asks body request
  pub takes : RequestTakesMemory old request

-- an allocation failed, and reading the body or executing its request needs some; nothing changes
pub record LacksMemory (old : State) (body : List ℕ) (reply : ReplyValue) (new : State) : Type 0 where
  pub may : MayStarve body ⊎ MayLack old body
  pub answers : reply ≡ refusal (tag_at body) e_outofmemory None
  pub leaves : new ≡ old

-- one turn of a body with another opcode than 12
abbrev pub Ordinary : State → List ℕ → ReplyValue → State → Type 0
Ordinary old body reply new =
    Steps old body reply new
    ⊎ (RefusesStub old body reply new ⊎ (RefusesType old body reply new ⊎ LacksMemory old body reply new))

pub record IsOrdinary (old : State) (body : List ℕ) (reply : ReplyValue) (new : State) : Type 0 where
  pub kind : is_replacement body ≡ false
  pub turn : Ordinary old body reply new

-- one turn of a body with that opcode
pub record IsReplacing (old : State) (body : List ℕ) (reply : ReplyValue) (new : State) : Type 0 where
  pub kind : is_replacement body ≡ true
  pub turn : Replacement old body reply new

-- one turn
abbrev pub Turn : State → List ℕ → ReplyValue → State → Type 0
Turn old body reply new = IsOrdinary old body reply new ⊎ IsReplacing old body reply new

-- one turn after another
abbrev pub Run : State → List (List ℕ) → List ReplyValue → State → Type 0
Run old [] [] new = new ≡ old
Run old (body ∷ bodies) (reply ∷ replies) new = (mid : State) × Turn old body reply mid × Run mid bodies replies new
Run old [] (reply ∷ replies) new = ⊥
Run old (body ∷ bodies) [] new = ⊥
