-- What a call does with a number.
use Rattle.std.proofs.Common.{◌≡◌, ◌<◌, ◌≤◌, ℕ, ◌+◌, List, [], ◌∷◌, length, take, refl, sym, ap, ◌∙◌, subst, inl, inr, arith}
use Rattle.oa_mux.specs.promise.Marks.{StreamPiece, Last}
use Rattle.oa_mux.specs.Marks.{pieces}
use Rattle.oa_gateway.specs.Frames.{PutsDeed, SpellsFrames, gateway_number}
use Rattle.oa_gateway.specs.Places.{Closes, Deed, Leaves, MayDo, Number, Sends, owes, puts, stands}
use Rattle.oa_gateway.specs.declared.place.Standing.{Standing}
use Rattle.oa_gateway.specs.declared.place.Standing.TheVariants.{Absent, Present, Ending, Over}
use Rattle.oa_gateway.proofs.Spelling.{nothing}

abbrev pub num : Standing → ℕ → Number
num s owed = record { standing = s; owed = owed }

pub something : (deed : Deed) (number count : ℕ) (out : List ℕ) (all : List StreamPiece) (s s' : Standing) (owed owed' : ℕ) → number < gateway_number
    → count ≤ length out → MayDo (num s owed) deed
    → SpellsFrames number (take count out) all → puts s deed ≡ all → s' ≡ stands owed s deed → owed' ≡ owes owed s deed
    → PutsDeed deed number count out (num s owed) (num s' owed')
something deed number count out all s s' owed owed' client within may spells p e f = record {
  client = client;
  within = within;
  may = may;
  goes = ap (λ (t : Standing). num t owed') e ∙ ap (λ k. num (stands owed s deed) k) f;
  spells = subst (λ l. SpellsFrames number (take count out) l) (sym p) spells;
}

none : (deed : Deed) (number : ℕ) (out : List ℕ) (s s' : Standing) (owed owed' : ℕ) → number < gateway_number → MayDo (num s owed) deed → puts s deed ≡ []
    → s' ≡ stands owed s deed → owed' ≡ owes owed s deed
    → PutsDeed deed number 0 out (num s owed) (num s' owed')
none deed number out s s' owed owed' client may p e f = something deed number 0 out [] s s' owed owed' client (omega arith) may (nothing number out) p e f

-- ---- bytes

pub sends : (bytes : List ℕ) (number count : ℕ) (out : List ℕ) (s : Standing) (owed : ℕ) → number < gateway_number → count ≤ length out
    → MayDo (num s owed) (Sends bytes)
    → SpellsFrames number (take count out) (pieces bytes) → PutsDeed (Sends bytes) number count out (num s owed) (num Present owed)
sends bytes number count out s owed client within (inl e) spells =
    something (Sends bytes) number count out (pieces bytes) s Present owed owed client within (inl e) spells (ap (λ (t : Standing). puts t (Sends bytes)) e)
    (sym (ap (λ (t : Standing). stands owed t (Sends bytes)) e)) refl
sends bytes number count out s owed client within (inr e) spells =
    something (Sends bytes) number count out (pieces bytes) s Present owed owed client within (inr e) spells (ap (λ (t : Standing). puts t (Sends bytes)) e)
    (sym (ap (λ (t : Standing). stands owed t (Sends bytes)) e)) refl

-- ---- nothing more comes

pub closes_absent : (number : ℕ) (out : List ℕ) (s : Standing) (owed : ℕ) → number < gateway_number → s ≡ Absent
    → PutsDeed Closes number 0 out (num s owed) (num Over owed)
closes_absent number out s owed client e =
    none Closes number out s Over owed owed client tt (ap (λ (t : Standing). puts t Closes) e) (sym (ap (λ (t : Standing). stands owed t Closes) e)) refl

pub closes_present : (number count : ℕ) (out : List ℕ) (s : Standing) (owed : ℕ) → number < gateway_number → s ≡ Present → count ≤ length out
    → SpellsFrames number (take count out) (Last ∷ [])
    → PutsDeed Closes number count out (num s owed) (num Ending owed)
closes_present number count out s owed client e within spells =
    something Closes number count out (Last ∷ []) s Ending owed owed client within tt spells (ap (λ (t : Standing). puts t Closes) e)
    (sym (ap (λ (t : Standing). stands owed t Closes) e)) refl

pub closes_ending : (number : ℕ) (out : List ℕ) (s : Standing) (owed : ℕ) → number < gateway_number → s ≡ Ending
    → PutsDeed Closes number 0 out (num s owed) (num s owed)
closes_ending number out s owed client e =
    none Closes number out s s owed owed client tt (ap (λ (t : Standing). puts t Closes) e) (e ∙ sym (ap (λ (t : Standing). stands owed t Closes) e)) refl

pub closes_over : (number : ℕ) (out : List ℕ) (s : Standing) (owed : ℕ) → number < gateway_number → s ≡ Over
    → PutsDeed Closes number 0 out (num s owed) (num s owed)
closes_over number out s owed client e =
    none Closes number out s s owed owed client tt (ap (λ (t : Standing). puts t Closes) e) (e ∙ sym (ap (λ (t : Standing). stands owed t Closes) e)) refl

-- ---- it has gone

pub leaves_absent : (number : ℕ) (out : List ℕ) (s : Standing) (owed : ℕ) → number < gateway_number → s ≡ Absent
    → PutsDeed Leaves number 0 out (num s owed) (num s owed)
leaves_absent number out s owed client e =
    none Leaves number out s s owed owed client tt (ap (λ (t : Standing). puts t Leaves) e) (e ∙ sym (ap (λ (t : Standing). stands owed t Leaves) e))
    (omega (arith, ap (λ (t : Standing). owes owed t Leaves) e))

pub leaves_present : (number count : ℕ) (out : List ℕ) (s : Standing) (owed owed' : ℕ) → number < gateway_number → s ≡ Present → count ≤ length out
    → SpellsFrames number (take count out) (Last ∷ []) → owed' ≡ owed + 1
    → PutsDeed Leaves number count out (num s owed) (num Absent owed')
leaves_present number count out s owed owed' client e within spells more =
    something Leaves number count out (Last ∷ []) s Absent owed owed' client within tt spells (ap (λ (t : Standing). puts t Leaves) e)
    (sym (ap (λ (t : Standing). stands owed t Leaves) e)) (more ∙ sym (ap (λ (t : Standing). owes owed t Leaves) e))

pub leaves_ending : (number : ℕ) (out : List ℕ) (s : Standing) (owed owed' : ℕ) → number < gateway_number → s ≡ Ending → owed' ≡ owed + 1
    → PutsDeed Leaves number 0 out (num s owed) (num Absent owed')
leaves_ending number out s owed owed' client e more =
    none Leaves number out s Absent owed owed' client tt (ap (λ (t : Standing). puts t Leaves) e) (sym (ap (λ (t : Standing). stands owed t Leaves) e))
    (more ∙ sym (ap (λ (t : Standing). owes owed t Leaves) e))

pub leaves_over : (number : ℕ) (out : List ℕ) (s : Standing) (owed : ℕ) → number < gateway_number → s ≡ Over
    → PutsDeed Leaves number 0 out (num s owed) (num Absent owed)
leaves_over number out s owed client e =
    none Leaves number out s Absent owed owed client tt (ap (λ (t : Standing). puts t Leaves) e) (sym (ap (λ (t : Standing). stands owed t Leaves) e))
    (omega (arith, ap (λ (t : Standing). owes owed t Leaves) e))
