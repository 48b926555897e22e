-- What is allowed applies, and leaves a sound table.
use Rattle.std.proofs.Common.{◌≡◌, ℕ, ◌+◌, ◌-◌, ◌≤◌, ◌⊎◌, inl, inr, Bool, true, false, true≢false, length, Result, Ok, Err, IsOk, refl, sym, ap, subst}
use Rattle.std.proofs.Common.{◌∙◌, [], arith}
use Rattle.std.specs.Prelude.{nat_lt, if◌then◌else◌}
use Rattle.std.proofs.lemmas.Bool.{le-ltb, ltb-false}
use Rattle.std.specs.Result.{IsErrAnd, MatchResult}
use Rattle.oa_image.specs.promise.Tables.{reserved_bytes, is_numbered, objects, table as a_table, table_image}
use Rattle.oa_model.specs.promise.Limits.{max_event_bytes}
use Rattle.oa_image.specs.promise.Events.{event_image}
use Rattle.oa_image.specs.promise.Sizes.{event_size}
use Rattle.oa_image.proofs.Numbered.{numbers_stay, unlocked_numbers}
use Rattle.oa_image.proofs.Sized.{event_sized, table_sized}
use Rattle.oa_image.proofs.TablesWithImages.{same_table}
use Rattle.oa_formats.specs.promise.Formats.{only, made_where, counted, coded, next_by, times, raw}
use Rattle.oa_formats.specs.promise.Lengths.{value_size}
use Rattle.oa_formats.specs.promise.Numbers.{u32}
use Rattle.oa_variant.specs.declared.variant.Variant.{Variant}
use Rattle.oa_turn.proofs.Relocked.{lock_stays, unlock_stays}
use Rattle.oa_model.specs.declared.hresult.HResult.{HResult}
use Rattle.oa_model.specs.promise.Codes.{e_invalidarg, e_outofmemory, stg_e_mediumfull}
use Rattle.oa_table.specs.declared.event.Event.{Event}
use Rattle.oa_table.specs.declared.event.Event.TheVariants.{Put}
use Rattle.oa_table.specs.declared.name.CellName.{CellName}
use Rattle.oa_table.specs.declared.fault.TableFault.{TableFault}
use Rattle.oa_table.specs.declared.fault.TableFault.TheVariants.{Memory, NoObject, WrongNumber, NotArray, Array}
use Rattle.oa_table.specs.promise.Events.{applied}
use Rattle.oa_table.specs.promise.Faults.{table_code}
use Rattle.oa_table.specs.Outcomes.{Because}
use Rattle.oa_table.specs.promise.Sizes.{place_size, table_size}
use Rattle.oa_table.specs.promise.Tables.{TableValue, unlocked_table}
use Rattle.oa_table.specs.Tables.{first_table}
use Rattle.oa_decision.specs.declared.decision.LockChange.{LockChange}
use Rattle.oa_decision.specs.declared.decision.LockChange.TheVariants.{Lock, Unlock}
use Rattle.oa_turn.specs.Changes.{ChangesTable, MakesTable}
use Rattle.oa_turn.specs.promise.Steps.{relocked}
use Rattle.oa_turn.specs.Limits.{IsSoundTable, least_bank}
use Rattle.oa_decision.specs.promise.Limits.{allowed, limited, within_limits}

-- a table that is allowed
pub record IsWithin (bank : ℕ) (event : Event) (made new : TableValue) : Type 0 where
  pub same : made ≡ new
  pub event_small : length (event_image event) ≤ max_event_bytes
  pub table_small : length (table_image new) ≤ (bank - reserved_bytes)

within : (bank : ℕ) (event : Event) (made new : TableValue) → within_limits bank event made ≡ Ok new → IsWithin bank event made new
within bank event made new =
    by (nat_lt max_event_bytes (event_size event)) refl (nat_lt (bank - reserved_bytes) (table_size made)) refl
  where
    by : (long : Bool) → nat_lt max_event_bytes (event_size event) ≡ long → (full : Bool)
        → nat_lt (bank - reserved_bytes) (table_size made) ≡ full
        → (if long then Err e_invalidarg else if full then Err stg_e_mediumfull else Ok made) ≡ Ok new → IsWithin bank event made new
    by true a full b is = absurd cc
    by false a true b is = absurd cc
    by false a false b is =
        let same : made ≡ new = cc in
        let small : length (event_image event) ≤ max_event_bytes = omega (arith, event_sized event, ltb-false max_event_bytes (event_size event) a) in
        let fits : length (table_image made) ≤ (bank - reserved_bytes) =
        omega (arith, table_sized made, ltb-false (bank - reserved_bytes) (table_size made) b) in
        record {
          same = same;
          event_small = small;
          table_small = subst (λ (t : TableValue). length (table_image t) ≤ (bank - reserved_bytes)) same fits;
        }

pub record IsMade (bank : ℕ) (event : Event) (old new : TableValue) : Type 0 where
  pub applies : applied event old ≡ Ok new
  pub event_small : length (event_image event) ≤ max_event_bytes
  pub table_small : length (table_image new) ≤ (bank - reserved_bytes)

pub is_made : (bank : ℕ) (event : Event) (old new : TableValue) → allowed bank event old ≡ Ok new → IsMade bank event old new
is_made bank event old new is = by (applied event old) refl is
  where
    by : (due : Result TableValue TableFault) → applied event old ≡ due → limited bank event due ≡ Ok new → IsMade bank event old new
    by (Ok made) at is =
        let one = within bank event made new is in
        record { applies = at ∙ ap (λ (t : TableValue). Ok t) one.same; event_small = one.event_small; table_small = one.table_small }
    by (Err fault) at is = absurd cc

-- the table that is allowed is the one after the event
pub record IsAllowed (bank : ℕ) (event : Event) (old new : TableValue) : Type 0 where
  pub is : allowed bank event old ≡ Ok new
  pub event_small : length (event_image event) ≤ max_event_bytes
  pub table_small : length (table_image new) ≤ (bank - reserved_bytes)

pub is_allowed : (bank : ℕ) (event : Event) (old new : TableValue) → IsOk (allowed bank event old) → applied event old ≡ Ok new → IsAllowed bank event old new
is_allowed bank event old new ok at = by (allowed bank event old) refl ok
  where
    by : (due : Result TableValue HResult) → allowed bank event old ≡ due → IsOk due → IsAllowed bank event old new
    by (Ok made) is ok =
        let one = is_made bank event old made is in
        let same : made ≡ new = cc in
        record {
          is = is ∙ ap (λ (t : TableValue). Ok t) same;
          event_small = one.event_small;
          table_small =
              subst (λ (t : TableValue). length (table_image t) ≤ (bank - reserved_bytes)) same one.table_small;
        }
    by (Err code) is ok = absurd (true≢false (sym ok))

-- an image that is no longer than may be leaves what has to be free
below : (bank n m : ℕ) → n + reserved_bytes ≤ bank → m ≤ bank - reserved_bytes → m + reserved_bytes ≤ bank
below bank n m was is = omega (arith, was, is)

pub stays_sound : (bank : ℕ) (event : Event) (old new : TableValue) → IsSoundTable bank old → IsOk (allowed bank event old) → applied event old ≡ Ok new
    → IsSoundTable bank new
stays_sound bank event old new sound ok at = record {
  numbered = numbers_stay event old new sound.numbered at;
  small = below bank (length (table_image old))
      (length (table_image new)) sound.small (is_allowed bank event old new ok at).table_small;
}

pub allowed_sound : (bank : ℕ) (event : Event) (old new : TableValue) → IsSoundTable bank old → allowed bank event old ≡ Ok new → IsSoundTable bank new
allowed_sound bank event old new sound is = stays_sound bank event old new sound (rw is refl) (is_made bank event old new is).applies

-- an event that is within the limits is allowed where it applies
pub within_allowed : (bank : ℕ) (event : Event) (old new : TableValue) → applied event old ≡ Ok new → within_limits bank event new ≡ Ok new
    → allowed bank event old ≡ Ok new
within_allowed bank event old new at is = rw at is

-- a put into a cell without a key, of a value that has so few bytes, is within them where the table has so few
pub again_allowed : (bank : ℕ) (name : CellName) (value : Variant) (old new : TableValue) → name.place.key ≡ [] → applied (Put name value) old ≡ Ok new
    → value_size value ≤ 4194277 → table_size new ≤ bank - reserved_bytes → allowed bank (Put name value) old ≡ Ok new
unfolding event_size place_size
again_allowed bank name value old new keyless at short small =
    let place : place_size name.place ≡ 22 = rw keyless refl in
    let event : event_size (Put name value) ≤ max_event_bytes = omega (arith, short, place) in
    within_allowed bank (Put name value) old new at
    (rw (le-ltb max_event_bytes (event_size (Put name value)) event, le-ltb (bank - reserved_bytes) (table_size new) small) refl)

-- and is not where either has more
pub again_within : (bank : ℕ) (name : CellName) (value : Variant) (made : TableValue) → name.place.key ≡ [] → IsOk (within_limits bank (Put name value) made)
    → (value_size value ≤ 4194277) × (table_size made ≤ bank - reserved_bytes)
unfolding event_size place_size
again_within bank name value made keyless ok =
    by (nat_lt max_event_bytes (event_size (Put name value))) refl (nat_lt (bank - reserved_bytes) (table_size made)) refl ok
  where
    place : place_size name.place ≡ 22
    place = rw keyless refl

    by : (long : Bool) → nat_lt max_event_bytes (event_size (Put name value)) ≡ long → (full : Bool) → nat_lt (bank - reserved_bytes) (table_size made) ≡ full
        → IsOk (if long then Err e_invalidarg else if full then Err stg_e_mediumfull else Ok made) → (value_size value ≤ 4194277)
        × (table_size made ≤ bank - reserved_bytes)
    by true a full b ok = absurd (true≢false (sym ok))
    by false a true b ok = absurd (true≢false (sym ok))
    by false a false b ok =
        (omega (arith, place, ltb-false max_event_bytes (event_size (Put name value)) a), ltb-false (bank - reserved_bytes) (table_size made) b)

-- a change that is allowed, where each refusal was made the code of want of memory
pub changed : {E : Type 0} (bank : ℕ) (event : Event) (old new : TableValue) (P : E → HResult → Type 0) (from : Result (Unit {0}) E)
    (to : Result (Unit {0}) HResult)
    → IsOk (allowed bank event old) → MakesTable event old new from → MatchResult from (λ u. to ≡ Ok u) (λ e. IsErrAnd to (P e))
    → ((e : E) (code : HResult) → P e code → code ≡ e_outofmemory) → ChangesTable bank event old new to
changed bank event old new P (Ok u) to ok made told coded = rw told (is_allowed bank event old new ok made).is
changed bank event old new P (Err e) (Ok u) ok made told coded = absurd told
changed bank event old new P (Err e) (Err code) ok made told coded = (made, inr (coded e code told, ok))

-- why the table does not apply an event that is within the limits
pub why_refused : (bank : ℕ) (event : Event) (old : TableValue) (fault : TableFault)
    → ((new : TableValue) → applied event old ≡ Ok new → within_limits bank event new ≡ Ok new) → Because (applied event old) fault
    → (allowed bank event old ≡ Err (table_code fault)) ⊎ ((table_code fault ≡ e_outofmemory) × IsOk (allowed bank event old))
why_refused bank event old Memory within ok = inr (refl, by (applied event old) refl ok)
  where
    by : (due : Result TableValue TableFault) → applied event old ≡ due → IsOk due → IsOk (allowed bank event old)
    by (Ok new) at ok = rw at (rw (within new at) refl)
    by (Err fault) at ok = absurd (true≢false (sym ok))
why_refused bank event old NoObject within is = inl (rw is refl)
why_refused bank event old WrongNumber within is = inl (rw is refl)
why_refused bank event old NotArray within is = inl (rw is refl)
why_refused bank event old (Array fault) within is = inl (rw is refl)

-- locks are no part of it
as_unlocked : (bank : ℕ) (old new : TableValue) → unlocked_table new ≡ unlocked_table old → IsSoundTable bank old → IsSoundTable bank new
as_unlocked bank old new same sound = record {
  numbered = sym (unlocked_numbers new) ∙ ap is_numbered same ∙ unlocked_numbers old ∙ sound.numbered;
  small =
      let image : table_image new ≡ table_image old = sym (same_table new) ∙ ap table_image same ∙ same_table old in
      rw image sound.small;
}

pub relock_unseen : (change : LockChange) (old new : TableValue) → relocked change old ≡ Ok new → unlocked_table new ≡ unlocked_table old
relock_unseen (Lock name) old new is = lock_stays name old new is
relock_unseen (Unlock name) old new is = unlock_stays name old new is

pub relock_sound : (bank : ℕ) (change : LockChange) (old new : TableValue) → relocked change old ≡ Ok new → IsSoundTable bank old → IsSoundTable bank new
relock_sound bank change old new is sound = as_unlocked bank old new (relock_unseen change old new is) sound

-- the bytes of the table without objects
first_image : length (table_image first_table) ≡ 8
unfolding a_table objects only made_where counted coded next_by times u32 raw
first_image = refl

pub first_sound : (bank : ℕ) → least_bank ≤ bank → IsSoundTable bank first_table
first_sound bank large = record { numbered = refl; small = omega (arith, large, first_image) }
