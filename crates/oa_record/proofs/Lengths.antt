-- Parts of replies, and their lengths.
use Rattle.std.proofs.Common.{◌≡◌, ◌≤◌, ℕ, zero, suc, ℤ, ◌+◌, ◌-◌, ◌*◌, ◌%◌, Bool, true, false, eqb, if◌then◌else◌, List, [], ◌∷◌, ◌++◌, Result}
use Rattle.std.proofs.Common.{Ok, Err, OnErr, OnOk, length, replicate, refl, ap, ◌∙◌, append_assoc, arith}
use Rattle.std.proofs.lemmas.Bool.{eqb-false}
use Rattle.std.proofs.lemmas.List.{append-nil, length-append, length-replicate}
use Rattle.std.proofs.lemmas.List.Concat.{flat_map-cons}
use Rattle.std.specs.List.{flat_map}
use Rattle.oa_model.specs.promise.Limits.{max_names}
use Rattle.oa_ndr.specs.promise.Forms.{padding}
use Rattle.oa_ndr.specs.Writing.{FieldOutput, field_after, in_field}
use Rattle.oa_record.specs.promise.Replies.{word, half_word, signed_word, number_field, padded}
use Rattle.oa_record.specs.Replies.{max_fields_bytes, max_value_bytes}

pub signed_length : (ids : List ℤ) → length (flat_map signed_word ids) ≡ 4 * length ids
unfolding word
signed_length [] = refl
signed_length (z ∷ zs) = omega (arith, ap length (flat_map-cons signed_word z zs), length-append (signed_word z) (flat_map signed_word zs), signed_length zs)

pub units_length : (text : List ℕ) → length (flat_map half_word text) ≡ 2 * length text
unfolding half_word
units_length [] = refl
units_length (x ∷ xs) = omega (arith, ap length (flat_map-cons half_word x xs), length-append (half_word x) (flat_map half_word xs), units_length xs)

pub number_length : (n : ℕ) → length (number_field n) ≡ 8
unfolding word
number_length n = refl

-- a head and padded bytes, part by part
pub field_is : (old head bytes : List ℕ) (n : ℕ) → length bytes ≡ n → ((old ++ head) ++ bytes) ++ replicate (padding 8 n) 0 ≡ old ++ (head ++ padded bytes)
field_is old head bytes n is =
    rw (← is) (append_assoc (old ++ head) bytes (replicate (padding 8 (length bytes)) 0) ∙ append_assoc old head (padded bytes))

positive : (x : ℕ) → (x ≡ 0 → ⊥) → 1 ≤ x
positive zero n = absurd (n refl)
positive (suc x) n = omega arith

-- the longest value ends at a multiple of 8, so that no shorter one has more padding than leads there
padded_small : (n : ℕ) → n ≤ max_value_bytes → n + padding 8 n ≤ max_value_bytes
padded_small n few = by_test (eqb (n % 8) 0) refl
  where
    by_test : (b : Bool) → eqb (n % 8) 0 ≡ b → n + (if b then 0 else 8 - n % 8) ≤ max_value_bytes
    by_test true h = omega (arith, few)
    by_test false h = let some = positive (n % 8) (eqb-false _ _ h) in omega (arith, few, some)

-- the longest field of a value
pub value_small : (n : ℕ) (bytes : List ℕ) → length bytes ≤ max_value_bytes → length (number_field n ++ padded bytes) ≤ max_fields_bytes
value_small n bytes few =
    omega (
      arith,
      padded_small (length bytes) few,
      number_length n,
      length-append (number_field n) (padded bytes),
      length-append bytes
          (replicate (padding 8 (length bytes)) 0),
      length-replicate {A = ℕ} (padding 8 (length bytes)) 0,
    )

-- and that of DISPIDs
pub small_field : (n : ℕ) (ids : List ℤ) → length ids ≤ max_names → length (number_field n ++ padded (flat_map signed_word ids)) ≤ max_fields_bytes
small_field n ids few = value_small n (flat_map signed_word ids) (omega (arith, few, signed_length ids))

-- a field that was written at the end of a vector
pub field_added : {E : Type 0} (r : Result (Unit {0}) E) (old whole : List ℕ) (new : FieldOutput) (put : List ℕ → List ℕ) → whole ≡ new.before ++ new.field
    → OnOk r (new ≡ in_field put (field_after old)) → OnOk r (whole ≡ old ++ put [])
field_added (Ok u) old whole new put is h = is ∙ ap (λ (o : FieldOutput). o.before ++ o.field) h
field_added (Err e) old whole new put is h = tt

-- and one that was not
pub field_kept : {E : Type 0} (r : Result (Unit {0}) E) (old whole : List ℕ) (new : FieldOutput) → whole ≡ new.before ++ new.field
    → OnErr r (new ≡ field_after old) → OnErr r (whole ≡ old)
field_kept (Ok u) old whole new is h = tt
field_kept (Err e) old whole new is h = is ∙ ap (λ (o : FieldOutput). o.before ++ o.field) h ∙ append-nil old
