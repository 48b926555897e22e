-- The fields of a request, one after the other.
use Rattle.std.proofs.Common.{◌≡◌, ℕ, ◌+◌, ◌<◌, List, [], ◌∷◌, ◌++◌, Bor, length, take, drop, map, get_or, Err, sym, ap, subst, ◌∙◌}
use Rattle.std.proofs.Common.{append_assoc, take_all, ◌-◌, arith}
use Rattle.std.proofs.lemmas.List.{take_more, drop_more, take-append-drop, get_or-map, length-map, length-drop, length-take-le}
use Rattle.std.specs.List.{drop-map}
use Rattle.std.specs.List.{AllByRecursion}
use Rattle.oa_variant.specs.declared.variant.Variant.{Variant}
use Rattle.oa_wire_variant.specs.promise.Variants.{Spells, field_fault}
use Rattle.oa_wire_variant.specs.Variants.{ReadsVariant}
use Rattle.oa_wire_array.specs.declared.fault.WireFault.{WireFault}
use Rattle.oa_wire_array.specs.declared.fault.WireFault.TheVariants as faults
use Rattle.oa_record.specs.declared.fault.RecordFault.{RecordFault}
use Rattle.oa_record.specs.declared.fault.RecordFault.TheVariants.{Stub, BadVarType, Memory}
use Rattle.oa_record.specs.Judging.{RefusesFields, TestsFields, TestsField}
use Rattle.oa_record.specs.promise.Asks.{AllSpell, IsSpelled, IsUnbroken, SpellsNothing, HasBroken, HasBadType}

abbrev pub shown : List (Bor (List ℕ)) → List (List ℕ)
shown xs = map (λ (x : Bor (List ℕ)). x.now) xs

-- the field at a place, and those around it
at_place : (xs : List (Bor (List ℕ))) (i : ℕ) (d : Bor (List ℕ)) → i < length xs → (i < length (shown xs)) × (get_or (shown xs) i d.now ≡ (get_or xs i d).now)
at_place xs i d lt = (omega (arith, length-map xs (λ (x : Bor (List ℕ)). x.now)), get_or-map (λ (x : Bor (List ℕ)). x.now) xs i d d.now lt)

split_at : (xs : List (Bor (List ℕ))) (i : ℕ) (d : Bor (List ℕ)) → i < length xs → shown xs ≡ take i (shown xs) ++ (get_or xs i d).now ∷ drop (i + 1) (shown xs)
split_at xs i d lt =
    let h = at_place xs i d lt in
    sym (take-append-drop i (shown xs)) ∙ ap (λ (r : List (List ℕ)). take i (shown xs) ++ r)
    (drop_more (shown xs) i d.now h.0 ∙ ap (λ (x : List ℕ). x ∷ drop (i + 1) (shown xs)) h.1)

pub take_next : (xs : List (Bor (List ℕ))) (i : ℕ) (d : Bor (List ℕ)) → i < length xs → take (i + 1) (shown xs) ≡ take i (shown xs) ++ (get_or xs i d).now ∷ []
take_next xs i d lt =
    let h = at_place xs i d lt in
    take_more (shown xs) i d.now h.0 ∙ ap (λ (x : List ℕ). take i (shown xs) ++ x ∷ []) h.1

-- a field that was read and spells nothing
spoils : (field : List ℕ) (why : WireFault) → ((v : Variant) → Spells field v → ⊥) × (field_fault field ≡ why) → SpellsNothing field why
spoils field why h = record { nothing = h.0; fault = h.1 }

pub broken_at : (xs : List (Bor (List ℕ))) (i : ℕ) (d : Bor (List ℕ)) → i < length xs → SpellsNothing (get_or xs i d).now faults.BadStub → HasBroken (shown xs)
broken_at xs i d lt bad = record {
  front = take i (shown xs);
  field = (get_or xs i d).now;
  back = drop (i + 1) (shown xs);
  whole = split_at xs i d lt;
  broken = bad;
}

pub broken_read : (xs : List (Bor (List ℕ))) (i : ℕ) (d : Bor (List ℕ)) (e : WireFault) → i < length xs → e ≡ faults.BadStub
    → ReadsVariant (get_or xs i d).now (Err e) → HasBroken (shown xs)
broken_read xs i d e lt is h = broken_at xs i d lt (spoils _ _ (subst (λ (w : WireFault). ReadsVariant (get_or xs i d).now (Err w)) is h))

all_push : (P : List ℕ → Type 0) (fs : List (List ℕ)) (f : List ℕ) → AllByRecursion P fs → P f → AllByRecursion P (fs ++ f ∷ [])
all_push P [] f h p = (p, tt)
all_push P (x ∷ fs) f h p = (h.0, all_push P fs f h.1 p)

pub all_more : (P : List ℕ → Type 0) (xs : List (Bor (List ℕ))) (i : ℕ) (d : Bor (List ℕ)) → i < length xs → AllByRecursion P (take i (shown xs))
    → P (get_or xs i d).now → AllByRecursion P (take (i + 1) (shown xs))
all_more P xs i d lt h p = rw (take_next xs i d lt) (all_push P (take i (shown xs)) (get_or xs i d).now h p)

spell_push : (fs : List (List ℕ)) (vs : List Variant) (f : List ℕ) (v : Variant) → AllSpell fs vs → Spells f v → AllSpell (fs ++ f ∷ []) (vs ++ v ∷ [])
spell_push [] [] f v h s = (s, tt)
spell_push (x ∷ fs) (w ∷ vs) f v h s = (h.0, spell_push fs vs f v h.1 s)
spell_push [] (w ∷ vs) f v h s = absurd h
spell_push (x ∷ fs) [] f v h s = absurd h

pub spell_more : (xs : List (Bor (List ℕ))) (i : ℕ) (d : Bor (List ℕ)) (vs : List Variant) (v : Variant) → i < length xs → AllSpell (take i (shown xs)) vs
    → Spells (get_or xs i d).now v → AllSpell (take (i + 1) (shown xs)) (vs ++ v ∷ [])
spell_more xs i d vs v lt h s = rw (take_next xs i d lt) (spell_push (take i (shown xs)) vs (get_or xs i d).now v h s)

all_spelled : (fs : List (List ℕ)) (vs : List Variant) → AllSpell fs vs → AllByRecursion IsSpelled fs
all_spelled [] [] h = tt
all_spelled (f ∷ fs) (v ∷ vs) h = ((v, h.0), all_spelled fs vs h.1)
all_spelled [] (v ∷ vs) h = absurd h
all_spelled (f ∷ fs) [] h = absurd h

bad_type_at : (xs : List (Bor (List ℕ))) (i : ℕ) (d : Bor (List ℕ)) (vs : List Variant) → i < length xs → AllSpell (take i (shown xs)) vs
    → SpellsNothing (get_or xs i d).now faults.BadVarType → AllByRecursion IsUnbroken (drop (i + 1) (shown xs)) → HasBadType (shown xs) i
bad_type_at xs i d vs lt h bad rest = record {
  front = take i (shown xs);
  field = (get_or xs i d).now;
  back = drop (i + 1) (shown xs);
  whole = split_at xs i d lt;
  place = length-take-le i (shown xs) (omega (arith, (at_place xs i d lt).0));
  lowest = all_spelled (take i (shown xs)) vs h;
  bad = bad;
  unbroken = rest;
}

-- a broken field of the last ones
pub broken_behind : (fs : List (List ℕ)) (n : ℕ) → HasBroken (drop n fs) → HasBroken fs
broken_behind fs n b = record {
  front = take n fs ++ b.front;
  field = b.field;
  back = b.back;
  whole = sym (take-append-drop n fs) ∙ ap (λ (r : List (List ℕ)). take n fs ++ r) b.whole ∙ sym (append_assoc (take n fs) b.front (b.field ∷ b.back));
  broken = b.broken;
}

pub sound_ends : (xs : List (Bor (List ℕ))) (i : ℕ) (d : Bor (List ℕ)) (e : RecordFault) → i < length xs → TestsField (get_or xs i d).now (Err e)
    → TestsFields (shown xs) (Err e)
sound_ends xs i d Stub lt h = broken_at xs i d lt h
sound_ends xs i d (BadVarType index) lt h = absurd h
sound_ends xs i d Memory lt h = tt

-- The fields after a place.
pub behind_is : (xs : List (Bor (List ℕ))) (n : ℕ) → map (λ (x : Bor (List ℕ)). x.now) (take (length xs - n) (drop n xs)) ≡ drop n (shown xs)
behind_is xs n =
    let all : take (length xs - n) (drop n xs) ≡ drop n xs = take_all (length xs - n) (drop n xs) (omega (arith, length-drop n xs)) in
    ap (λ (ys : List (Bor (List ℕ))). map (λ (x : Bor (List ℕ)). x.now) ys) all ∙ sym (drop-map (λ (x : Bor (List ℕ)). x.now) n xs)

pub bad_type_read : (xs : List (Bor (List ℕ))) (i n : ℕ) (d : Bor (List ℕ)) (e : WireFault) (vs : List Variant) → i < length xs → n ≡ i
    → AllSpell (take i (shown xs)) vs → e ≡ faults.BadVarType → ReadsVariant (get_or xs i d).now (Err e)
    → AllByRecursion IsUnbroken (map (λ (x : Bor (List ℕ)). x.now) (take (length xs - (n + 1)) (drop (n + 1) xs))) → HasBadType (shown xs) n
bad_type_read xs i n d e vs lt same h is bad rest =
    let behind : AllByRecursion IsUnbroken (drop (i + 1) (shown xs)) = subst (λ (k : ℕ). AllByRecursion IsUnbroken (drop (k + 1) (shown xs))) same
    (subst (AllByRecursion IsUnbroken) (behind_is xs (n + 1)) rest) in
    rw same (bad_type_at xs i d vs lt h (spoils _ _ (subst (λ (w : WireFault). ReadsVariant (get_or xs i d).now (Err w)) is bad)) behind)

pub ends_behind : (xs : List (Bor (List ℕ))) (n : ℕ) (e : RecordFault) → TestsFields (map (λ (x : Bor (List ℕ)). x.now) (take (length xs - n) (drop n xs)))
    (Err e) → RefusesFields (shown xs) e
ends_behind xs n Stub h = broken_behind (shown xs) n (subst HasBroken (behind_is xs n) h)
ends_behind xs n (BadVarType index) h = absurd h
ends_behind xs n Memory h = tt
