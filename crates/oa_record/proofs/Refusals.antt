-- A body has one refusal.
use Rattle.std.proofs.Common.{◌≡◌, inl, inr, ℕ, suc, List, [], ◌∷◌, ◌++◌, length, drop, Option, refl, sym, ap, subst, ◌∙◌}
use Rattle.std.specs.List.{AllByRecursion}
use Rattle.oa_wire_variant.specs.promise.Variants.{Spells}
use Rattle.oa_wire_array.specs.declared.fault.WireFault.TheVariants as faults
use Rattle.oa_record.specs.promise.Layouts.{variant_fields}
use Rattle.oa_record.specs.promise.Asks.{field_index, IsSpelled, IsUnbroken, SpellsNothing, IsStub, IsBadVarType}
use Rattle.oa_record.proofs.Requests.{one_layout}

one_fault : (field : List ℕ) → SpellsNothing field faults.BadVarType → SpellsNothing field faults.BadStub → ⊥
one_fault field a b = let e : faults.BadVarType ≡ faults.BadStub = sym a.fault ∙ b.fault in absurd cc

-- If the lowest bad type is reported, no field is broken.
all_unbroken : (front back : List (List ℕ)) (field : List ℕ) → AllByRecursion IsSpelled front → SpellsNothing field faults.BadVarType
    → AllByRecursion IsUnbroken back → AllByRecursion IsUnbroken (front ++ field ∷ back)
all_unbroken [] back field h bad rest = (one_fault field bad, rest)
all_unbroken (f ∷ front) back field h bad rest = ((λ broken. broken.nothing h.0.0 h.0.1), all_unbroken front back field h.1 bad rest)

none_broken : (front back : List (List ℕ)) (field : List ℕ) → AllByRecursion IsUnbroken (front ++ field ∷ back) → SpellsNothing field faults.BadStub → ⊥
none_broken [] back field h broken = h.0 broken
none_broken (f ∷ front) back field h broken = none_broken front back field h.1 broken

pub one_code : (body : List ℕ) (index : Option ℕ) → IsStub body → IsBadVarType body index → ⊥
one_code body index (inl none) b = none b.parts b.lies
one_code body index (inr a) b =
    let same : variant_fields a.parts ≡ variant_fields b.parts = ap variant_fields (one_layout body a.parts b.parts a.lies b.lies) in
    none_broken a.broken.front a.broken.back a.broken.field
    (subst (AllByRecursion IsUnbroken) (sym b.bad.whole ∙ sym same ∙ a.broken.whole)
    (all_unbroken b.bad.front b.bad.back b.bad.field b.bad.lowest b.bad.bad b.bad.unbroken))
    a.broken.broken

-- the first field that spells no value, in two splits of one list
same_place : (a b p q : List (List ℕ)) (x y : List ℕ) → AllByRecursion IsSpelled a → AllByRecursion IsSpelled b → SpellsNothing x faults.BadVarType
    → SpellsNothing y faults.BadVarType → a ++ x ∷ p ≡ b ++ y ∷ q → length a ≡ length b
same_place [] [] p q x y ha hb bad_x bad_y e = refl
same_place [] (f ∷ b) p q x y ha hb bad_x bad_y e = let same : f ≡ x = cc in absurd (bad_x.nothing hb.0.0 (subst (λ (r : List ℕ). Spells r hb.0.0) same hb.0.1))
same_place (f ∷ a) [] p q x y ha hb bad_x bad_y e = let same : f ≡ y = cc in absurd (bad_y.nothing ha.0.0 (subst (λ (r : List ℕ). Spells r ha.0.0) same ha.0.1))
same_place (f ∷ a) (g ∷ b) p q x y ha hb bad_x bad_y e = ap suc (same_place a b p q x y ha.1 hb.1 bad_x bad_y (ap (drop 1) e))

pub one_index : (body : List ℕ) (i j : Option ℕ) → IsBadVarType body i → IsBadVarType body j → i ≡ j
one_index body i j a b =
    let parts : a.parts ≡ b.parts = one_layout body a.parts b.parts a.lies b.lies in
    let place : a.place ≡ b.place = sym a.bad.place
    ∙ same_place a.bad.front b.bad.front a.bad.back b.bad.back a.bad.field b.bad.field a.bad.lowest b.bad.lowest a.bad.bad b.bad.bad
    (sym a.bad.whole ∙ ap variant_fields parts ∙ b.bad.whole)
    ∙ b.bad.place in
    a.named ∙ (λ k. field_index (parts k) (place k)) ∙ sym b.named
