-- The numbers of bytes of a number.
use Rattle.std.proofs.Common.{◌≡◌, ℕ, ◌⊎◌, inl, inr, Bool, true, false, eqb, refl, sym, subst}
use Rattle.std.specs.Prelude.{◌||◌}
use Rattle.std.specs.Option.{unwrap_or}
use Rattle.std.proofs.lemmas.Bool.{eqb-true, false≢true}
use Rattle.oa_model.specs.promise.Types.{element_size_of}
use Rattle.oa_model.specs.declared.var_type.VarType.{VarType}

abbrev pub IsWidth : ℕ → Type 0
IsWidth w = (w ≡ 1) ⊎ (w ≡ 2) ⊎ (w ≡ 4) ⊎ (w ≡ 8)

-- A property of all four widths.
pub of_width : (P : ℕ → Type 0) → P 1 → P 2 → P 4 → P 8 → (w : ℕ) → IsWidth w → P w
of_width P a b c d w (inl e) = subst P (sym e) a
of_width P a b c d w (inr (inl e)) = subst P (sym e) b
of_width P a b c d w (inr (inr (inl e))) = subst P (sym e) c
of_width P a b c d w (inr (inr (inr e))) = subst P (sym e) d

pub one : IsWidth 1
one = inl refl

pub two : IsWidth 2
two = inr (inl refl)

pub four : IsWidth 4
four = inr (inr (inl refl))

pub eight : IsWidth 8
eight = inr (inr (inr refl))

-- whether it is one, by tests
abbrev pub is_width : ℕ → Bool
is_width w = eqb w 1 || (eqb w 2 || (eqb w 4 || eqb w 8))

tested : {A B C D : Type 0} (a b c d : Bool) → (a ≡ true → A) → (b ≡ true → B) → (c ≡ true → C) → (d ≡ true → D) → (a || (b || (c || d))) ≡ true → A ⊎ B ⊎ C ⊎ D
tested true b c d p q r s e = inl (p refl)
tested false true c d p q r s e = inr (inl (q refl))
tested false false true d p q r s e = inr (inr (inl (r refl)))
tested false false false true p q r s e = inr (inr (inr (s refl)))
tested false false false false p q r s e = absurd (false≢true e)

pub width_by : (w : ℕ) → is_width w ≡ true → IsWidth w
width_by w e = tested (eqb w 1) (eqb w 2) (eqb w 4) (eqb w 8) (eqb-true w 1) (eqb-true w 2) (eqb-true w 4) (eqb-true w 8) e

-- The number of bytes of a number of the type.
abbrev pub number_bytes : VarType → ℕ
number_bytes t = unwrap_or (element_size_of t) 4
