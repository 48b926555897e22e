-- Which limits a name breaks.
use Rattle.std.proofs.Common.{◌≡◌, ℕ, ◌<◌, ◌≤◌, Bool, true, false, List, length, Option, Some, None, ◌⊎◌, refl, subst, arith, ltb-true}
use Rattle.std.proofs.Common.{leb-true}
use Rattle.std.specs.Prelude.{nat_lt, nat_le, if◌then◌else◌}
use Rattle.std.proofs.Math.Logic.{⊎_elim, inl, inr}
use Rattle.oa_model.specs.promise.Limits.{max_name_characters}
use Rattle.oa_idl.specs.declared.stop.TreeLimit.{TreeLimit}
use Rattle.oa_idl.specs.declared.stop.TreeLimit.TheVariants as limits
use Rattle.oa_idl.specs.promise.Forms.{Word}
use Rattle.oa_idl.specs.promise.Words.{name_of}
use Rattle.oa_idl.specs.Words.{over, TooLong, NamedAt}

abbrev some : TreeLimit → Option TreeLimit
some m = Some m

some_limit : (m l : TreeLimit) → some m ≡ Some l → m ≡ l
some_limit m l e = cc

-- which limits `over` names
pub over_is : (m l : TreeLimit) (b c : ℕ) (name : List ℕ) → over m b c name ≡ Some l
    → ((max_name_characters < length name) × (limits.Name ≡ l)) ⊎ ((b ≤ c) × (m ≡ l))
over_is m l b c name e = by_length (nat_lt max_name_characters (length name)) refl e
  where
    by_count : (v : Bool) → nat_le b c ≡ v → (if v then Some m else None) ≡ Some l
        → ((max_name_characters < length name) × (limits.Name ≡ l)) ⊎ ((b ≤ c) × (m ≡ l))
    by_count true is e = inr (leb-true b c is, some_limit m l e)
    by_count false is e = absurd cc

    by_length : (v : Bool) → nat_lt max_name_characters (length name) ≡ v
        → (if v then Some limits.Name else (if nat_le b c then Some m else None)) ≡ Some l
        → ((max_name_characters < length name) × (limits.Name ≡ l)) ⊎ ((b ≤ c) × (m ≡ l))
    by_length true is e = inl (ltb-true max_name_characters (length name) is, some_limit limits.Name l e)
    by_length false is e = by_count (nat_le b c) refl e

free : (l m : TreeLimit) (name : List ℕ) → (m ≡ limits.Name → ⊥) → m ≡ l → TooLong l name
free limits.Name m name apart e = absurd (apart e)
free limits.Interfaces m name apart e = tt
free limits.Coclasses m name apart e = tt
free limits.Members m name apart e = tt
free limits.Params m name apart e = tt

long_name : (l : TreeLimit) (name : List ℕ) → max_name_characters < length name → limits.Name ≡ l → TooLong l name
long_name l name long e = subst (λ (k : TreeLimit). TooLong k name) e long

-- a limit of a list is broken at a name
pub over_named : (m : TreeLimit) (b c : ℕ) → (m ≡ limits.Name → ⊥) → (l : TreeLimit) (w : Word) (name : List ℕ) → name_of w ≡ Some name
    → over m b c name ≡ Some l → NamedAt l w
over_named m b c apart l w name is e = record {
  name = name;
  is = is;
  long = ⊎_elim (λ (k : (max_name_characters < length name) × (limits.Name ≡ l)). long_name l name k.0 k.1) (λ (k : (b ≤ c) × (m ≡ l)). free l m name apart k.1)
      (over_is m l b c name e);
}

-- and so is that of names alone
pub long_named : (l : TreeLimit) (w : Word) (name : List ℕ) → name_of w ≡ Some name → over limits.Name 1 0 name ≡ Some l → NamedAt l w
long_named l w name is e = record {
  name = name;
  is = is;
  long = ⊎_elim (λ (k : (max_name_characters < length name) × (limits.Name ≡ l)). long_name l name k.0 k.1)
      (λ (k : (1 ≤ 0) × (limits.Name ≡ l)). absurd (omega (arith, k.0))) (over_is limits.Name l 1 0 name e);
}
