-- Reading images that stand one behind the other.
use Rattle.std.proofs.Common.{◌≡◌, ℕ, ◌<◌, ◌≤◌, List, [], ◌∷◌, ◌++◌, length, Some, None, Err, refl, sym, ap, ◌∙◌, append_assoc, arith}
use Rattle.std.specs.List.{AllByRecursion, flat_map}
use Rattle.std.proofs.lemmas.List.{append-nil, length-append}
use Rattle.std.proofs.lemmas.Grind.{flat_map-append}
use Rattle.oa_ndr.specs.promise.Reading.{Cursor, at}
use Rattle.oa_formats.specs.promise.Formats.{Format, IsBytes}
use Rattle.oa_formats.specs.declared.fault.ReadFault.{ReadFault}
use Rattle.oa_formats.specs.declared.fault.ReadFault.TheVariants as reads
use Rattle.oa_formats.specs.Answers.{ReadsImage, IsRowReading, HasBytes, placed}
use Rattle.oa_formats.specs.promise.Answers.{IsRow}
use Rattle.oa_formats.proofs.Exact.{no_prefix}

-- what was read, and what is left
pub record SoFar {C : Type 0} (F : Format C) (bytes : List ℕ) (xs : List C) (s : Cursor) : Type 0 where
  pub are : AllByRecursion F.Is xs
  pub parts : bytes ≡ flat_map F.image xs ++ s.rest
  pub ok : IsBytes s.rest

pub all_and : {C : Type 0} (P : C → Type 0) (xs : List C) (x : C) → AllByRecursion P xs → P x → AllByRecursion P (xs ++ x ∷ [])
all_and P [] x all p = (p, tt)
all_and P (y ∷ ys) x all p = (all.0, all_and P ys x all.1 p)

pub one_more : {C : Type 0} (F : Format C) (bytes : List ℕ) (xs : List C) (s t : Cursor) (x : C) → F.read s ≡ Some (x, t)
    → SoFar F bytes xs s → SoFar F bytes (xs ++ x ∷ []) t
one_more F bytes xs s t x e d =
    let one = F.takes s x t d.ok e in record {
      are = all_and F.Is xs x d.are one.0;
      parts = d.parts ∙ ap (λ (ys : List ℕ). flat_map F.image xs ++ ys) one.1 ∙ sym (append_assoc (flat_map F.image xs) (F.image x) t.rest)
          ∙ ap (λ (ys : List ℕ). (flat_map F.image xs ++ ys) ++ t.rest) (sym (append-nil (F.image x)))
          ∙ ap (λ (ys : List ℕ). ys ++ t.rest) (sym (flat_map-append F.image xs (x ∷ [])));
      ok = one.2;
    }

pub is_shorter : {C : Type 0} (F : Format C) → HasBytes F → (bytes : List ℕ) (xs : List C) (s t : Cursor) (x : C) → F.read s ≡ Some (x, t)
    → SoFar F bytes xs s → length t.rest < length s.rest
is_shorter F more bytes xs s t x e d =
    let one = F.takes s x t d.ok e in
    omega (arith, more x one.0, ap length one.1, length-append (F.image x) t.rest)

-- what is left of a row is a row, so where no value is read from it, there was no row
row_left : {C : Type 0} (F : Format C) (place : ℕ) (rest : List ℕ) (xs ys : List C) → (rest ≡ [] → ⊥) → F.read (at place rest) ≡ None
    → AllByRecursion F.Is xs → AllByRecursion F.Is ys → flat_map F.image xs ++ rest ≡ flat_map F.image ys → ⊥
row_left F place rest [] [] more e hx hy same = more same
row_left F place rest [] (y ∷ ys) more e hx hy same = let one = sym e ∙ ap (λ (zs : List ℕ). F.read (at place zs)) same
    ∙ (F.again y place (flat_map F.image ys) hy.0).1 in absurd cc
row_left F place [] (x ∷ xs) [] more e hx hy same = more refl
row_left F place (b ∷ rest) (x ∷ xs) [] more e hx hy same =
    absurd (omega (arith, ap length same, length-append (F.image x ++ flat_map F.image xs) (b ∷ rest)))
row_left F place rest (x ∷ xs) (y ∷ ys) more e hx hy same =
    let p = no_prefix F x y (flat_map F.image xs ++ rest) (flat_map F.image ys) hx.0 hy.0 (sym (append_assoc (F.image x) (flat_map F.image xs) rest) ∙ same) in
    row_left F place rest xs ys more e hx.1 hy.1 p.1

pub no_row : {C : Type 0} (F : Format C) (bytes : List ℕ) (xs : List C) (s : Cursor) → (s.rest ≡ [] → ⊥) → F.read s ≡ None
    → SoFar F bytes xs s → (ys : List C) → IsRow F bytes ys → ⊥
no_row F bytes xs s more h d = λ ys row. row_left F s.position s.rest xs ys more h d.are row.are (sym d.parts ∙ row.whole)

-- where a value of the row was refused
pub row_refused : {C : Type 0} (F : Format C) (bytes : List ℕ) (xs : List C) (s t : Cursor) (e : ReadFault) (place : ℕ) → (s.rest ≡ [] → ⊥)
    → ReadsImage {A = C} (Err e) t (F.read s) → SoFar F bytes xs s → place ≤ length bytes
    → IsRowReading {C = C} F bytes (Err (placed e place))
row_refused F bytes xs s t reads.Broken place more h d among = (no_row F bytes xs s more h d, among)
row_refused F bytes xs s t reads.Memory place more h d among = tt
