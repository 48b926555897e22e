-- A path and its last slash.
use Rattle.std.proofs.Common.{◌≡◌, ◌∙◌, ◌==◌, ℕ, false, List, [], ◌∷◌, ◌++◌, length, sym, ap, refl, arith, drop, take}
use Rattle.std.proofs.lemmas.List.{take-append-drop}
use Rattle.std.proofs.lemmas.Str.Pattern.{drop_at_char}
use Rattle.std.specs.Str.Pattern.{HasCharAt}
use Rattle.oa_disk.specs.Folders.{folder_before, HasNoSlash, IsFolderBefore}

whole : (front : List ℕ) → (length front == 0) ≡ false → front ≡ folder_before front
whole [] some = absurd (cc some)
whole (first ∷ rest) some = refl

parts : (path : List ℕ) (i j : ℕ) → HasCharAt 47 path i j → path ≡ take i path ++ (47 ∷ drop j path)
parts path i j at = sym (take-append-drop i path) ∙ ap (λ (rest : List ℕ). take i path ++ rest) (drop_at_char 47 path i j at (omega arith))

pub before : (path folder : List ℕ) (i j : ℕ) → HasNoSlash (drop j path) → HasCharAt 47 path i j → folder ≡ take i path → (length folder == 0) ≡ false
    → IsFolderBefore path folder
before path folder i j last at is some =
    record { front = take i path; name = drop j path; parts = parts path i j at; last = last; is = whole folder some ∙ ap folder_before is }
