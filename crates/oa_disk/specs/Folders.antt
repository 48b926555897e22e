-- The folder in which a path names a file. (POSIX.1-2017, 4.13, "Pathname Resolution".)
use Rattle.std.specs.Prelude.{◌≡◌, ◌⊎◌, ◌==◌, ℕ, List, [], ◌∷◌, ◌++◌, codes}
use Rattle.std.specs.Str.{NoCharPasses}

abbrev pub HasNoSlash : List ℕ → Type 0
HasNoSlash name = NoCharPasses (λ c. c == 47) name

-- the text before a path's last slash, or the root if that is empty
abbrev pub folder_before : List ℕ → List ℕ
folder_before [] = codes "/"
folder_before (first ∷ rest) = first ∷ rest

pub record IsFolderBefore (path folder : List ℕ) : Type 0 where
  pub front : List ℕ
  pub name : List ℕ
  pub parts : path ≡ front ++ (47 ∷ name)
  pub last : HasNoSlash name
  pub is : folder ≡ folder_before front

-- the folder of a path; the working folder if the path has no slash
abbrev pub IsFolderOf : List ℕ → List ℕ → Type 0
IsFolderOf path folder = (HasNoSlash path × (folder ≡ codes ".")) ⊎ IsFolderBefore path folder
