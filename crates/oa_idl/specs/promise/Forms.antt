-- Languages over the words of a text. A form says which sequences of words encode a value.
use Rattle.std.specs.Prelude.{◌≡◌, ℕ, Bool, true, false, List, [], ◌∷◌, ◌++◌, Option, Some, ◌⊎◌}
use Rattle.oa_tokens.specs.declared.lexer.TokenKind.{TokenKind}

-- A token with its bytes.
pub record Word : Type 0 where
  pub kind : TokenKind
  pub text : List ℕ

-- A language: a set of sequences of words.
abbrev pub Language : Type 1
Language = List Word → Type 0

-- A sequence of the first language followed by one of the second.
pub record Then (F G : List Word → Type 0) (words : List Word) : Type 0 where
  pub front : List Word
  pub back : List Word
  pub parts : words ≡ front ++ back
  pub first : F front
  pub second : G back

infixr 5 ◌▸◌
abbrev pub ◌▸◌ : Language → Language → Language
F ▸ G = Then F G

-- No words.
abbrev pub nothing : Language
nothing words = words ≡ []

-- No words, and a fact.
pub record given (P : Type 0) (words : List Word) : Type 0 where
  pub fact : P
  pub none : words ≡ []

-- One word that passes a test.
pub record this (test : Word → Bool) (words : List Word) : Type 0 where
  pub word : Word
  pub parts : words ≡ word ∷ []
  pub is : test word ≡ true

-- One word with this meaning.
pub record one {A : Type 0} (meaning : Word → Option A) (x : A) (words : List Word) : Type 0 where
  pub word : Word
  pub parts : words ≡ word ∷ []
  pub is : meaning word ≡ Some x

-- A sequence of the language, or no words.
abbrev pub optional : Language → Language
optional F words = F words ⊎ (words ≡ [])

-- A sequence of one language or of the other.
abbrev pub either_of : Language → Language → Language
either_of F G words = F words ⊎ G words

-- A sequence of the language, if a fact holds.
abbrev pub where_is : Type 0 → Language → Language
where_is P F words = P × F words

-- A sequence that encodes some value, followed by one of a language that may depend on this value.
pub record with {A : Type 0} (F G : A → List Word → Type 0) (words : List Word) : Type 0 where
  pub value : A
  pub form : Then (F value) (G value) words

-- The sequences of a list and its end. A state `s` describes what came before. Each item has the language `F` of the
-- state and changes the state by `grow`. One word that passes `apart` of the item may follow it. The end has the
-- language `E` of the last state.
abbrev pub listed : {S A B : Type 0} → (S → A → Language) → (S → A → S) → (A → Word → Bool) → (S → B → Language) → S
    → List A
    → B → Language
listed F grow apart E s [] b = E s b
listed F grow apart E s (x ∷ xs) b = F s x ▸ optional (this (apart x)) ▸ listed F grow apart E (grow s x) xs b

-- As `listed`, for a list of which only the value `b` of the end is used.
pub record gathered {S A B : Type 0} (F : S → A → List Word → Type 0) (grow : S → A → S) (apart : A → Word → Bool)
    (E : S → B → List Word → Type 0) (s : S) (b : B) (words : List Word) : Type 0 where
  pub all : List A
  pub form : listed F grow apart E s all b words

-- No word may follow an item.
abbrev pub nowhere : {A : Type 0} → A → Word → Bool
nowhere x w = false
