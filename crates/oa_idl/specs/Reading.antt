-- Parsers as functions on lists of words. They return the value at the front and the words that are left, or why and at
-- which word parsing stopped.
use Rattle.std.specs.Prelude.{◌≡◌, ℕ, zero, suc, Bool, false, if◌then◌else◌, List, [], ◌∷◌, length, Option, Some, None}
use Rattle.std.specs.Prelude.{Result, Ok, Err}
use Rattle.std.specs.Borrow.{Bor}
use Rattle.oa_idl.specs.declared.stop.TreeLimit.{TreeLimit}
use Rattle.oa_idl.specs.declared.stop.Stop.{Stop}
use Rattle.oa_idl.specs.declared.stop.Stop.TheVariants.{Syntax, Memory}
use Rattle.oa_idl.specs.declared.stop.Stop.TheVariants as stops
use Rattle.oa_tokens.specs.declared.lexer.TokenKind.{TokenKind}
use Rattle.oa_idl.specs.promise.Forms.{Word}

-- The result of a parser: a value and the words that are left, or an error and the words from the refused one on.
pub data ReadStep (A : Type 0) : Type 0 where
  Got : A → List Word → ReadStep A
  Stuck : Stop → List Word → ReadStep A

-- A parser of values of this type.
abbrev pub Parser : Type 0 → Type 0
Parser A = List Word → ReadStep A

abbrev pub and_then : {A B : Type 0} → ReadStep A → (A → Parser B) → ReadStep B
and_then (Got x left) next = next x left
and_then (Stuck why left) next = Stuck why left

unfoldable pub bind : {A B : Type 0} → Parser A → (A → Parser B) → Parser B
bind read next words = and_then (read words) next

infixl 10 ◌>>=◌
abbrev pub ◌>>=◌ : {A B : Type 0} → Parser A → (A → Parser B) → Parser B
read >>= next = bind read next

-- Reads nothing and returns a value.
unfoldable pub give : {A : Type 0} → A → Parser A
give x words = Got x words

-- Reads nothing and fails.
unfoldable pub fail : {A : Type 0} → Stop → Parser A
fail why words = Stuck why words

-- There is a next word, and it passes the test.
abbrev pub heads : (Word → Bool) → List Word → Bool
heads test [] = false
heads test (w ∷ words) = test w

abbrev pub done : Unit {0}
done = tt

-- One parser if the next word passes the test, the other if not.
unfoldable pub choose : {A : Type 0} → (Word → Bool) → Parser A → Parser A → Parser A
choose test one other words = if heads test words then one words else other words

-- The words after the first.
abbrev pub later_words : List Word → List Word
later_words [] = []
later_words (w ∷ words) = words

-- The parser if the flag is true; otherwise a syntax error.
unfoldable pub require : {A : Type 0} → Bool → Parser A → Parser A
require b read words = if b then read words else Stuck Syntax words

-- The parser of the value, if there is one; otherwise a syntax error.
unfoldable pub demand : {A B : Type 0} → Option A → (A → Parser B) → Parser B
demand None read words = Stuck Syntax words
demand (Some x) read words = read x words

-- Reads one word that passes a test.
unfoldable pub this_at : (Word → Bool) → Parser (Unit {0})
this_at test words = if heads test words then Got done (later_words words) else Stuck Syntax words

-- Skips the next word if it passes a test.
unfoldable pub perhaps_at : (Word → Bool) → Parser (Unit {0})
perhaps_at test words = Got done (if heads test words then later_words words else words)

-- The meaning of the next word, if it has one.
abbrev pub meaning_of : {A : Type 0} → (Word → Option A) → List Word → Option A
meaning_of meaning [] = None
meaning_of meaning (w ∷ words) = meaning w

-- The value of the next word, unless it exceeds a limit.
abbrev pub unless_over : {A : Type 0} → Option TreeLimit → A → List Word → ReadStep A
unless_over None x words = Got x (later_words words)
unless_over (Some l) x words = Stuck (stops.Limit l) words

-- The value of the next word; a syntax error if it has no meaning.
abbrev pub if_meant : {A : Type 0} → Option A → (A → Option TreeLimit) → List Word → ReadStep A
if_meant None over words = Stuck Syntax words
if_meant (Some x) over words = unless_over (over x) x words

-- Reads one word and returns its meaning, unless this exceeds a limit.
unfoldable pub one_at : {A : Type 0} → (Word → Option A) → (A → Option TreeLimit) → Parser A
one_at meaning over words = if_meant (meaning_of meaning words) over words

-- Reads fewer than `n` items up to a word that passes the test, and the end from this word on. Each item and the end
-- are read by the current state. One word that passes `apart` of the item may follow it.
unfoldable pub until : {S A B : Type 0} → (Word → Bool) → (A → Word → Bool) → (S → Parser A) → (S → A → S)
    → (S → Parser B) → ℕ → S → Parser (List A × B)
until test apart item grow last zero s = fail Syntax
until test apart item grow last (suc n) s = choose test
    (last s >>= λ b. give ([], b))
    (item s >>= λ x. perhaps_at (apart x) >>= λ _. until test apart item grow last n (grow s x) >>= λ r.
    give (x ∷ r.0, r.1))

-- Reads a list, whose length is bounded by the number of words only.
unfoldable pub list_at : {S A B : Type 0} → (Word → Bool) → (A → Word → Bool) → (S → Parser A) → (S → A → S)
    → (S → Parser B) → S → Parser (List A × B)
list_at test apart item grow last s words = until test apart item grow last (length words) s words

-- As `until`, for a list of which only the state is kept: each step reads an item and returns the new state.
unfoldable pub gather : {S B : Type 0} → (Word → Bool) → (S → Parser S) → (S → Parser B) → ℕ → S → Parser B
gather test step last zero s = fail Syntax
gather test step last (suc n) s = choose test (last s) (step s >>= λ t. gather test step last n t)

-- As `gather`, with a length that is bounded by the number of words only.
unfoldable pub gather_at : {S B : Type 0} → (Word → Bool) → (S → Parser S) → (S → Parser B) → S → Parser B
gather_at test step last s words = gather test step last (length words) s words

-- A call of the code on a reader returns and leaves what the parser does, unless memory runs out.
abbrev pub ReadsWords : {X Y : Type 0} → (X → Y) → Result X Stop → List Word → ReadStep Y → Type 0
ReadsWords view (Ok x) new read = read ≡ Got (view x) new
ReadsWords view (Err Syntax) new read = read ≡ Stuck Syntax new
ReadsWords view (Err (stops.Limit l)) new read = read ≡ Stuck (stops.Limit l) new
ReadsWords view (Err Memory) new read = Unit {0}

-- The kind of the next word, and its bytes.
abbrev pub first_word : List Word → Option (TokenKind × List ℕ)
first_word [] = None
first_word (w ∷ words) = Some (w.kind, w.text)

-- The kind and the bytes of the next word that a call of the code returns.
abbrev pub seen_first : Option (TokenKind × Bor (List ℕ)) → Option (TokenKind × List ℕ)
seen_first None = None
seen_first (Some f) = Some (f.0, f.1.now)
