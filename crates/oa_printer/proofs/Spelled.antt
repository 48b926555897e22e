-- Bytes of a form: they begin with its words, followed by the words of the remaining bytes.
use Rattle.std.specs.Prelude.{codes}
use Rattle.std.proofs.Common.{◌≡◌, ℕ, suc, ◌+◌, ◌<◌, Bool, true, List, [], ◌∷◌, ◌++◌, length, take, drop, Option, Some, refl, sym, ap}
use Rattle.std.proofs.Common.{subst, ◌∙◌, append_assoc, arith}
use Rattle.std.specs.List.{AllByRecursion, flat_map}
use Rattle.std.proofs.Math.Logic.{inr}
use Rattle.std.proofs.Math.Seq.{take-append_seam, drop-append_seam}
use Rattle.oa_tokens.specs.declared.lexer.TokenKind.{TokenKind}
use Rattle.oa_tokens.specs.declared.lexer.TokenKind.TheVariants as kinds
use Rattle.oa_tokens.specs.declared.lexer.Piece.TheVariants.{Word}
use Rattle.oa_tokens.specs.promise.Bytes.{is_in, run, group, is_guid}
use Rattle.oa_tokens.specs.promise.Tokens.{front}
use Rattle.oa_idl.specs.promise.Forms.{◌▸◌, nothing, this, one, optional, listed, gathered, nowhere}
use Rattle.oa_idl.specs.promise.Forms as forms
use Rattle.oa_idl.specs.promise.Words.{passes}
use Rattle.oa_idl.specs.promise.Grammar.{symbol, next_attribute, last_attribute, attributes}
use Rattle.oa_printer.specs.Printable.{IsNameText}
use Rattle.oa_printer.proofs.PrintedTokens.{word, HasWords, EndsWord, name_front}
use Rattle.oa_printer.proofs.PrintedTokens.HasWords.{Skip, Take}

pub record SpelledBy (F : List forms.Word → Type 0) (x : List ℕ) (ws : List forms.Word) : Type 0 where
  pub words : List forms.Word
  pub form : F words
  pub has : HasWords x (words ++ ws)

-- from x on the form is spelled, and y follows
abbrev pub Spells : (List forms.Word → Type 0) → List ℕ → List ℕ → Type 0
Spells F x y = (ws : List forms.Word) → HasWords y ws → SpelledBy F x ws

infixr 5 ◌▹◌
pub ◌▹◌ : {F G : List forms.Word → Type 0} {x y z : List ℕ} → Spells F x y → Spells G y z → Spells (F ▸ G) x z
◌▹◌ {F} {G} {x} {y} {z} f g ws h =
    let b = g ws h in
    let a = f (b.words ++ ws) b.has in
    record {
      words = a.words ++ b.words;
      form = record { front = a.words; back = b.words; parts = refl; first = a.form; second = b.form };
      has = subst (HasWords x) (sym (append_assoc a.words b.words ws)) a.has;
    }

-- The same bytes, written otherwise.
pub at : {F : List forms.Word → Type 0} {x y z : List ℕ} → x ≡ y → Spells F y z → Spells F x z
at {F} {x} {y} {z} e f ws h = let r = f ws h in
    record { words = r.words; form = r.form; has = subst (λ (bs : List ℕ). HasWords bs (r.words ++ ws)) (sym e) r.has }

-- The same words, by another form.
pub said : {F G : List forms.Word → Type 0} {x y : List ℕ} → ((ws : List forms.Word) → F ws → G ws) → Spells F x y → Spells G x y
said to f ws h = let r = f ws h in record { words = r.words; form = to r.words r.form; has = r.has }

pub nothing_spelled : {x : List ℕ} → Spells nothing x x
nothing_spelled ws h = record { words = []; form = refl; has = h }

pub left_out : {F : List forms.Word → Type 0} {x : List ℕ} → Spells (optional F) x x
left_out ws h = record { words = []; form = inr refl; has = h }

-- ---- one word

one_word : {F : List forms.Word → Type 0} (k : TokenKind) (n : ℕ) (x y text : List ℕ) → 0 < length x → front x ≡ Word k n → take n x ≡ text
    → drop n x ≡ y → F (word k text ∷ []) → Spells F x y
one_word {F} k n x y text lt is same rest f ws h = record {
  words = word k text ∷ [];
  form = f;
  has = subst (λ (t : List ℕ). HasWords x (word k t ∷ ws)) same (Take n k x ws lt is (subst (λ (bs : List ℕ). HasWords bs ws) (sym rest) h));
}

pub blank : {F : List forms.Word → Type 0} {x y : List ℕ} → Spells F x y → Spells F (32 ∷ x) y
unfolding front is_guid group run is_in
blank {F} {x} {y} f ws h = let r = f ws h in record { words = r.words; form = r.form; has = Skip 1 (32 ∷ x) (r.words ++ ws) (omega arith) refl r.has }

pub line : {F : List forms.Word → Type 0} {x y : List ℕ} → Spells F x y → Spells F (10 ∷ x) y
unfolding front is_guid group run is_in
line {F} {x} {y} f ws h = let r = f ws h in record { words = r.words; form = r.form; has = Skip 1 (10 ∷ x) (r.words ++ ws) (omega arith) refl r.has }

mark : (s : List ℕ) (b : ℕ) (x : List ℕ) → front (b ∷ x) ≡ Word kinds.Mark 1 → passes s (word kinds.Mark (b ∷ [])) ≡ true
    → Spells (symbol s) (b ∷ x) x
mark s b x is pass = one_word kinds.Mark 1 (b ∷ x) x (b ∷ []) (omega arith) is refl refl (record { word = word kinds.Mark (b ∷ []); parts = refl; is = pass })

pub open_mark : {x : List ℕ} → Spells (symbol (codes "[")) (91 ∷ x) x
unfolding front is_guid group run is_in passes
open_mark {x} = mark (codes "[") 91 x refl refl

pub close_mark : {x : List ℕ} → Spells (symbol (codes "]")) (93 ∷ x) x
unfolding front is_guid group run is_in passes
close_mark {x} = mark (codes "]") 93 x refl refl

pub begin_mark : {x : List ℕ} → Spells (symbol (codes "{")) (123 ∷ x) x
unfolding front is_guid group run is_in passes
begin_mark {x} = mark (codes "{") 123 x refl refl

pub finish_mark : {x : List ℕ} → Spells (symbol (codes "}")) (125 ∷ x) x
unfolding front is_guid group run is_in passes
finish_mark {x} = mark (codes "}") 125 x refl refl

pub left_mark : {x : List ℕ} → Spells (symbol (codes "(")) (40 ∷ x) x
unfolding front is_guid group run is_in passes
left_mark {x} = mark (codes "(") 40 x refl refl

pub right_mark : {x : List ℕ} → Spells (symbol (codes ")")) (41 ∷ x) x
unfolding front is_guid group run is_in passes
right_mark {x} = mark (codes ")") 41 x refl refl

pub comma_mark : {x : List ℕ} → Spells (symbol (codes ",")) (44 ∷ x) x
unfolding front is_guid group run is_in passes
comma_mark {x} = mark (codes ",") 44 x refl refl

pub semicolon_mark : {x : List ℕ} → Spells (symbol (codes ";")) (59 ∷ x) x
unfolding front is_guid group run is_in passes
semicolon_mark {x} = mark (codes ";") 59 x refl refl

pub colon_mark : {x : List ℕ} → Spells (symbol (codes ":")) (58 ∷ x) x
unfolding front is_guid group run is_in passes
colon_mark {x} = mark (codes ":") 58 x refl refl

pub dot_mark : {x : List ℕ} → Spells (symbol (codes ".")) (46 ∷ x) x
unfolding front is_guid group run is_in passes
dot_mark {x} = mark (codes ".") 46 x refl refl

pub minus_mark : {x : List ℕ} → Spells (symbol (codes "-")) (45 ∷ x) x
unfolding front is_guid group run is_in passes
minus_mark {x} = mark (codes "-") 45 x refl refl

one_plus : (n : ℕ) → 1 + n ≡ suc n
one_plus n = omega arith

-- a name before a byte that ends it
pub named_word : {F : List forms.Word → Type 0} (text : List ℕ) (b : ℕ) (x : List ℕ) → IsNameText text → EndsWord (b ∷ x)
    → F (word kinds.Name text ∷ []) → Spells F (text ++ b ∷ x) (b ∷ x)
named_word {F} [] b x is ends f = absurd is
named_word {F} (c ∷ cs) b x is ends f = one_word kinds.Name (suc (length cs)) (c ∷ (cs ++ b ∷ x)) (b ∷ x) (c ∷ cs) (omega arith)
    (name_front c cs b x is ends ∙ ap (λ (n : ℕ). Word kinds.Name n) (one_plus (length cs))) (ap (λ (t : List ℕ). c ∷ t) (take-append_seam cs (b ∷ x)))
    (drop-append_seam cs (b ∷ x)) f

pub sign_word : (s : List ℕ) (text : List ℕ) (b : ℕ) (x : List ℕ) → IsNameText text → EndsWord (b ∷ x)
    → passes s (word kinds.Name text) ≡ true → Spells (symbol s) (text ++ b ∷ x) (b ∷ x)
sign_word s text b x is ends pass = named_word text b x is ends (record { word = word kinds.Name text; parts = refl; is = pass })

pub meant_word : {A : Type 0} (meaning : forms.Word → Option A) (v : A) (text : List ℕ) (b : ℕ) (x : List ℕ) → IsNameText text
    → EndsWord (b ∷ x) → meaning (word kinds.Name text) ≡ Some v → Spells (one meaning v) (text ++ b ∷ x) (b ∷ x)
meant_word meaning v text b x is ends means = named_word text b x is ends (record { word = word kinds.Name text; parts = refl; is = means })

-- a word of another kind
pub whole_word : {F : List forms.Word → Type 0} (k : TokenKind) (text x : List ℕ) → 0 < length text → front (text ++ x) ≡ Word k (length text)
    → F (word k text ∷ []) → Spells F (text ++ x) x
whole_word {F} k text x some is f = one_word k (length text) (text ++ x) x text (some_more text x some) is (take-append_seam text x) (drop-append_seam text x) f
  where
    some_more : (text x : List ℕ) → 0 < length text → 0 < length (text ++ x)
    some_more [] x some = absurd (omega (arith, some))
    some_more (c ∷ cs) x some = omega arith

-- ---- lists

-- a list whose items do not depend on those before
pub all_spelled : {S A B : Type 0} (F : A → List forms.Word → Type 0) (grow : S → A → S) (apart : A → forms.Word → Bool)
    (E : S → B → List forms.Word → Type 0) (text : A → List ℕ) (P : A → Type 0) (b : B) (y z : List ℕ)
    → ((a : A) (x : List ℕ) → P a → Spells (F a) (text a ++ x) x) → ((s : S) → Spells (E s b) y z)
    → (s : S) (all : List A) → AllByRecursion P all → Spells (listed (λ s. F) grow apart E s all b) (flat_map text all ++ y) z
all_spelled F grow apart E text P b y z each ends s [] h = ends s
all_spelled F grow apart E text P b y z each ends s (a ∷ all) h =
    at (append_assoc (text a) (flat_map text all) y)
    (each a (flat_map text all ++ y) h.0 ▹ (left_out ▹ all_spelled F grow apart E text P b y z each ends (grow s a) all h.1))

-- ---- attributes

pub last_spelled : {S A B : Type 0} {attribute : A → List forms.Word → Type 0} {may_come : S → A → Bool} {grow : S → A → S} {finish : S
    → Option B} (s : S) (b : B) {x : List ℕ} → finish s ≡ Some b
    → Spells (gathered (next_attribute attribute may_come) grow nowhere (last_attribute finish) s b) (93 ∷ x) x
last_spelled {attribute = attribute} {may_come = may_come} {grow = grow} {finish = finish} s b e ws h = let r = close_mark ws h in
    record { words = r.words; form = record { all = []; form = (e, r.form) }; has = r.has }

pub next_spelled : {S A B : Type 0} {attribute : A → List forms.Word → Type 0} {may_come : S → A → Bool} {grow : S → A → S} {finish : S
    → Option B} (s : S) (b : B) (a : A) {x y z : List ℕ} → may_come s a ≡ true → Spells (attribute a) x y
    → Spells (gathered (next_attribute attribute may_come) grow nowhere (last_attribute finish) (grow s a) b) y z
    → Spells (gathered (next_attribute attribute may_come) grow nowhere (last_attribute finish) s b) (44 ∷ x) z
next_spelled s b a may f g ws h =
    let rest = g ws h in
    let r = ((comma_mark ▹ f) ▹ left_out {F = this (nowhere a)}) (rest.words ++ ws) rest.has in
    record {
      words = r.words ++ rest.words;
      form = record {
        all = a ∷ rest.form.all;
        form = record {
          front = r.form.front;
          back = r.form.back ++ rest.words;
          parts = append_parts r.words r.form.front r.form.back rest.words r.form.parts;
          first = (may, r.form.first);
          second = record { front = r.form.back; back = rest.words; parts = refl; first = r.form.second; second = rest.form.form };
        };
      };
      has = subst (HasWords _) (sym (append_assoc r.words rest.words ws)) r.has;
    }
  where
    append_parts : (all a b c : List forms.Word) → all ≡ a ++ b → all ++ c ≡ a ++ (b ++ c)
    append_parts all a b c e = ap (λ (ws : List forms.Word). ws ++ c) e ∙ append_assoc a b c

pub attributes_spelled : {S A B : Type 0} {attribute : A → List forms.Word → Type 0} {may_come : S → A → Bool} {grow : S → A
    → S} {finish : S → Option B} (s : S) (b : B) (a : A) {x y z : List ℕ} → may_come s a ≡ true → Spells (attribute a) x y
    → Spells (gathered (next_attribute attribute may_come) grow nowhere (last_attribute finish) (grow s a) b) y z
    → Spells (attributes attribute may_come grow finish s b) (91 ∷ x) z
attributes_spelled s b a may f g = open_mark ▹ (λ ws h.
    let rest = g ws h in
    let first = f (rest.words ++ ws) rest.has in
    record {
      words = first.words ++ rest.words;
      form = record { value = a; form = record { front = first.words; back = rest.words; parts = refl; first = (may, first.form); second = rest.form } };
      has = subst (HasWords _) (sym (append_assoc first.words rest.words ws)) first.has;
    })

-- ---- The following word is after a space, or in the next line.

pub then_blank : {F : List forms.Word → Type 0} {x y : List ℕ} → Spells F x (32 ∷ y) → Spells F x y
unfolding front is_guid group run is_in
then_blank {F} {x} {y} f ws h = f ws (Skip 1 (32 ∷ y) ws (omega arith) refl h)

pub then_line : {F : List forms.Word → Type 0} {x y : List ℕ} → Spells F x (10 ∷ y) → Spells F x y
unfolding front is_guid group run is_in
then_line {F} {x} {y} f ws h = f ws (Skip 1 (10 ∷ y) ws (omega arith) refl h)
