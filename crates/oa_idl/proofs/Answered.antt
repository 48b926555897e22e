-- The meaning of the result of parsing a whole text.
use Rattle.std.proofs.Common.{◌≡◌, ℕ, ◌-◌, true, List, [], ◌∷◌, ◌++◌, length, map, refl, sym, ap, subst, ◌∙◌, append_assoc, arith, Result}
use Rattle.std.proofs.Common.{Ok, Err}
use Rattle.std.proofs.lemmas.List.{append-nil}
use Rattle.oa_tokens.specs.declared.lexer.Token.{Token}
use Rattle.oa_idl.specs.declared.stop.Stop.TheVariants.{Syntax}
use Rattle.oa_idl.specs.declared.stop.Stop.TheVariants as stops
use Rattle.oa_idl.specs.declared.stop.TreeLimit.{TreeLimit}
use Rattle.oa_idl.specs.declared.stop.TreeLimit.TheVariants as limits
use Rattle.oa_idl.specs.declared.stop.Limit.TheVariants as texts
use Rattle.oa_idl.specs.declared.stop.ParseError.{ParseError}
use Rattle.oa_idl.specs.declared.stop.ParseError.TheVariants as errors
use Rattle.oa_idl.specs.promise.Trees.{TreeValue}
use Rattle.oa_tokens.specs.promise.Tokens.{AreTokens}
use Rattle.oa_idl.specs.promise.Forms.{Word, Then, ◌▸◌, nothing}
use Rattle.oa_idl.specs.Forms.{BeginsWithWords}
use Rattle.oa_idl.specs.promise.Words.{passes, word_of, words_of}
use Rattle.oa_idl.specs.Reading.ReadStep.{Got, Stuck}
use Rattle.oa_idl.specs.promise.Grammar.{symbol, library}
use Rattle.oa_idl.specs.GrammarReading.{library_at}
use Rattle.oa_idl.specs.promise.Limits.{KeepsLimit}
use Rattle.oa_idl.specs.TextLimits.{limit_of}
use Rattle.oa_idl.specs.Parsed.{IsParsed}
use Rattle.oa_idl.specs.promise.IsTree.{MayBeText, IsTree}
use Rattle.oa_idl.specs.IsTree.{place_after, Refused, AnyTree, BrokenAt, BreaksLimit, AnswersText, AnswersTree}
use Rattle.oa_idl.proofs.ChoiceParses.{clash}
use Rattle.oa_idl.proofs.FurtherParses.{begins_itself}
use Rattle.oa_tokens.proofs.OneList.{one_list}
use Rattle.oa_idl.proofs.Whole.{library_parses}
use Rattle.oa_idl.proofs.Bounds.{tree_keeps, tree_kept}
use Rattle.oa_idl.proofs.Ended.{Ended, ended, end_token, words_are, place_is}

-- Nothing follows the end.
nothing_after : (a : List Word) (w : Word) (left : List Word) → Ended (a ++ w ∷ left) → passes [] w ≡ true → left ≡ []
nothing_after [] w [] e is = refl
nothing_after [] w (v ∷ left) e is = absurd (clash is e.0)
nothing_after (x ∷ []) w left e is = nothing_after [] w left e.1 is
nothing_after (x ∷ y ∷ a) w left e is = nothing_after (y ∷ a) w left e.1 is

-- a stretch that closes with the end
record Closed (text : List Word) : Type 0 where
  front : List Word
  word : Word
  parts : text ≡ front ++ word ∷ []
  is : passes [] word ≡ true

closed_after : {F G : List Word → Type 0} (text : List Word) → ((ws : List Word) → G ws → Closed ws) → Then F G text → Closed text
closed_after text close f =
    let c = close f.back f.second in
    record {
      front = f.front ++ c.front;
      word = c.word;
      parts =
          f.parts ∙ ap (λ (ws : List Word). f.front ++ ws) c.parts ∙ sym (append_assoc f.front c.front (c.word ∷ []));
      is = c.is;
    }

closed_sign : (text : List Word) → (symbol [] ▸ nothing) text → Closed text
closed_sign text f = record {
  front = [];
  word = f.first.word;
  parts = f.parts ∙ ap (λ (ws : List Word). f.front ++ ws) f.second ∙ append-nil f.front
      ∙ f.first.parts;
  is = f.first.is;
}

closed_text : (t : TreeValue) (text : List Word) → library t text → Closed text
closed_text t text f =
    closed_after text (λ a g. closed_after a
    (λ b h. closed_after b (λ c i. closed_after c (λ d j. closed_after d (λ e k. closed_after e (λ m l. closed_sign m l) k) j) i) h) g) f

tree_is : (words : List Word) (t : TreeValue) (left : List Word) → Ended words → library_at words ≡ Got t left
    → library t words × ((l : TreeLimit) → KeepsLimit l t)
tree_is words t left ended e =
    let h = (library_parses {n = length words}).takes words t left (omega arith) e in
    let c = closed_text t h.1.text h.1.form in
    let whole : words ≡ c.front ++ c.word ∷ left = h.1.parts ∙ ap (λ (ws : List Word). ws ++ left) c.parts ∙ append_assoc c.front (c.word ∷ []) left in
    let none : left ≡ [] = nothing_after c.front c.word left (subst Ended whole ended) c.is in
    let all : words ≡ h.1.text = h.1.parts ∙ ap (λ (ws : List Word). h.1.text ++ ws) none ∙ append-nil h.1.text in
    (subst (library t) (sym all) h.1.form, tree_kept t h.0.1)

syntax_is : (text : List ℕ) (ts : List Token) (left : List Word) (place : ℕ) → AreTokens 0 text ts
    → library_at (words_of text ts) ≡ Stuck Syntax left
    → place ≡ place_after (length text) (ts ++ end_token (length text) ∷ []) (length (ts ++ end_token (length text) ∷ []) - length left)
    → Refused AnyTree text place
syntax_is text ts left place are e at =
    let h = (library_parses {n = length (words_of text ts)}).stuck (words_of text ts) Syntax left (omega arith) e in
    record {
      tokens = ts;
      are = are;
      front = h.front;
      left = left;
      parts = h.parts;
      at = at ∙ place_is text ts h.front left h.parts;
      never = λ t other _ f b. h.apart t other [] tt tt f (subst (BeginsWithWords h.front left) (sym (append-nil other)) b);
    }

limit_is : (text : List ℕ) (ts : List Token) (left : List Word) (l : TreeLimit) → AreTokens 0 text ts
    → library_at (words_of text ts) ≡ Stuck (stops.Limit l) left → BrokenAt l text
limit_is text ts left l are e =
    let h = (library_parses {n = length (words_of text ts)}).stuck (words_of text ts) (stops.Limit l) left (omega arith) e in
    record {
      tokens = ts;
      are = are;
      front = h.front;
      word = h.named.word;
      left = h.named.more;
      parts = h.parts ∙ ap (λ (ws : List Word). h.front ++ ws) h.named.is;
      named = h.named.named;
      never = λ t other more k f b. h.apart t other [] tt (tree_keeps l t k) f
          (subst (λ (ws : List Word). BeginsWithWords h.front ws (other ++ [])) (sym h.named.is) (more, append-nil other ∙ b));
    }

limit_answer : (text : List ℕ) (l : TreeLimit) → BreaksLimit l text → AnswersText text (Err (errors.Limit (limit_of l)))
limit_answer text limits.Name h = h
limit_answer text limits.Interfaces h = h
limit_answer text limits.Coclasses h = h
limit_answer text limits.Members h = h
limit_answer text limits.Params h = h

answer_is : (text : List ℕ) (ts : List Token) → AreTokens 0 text ts → MayBeText text → (r : Result TreeValue ParseError)
    → IsParsed (length text) (ts ++ end_token (length text) ∷ []) (words_of text ts) r → AnswersText text r
answer_is text ts are short (Ok t) p = let h = tree_is (words_of text ts) t p.0 (ended text 0 text ts are) p.1 in
    record { short = short; tokens = ts; are = are; form = h.0; kept = h.1 }
answer_is text ts are short (Err (errors.Syntax place)) p = (short, syntax_is text ts p.0 place are p.1 p.2)
answer_is text ts are short (Err (errors.Limit l)) p = subst (λ m. AnswersText text (Err (errors.Limit m))) (sym p.2)
    (limit_answer text p.1 (short, limit_is text ts p.0 p.1 are p.3))
answer_is text ts are short (Err errors.Memory) p = short

pub answered : (text bytes : List ℕ) (ts all : List Token) (r : Result TreeValue ParseError) → bytes ≡ text
    → all ≡ ts ++ end_token (length text) ∷ [] → AreTokens 0 text ts → MayBeText text
    → IsParsed (length bytes) all (map (word_of bytes) all) r → AnswersText text r
answered text bytes ts all r same more are short p =
    let a = subst (λ (b : List ℕ). IsParsed (length b) all (map (word_of b) all) r) same p in
    let b = subst (λ (us : List Token). IsParsed (length text) us (map (word_of text) us) r) more a in
    answer_is text ts are short r (subst (λ (ws : List Word). IsParsed (length text) (ts ++ end_token (length text) ∷ []) ws r) (words_are text ts) b)

-- no text has two trees
pub one_tree : (text : List ℕ) (s t : TreeValue) → IsTree text s → IsTree text t → s ≡ t
one_tree text s t f g =
    let same = one_list 0 text f.tokens g.tokens f.are g.are in
    ((library_parses {n = 0}).same s t (words_of text f.tokens) (words_of text g.tokens) [] [] tt tt f.form g.form
    (ap (λ (us : List Token). words_of text us ++ []) same)).0

-- a text that has a tree is not refused
refuted : (text : List ℕ) (place : ℕ) (t : TreeValue) → IsTree text t → Refused AnyTree text place → ⊥
refuted text place t f h =
    let same = one_list 0 text f.tokens h.tokens f.are h.are in
    h.never t (words_of text f.tokens) tt f.form (begins_itself h.front h.left (words_of text f.tokens) (ap (words_of text) same ∙ h.parts))

unbroken : (text : List ℕ) (l : TreeLimit) (t : TreeValue) → IsTree text t → BrokenAt l text → ⊥
unbroken text l t f h =
    let same = one_list 0 text f.tokens h.tokens f.are h.are in
    h.never t (words_of text f.tokens) h.left (f.kept l) f.form (ap (words_of text) same ∙ h.parts)

pub found : (text : List ℕ) (r : Result TreeValue ParseError) → AnswersText text r → (t : TreeValue) → IsTree text t → AnswersTree t r
found text (Ok u) h t f = one_tree text u t h f
found text (Err (errors.Syntax place)) h t f = refuted text place t f h.1
found text (Err (errors.Limit texts.Text)) h t f = absurd (omega (arith, h, f.short))
found text (Err (errors.Limit texts.Name)) h t f = unbroken text limits.Name t f h.1
found text (Err (errors.Limit texts.Interfaces)) h t f = unbroken text limits.Interfaces t f h.1
found text (Err (errors.Limit texts.Coclasses)) h t f = unbroken text limits.Coclasses t f h.1
found text (Err (errors.Limit texts.Members)) h t f = unbroken text limits.Members t f h.1
found text (Err (errors.Limit texts.Params)) h t f = unbroken text limits.Params t f h.1
found text (Err errors.Memory) h t f = tt
