-- The words of a text end with the end, and nowhere before.
use Rattle.std.proofs.Common.{◌≡◌, ℕ, zero, suc, ◌+◌, ◌-◌, Bool, true, false, cond, List, [], ◌∷◌, ◌++◌, length, drop, map, get_or, Option}
use Rattle.std.proofs.Common.{Some, None, refl, sym, ap, subst, ◌∙◌, arith}
use Rattle.std.specs.Prelude.{◌&&◌, ◌==◌, slice_get}
use Rattle.std.proofs.lemmas.List.{map-append, length-append, length-map}
use Rattle.std.proofs.Math.Nat.{sub_self}
use Rattle.oa_tokens.specs.declared.lexer.TokenKind.{TokenKind}
use Rattle.oa_tokens.specs.declared.lexer.TokenKind.TheVariants as kinds
use Rattle.oa_tokens.specs.declared.lexer.Token.{Token}
use Rattle.oa_tokens.specs.declared.lexer.Piece.{Piece}
use Rattle.oa_tokens.specs.declared.lexer.Piece.TheVariants.{Word, Gap, Broken}
use Rattle.oa_tokens.specs.declared.scan.Class.TheVariants as classes
use Rattle.oa_tokens.specs.declared.scan.Close.TheVariants.{Quote, Comment}
use Rattle.oa_tokens.specs.promise.Bytes.{is_in, run, end_from, is_guid}
use Rattle.oa_tokens.specs.promise.Tokens.{front, closed, token, AreTokens}
use Rattle.oa_tokens.specs.promise.Tokens.AreTokens.{End, Apart, Next, Rest}
use Rattle.oa_idl.specs.promise.Forms as forms
use Rattle.oa_idl.specs.promise.Words.{same_kind, passes, word_of, end_word, words_of}
use Rattle.oa_idl.specs.IsTree.{token_place, place_after}

-- the last word is the end, and no other
abbrev pub Ended : List forms.Word → Type 0
Ended [] = ⊥
Ended (w ∷ []) = passes [] w ≡ true
Ended (w ∷ v ∷ words) = (passes [] w ≡ false) × Ended (v ∷ words)

-- ---- no piece is the end

abbrev NoEnd : Piece → Type 0
NoEnd (Word kind n) = same_kind kind kinds.End ≡ false
NoEnd (Gap n) = Unit {0}
NoEnd Broken = Unit {0}

pick : (b : Bool) (x y : Piece) → NoEnd x → NoEnd y → NoEnd (cond b x y)
pick true x y h k = h
pick false x y h k = k

text_closed : (o : Option ℕ) → NoEnd (closed (Word kinds.Text) 1 o)
text_closed None = tt
text_closed (Some n) = refl

gap_closed : (o : Option ℕ) → NoEnd (closed Gap 2 o)
gap_closed None = tt
gap_closed (Some n) = tt

front_no_end : (bs : List ℕ) → NoEnd (front bs)
unfolding front
front_no_end bs =
    pick (is_guid bs) _ _ refl (pick (is_in classes.Letter (get_or bs 0 0)) _ _ refl
    (pick (get_or bs 0 0 == 48 && get_or bs 1 0 == 120) _ _ (pick (run (is_in classes.Hexadecimal) (drop 2 bs) == 0) _ _ refl refl)
    (pick (is_in classes.Digit (get_or bs 0 0)) _ _ refl
    (pick (get_or bs 0 0 == 34) _ _ (text_closed (end_from Quote false (drop 1 bs)))
    (pick (is_in classes.Mark (get_or bs 0 0)) _ _ refl
    (pick (is_in classes.Blank (get_or bs 0 0)) _ _ tt (pick (get_or bs 0 0 == 47 && get_or bs 1 0 == 47) _ _ tt
    (pick (get_or bs 0 0 == 47 && get_or bs 1 0 == 42) _ _ (gap_closed (end_from Comment false (drop 2 bs))) tt))))))))

word_no_end : (bs : List ℕ) (kind : TokenKind) (n : ℕ) → front bs ≡ Word kind n → same_kind kind kinds.End ≡ false
word_no_end bs kind n is = subst NoEnd is (front_no_end bs)

end_passes : passes [] end_word ≡ true
unfolding passes
end_passes = refl

no_end_passes : (text : List ℕ) (t : Token) → same_kind t.kind kinds.End ≡ false → passes [] (word_of text t) ≡ false
unfolding passes
no_end_passes text t is = rw is refl

ended_cons : (w : forms.Word) (words : List forms.Word) → passes [] w ≡ false → Ended words → Ended (w ∷ words)
ended_cons w [] is h = absurd h
ended_cons w (v ∷ words) is h = (is, h)

pub ended : (text : List ℕ) (p : ℕ) (bs : List ℕ) (ts : List Token) → AreTokens p bs ts → Ended (words_of text ts)
ended text _ _ _ (End p) = end_passes
ended text _ _ _ (Apart p n bs ts lt is h) = ended text (p + n) (drop n bs) ts h
ended text _ _ _ (Next p n kind bs ts lt is h) = ended_cons (word_of text (token kind p (p + n))) (words_of text ts)
    (no_end_passes text (token kind p (p + n)) (word_no_end bs kind n is)) (ended text (p + n) (drop n bs) ts h)
ended text _ _ _ (Rest p bs lt is) = ended_cons (word_of text (token kinds.Junk p (p + length bs))) (end_word ∷ [])
    (no_end_passes text (token kinds.Junk p (p + length bs)) refl) end_passes

-- ---- the end as a token

abbrev pub end_token : ℕ → Token
end_token n = token kinds.End n n

pub words_are : (text : List ℕ) (ts : List Token) → map (word_of text) (ts ++ end_token (length text) ∷ []) ≡ words_of text ts
words_are text ts = map-append (word_of text) ts (end_token (length text) ∷ []) ∙ ap (λ (w : forms.Word). map (word_of text) ts ++ w ∷ []) last
  where
    last : word_of text (end_token (length text)) ≡ end_word
    last = rw (sub_self (length text)) refl

past_end : (end : ℕ) (ts : List Token) (n : ℕ) → token_place end (slice_get (ts ++ end_token end ∷ []) n) ≡ token_place end (slice_get ts n)
past_end end [] zero = refl
past_end end [] (suc n) = refl
past_end end (t ∷ ts) zero = refl
past_end end (t ∷ ts) (suc n) = past_end end ts n

pub place_is : (text : List ℕ) (ts : List Token) (front left : List forms.Word) → words_of text ts ≡ front ++ left
    → place_after (length text) (ts ++ end_token (length text) ∷ [])
    (length (ts ++ end_token (length text) ∷ []) - length left) ≡ place_after (length text) ts (length front)
place_is text ts front left parts =
    let k : length (ts ++ end_token (length text) ∷ []) - length left ≡ length front = omega (arith, long, ap length parts, length-append front left) in
    ap (λ (n : ℕ). place_after (length text) (ts ++ end_token (length text) ∷ []) n) k ∙ past_end (length text) ts (length front)
  where
    long : length (ts ++ end_token (length text) ∷ []) ≡ length (words_of text ts)
    long = sym (length-map (ts ++ end_token (length text) ∷ []) (word_of text)) ∙ ap length (words_are text ts)
