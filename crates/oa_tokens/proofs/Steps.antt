-- The tokens that one step of the loop adds.
use Rattle.std.proofs.Common.{◌≡◌, ℕ, ◌+◌, ◌-◌, ◌<◌, ◌≤◌, List, [], ◌∷◌, ◌++◌, length, take, drop, sym, ap, subst, ◌∙◌, append_assoc, arith}
use Rattle.std.proofs.Common.{length-drop}
use Rattle.std.proofs.lemmas.List.{append-nil, take_all, drop_all, drop-drop}
use Rattle.oa_tokens.specs.declared.lexer.TokenKind.{TokenKind}
use Rattle.oa_tokens.specs.declared.lexer.TokenKind.TheVariants.{Junk}
use Rattle.oa_tokens.specs.declared.lexer.Token.{Token}
use Rattle.oa_tokens.specs.declared.lexer.Piece.TheVariants.{Word, Gap, Broken}
use Rattle.oa_tokens.specs.promise.Tokens.{front, token, AreTokens}
use Rattle.oa_tokens.specs.promise.Tokens.AreTokens.{End, Apart, Next, Rest}

-- out are the tokens before a place
abbrev pub SoFar : List ℕ → List Token → ℕ → Type 0
SoFar bs out at = (ts : List Token) → AreTokens at (drop at bs) ts → AreTokens 0 bs (out ++ ts)

some_left : (bs : List ℕ) (at : ℕ) → at < length bs → 0 < length (drop at bs)
some_left bs at lt = omega (arith, length-drop at bs)

sliced : (bs : List ℕ) (at : ℕ) → take (length bs - at) (drop at bs) ≡ drop at bs
sliced bs at = take_all (length bs - at) (drop at bs) (omega (arith, length-drop at bs))

past : (bs : List ℕ) (at n : ℕ) (ts : List Token) → AreTokens (at + n) (drop (at + n) bs) ts → AreTokens (at + n) (drop n (drop at bs)) ts
past bs at n ts h = subst (λ (l : List ℕ). AreTokens (at + n) l ts) (sym (drop-drop n at bs)) h

pub gap_more : (bs : List ℕ) (out : List Token) (at n : ℕ) → at < length bs → Gap n ≡ front (take (length bs - at) (drop at bs))
    → SoFar bs out at → SoFar bs out (at + n)
gap_more bs out at n lt is so_far ts h = so_far ts (Apart at n (drop at bs) ts (some_left bs at lt) (sym (is ∙ ap front (sliced bs at))) (past bs at n ts h))

pub word_more : (bs : List ℕ) (out new : List Token) (at n : ℕ) (kind : TokenKind) → at < length bs
    → Word kind n ≡ front (take (length bs - at) (drop at bs)) → new ≡ out ++ token kind at (at + n) ∷ [] → SoFar bs out at
    → SoFar bs new (at + n)
word_more bs out new at n kind lt is grown so_far ts h =
    let all =
    so_far (token kind at (at + n) ∷ ts) (Next at n kind (drop at bs) ts (some_left bs at lt) (sym (is ∙ ap front (sliced bs at))) (past bs at n ts h)) in
    subst (AreTokens 0 bs) (sym (append_assoc out (token kind at (at + n) ∷ []) ts) ∙ ap (λ (l : List Token). l ++ ts) (sym grown)) all

pub junk_ends : (bs : List ℕ) (out new : List Token) (at : ℕ) → at < length bs → Broken ≡ front (take (length bs - at) (drop at bs))
    → new ≡ out ++ token Junk at (length bs) ∷ [] → SoFar bs out at → AreTokens 0 bs new
junk_ends bs out new at lt is grown so_far =
    let all = so_far (token Junk at (at + length (drop at bs)) ∷ []) (Rest at (drop at bs) (some_left bs at lt) (sym (is ∙ ap front (sliced bs at)))) in
    let end : at + length (drop at bs) ≡ length bs = omega (arith, length-drop at bs) in
    subst (AreTokens 0 bs) (ap (λ (k : ℕ). out ++ token Junk at k ∷ []) end ∙ sym grown) all

pub all_read : (bs : List ℕ) (out : List Token) (at : ℕ) → length bs ≤ at → SoFar bs out at → AreTokens 0 bs out
all_read bs out at le so_far =
    let none : drop at bs ≡ [] = drop_all at bs le in
    subst (AreTokens 0 bs) (append-nil out) (so_far [] (subst (λ (l : List ℕ). AreTokens at l []) (sym none) (End at)))
