-- Bytes have one list of tokens.
use Rattle.std.proofs.Common.{◌≡◌, ℕ, ◌+◌, List, ◌∷◌, drop, refl, sym, subst, ◌∙◌, arith}
use Rattle.oa_tokens.specs.declared.lexer.TokenKind.{TokenKind}
use Rattle.oa_tokens.specs.declared.lexer.Token.{Token}
use Rattle.oa_tokens.specs.declared.lexer.Piece.TheVariants.{Word, Gap, Broken}
use Rattle.oa_tokens.specs.promise.Tokens.{token, AreTokens}
use Rattle.oa_tokens.specs.promise.Tokens.AreTokens.{End, Apart, Next, Rest}

gap_is : (m n : ℕ) → Gap m ≡ Gap n → m ≡ n
gap_is m n e = cc

word_is : (j k : TokenKind) (m n : ℕ) → Word j m ≡ Word k n → (j ≡ k) × (m ≡ n)
word_is j k m n e = (cc, cc)

gap_word : (m n : ℕ) (k : TokenKind) → Gap m ≡ Word k n → ⊥
gap_word m n k e = absurd cc

gap_broken : (m : ℕ) → Gap m ≡ Broken → ⊥
gap_broken m e = absurd cc

word_broken : (m : ℕ) (k : TokenKind) → Word k m ≡ Broken → ⊥
word_broken m k e = absurd cc

pub one_list : (p : ℕ) (bs : List ℕ) (ts us : List Token) → AreTokens p bs ts → AreTokens p bs us → ts ≡ us
one_list _ _ _ _ (End p) (End _) = refl
one_list _ _ _ _ (End p) (Apart _ n _ us lt is h) = absurd (omega (arith, lt))
one_list _ _ _ _ (End p) (Next _ n k _ us lt is h) = absurd (omega (arith, lt))
one_list _ _ _ _ (End p) (Rest _ _ lt is) = absurd (omega (arith, lt))
one_list _ _ _ _ (Apart p m bs ts lt is h) (End _) = absurd (omega (arith, lt))
one_list _ _ _ _ (Apart p m bs ts lt is h) (Apart _ n _ us gt his k) =
    one_list (p + m) (drop m bs) ts us h (subst (λ (i : ℕ). AreTokens (p + i) (drop i bs) us) (gap_is n m (sym his ∙ is)) k)
one_list _ _ _ _ (Apart p m bs ts lt is h) (Next _ n j _ us gt his k) = absurd (gap_word m n j (sym is ∙ his))
one_list _ _ _ _ (Apart p m bs ts lt is h) (Rest _ _ gt his) = absurd (gap_broken m (sym is ∙ his))
one_list _ _ _ _ (Next p m j bs ts lt is h) (End _) = absurd (omega (arith, lt))
one_list _ _ _ _ (Next p m j bs ts lt is h) (Apart _ n _ us gt his k) = absurd (gap_word n m j (sym his ∙ is))
one_list _ _ _ _ (Next p m j bs ts lt is h) (Next _ n i _ us gt his k) =
    let e = word_is i j n m (sym his ∙ is) in
    let rest = one_list (p + m) (drop m bs) ts us h (subst (λ (i : ℕ). AreTokens (p + i) (drop i bs) us) e.1 k) in
    λ x. token (sym e.0 x) p (p + sym e.1 x) ∷ rest x
one_list _ _ _ _ (Next p m j bs ts lt is h) (Rest _ _ gt his) = absurd (word_broken m j (sym is ∙ his))
one_list _ _ _ _ (Rest p bs lt is) (End _) = absurd (omega (arith, lt))
one_list _ _ _ _ (Rest p bs lt is) (Apart _ n _ us gt his k) = absurd (gap_broken n (sym his ∙ is))
one_list _ _ _ _ (Rest p bs lt is) (Next _ n j _ us gt his k) = absurd (word_broken n j (sym his ∙ is))
one_list _ _ _ _ (Rest p bs lt is) (Rest _ _ gt his) = refl
