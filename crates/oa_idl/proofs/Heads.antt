-- The tests that the first word of a sequence passes.
use Rattle.std.proofs.Common.{◌≡◌, ℕ, ◌<◌, Bool, true, false, List, ◌++◌, length, Option, Some, None, refl, ap, subst, ◌∙◌, arith}
use Rattle.std.specs.Prelude.{ℤ, if◌then◌else◌, ◌&&◌, codes}
use Rattle.std.proofs.Math.Logic.{⊎_elim}
use Rattle.std.specs.Str.{bytes_eq}
use Rattle.std.proofs.lemmas.Bool.{and_parts}
use Rattle.std.proofs.lemmas.Slice.Eq.{bytes_eq-Decides}
use Rattle.std.proofs.lemmas.List.{length-append}
use Rattle.oa_model.specs.declared.var_type.VarType.{VarType}
use Rattle.oa_tokens.specs.declared.lexer.TokenKind.{TokenKind}
use Rattle.oa_tokens.specs.declared.lexer.TokenKind.TheVariants as kinds
use Rattle.oa_idl.specs.promise.Forms.{Word, Then, this, one}
use Rattle.oa_idl.specs.promise.Words.{same_kind, kind_of, passes, is_text, id_of, word_type, plain_type, if_cell}
use Rattle.oa_idl.specs.promise.Words.{amount_of, characters_of}
use Rattle.oa_idl.specs.Reading.{heads}
use Rattle.oa_idl.specs.promise.Grammar.{symbol}
use Rattle.oa_idl.proofs.Parses.{test_cases}
use Rattle.oa_idl.proofs.ChoiceParses.{clash, then_heads, this_heads}

differ : (a b : List ℕ) (w : Word) → passes a w ≡ true → passes b w ≡ true → bytes_eq b a ≡ true
unfolding passes
differ a b w p q =
    let x = and_parts (same_kind w.kind (kind_of a)) (bytes_eq w.text a) p in
    let y = and_parts (same_kind w.kind (kind_of b)) (bytes_eq w.text b) q in
    subst (λ (t : List ℕ). bytes_eq t a ≡ true) ((bytes_eq-Decides w.text b).0 y.1) x.1

-- a word is not two signs
pub other_sign : (a b : List ℕ) → bytes_eq b a ≡ false → (w : Word) → passes b w ≡ true → passes a w ≡ false
other_sign a b ne w q = ⊎_elim (λ (p : passes a w ≡ true). absurd (clash (differ a b w p q) ne)) (λ (p : passes a w ≡ false). p) (test_cases (passes a w))

pub one_sign_heads : (a b : List ℕ) → bytes_eq b a ≡ false → (text more : List Word) → symbol b text → heads (passes a) (text ++ more) ≡ false
one_sign_heads a b ne text more f = ap (λ (ws : List Word). heads (passes a) (ws ++ more)) f.parts ∙ other_sign a b ne f.word f.is

pub sign_heads : {G : List Word → Type 0} (a b : List ℕ) → bytes_eq b a ≡ false → (text more : List Word) → Then (symbol b) G text
    → heads (passes a) (text ++ more) ≡ false
sign_heads a b ne text more f = then_heads (passes a) false text more (λ front left h. one_sign_heads a b ne front left h) f

pub same_heads : {G : List Word → Type 0} (a : List ℕ) (text more : List Word) → Then (symbol a) G text
    → heads (passes a) (text ++ more) ≡ true
same_heads a text more f = then_heads (passes a) true text more (λ front left h. this_heads (passes a) front left h) f

pub this_some : {test : Word → Bool} {G : List Word → Type 0} (text : List Word) → Then (this test) G text → 0 < length text
this_some text f = omega (arith, ap length f.parts, ap length f.first.parts, length-append f.front f.back)

pub one_heads : {A : Type 0} (meaning : Word → Option A) (test : Word → Bool) (x : A) → ((w : Word) → meaning w ≡ Some x → test w ≡ false)
    → (text more : List Word) → one meaning x text → heads test (text ++ more) ≡ false
one_heads meaning test x apart text more f = ap (λ (ws : List Word). heads test (ws ++ more)) f.parts ∙ apart f.word f.is

-- ---- numbers are no signs

number_kind : (k : TokenKind) → same_kind k kinds.Number ≡ true → same_kind k kinds.Mark ≡ false
number_kind kinds.Guid e = absurd cc
number_kind kinds.Name e = absurd cc
number_kind kinds.Number e = refl
number_kind kinds.Text e = absurd cc
number_kind kinds.Mark e = absurd cc
number_kind kinds.Junk e = absurd cc
number_kind kinds.End e = absurd cc

pub id_no_minus : (negative : Bool) (i : ℤ) (w : Word) → id_of negative w ≡ Some i → passes (codes "-") w ≡ false
unfolding id_of passes
id_no_minus negative i w e = by_kind (same_kind w.kind kinds.Number) refl
  where
    by_kind : (b : Bool) → same_kind w.kind kinds.Number ≡ b → passes (codes "-") w ≡ false
    by_kind true is = rw (number_kind w.kind is) refl
    by_kind false is = let z = rw is at e in absurd cc

-- ---- types are no signs but their own

no_type : {t : VarType} (b in_array : Bool) (o : Option VarType) → o ≡ None → (if b then if_cell in_array o else None) ≡ Some t → ⊥
no_type true in_array None is e = absurd cc
no_type false in_array None is e = absurd cc
no_type b in_array (Some t) is e = absurd cc

pub type_no_sign : (s : List ℕ) → plain_type s ≡ None → (in_array : Bool) (t : VarType) (w : Word) → word_type in_array false w ≡ Some t
    → passes s w ≡ false
unfolding passes word_type
type_no_sign s none in_array t w e = ⊎_elim (λ (p : passes s w ≡ true). absurd (clashing p)) (λ (p : passes s w ≡ false). p) (test_cases (passes s w))
  where
    clashing : passes s w ≡ true → ⊥
    clashing p =
        let x = and_parts (same_kind w.kind (kind_of s)) (bytes_eq w.text s) p in
        let text : w.text ≡ s = (bytes_eq-Decides w.text s).0 x.1 in
        no_type (same_kind w.kind kinds.Name) in_array (plain_type w.text) (ap plain_type text ∙ none) e

-- ---- kinds

kind_known : {A : Type 0} (b : Bool) (o : Option A) (x : A) → (if b then o else None) ≡ Some x → b ≡ true
kind_known true o x e = refl
kind_known false o x e = absurd cc

number_is : (k : TokenKind) → same_kind k kinds.Number ≡ true → k ≡ kinds.Number
number_is kinds.Guid e = absurd cc
number_is kinds.Name e = absurd cc
number_is kinds.Number e = refl
number_is kinds.Text e = absurd cc
number_is kinds.Mark e = absurd cc
number_is kinds.Junk e = absurd cc
number_is kinds.End e = absurd cc

text_is : (k : TokenKind) → same_kind k kinds.Text ≡ true → k ≡ kinds.Text
text_is kinds.Guid e = absurd cc
text_is kinds.Name e = absurd cc
text_is kinds.Number e = absurd cc
text_is kinds.Text e = refl
text_is kinds.Mark e = absurd cc
text_is kinds.Junk e = absurd cc
text_is kinds.End e = absurd cc

mark_no_text : (k : TokenKind) → same_kind k kinds.Mark ≡ true → same_kind k kinds.Text ≡ false
mark_no_text kinds.Guid e = absurd cc
mark_no_text kinds.Name e = absurd cc
mark_no_text kinds.Number e = absurd cc
mark_no_text kinds.Text e = absurd cc
mark_no_text kinds.Mark e = refl
mark_no_text kinds.Junk e = absurd cc
mark_no_text kinds.End e = absurd cc

name_no_text : (k : TokenKind) → same_kind k kinds.Name ≡ true → same_kind k kinds.Text ≡ false
name_no_text kinds.Guid e = absurd cc
name_no_text kinds.Name e = refl
name_no_text kinds.Number e = absurd cc
name_no_text kinds.Text e = absurd cc
name_no_text kinds.Mark e = absurd cc
name_no_text kinds.Junk e = absurd cc
name_no_text kinds.End e = absurd cc

other_kind : (k : TokenKind) (s : List ℕ) → same_kind k (kind_of s) ≡ false → (w : Word) → w.kind ≡ k → passes s w ≡ false
unfolding passes
other_kind k s ne w e = ap (λ (j : TokenKind). same_kind j (kind_of s) && bytes_eq w.text s) e ∙ ap (λ (b : Bool). b && bytes_eq w.text s) ne

amount_kind : (negative : Bool) (i : ℤ) (w : Word) → amount_of negative w ≡ Some i → w.kind ≡ kinds.Number
unfolding amount_of
amount_kind negative i w e = number_is w.kind (kind_known (same_kind w.kind kinds.Number) _ i e)

characters_kind : (cs : List ℕ) (w : Word) → characters_of w ≡ Some cs → w.kind ≡ kinds.Text
unfolding characters_of
characters_kind cs w e = text_is w.kind (kind_known (same_kind w.kind kinds.Text) _ cs e)

-- the number of a default is no sign that is no number
pub amount_no_sign : (s : List ℕ) → same_kind kinds.Number (kind_of s) ≡ false → (negative : Bool) (i : ℤ) (w : Word)
    → amount_of negative w ≡ Some i → passes s w ≡ false
amount_no_sign s ne negative i w e = other_kind kinds.Number s ne w (amount_kind negative i w e)

pub amount_no_text : (negative : Bool) (i : ℤ) (w : Word) → amount_of negative w ≡ Some i → is_text w ≡ false
unfolding is_text
amount_no_text negative i w e = ap (λ (k : TokenKind). same_kind k kinds.Text) (amount_kind negative i w e)

pub characters_no_sign : (s : List ℕ) → same_kind kinds.Text (kind_of s) ≡ false → (cs : List ℕ) (w : Word) → characters_of w ≡ Some cs
    → passes s w ≡ false
characters_no_sign s ne cs w e = other_kind kinds.Text s ne w (characters_kind cs w e)

pub characters_text : (cs : List ℕ) (w : Word) → characters_of w ≡ Some cs → is_text w ≡ true
unfolding is_text
characters_text cs w e = ap (λ (k : TokenKind). same_kind k kinds.Text) (characters_kind cs w e)

pub minus_no_text : (w : Word) → passes (codes "-") w ≡ true → is_text w ≡ false
unfolding passes is_text
minus_no_text w is = mark_no_text w.kind (and_parts (same_kind w.kind kinds.Mark) (bytes_eq w.text (codes "-")) is).0

pub true_no_text : (w : Word) → passes (codes "TRUE") w ≡ true → is_text w ≡ false
unfolding passes is_text
true_no_text w is = name_no_text w.kind (and_parts (same_kind w.kind kinds.Name) (bytes_eq w.text (codes "TRUE")) is).0

pub false_no_text : (w : Word) → passes (codes "FALSE") w ≡ true → is_text w ≡ false
unfolding passes is_text
false_no_text w is = name_no_text w.kind (and_parts (same_kind w.kind kinds.Name) (bytes_eq w.text (codes "FALSE")) is).0
