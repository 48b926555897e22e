-- The meaning of words: facts about each name, number, GUID, type and string that has been read.
use Rattle.std.proofs.Common.{◌≡◌, ℕ, zero, suc, ◌+◌, ◌-◌, ◌*◌, ◌^◌, ◌<◌, ◌≤◌, Bool, true, false, cond, List, [], ◌∷◌, ◌++◌, length, take}
use Rattle.std.proofs.Common.{drop, map, get_or, Option, Some, None, refl, sym, ap, subst, ◌∙◌, arith, ltb-true, ltb-false, leb-true}
use Rattle.std.specs.Prelude.{◌&&◌, ◌||◌, ◌==◌, not, nat_lt, nat_le, ℤ, pos, negsuc, neg_ℤ, is_some, slice_index, codes}
use Rattle.std.specs.Int.{cast_signed, w32}
use Rattle.std.specs.List.{AllByRecursion, list_all}
use Rattle.std.specs.Str.{bytes_eq}
use Rattle.std.proofs.lemmas.Bool.{and_parts, eqb-true}
use Rattle.std.proofs.lemmas.Bool.Decides.{nat_tests}
use Rattle.std.proofs.lemmas.List.{drop-drop}
use Rattle.std.proofs.lemmas.List.Folds.{list_all_at}
use Rattle.std.proofs.lemmas.List.Elements.{All-from_get_or}
use Rattle.uuid.specs.Text.{parsed_hyphenated, parsed_simple, digits_of, has_hyphens, by_index, byte_of_digits, is_hex_digit}
use Rattle.uuid.specs.Text as uuids
use Rattle.uuid.proofs.TextLemmas.{by_index_length, by_index_at}
use Rattle.oa_model.specs.declared.var_type.VarType.{VarType}
use Rattle.oa_model.specs.declared.var_type.VarType.TheVariants as types
use Rattle.oa_model.specs.promise.Types.{sf_type_of}
use Rattle.oa_tokens.specs.declared.lexer.TokenKind.{TokenKind}
use Rattle.oa_tokens.specs.declared.lexer.TokenKind.TheVariants as kinds
use Rattle.oa_tokens.specs.declared.lexer.Token.{Token}
use Rattle.oa_tokens.specs.declared.lexer.Piece.{Piece}
use Rattle.oa_tokens.specs.declared.lexer.Piece.TheVariants.{Word, Gap, Broken}
use Rattle.oa_tokens.specs.declared.scan.Class.TheVariants as classes
use Rattle.oa_tokens.specs.declared.scan.Close.TheVariants.{Quote, Comment}
use Rattle.oa_idl.specs.declared.parts.Literal.TheVariants as literals
use Rattle.oa_tokens.specs.promise.Bytes.{is_in, run, end_from, is_guid}
use Rattle.oa_tokens.specs.promise.Tokens.{front, closed, AreTokens}
use Rattle.oa_tokens.specs.promise.Tokens.AreTokens.{End, Apart, Next, Rest}
use Rattle.oa_idl.specs.promise.Forms.{one}
use Rattle.oa_idl.specs.promise.Forms as forms
use Rattle.oa_idl.specs.promise.Words.{same_kind, name_of, is_reserved, guid_of, below, number_of, value_of, part_of}
use Rattle.oa_idl.specs.promise.Words.{part_from, id_of, id_from, id_number, usable, is_hexadecimal, amount_of}
use Rattle.oa_idl.specs.promise.Words.{amount_from, signed_number, characters_of, characters_from, with_character}
use Rattle.oa_idl.specs.promise.Words.{is_printable, is_escaped, word_type, type_named, plain_type, unsigned_type}
use Rattle.oa_idl.specs.promise.Words.{if_cell, word_of, end_word, words_of}
use Rattle.oa_printer.specs.Printable.{IsGuid, IsNameText, IsName, IsId, IsType, IsLiteral}
use Rattle.oa_printer.proofs.PrintedTokens.{by_test, clash}

-- by a test, of a value that is chosen by it
if_either : {A : Type 0} (P : A → Type 0) (b : Bool) (x y : A) → (b ≡ true → P x) → (b ≡ false → P y) → P (cond b x y)
if_either P true x y h k = h refl
if_either P false x y h k = k refl

abbrev pub some_of : {A : Type 0} → A → Option A
some_of x = Some x

abbrev pub none_of : (A : Type 0) → Option A
none_of A = None

pub some_is : {A : Type 0} (x y : A) → some_of x ≡ Some y → x ≡ y
some_is x y e = cc

pub no_some : {A B : Type 0} (x : A) → none_of A ≡ Some x → B
no_some x e = absurd cc

-- ---- Facts about a word.

abbrev pub OfKind : TokenKind → List ℕ → Type 0
OfKind kinds.Name text = IsNameText text
OfKind k text = Unit {0}

-- a name is a name
abbrev pub Fine : forms.Word → Type 0
Fine w = OfKind w.kind w.text

abbrev OfPiece : List ℕ → Piece → Type 0
OfPiece bs (Word kind n) = OfKind kind (take n bs)
OfPiece bs (Gap n) = Unit {0}
OfPiece bs Broken = Unit {0}

run_take : (p : ℕ → Bool) (bs : List ℕ) → run p (take (run p bs) bs) ≡ length (take (run p bs) bs)
unfolding run
run_take p [] = refl
run_take p (b ∷ bs) = by_test (p b) (λ (e : p b ≡ true). rw e (rw e (ap suc (run_take p bs)))) (λ (e : p b ≡ false). rw e refl)

no_letter_0 : is_in classes.Letter 0 ≡ false
unfolding is_in
no_letter_0 = refl

name_piece : (bs : List ℕ) → is_in classes.Letter (get_or bs 0 0) ≡ true → IsNameText (take (1 + run (is_in classes.Named) (drop 1 bs)) bs)
name_piece [] e = absurd (clash e no_letter_0)
name_piece (c ∷ cs) e = subst (λ (n : ℕ). IsNameText (take n (c ∷ cs))) (suc_is (run (is_in classes.Named) cs)) (e, run_take (is_in classes.Named) cs)
  where
    suc_is : (n : ℕ) → suc n ≡ 1 + n
    suc_is n = omega arith

text_piece : (bs : List ℕ) (o : Option ℕ) → OfPiece bs (closed (Word kinds.Text) 1 o)
text_piece bs None = tt
text_piece bs (Some n) = tt

gap_piece : (bs : List ℕ) (o : Option ℕ) → OfPiece bs (closed Gap 2 o)
gap_piece bs None = tt
gap_piece bs (Some n) = tt

front_piece : (bs : List ℕ) → OfPiece bs (front bs)
unfolding front
front_piece bs = if_either (OfPiece bs) (is_guid bs) _ _ (λ _. tt) (λ _. if_either (OfPiece bs) (is_in classes.Letter (get_or bs 0 0)) _ _ (name_piece bs)
    (λ _. if_either (OfPiece bs) (get_or bs 0 0 == 48 && get_or bs 1 0 == 120) _ _
    (λ _. if_either (OfPiece bs) (run (is_in classes.Hexadecimal) (drop 2 bs) == 0) _ _ (λ _. tt) (λ _. tt))
    (λ _. if_either (OfPiece bs) (is_in classes.Digit (get_or bs 0 0)) _ _ (λ _. tt)
    (λ _. if_either (OfPiece bs) (get_or bs 0 0 == 34) _ _ (λ _. text_piece bs (end_from Quote false (drop 1 bs)))
    (λ _. if_either (OfPiece bs) (is_in classes.Mark (get_or bs 0 0)) _ _ (λ _. tt)
    (λ _. if_either (OfPiece bs) (is_in classes.Blank (get_or bs 0 0)) _ _ (λ _. tt)
    (λ _. if_either (OfPiece bs) (get_or bs 0 0 == 47 && get_or bs 1 0 == 47) _ _ (λ _. tt)
    (λ _. if_either (OfPiece bs) (get_or bs 0 0 == 47 && get_or bs 1 0 == 42) _ _ (λ _. gap_piece bs (end_from Comment false (drop 2 bs))) (λ _. tt)))))))))

tokens_fine : (text : List ℕ) (p : ℕ) (bs : List ℕ) (ts : List Token) → drop p text ≡ bs → AreTokens p bs ts
    → AllByRecursion Fine (map (word_of text) ts)
tokens_fine text _ _ _ at (End p) = tt
tokens_fine text _ _ _ at (Apart p n bs ts lt is h) = tokens_fine text (p + n) (drop n bs) ts (sym (drop-drop n p text) ∙ ap (drop n) at) h
tokens_fine text _ _ _ at (Next p n kind bs ts lt is h) =
    let size : p + n - p ≡ n = omega arith in
    let piece : OfKind kind (take n bs) = subst (OfPiece bs) is (front_piece bs) in (
      subst (OfKind kind) (λ i. take (sym size i) (sym at i)) piece,
      tokens_fine text (p + n) (drop n bs) ts (sym (drop-drop n p text) ∙ ap (drop n) at) h,
    )
tokens_fine text _ _ _ at (Rest p bs lt is) = (tt, tt)

append_fine : (a b : List forms.Word) → AllByRecursion Fine a → AllByRecursion Fine b → AllByRecursion Fine (a ++ b)
append_fine [] b h k = k
append_fine (w ∷ a) b h k = (h.0, append_fine a b h.1 k)

pub words_fine : (text : List ℕ) (ts : List Token) → AreTokens 0 text ts → AllByRecursion Fine (words_of text ts)
words_fine text ts are = append_fine (map (word_of text) ts) (end_word ∷ []) (tokens_fine text 0 text ts refl are) (tt, tt)

-- ---- names

kind_is_name : (k : TokenKind) (text : List ℕ) → same_kind k kinds.Name ≡ true → OfKind k text → IsNameText text
kind_is_name kinds.Guid text e h = absurd (clash e refl)
kind_is_name kinds.Name text e h = h
kind_is_name kinds.Number text e h = absurd (clash e refl)
kind_is_name kinds.Text text e h = absurd (clash e refl)
kind_is_name kinds.Mark text e h = absurd (clash e refl)
kind_is_name kinds.Junk text e h = absurd (clash e refl)
kind_is_name kinds.End text e h = absurd (clash e refl)

not_true : (b : Bool) → not b ≡ true → b ≡ false
not_true true e = absurd (clash refl (sym e))
not_true false e = refl

-- a value that is there only by a test
chosen : {A : Type 0} (b : Bool) (o : Option A) (x : A) → cond b o None ≡ Some x → (b ≡ true) × (o ≡ Some x)
chosen {A} true o x e = (refl, e)
chosen {A} false o x e = no_some x e

pub name_read : (name : List ℕ) (ws : List forms.Word) → one name_of name ws → AllByRecursion Fine ws → IsName name
unfolding name_of
name_read name ws f h =
    let c = chosen (same_kind f.word.kind kinds.Name && not (is_reserved f.word.text)) (Some f.word.text) name f.is in
    let parts = and_parts (same_kind f.word.kind kinds.Name) (not (is_reserved f.word.text)) c.0 in
    let same : f.word.text ≡ name = some_is f.word.text name c.1 in
    let fine : AllByRecursion Fine (f.word ∷ []) = subst (AllByRecursion Fine) f.parts h in
    subst IsName same (kind_is_name f.word.kind f.word.text parts.0 fine.0, not_true (is_reserved f.word.text) parts.1)

-- ---- numbers

below_is : (bound n k : ℕ) → below bound n ≡ Some k → (k ≡ n) × (k < bound)
below_is bound n k e =
    let c = chosen (nat_lt n bound) (Some n) k e in
    let same : n ≡ k = some_is n k c.1 in
    (sym same, subst (λ (m : ℕ). m < bound) same (ltb-true n bound c.0))

-- a number of 32 bits
abbrev InWord : ℤ → Type 0
InWord (pos n) = n < 2147483648
InWord (negsuc n) = n < 2147483648

abbrev IfInWord : Option ℤ → Type 0
IfInWord None = Unit {0}
IfInWord (Some i) = InWord i

minus_in : (n : ℕ) → n ≤ 2147483648 → InWord (neg_ℤ (pos n))
minus_in zero h = omega arith
minus_in (suc n) h = omega (arith, h)

signed_in : (n : ℕ) → n < 4294967296 → InWord (cast_signed w32 n)
signed_in n h = if_either InWord (nat_lt n 2147483648) (pos n) (negsuc (4294967296 - suc n)) (λ e. ltb-true n 2147483648 e)
    (λ e. omega (arith, ltb-false n 2147483648 e, h))

number_in : (negative hexadecimal : Bool) (n : ℕ) → IfInWord (id_number negative hexadecimal n)
number_in true hexadecimal n = if_either IfInWord (nat_le n 2147483648) _ _ (λ e. minus_in n (leb-true n 2147483648 e)) (λ _. tt)
number_in false true n = if_either IfInWord (nat_lt n 4294967296) _ _ (λ e. signed_in n (ltb-true n 4294967296 e)) (λ _. tt)
number_in false false n = if_either IfInWord (nat_lt n 2147483648) _ _ (λ e. ltb-true n 2147483648 e) (λ _. tt)

usable_is : (o : Option ℤ) (i : ℤ) → IfInWord o → usable o ≡ Some i → IsId i
usable_is None i h e = no_some i e
usable_is (Some (pos n)) i h e = subst IsId (some_is (pos n) i e) h
usable_is (Some (negsuc n)) i h e = by_test (n == 0 || n == 2)
    (λ (t : (n == 0 || n == 2) ≡ true). no_some i (sym (rw t refl) ∙ e))
    (λ (t : (n == 0 || n == 2) ≡ false). subst IsId (some_is (negsuc n) i (sym (rw t refl) ∙ e)) (h, t))

id_from_is : (negative hexadecimal : Bool) (o : Option ℕ) (i : ℤ) → id_from negative hexadecimal o ≡ Some i → IsId i
id_from_is negative hexadecimal None i e = no_some i e
id_from_is negative hexadecimal (Some n) i e = usable_is (id_number negative hexadecimal n) i (number_in negative hexadecimal n) e

pub id_read : (negative : Bool) (i : ℤ) (w : forms.Word) → id_of negative w ≡ Some i → IsId i
unfolding id_of
id_read negative i w e = id_from_is negative (is_hexadecimal w.text) (number_of w.text) i
    (chosen (same_kind w.kind kinds.Number) (id_from negative (is_hexadecimal w.text) (number_of w.text)) i e).1

signed_is : (negative : Bool) (n : ℕ) → n < 2 ^ 96 → IsLiteral (literals.Number (signed_number negative n))
signed_is true zero h = omega arith
signed_is true (suc n) h = omega (arith, h)
signed_is false n h = h

amount_from_is : (negative : Bool) (o : Option ℕ) (i : ℤ) → ((n : ℕ) → o ≡ Some n → n < 2 ^ 96) → amount_from negative o ≡ Some i
    → IsLiteral (literals.Number i)
amount_from_is negative None i h e = no_some i e
amount_from_is negative (Some n) i h e = subst (λ (j : ℤ). IsLiteral (literals.Number j)) (some_is (signed_number negative n) i e)
    (signed_is negative n (h n refl))

number_small : (text : List ℕ) (n : ℕ) → number_of text ≡ Some n → n < 2 ^ 96
unfolding number_of
number_small text n e = (below_is (2 ^ 96) (value_of text) n e).1

pub amount_read : (negative : Bool) (i : ℤ) (w : forms.Word) → amount_of negative w ≡ Some i → IsLiteral (literals.Number i)
unfolding amount_of
amount_read negative i w e = amount_from_is negative (number_of w.text) i (number_small w.text)
    (chosen (same_kind w.kind kinds.Number) (amount_from negative (number_of w.text)) i e).1

part_from_is : (o : Option ℕ) (n : ℕ) → part_from true o ≡ Some n → n < 65536
part_from_is None n e = no_some n e
part_from_is (Some m) n e = (below_is 65536 m n e).1

pub part_read : (n : ℕ) (w : forms.Word) → part_of true w ≡ Some n → n < 65536
unfolding part_of
part_read n w e = part_from_is (number_of w.text) n (chosen (same_kind w.kind kinds.Number) (part_from true (number_of w.text)) n e).1

-- ---- GUIDs

value_small : (c : ℕ) → is_hex_digit c ≡ true → uuids.value_of c < 16
value_small c e = grind (arith, nat_tests, e)

hex_at : (hex : List ℕ) (k : ℕ) → list_all is_hex_digit hex ≡ true → k < length hex → is_hex_digit (slice_index hex k) ≡ true
hex_at hex k all lt = by_test (is_hex_digit (slice_index hex k)) (λ (e : is_hex_digit (slice_index hex k) ≡ true). e)
    (λ (e : is_hex_digit (slice_index hex k) ≡ false). absurd (clash all (list_all_at is_hex_digit hex k 0 lt e)))

simple_guid : (hex : List ℕ) → list_all is_hex_digit hex ≡ true → length hex ≡ 32 → IsGuid (by_index 16 (byte_of_digits hex))
simple_guid hex all len = (
  by_index_length 16 (byte_of_digits hex),
  All-from_get_or (λ b. b < 256) (by_index 16 (byte_of_digits hex)) 0
      (λ i lt. byte_small i (omega (arith, lt, by_index_length 16 (byte_of_digits hex)))),
)
  where
    byte_small : (i : ℕ) → i < 16 → get_or (by_index 16 (byte_of_digits hex)) i 0 < 256
    byte_small i lt = rw (by_index_at 16 (byte_of_digits hex) i 0 lt)
        (omega (
          arith,
          value_small (slice_index hex (2 * i)) (hex_at hex (2 * i) all (omega (arith, lt, len))),
          value_small (slice_index hex (2 * i + 1))
              (hex_at hex (2 * i + 1) all (omega (arith, lt, len))),
        ))

simple_read : (hex g : List ℕ) → parsed_simple hex ≡ Some g → IsGuid g
simple_read hex g e =
    let c = chosen ((length hex == 32) && list_all is_hex_digit hex) (Some (by_index 16 (byte_of_digits hex))) g e in
    let parts = and_parts (length hex == 32) (list_all is_hex_digit hex) c.0 in
    subst IsGuid (some_is (by_index 16 (byte_of_digits hex)) g c.1) (simple_guid hex parts.1 (eqb-true (length hex) 32 parts.0))

pub guid_read : (g : List ℕ) (w : forms.Word) → guid_of w ≡ Some g → IsGuid g
unfolding guid_of
guid_read g w e =
    let c = chosen (same_kind w.kind kinds.Guid) (parsed_hyphenated w.text) g e in
    let d = chosen ((length w.text == 36) && has_hyphens w.text) (parsed_simple (digits_of w.text)) g c.1 in
    simple_read (digits_of w.text) g d.1

-- ---- types

abbrev HasWord : VarType → Type 0
HasWord types.Empty = ⊥
HasWord types.Null = ⊥
HasWord t = Unit {0}

abbrev IfHasWord : Option VarType → Type 0
IfHasWord None = Unit {0}
IfHasWord (Some t) = HasWord t

plain_has : (text : List ℕ) → IfHasWord (plain_type text)
unfolding plain_type
plain_has text = if_either IfHasWord (bytes_eq text (codes "char")) _ _ (λ _. tt)
    (λ _. if_either IfHasWord (bytes_eq text (codes "short")) _ _ (λ _. tt) (λ _. if_either IfHasWord (bytes_eq text (codes "long")) _ _ (λ _. tt)
    (λ _. if_either IfHasWord (bytes_eq text (codes "int")) _ _ (λ _. tt)
    (λ _. if_either IfHasWord (bytes_eq text (codes "hyper")) _ _ (λ _. tt) (λ _. if_either IfHasWord (bytes_eq text (codes "CURRENCY")) _ _ (λ _. tt)
    (λ _. if_either IfHasWord (bytes_eq text (codes "VARIANT_BOOL")) _ _ (λ _. tt)
    (λ _. if_either IfHasWord (bytes_eq text (codes "SCODE")) _ _ (λ _. tt) (λ _. if_either IfHasWord (bytes_eq text (codes "DECIMAL")) _ _ (λ _. tt)
    (λ _. if_either IfHasWord (bytes_eq text (codes "BSTR")) _ _ (λ _. tt)
    (λ _. if_either IfHasWord (bytes_eq text (codes "VARIANT")) _ _ (λ _. tt) (λ _. tt)))))))))))

unsigned_has : (text : List ℕ) → IfHasWord (unsigned_type text)
unfolding unsigned_type
unsigned_has text = if_either IfHasWord (bytes_eq text (codes "char")) _ _ (λ _. tt)
    (λ _. if_either IfHasWord (bytes_eq text (codes "short")) _ _ (λ _. tt) (λ _. if_either IfHasWord (bytes_eq text (codes "long")) _ _ (λ _. tt)
    (λ _. if_either IfHasWord (bytes_eq text (codes "int")) _ _ (λ _. tt) (λ _. if_either IfHasWord (bytes_eq text (codes "hyper")) _ _ (λ _. tt) (λ _. tt)))))

type_has : (unsigned : Bool) (text : List ℕ) → IfHasWord (type_named unsigned text)
type_has true text = unsigned_has text
type_has false text = plain_has text

plain_is : (t : VarType) → HasWord t → IsType false t
plain_is types.Empty h = h
plain_is types.Null h = h
plain_is t h = tt

cell_is : (t : VarType) → HasWord t → is_some (sf_type_of t) ≡ true → IsType true t
cell_is types.Empty h e = h
cell_is types.Null h e = h
cell_is t h e = e

if_cell_is : (in_array : Bool) (o : Option VarType) (t : VarType) → IfHasWord o → if_cell in_array o ≡ Some t → IsType in_array t
if_cell_is in_array None t h e = no_some t e
if_cell_is true (Some u) t h e =
    let c = chosen (is_some (sf_type_of u)) (Some u) t e in
    subst (IsType true) (some_is u t c.1) (cell_is u h c.0)
if_cell_is false (Some u) t h e = subst (IsType false) (some_is u t e) (plain_is u h)

pub type_read : (in_array unsigned : Bool) (t : VarType) (w : forms.Word) → word_type in_array unsigned w ≡ Some t → IsType in_array t
unfolding word_type
type_read in_array unsigned t w e = if_cell_is in_array (type_named unsigned w.text) t (type_has unsigned w.text)
    (chosen (same_kind w.kind kinds.Name) (if_cell in_array (type_named unsigned w.text)) t e).1

-- ---- strings

abbrev Printed : List ℕ → Type 0
Printed cs = AllByRecursion (λ b. is_printable b ≡ true) cs

abbrev IfPrinted : Option (List ℕ) → Type 0
IfPrinted None = Unit {0}
IfPrinted (Some cs) = Printed cs

with_one : (b : ℕ) (o : Option (List ℕ)) → is_printable b ≡ true → IfPrinted o → IfPrinted (with_character b o)
with_one b None e h = tt
with_one b (Some cs) e h = (e, h)

escaped_printable : (b : ℕ) → is_escaped b ≡ true → is_printable b ≡ true
escaped_printable b e = grind (arith, nat_tests, e)

characters_printed : (marked : Bool) (bs : List ℕ) → IfPrinted (characters_from marked bs)
unfolding characters_from
characters_printed marked [] = tt
characters_printed true (b ∷ bs) =
    if_either IfPrinted (is_escaped b) _ _ (λ e. with_one b (characters_from false bs) (escaped_printable b e) (characters_printed false bs)) (λ _. tt)
characters_printed false (b ∷ bs) = if_either IfPrinted (b == 34) _ _ (λ _. tt) (λ _. if_either IfPrinted (b == 92) _ _ (λ _. characters_printed true bs)
    (λ _. if_either IfPrinted (is_printable b) _ _ (λ e. with_one b (characters_from false bs) e (characters_printed false bs)) (λ _. tt)))

printed_is : (o : Option (List ℕ)) (cs : List ℕ) → IfPrinted o → o ≡ Some cs → Printed cs
printed_is None cs h e = no_some cs e
printed_is (Some ds) cs h e = subst Printed (some_is ds cs e) h

pub characters_read : (cs : List ℕ) (w : forms.Word) → characters_of w ≡ Some cs → AllByRecursion (λ b. is_printable b ≡ true) cs
unfolding characters_of
characters_read cs w e = printed_is (characters_from false (drop 1 w.text)) cs (characters_printed false (drop 1 w.text))
    (chosen (same_kind w.kind kinds.Text) (characters_from false (drop 1 w.text)) cs e).1
